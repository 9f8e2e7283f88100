-- Values of document 02, S-10 and S-11, to be computed from the definitions: licences by house, what bars a call, and what a call does to a
-- house.
use Rattle.std.specs.Prelude.{◌≡◌, ℕ, ◌-◌, true, false, List, [], ◌∷◌, ◌++◌, length, replicate, take}
use Rattle.std.proofs.Math.Option.{some}
use Rattle.model.specs.Basics.{max_edges}
use Rattle.model.specs.Format.{list_of, grow_list}
use Rattle.model.specs.Queries.{OpenSheet, fetched, refuses, reported, sheet_numbers}
use Rattle.model.specs.Tables.{cleared, counts_of, no_counts}
use Rattle.model.specs.Calls.{House}
use Rattle.model.specs.Values.{edge, house}
use Rattle.nursery.specs.Licence.{limit_of, may_land, overfull}
use Rattle.nursery.specs.Nursery.{no_houses, stored_in}
use Rattle.nursery.specs.Calls.{Effect, Lent, Outcome, any_damaged, barred, does, edges_but, effect, fetches, grows, in_house, lands, opens, own_of, removes, step}

-- ---- S-10: the licence of one house

-- eight numbers: these in front, and 0 for the other houses
unfoldable pub eight : List ℕ → List ℕ
eight ns = ns ++ replicate (8 - length ns) 0

pub record Licences : Type 0 where
  -- "the larger of share and pipes, summed over them, passes 4,096"
  pub just_full : overfull (eight (90 ∷ 4006 ∷ [])) (eight (50 ∷ 4000 ∷ [])) ≡ false
  pub share_passes : overfull (eight (90 ∷ 4007 ∷ [])) (eight (50 ∷ 4000 ∷ [])) ≡ true
  pub pipes_pass : overfull (eight (90 ∷ 0 ∷ [])) (eight (50 ∷ 4007 ∷ [])) ≡ true
  -- "A grow counts its own house as empty there": house 0 with 4,090 pipes, house 1 with a share of 90, a grow and a landing in house 0
  pub own_as_empty : overfull (eight (0 ∷ 90 ∷ [])) (edges_but (own_of (in_house 0 (grows []))) (eight (4090 ∷ 50 ∷ []))) ≡ false
  pub landing_counts_own : overfull (eight (0 ∷ 90 ∷ [])) (edges_but (own_of (in_house 0 (lands []))) (eight (4090 ∷ 50 ∷ []))) ≡ true
  -- "and gives 21 for the rest"
  pub for_the_rest : overfull (eight (0 ∷ 90 ∷ [])) (edges_but (own_of (in_house 0 (grows []))) (eight (4090 ∷ 4097 ∷ []))) ≡ true
  -- share 90, others 4,000, 50 of its own: the 96th pipe may land, and the 97th may not
  pub limit : limit_of 0 (eight (90 ∷ 0 ∷ [])) (eight (50 ∷ 4000 ∷ [])) ≡ 96
  pub may_96th : may_land 0 (eight (90 ∷ 0 ∷ [])) (eight (95 ∷ 4000 ∷ [])) ≡ true
  pub not_97th : may_land 0 (eight (90 ∷ 0 ∷ [])) (eight (96 ∷ 4000 ∷ [])) ≡ false
  -- below its share it may, whatever the others have
  pub below_share : may_land 0 (eight (90 ∷ 0 ∷ [])) (eight (89 ∷ 4006 ∷ [])) ≡ true
  pub at_share : may_land 0 (eight (90 ∷ 0 ∷ [])) (eight (90 ∷ 4006 ∷ [])) ≡ false
  -- the others' unused shares are kept for them; the pipes that they have within a share are not counted on top
  pub kept_for_others : limit_of 2 (eight (90 ∷ 4000 ∷ [])) (eight (50 ∷ 10 ∷ 6 ∷ [])) ≡ 6
  -- no shares: first come, first served
  pub no_shares : limit_of 2 (eight []) (eight (50 ∷ 10 ∷ 6 ∷ [])) ≡ 4036

-- ---- S-10: calls on eight houses, one of them damaged

-- cleared tables; house 0 has a pipe in its head that lies in no table, house 1 three fittings
unfoldable pub one_damaged : Lent
one_damaged =
    record {
      nursery = record {
        tables = no_houses.tables;
        heads = record { vertices = 2; edges = 1; blocks = 0; relabellings = 0 } ∷ record { vertices = 3; edges = 0; blocks = 0; relabellings = 0 } ∷ replicate 6 no_counts;
        removals = eight (3 ∷ 4 ∷ []);
        shares = eight [];
      };
      scratch = cleared;
    }

-- house 0 grown from document 01's list
unfoldable pub regrown : Outcome
regrown = does (in_house 0 (grows house)) one_damaged.nursery

pub record Barred : Type 0 where
  -- "its 21 looks at every one", before 37
  pub own_damaged : barred (in_house 0 opens) one_damaged ≡ some 21
  pub other_damaged : barred (in_house 1 opens) one_damaged ≡ some 21
  pub no_house : barred (in_house 8 opens) one_damaged ≡ some 21
  -- "A grow .. gives 21 for the rest before it clears anything"
  pub grow_refused : (step (in_house 1 (grows house)) one_damaged).reply ≡ refuses 21
  pub nothing_cleared : (step (in_house 1 (grows house)) one_damaged).lent.nursery.heads ≡ one_damaged.nursery.heads
  -- "A grow counts its own house as empty there": it does not look at it
  pub grow_own : any_damaged (own_of (in_house 0 (grows house))) one_damaged.nursery (0 ∷ 1 ∷ []) ≡ false
  -- and lands in it alone: its tags, and those of the next house
  pub own_tags : take 7 (stored_in 0 regrown.lent.nursery).tables.labels ≡ 0 ∷ 8192 ∷ 8193 ∷ 0 ∷ 8195 ∷ 0 ∷ 0 ∷ []
  pub next_tags : take 7 (stored_in 1 regrown.lent.nursery).tables.labels ≡ replicate 7 0
  pub own_count : regrown.lent.nursery.removals ≡ eight (0 ∷ 4 ∷ [])

-- ---- S-11: what a removal does to a house

-- a house of this list, without a licence, from which pipes were taken out so often
unfoldable pub house_of : List ℕ → ℕ → House
house_of bs removals = record { register = (grow_list bs).register; limit = max_edges; removals = removals }

-- what removing pipe d leaves there and in a slice of so many sevens, and answers
unfoldable pub removing : ℕ → ℕ → List ℕ → Effect
removing d room bs = effect (removes d (replicate room 7)) (house_of bs 3)

-- two runs, the coupling of the first split by the pipe 1-7, and then joined
unfoldable pub split_first : List ℕ
split_first = list_of 8 (edge 0 1 1 ∷ edge 1 2 1 ∷ edge 1 7 1 ∷ edge 3 4 1 ∷ edge 4 5 1 ∷ edge 5 6 1 ∷ edge 2 3 1 ∷ [])

-- the sheet of document 01's house at its second line, opened at this count
unfoldable pub opened_at : ℕ → OpenSheet
opened_at removals = record { vertices = 7; edges = 6; place = 1; removals = removals }

pub record Removals : Type 0 where
  -- document 01's house without pipe 4, which joined its runs: a fitting that ceases to be a coupling, one that becomes one, one with another
  -- tag
  pub report : (removing 4 10 house).slice ≡ 2 ∷ 8193 ∷ 0 ∷ 3 ∷ 0 ∷ 16383 ∷ 4 ∷ 8195 ∷ 16384 ∷ 7 ∷ []
  pub reported_three : (removing 4 9 house).reply ≡ reported 3
  -- births and re-hung total are those of the new landing
  pub head : counts_of (removing 4 9 house).leaves ≡ record { vertices = 7; edges = 5; blocks = 2; relabellings = 0 }
  pub rows : sheet_numbers (removing 4 9 house).leaves ≡ 0 ∷ 0 ∷ 2 ∷ 1 ∷ 3000 ∷ 0 ∷ 2 ∷ 5 ∷ 6 ∷ 2 ∷ 2100 ∷ 0 ∷ []
  -- "later pipes move down by one": without pipe 1, the runs that pipes 2, 4 and 5 named are named 1, 3 and 4
  pub moved_names : sheet_numbers (removing 1 9 house).leaves
      ≡ 0 ∷ 0 ∷ 1 ∷ 0 ∷ 1000 ∷ 0 ∷ 1 ∷ 3 ∷ 5 ∷ 1 ∷ 1200 ∷ 0 ∷ 3 ∷ 2 ∷ 3 ∷ 0 ∷ 300 ∷ 0 ∷ 4 ∷ 3 ∷ 6 ∷ 0 ∷ 900 ∷ 0 ∷ []
  -- and the births are counted anew: the first coupling to be born has the first tag
  pub later_move : (removing 1 9 house).slice ≡ 1 ∷ 8192 ∷ 0 ∷ 2 ∷ 8193 ∷ 0 ∷ 4 ∷ 8195 ∷ 8192 ∷ []
  pub one_birth : counts_of (removing 1 9 house).leaves ≡ record { vertices = 7; edges = 5; blocks = 1; relabellings = 0 }
  pub counted : (removing 4 9 house).removals ≡ 4
  -- a slice too short gives 9, and changes nothing
  pub too_short : removing 4 8 house ≡ record { leaves = (grow_list house).register; removals = 3; slice = replicate 8 7; reply = refuses 9 }
  -- no tag differs: nothing to report, into no slice
  pub nothing_differs : removing 0 0 (list_of 2 (edge 0 1 5 ∷ []))
      ≡ record { leaves = (grow_list (list_of 2 [])).register; removals = 4; slice = []; reply = reported 0 }
  -- the total of the new landing may be greater than the old one: the first run has its coupling again, and gives way
  pub total_before : (grow_list split_first).register.relabellings ≡ 0
  pub total_after : (removing 2 24 split_first).leaves.relabellings ≡ 1
  -- 38: no such pipe; a count at its largest, before 9 for a slice too short
  pub no_such_pipe : (removing 6 0 house).reply ≡ refuses 38
  pub last_removal : (effect (removes 4 (replicate 9 7)) (house_of house 4294967294)).removals ≡ 4294967295
  pub no_more_removals : (effect (removes 4 (replicate 9 7)) (house_of house 4294967295)).reply ≡ refuses 38
  pub largest_before_short : (effect (removes 4 []) (house_of house 4294967295)).reply ≡ refuses 38
  pub short_below_largest : (effect (removes 4 []) (house_of house 4294967294)).reply ≡ refuses 9
  -- an open sheet goes on where its count is the house's, whatever was called between, and is ended where it differs
  pub same_count : (effect (fetches (opened_at 3)) (house_of house 3)).reply ≡ fetched (2 ∷ 3 ∷ 5 ∷ 1 ∷ 1200 ∷ 0 ∷ []) (record { vertices = 7; edges = 6; place = 2; removals = 3 })
  pub other_count : (effect (fetches (opened_at 3)) (house_of house 4)).reply ≡ refuses 39
  pub lower_count : (effect (fetches (opened_at 3)) (house_of house 0)).reply ≡ refuses 39
  -- a grow clears the count, a landing does not
  pub grow_clears : (effect (grows house) (house_of house 3)).removals ≡ 0
  pub land_keeps : (effect (lands (list_of 1 [])) (house_of house 3)).removals ≡ 3
