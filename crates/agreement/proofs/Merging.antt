-- Both ends are leaves: two chains become one, or the edge closes a ring.
use Rattle.std.specs.Prelude.{if◌then◌else◌, Some, None, Option}
use mathlib.Core.Path.{◌≡◌, refl, sym, ap, ◌∙◌}
use mathlib.Core.Logic.{◌≢◌}
use Prim.Native.Nat.{ℕ, ◌*◌, ◌≤◌, ◌<◌}
use native.Mathlib.Omega.{arith}
use native.Mathlib.Decide.{ℕ_discrete, dec_le, dec_lt}
use mathlib.Core.Bool.{Bool, true, false}
use mathlib.Core.List.{List, [], ◌∷◌, ◌++◌}
use lib.ListN.{length, get_or}
use lib.Dec.{eqb}
use borrow.Author.Tests.{eq-eqb, eqb-false, eqb-true, le-leb, lt-leb}
use Rattle.model.specs.Graph.{Edge, Pass, degree, end_of, end_onwards, ends_at, far, is_leaf, only_edge, onwards}
use Rattle.model.specs.Cases.{closes_ring}
use Rattle.model.specs.Labels.{Marks, attach, inwards, join_path, merge}
use Rattle.tables.specs.Steps.{far_in}
use Rattle.tables.specs.Walks.{Met, lockstep_in}
use Rattle.counters.specs.Numbers.{vertex_of}
use Rattle.labels.specs.Changes.{Changed}
use Rattle.joining.specs.Merging.{close_in, keeper_for, keeper_in, merge_in, keeping}
use Rattle.joining.specs.declared.merging.Keeper.{Keeper}
use Rattle.counting.specs.Counting.{estimated, keeper_count_in, merge_count_in}
use Rattle.joining.proofs.Merges.{first_keeps, merge_closes, merge_kept, neither_keeps, second_keeps, tie_keeps}
use Rattle.model.proofs.Walks.Degree.{Proper, leaf_singular}
use Rattle.model.proofs.Walks.Turn.{At, only_edge_is}
use Rattle.model.proofs.Walks.Trail.{Trail, backwards, length_backwards, trail_back, trail_at, trail_end_of}
use Rattle.model.proofs.Walks.Ended.{trail_short, trail_unique}
use Rattle.theory.proofs.Labels.Inwards.{Inward, inward}
use Rattle.agreement.proofs.Reading.{count_closes, count_kept}
use Rattle.agreement.proofs.Lockstep.{Meets, Shows, lockstep_meets, shows_singular}
use Rattle.agreement.proofs.Extending.{leaf_at}
use Rattle.agreement.proofs.Joining.{Ground, join_reads}
use Rattle.model.proofs.Walks.Joins.{Across, across}

-- ---- the ring

-- a ring is closed just if the walk from a inwards ends at b
pub ring_is : (es : List Edge) (a b : ℕ) → degree es a ≡ 1 → degree es b ≡ 1 → (i : Inward es a (only_edge es a) (inwards es a)) → closes_ring es a b ≡ eqb i.to b
unfolding closes_ring is_leaf end_onwards inwards
ring_is es a b la lb i =
    let d = only_edge es a in
    let t : end_of es (far es d a) (onwards es d (far es d a)) ≡ i.to = trail_end_of i.trail in
    rw (eq-eqb (degree es a) 1 la, eq-eqb (degree es b) 1 lb, t)

-- on a ring both walks pass the same regular vertices
pub ring_even : (es : List Edge) (a b : ℕ) → Proper es → degree es a ≡ 1 → degree es b ≡ 1 → At es a (only_edge es a)
    → (i : Inward es a (only_edge es a) (inwards es a)) → Inward es b (only_edge es b) (inwards es b) → i.to ≡ b → length (inwards es a) ≡ length (inwards es b)
ring_even es a b pr la lb at i j e =
    let x : Across es (only_edge es a) a = across es (only_edge es a) a pr at in
    let q : i.onto ≡ only_edge es b = sym (only_edge_is es b i.onto pr lb (rw e at (trail_at pr x.at i.trail))) in
    let back : Trail es (only_edge es b) (far es (only_edge es b) b) (backwards (inwards es a)) (only_edge es a) a =
    rw (q, e, x.again) at (trail_back pr x.at i.trail) in
    omega (arith, length_backwards (inwards es a), ap length (trail_unique back (leaf_singular es a la) j.trail j.singular))

no_pass : (ss : List Pass) → length ss ≡ 0 → ss ≡ []
no_pass [] e = refl
no_pass (s ∷ ss) e = absurd (omega arith)

-- ---- they agree

module _ {es : List Edge} {n : Edge} {degrees sides ends labels : List ℕ} {m : Marks} (k : Ground es n degrees sides ends labels m)
    (a b : ℕ) (la : degree es a ≡ 1) (lb : degree es b ≡ 1) (oa : ends_at a n ≡ 1) (ob : ends_at b n ≡ 1) (ab : a ≢ b) (blocks : ℕ) where
  pr : Proper es
  pr = k.proper

  sh : Shows es degrees sides ends m.lows
  sh = k.shows

  abbrev new : List Edge
  new = es ++ (n ∷ [])

  abbrev pub da : ℕ
  da = only_edge es a

  abbrev pub db : ℕ
  db = only_edge es b

  abbrev pub met : Met
  met = lockstep_in degrees sides ends (length es) da (far es da a) db (far es db b)

  abbrev pub merging : Changed
  merging = merge_in degrees sides ends labels blocks a b (length es) (length es)

  at_a : At es a da
  at_a = leaf_at es pr a la

  at_b : At es b db
  at_b = leaf_at es pr b lb

  ia : Inward es a da (inwards es a)
  ia = inward es pr a da la at_a

  ib : Inward es b db (inwards es b)
  ib = inward es pr b db lb at_b

  next_a : At es (far es da a) da
  next_a = (across es da a pr at_a).at

  next_b : At es (far es db b) db
  next_b = (across es db b pr at_b).at

  finds : Meets degrees met (length (inwards es a)) (length (inwards es b)) ia.to ib.to
  finds = lockstep_meets pr sh (length es) next_a next_b ia.trail ib.trail ia.singular ib.singular
      (omega (arith, trail_short es pr next_a ia.trail ia.singular))

  pub side_a : (da ≡ get_or sides (2 * a) 0) × (far es da a ≡ far_in ends da a)
  side_a = (sym ((sh.links a (sh.below a da at_a)).leaf la).0, sym (sh.fars_are da a at_a.inside))

  pub side_b : (db ≡ get_or sides (2 * b) 0) × (far es db b ≡ far_in ends db b)
  side_b = (sym ((sh.links b (sh.below b db at_b)).leaf lb).0, sym (sh.fars_are db b at_b.inside))

  at_b_then : closes_ring es a b ≡ true → met.first ≡ b
  at_b_then c =
      let to : ia.to ≡ b = eqb-true ia.to b (sym (ring_is es a b la lb ia) ∙ c) in
      let even : length (inwards es a) ≡ length (inwards es b) = ring_even es a b pr la lb at_a ia ib to in
      finds.first_ends (omega arith) ∙ to

  -- where a ring is closed, the merging over the tables is a closing
  pub merges_ring : closes_ring es a b ≡ true → close_in sides labels blocks a b (length es) da (far es da a) db (far es db b) ≡ merging
  merges_ring c =
      merge_closes degrees sides ends labels blocks a b (length es) (length es) da (far es da a) db (far es db b) met side_a side_b refl (at_b_then c)

  -- otherwise no walker ends at b
  no_end : ia.to ≢ b → met.first ≢ b
  no_end h e = go (dec_le (length (inwards es a)) (length (inwards es b)))
    where
      one : get_or degrees b 0 ≡ 1
      one = sh.degrees_are b (sh.below b db at_b) ∙ lb

      go : Dec (length (inwards es a) ≤ length (inwards es b)) → ⊥
      go (yes l) = h (sym (finds.first_ends l) ∙ e)
      go (no l) = let two : get_or degrees b 0 ≡ 2 = rw e at (finds.first_on (omega arith)) in omega (arith, one)

  pub off : closes_ring es a b ≡ false → met.first ≢ b
  off c = no_end (eqb-false ia.to b (sym (ring_is es a b la lb ia) ∙ c))

  -- the answer tells a closing
  pub merging_open : closes_ring es a b ≡ false → merging.ring ≡ false
  merging_open c =
      rw (← merge_kept degrees sides ends labels blocks a b (length es) (length es) da (far es da a) db (far es db b) met side_a side_b refl (keeper_for degrees a b met) (off c) refl)
      (no_closing (keeper_for degrees a b met))
    where
      no_closing : (keeper : Option Keeper) → (keeper_in keeper degrees sides ends labels blocks a b (length es) (length es) da db).ring ≡ false
      no_closing None = refl
      no_closing (Some k) = refl

  -- where a ring is closed, the merging over the tables says so
  pub merging_closes : closes_ring es a b ≡ true → merging.ring ≡ true
  unfolding close_in
  merging_closes c = rw (← merges_ring c) (either_way (eqb (far es da a) b) _ _ refl refl)
    where
      either_way : (t : Bool) (x y : Changed) → x.ring ≡ true → y.ring ≡ true → (if t then x else y).ring ≡ true
      either_way true x y p q = p
      either_way false x y p q = q

  first_off : length (inwards es a) ≤ length (inwards es b) → get_or degrees met.first 0 ≢ 2
  first_off l = rw (finds.first_ends l) (shows_singular sh (trail_at pr next_a ia.trail) ia.singular)

  second_off : length (inwards es b) ≤ length (inwards es a) → get_or degrees met.second 0 ≢ 2
  second_off l = rw (finds.second_ends l) (shows_singular sh (trail_at pr next_b ib.trail) ib.singular)

  pub merge_first : length (inwards es b) ≤ length (inwards es a) → merge es blocks a b m ≡ attach blocks da (inwards es a) (join_path es a b) m
  unfolding merge
  merge_first l = rw (le-leb (length (inwards es b)) (length (inwards es a)) l)

  pub merge_second : length (inwards es a) < length (inwards es b) → merge es blocks a b m ≡ attach blocks db (inwards es b) (join_path es b a) m
  unfolding merge
  merge_second l = rw (lt-leb (length (inwards es b)) (length (inwards es a)) l)

  -- which chain keeps its labels
  pub data Keeps : Type 0 where
    keeps_first : Some (keeping (vertex_of a) (vertex_of b)) ≡ keeper_for degrees a b met → length (inwards es b) ≤ length (inwards es a) → 0 < length (inwards es a) → Keeps
    keeps_second : Some (keeping (vertex_of b) (vertex_of a)) ≡ keeper_for degrees a b met → length (inwards es a) < length (inwards es b) → Keeps
    keeps_neither : None ≡ keeper_for degrees a b met → inwards es a ≡ [] → inwards es b ≡ [] → Keeps

  pub kept : Keeps
  kept =
      go (dec_lt (length (inwards es a)) (length (inwards es b))) (dec_lt (length (inwards es b)) (length (inwards es a))) (ℕ_discrete (length (inwards es a)) 0)
    where
      go : Dec (length (inwards es a) < length (inwards es b)) → Dec (length (inwards es b) < length (inwards es a)) → Dec (length (inwards es a) ≡ 0) → Keeps
      go (yes l) r z = keeps_second (second_keeps degrees a b met (finds.second_on l)) l
      go (no l) (yes r) z = keeps_first (first_keeps degrees a b met (second_off (omega arith)) (finds.first_on r)) (omega arith) (omega arith)
      go (no l) (no r) (no z) =
          keeps_first (tie_keeps degrees a b met (second_off (omega arith)) (first_off (omega arith)) (λ e. omega (arith, finds.steps))) (omega arith) (omega arith)
      go (no l) (no r) (yes z) =
          keeps_neither (neither_keeps degrees a b met (second_off (omega arith)) (first_off (omega arith)) (omega (arith, finds.steps)))
          (no_pass (inwards es a) z) (no_pass (inwards es b) (omega arith))

  -- ---- what is read before

  closing_none : closes_ring es a b ≡ true → merging.relabellings ≡ 0
  unfolding close_in
  closing_none c = rw (← merges_ring c) (either_way (eqb (far es da a) b) _ _ refl refl)
    where
      either_way : (t : Bool) (x y : Changed) → x.relabellings ≡ 0 → y.relabellings ≡ 0 → (if t then x else y).relabellings ≡ 0
      either_way true x y p q = p
      either_way false x y p q = q

  -- the answer that is read tells a closing, and counts the vertices that the merge relabels
  pub merge_reads : get_or labels a 0 ≡ 0 → get_or labels b 0 ≡ 0
      → merge_count_in degrees sides ends labels a b (length es)
      ≡ estimated (closes_ring es a b) (merge_in degrees sides ends labels blocks a b (length es) (length es)).relabellings
  merge_reads za zb = go (closes_ring es a b) refl
    where
      reads : (keeper : Option Keeper) → closes_ring es a b ≡ false → keeper ≡ keeper_for degrees a b met
          → keeper_count_in keeper degrees sides ends labels (length es) ≡ (keeper_in keeper degrees sides ends labels blocks a b (length es) (length es) da db).relabellings
          → merge_count_in degrees sides ends labels a b (length es) ≡ estimated false merging.relabellings
      reads keeper c p q =
          rw (← merge_kept degrees sides ends labels blocks a b (length es) (length es) da (far es da a) db (far es db b) met side_a side_b refl keeper (off c) p)
          (sym (count_kept degrees sides ends labels a b (length es) da (far es da a) db (far es db b) met side_a side_b refl keeper _ (off c) p (sym q)))

      by : closes_ring es a b ≡ false → Keeps → merge_count_in degrees sides ends labels a b (length es) ≡ estimated false merging.relabellings
      by c (keeps_first p l h) = reads (Some (keeping (vertex_of a) (vertex_of b))) c p (join_reads k a b la lb oa ob ab h za zb)
      by c (keeps_second p l) = reads (Some (keeping (vertex_of b) (vertex_of a))) c p (join_reads k b a lb la ob oa (λ e. ab (sym e)) (omega arith) zb za)
      by c (keeps_neither p na nb) = reads None c p refl

      go : (t : Bool) → closes_ring es a b ≡ t → merge_count_in degrees sides ends labels a b (length es) ≡ estimated t merging.relabellings
      go true c =
          rw (closing_none c)
          (sym (count_closes degrees sides ends labels a b (length es) da (far es da a) db (far es db b) met side_a side_b refl (at_b_then c)))
      go false c = by c kept
