-- The call of a house joined from the gate of the other houses and what is done on its own part of the tables.
use mathlib.Core.Path.{◌≡◌, refl, sym, ap, ◌∙◌}
use mathlib.Core.Logic.{◌≢◌}
use Prim.Native.Nat.{ℕ, zero, suc, ◌+◌, ◌*◌, ◌≤◌, ◌<◌}
use native.Mathlib.Omega.{arith}
use native.Mathlib.Nat.{mul-le-mul_left}
use mathlib.Core.Bool.{Bool, true, false, ◌&&◌, ◌||◌}
use mathlib.Core.List.{List, [], ◌∷◌}
use mathlib.Core.Option.{Option, none, some, none-ne-some}
use lib.ListN.{length, set, drop, length-drop}
use lib.Seq.{length-take-le, set-get_or}
use lib.Dec.{eqb, leb, ltb}
use borrow.Author.Tests.{eqb-true, leb-false, lt-ltb, ltb-false, ltb-true, ne_eqb}
use Rattle.model.specs.Basics.{count_from, max_edges, max_vertices, up_to}
use Rattle.model.specs.Register.{Landed, Quote, Register, commit, empty, landed, refused}
use Rattle.model.specs.Format.{land_list}
use Rattle.model.specs.Queries.{refuses, reported}
use Rattle.model.specs.Tables.{Counts, Tables, cleared, fits, held, no_counts, right_sizes, sizes, stored_of}
use Rattle.model.specs.Calls.{Ask, House}
use Rattle.model.proofs.Basics.Booleans.{or_false}
use Rattle.theory.proofs.Registers.Equality.{eq_list_refl}
use Rattle.theory.proofs.Registers.Kept.{cleared_fits}
use Rattle.nursery.specs.Licence.{houses, limit_of, overfull}
use Rattle.nursery.specs.Nursery.{Nursery, edges_in, house_in, limit_in, part, put_in, put_tables, register_in, removals_in, stored_in, tables_in, vertices_in}
use Rattle.nursery.specs.Calls as call
use Rattle.nursery.specs.Calls.{HouseCall, any_damaged, asks, barred, commit_effect, commits, edges_but, effect, grown_by, grows, in_house, is_own, lands, not_grown, nursery_fits, out_of_place, own_of, read_effect, remove_effect, removes, scratch_after, own_slice, step}
use Rattle.nursery.specs.Removal.{Removed, kept_with, max_removals, remove, removed}
use Rattle.nursery.proofs.Parts.{Sized, fits_sized, house_same}
use Rattle.nursery.proofs.Gate.{damaged_21, question_quiet, step_barred, step_effect}
use Rattle.admission.specs.Own as own
use Rattle.admission.specs.Own.{house_of, own_step}
use Rattle.admission.proofs.OwnLaws.{outcome_of, step_admits}
use Rattle.licence.specs.Gate.{bars_with, emptied, licence_in, opens_with, pass_others, scratch_passed}

-- whether a call grows its house
unfoldable pub is_grow : HouseCall → Bool
is_grow (grows bs) = true
is_grow (lands bs) = false
is_grow (commits q) = false
is_grow (removes d slice) = false
is_grow (asks q) = false

grown_by_lem : (h : ℕ) (c : HouseCall) → grown_by c h ≡ emptied h (is_grow c)
unfolding grown_by is_grow emptied
grown_by_lem h (grows bs) = refl
grown_by_lem h (lands bs) = refl
grown_by_lem h (commits q) = refl
grown_by_lem h (removes d slice) = refl
grown_by_lem h (asks q) = refl

-- ---- damage, with a house left out and with none

-- what a house of a list says of it
module _ (n : Nursery) (h : ℕ) where
  -- damage of another house is damage
  damaged_more : (hs : List ℕ) → any_damaged (some h) n hs ≡ true → any_damaged none n hs ≡ true
  unfolding any_damaged is_own
  damaged_more [] d = d
  damaged_more (g ∷ hs) d = go (eqb g h) refl (held (stored_in g n)) refl (damaged_more hs)
    where
      go : (b : Bool) → eqb g h ≡ b → (o : Option Register) → held (stored_in g n) ≡ o → (any_damaged (some h) n hs ≡ true → any_damaged none n hs ≡ true)
          → any_damaged none n (g ∷ hs) ≡ true
      go b e none f ih = rw (any_damaged, f)
      go true e (some r) f ih = rw (any_damaged, f) (ih (rw (e, any_damaged) at d))
      go false e (some r) f ih = rw (any_damaged, f) (ih (rw (e, any_damaged, f) at d))

  -- if the others hold registers and so does this one, there is none
  damaged_none : (r : Register) → held (stored_in h n) ≡ some r → (hs : List ℕ) → any_damaged (some h) n hs ≡ false → any_damaged none n hs ≡ false
  unfolding any_damaged is_own
  damaged_none r k [] d = d
  damaged_none r k (g ∷ hs) d = go (eqb g h) refl (held (stored_in g n)) refl (damaged_none r k hs)
    where
      go : (b : Bool) → eqb g h ≡ b → (o : Option Register) → held (stored_in g n) ≡ o → (any_damaged (some h) n hs ≡ false → any_damaged none n hs ≡ false)
          → any_damaged none n (g ∷ hs) ≡ false
      go true e none f ih = absurd (none-ne-some r (sym f ∙ ap (λ (i : ℕ). held (stored_in i n)) (eqb-true g h e) ∙ k))
      go true e (some q) f ih = rw (any_damaged, f) (ih (rw (e, any_damaged) at d))
      go false e none f ih = rw (any_damaged, f) (rw (e, any_damaged, f) at d)
      go false e (some q) f ih = rw (any_damaged, f) (ih (rw (e, any_damaged, f) at d))

  -- none is left out by a number that is no house's
  pub damaged_out : (at k : ℕ) → at + k ≤ h → any_damaged none n (count_from at k) ≡ any_damaged (some h) n (count_from at k)
  unfolding any_damaged is_own count_from
  damaged_out at zero l = refl
  damaged_out at (suc k) l = go (held (stored_in at n)) refl (damaged_out (suc at) k (omega arith))
    where
      d : eqb at h ≡ false
      d = ne_eqb at h (λ e. omega (arith, e, l))

      go : (o : Option Register) → held (stored_in at n) ≡ o → any_damaged none n (count_from (suc at) k) ≡ any_damaged (some h) n (count_from (suc at) k)
          → any_damaged none n (count_from at (suc k)) ≡ any_damaged (some h) n (count_from at (suc k))
      go none f ih = rw (any_damaged, d, f)
      go (some r) f ih = rw (any_damaged, d, f) ih

-- ---- the sizes of one house's part

part_long : (n h : ℕ) (xs : List ℕ) → n * h + n ≤ length xs → length (part n h xs) ≡ n
unfolding part
part_long n h xs l = length-take-le n (drop (n * h) xs) (omega (arith, length-drop (n * h) xs, l))

inside : (n h : ℕ) (xs : List ℕ) → h < houses → length xs ≡ houses * n → n * h + n ≤ length xs
inside n h xs l e = let m : n * suc h ≤ n * houses = mul-le-mul_left n l in omega (arith, m, e)

part_fits : (h : ℕ) (t : Tables) → h < houses → Sized houses t → fits (tables_in h t) ≡ true
unfolding fits sizes right_sizes tables_in
part_fits h t l s =
    rw (
      part_long max_vertices h t.degrees (inside max_vertices h t.degrees l s.degrees_long),
      part_long (2 * max_vertices) h t.sides (inside (2 * max_vertices) h t.sides l s.sides_long),
      part_long (2 * max_edges) h t.ends (inside (2 * max_edges) h t.ends l s.ends_long),
      part_long max_edges h t.lengths (inside max_edges h t.lengths l s.lengths_long),
      part_long max_edges h t.volumes (inside max_edges h t.volumes l s.volumes_long),
      part_long max_vertices h t.labels (inside max_vertices h t.labels l s.labels_long),
    ) (eq_list_refl right_sizes)

-- ---- what the gate of the others tells

not_opens : (x limit : ℕ) → bars_with x ≢ opens_with limit
not_opens x limit e = let z : ◌≡◌ {A = ℕ} 0 1 = cc in omega arith

bars_same : (x y : ℕ) → bars_with x ≡ bars_with y → x ≡ y
bars_same x y e = cc

opens_same : (x y : ℕ) → opens_with x ≡ opens_with y → x ≡ y
opens_same x y e = cc

record Opened (h : ℕ) (g : Bool) (l : call.Lent) (limit : ℕ) : Type 0 where
  fit : nursery_fits l.nursery ≡ true
  scratch_fits : fits l.scratch ≡ true
  others : any_damaged (some h) l.nursery (up_to houses) ≡ false
  not_over : overfull l.nursery.shares (edges_but (emptied h g) (edges_in l.nursery)) ≡ false
  inside : h < houses
  limit_is : limit ≡ limit_in h l.nursery

opened : (h : ℕ) (g : Bool) (l : call.Lent) (limit : ℕ) → pass_others h g l ≡ opens_with limit → Opened h g l limit
unfolding pass_others licence_in limit_in
opened h g l limit e = go (nursery_fits n) refl (fits l.scratch) refl (any_damaged (some h) n (up_to houses)) refl (overfull n.shares (edges_but (emptied h g) (edges_in n))) refl (ltb h houses) refl
  where
    n : Nursery
    n = l.nursery

    go : (a : Bool) → nursery_fits n ≡ a → (b : Bool) → fits l.scratch ≡ b → (d : Bool) → any_damaged (some h) n (up_to houses) ≡ d
        → (o : Bool) → overfull n.shares (edges_but (emptied h g) (edges_in n)) ≡ o → (i : Bool) → ltb h houses ≡ i → Opened h g l limit
    go false p b q d r o s i t = absurd (not_opens 25 limit (rw p at e))
    go true p false q d r o s i t = absurd (not_opens 25 limit (rw (p, q) at e))
    go true p true q true r o s i t = absurd (not_opens 21 limit (rw (p, q, r) at e))
    go true p true q false r true s i t = absurd (not_opens 21 limit (rw (p, q, r, s) at e))
    go true p true q false r false s false t = absurd (not_opens 37 limit (rw (p, q, r, s, t) at e))
    go true p true q false r false s true t =
        record {
          fit = p;
          scratch_fits = q;
          others = r;
          not_over = s;
          inside = ltb-true h houses t;
          limit_is = opens_same limit (limit_of h n.shares (edges_in n)) (sym (rw (p, q, r, s, t) at e));
        }

-- ---- barred by it

module _ (h : ℕ) (c : HouseCall) (l : call.Lent) where
  abbrev n : Nursery
  n = l.nursery

  all_fit_lem : call.all_fit (in_house h c) l ≡ (nursery_fits n && fits l.scratch)
  unfolding call.all_fit call.brings_eight
  all_fit_lem = and_right (nursery_fits n && fits l.scratch)
    where
      and_right : (b : Bool) → (b && true) ≡ b
      and_right true = refl
      and_right false = refl

  own_is : own_of (in_house h c) ≡ emptied h (is_grow c)
  unfolding own_of
  own_is = grown_by_lem h c

  scratch_is : scratch_after (in_house h c) l ≡ scratch_passed l
  unfolding scratch_after scratch_passed
  scratch_is = rw all_fit_lem

  -- damage of the others bars every call for the house
  others_bar : any_damaged (some h) n (up_to houses) ≡ true → not_grown (own_of (in_house h c)) n ≡ true
  unfolding not_grown emptied
  others_bar d = rw own_is (go (is_grow c))
    where
      go : (g : Bool) → (any_damaged (emptied h g) n (up_to houses) || overfull n.shares (edges_but (emptied h g) (edges_in n))) ≡ true
      go true = rw d
      go false = rw (damaged_more n h (up_to houses) d)

  or_true : (b : Bool) → (b || true) ≡ true
  or_true true = refl
  or_true false = refl

  sum_bars : overfull n.shares (edges_but (emptied h (is_grow c)) (edges_in n)) ≡ true → not_grown (own_of (in_house h c)) n ≡ true
  unfolding not_grown
  sum_bars o = rw (own_is, o) (or_true (any_damaged (emptied h (is_grow c)) n (up_to houses)))

  -- no house of this number: all eight were looked at
  out_grown : houses ≤ h → any_damaged (some h) n (up_to houses) ≡ false → overfull n.shares (edges_but (emptied h (is_grow c)) (edges_in n)) ≡ false
      → not_grown (own_of (in_house h c)) n ≡ false
  unfolding not_grown emptied up_to
  out_grown k d o = rw (own_is, o) (go (is_grow c))
    where
      go : (g : Bool) → (any_damaged (emptied h g) n (up_to houses) || false) ≡ false
      go true = rw d
      go false = rw (damaged_out n h 0 houses (omega (arith, k)), d)

  barred_so : (x : ℕ) → pass_others h (is_grow c) l ≡ bars_with x → barred (in_house h c) l ≡ some x
  unfolding pass_others licence_in barred out_of_place
  barred_so x e =
      go (nursery_fits n && fits l.scratch) refl (any_damaged (some h) n (up_to houses)) refl (overfull n.shares (edges_but (emptied h (is_grow c)) (edges_in n))) refl
      (ltb h houses) refl
    where
      go : (a : Bool) → (nursery_fits n && fits l.scratch) ≡ a → (d : Bool) → any_damaged (some h) n (up_to houses) ≡ d
          → (o : Bool) → overfull n.shares (edges_but (emptied h (is_grow c)) (edges_in n)) ≡ o → (i : Bool) → ltb h houses ≡ i → barred (in_house h c) l ≡ some x
      go false p d r o s i t = rw (all_fit_lem, p) (ap (λ (y : ℕ). some y) (bars_same 25 x (rw p at e)))
      go true p true r o s i t = rw (all_fit_lem, p, others_bar r) (ap (λ (y : ℕ). some y) (bars_same 21 x (rw (p, r) at e)))
      go true p false r true s i t = rw (all_fit_lem, p, sum_bars s) (ap (λ (y : ℕ). some y) (bars_same 21 x (rw (p, r, s) at e)))
      go true p false r false s false t = rw (all_fit_lem, p, out_grown (ltb-false h houses t) r s, t) (ap (λ (y : ℕ). some y) (bars_same 37 x (rw (p, r, s, t) at e)))
      go true p false r false s true t = absurd (not_opens x (limit_of h n.shares (edges_in n)) (sym (rw (p, r, s, t) at e)))

  -- so the call is refused before it looks at its house: "nothing changed"
  pub refused_step : (x : ℕ) → pass_others h (is_grow c) l ≡ bars_with x
      → record { lent = record { nursery = n; scratch = scratch_passed l }; slice = own_slice c; reply = refuses x } ≡ step (in_house h c) l
  unfolding call.lent_slice
  refused_step x e =
      ap (λ (s : Tables). record { lent = record { nursery = n; scratch = s }; slice = own_slice c; reply = refuses x }) (sym scratch_is)
      ∙ sym (step_barred (in_house h c) l x (barred_so x e))

-- ---- let in by it

-- the house with its part of the tables, its counts and its count of removals put back
abbrev pub joined : ℕ → Nursery → own.Outcome → ℕ → call.Outcome
joined h n o removals =
    record {
      lent = record {
        nursery = record {
          tables = put_tables h o.lent.stored.tables n.tables;
          heads = set n.heads h o.lent.stored.counts;
          removals = set n.removals h removals;
          shares = n.shares;
        };
        scratch = o.lent.scratch;
      };
      slice = o.slice;
      reply = o.reply;
    }

-- what is lent of house h, with scratch that the gate has cleared
abbrev pub own_lent : ℕ → Nursery → own.Lent
own_lent h n = record { stored = stored_in h n; scratch = cleared }

nursery_parts : {t t' : Tables} {c c' : List Counts} {k k' x x' : List ℕ} → t ≡ t' → c ≡ c' → k ≡ k' → x ≡ x'
    → ◌≡◌ {A = Nursery} (record { tables = t; heads = c; removals = k; shares = x }) (record { tables = t'; heads = c'; removals = k'; shares = x' })
nursery_parts p q r s = λ i. record { tables = p i; heads = q i; removals = r i; shares = s i }

-- what was stored put back
put_back : (h : ℕ) (n : Nursery) → (joined h n (record { lent = own_lent h n; slice = []; reply = refuses 0 }) (removals_in h n)).lent.nursery ≡ n
unfolding stored_in removals_in
put_back h n = nursery_parts (house_same h n.tables) (set-get_or n.heads h no_counts) (set-get_or n.removals h 0) refl

module _ (h : ℕ) (l : call.Lent) (limit : ℕ) (g : Bool) (o : Opened h g l limit) where
  abbrev m : Nursery
  m = l.nursery

  own_fits : own.all_fit (own_lent h m) ≡ true
  unfolding own.all_fit stored_in
  own_fits = rw (part_fits h m.tables o.inside (fits_sized m o.fit).0, cleared_fits)

  -- all fit, and there is this house
  fits_all : (c : HouseCall) → call.all_fit (in_house h c) l ≡ true
  fits_all c = all_fit_lem h c l ∙ rw (o.fit, o.scratch_fits)

  in_place : (c : HouseCall) → out_of_place (in_house h c) (vertices_in m) ≡ false
  unfolding out_of_place
  in_place c = rw (lt-ltb h houses o.inside)

  -- nothing bars the call where 21 does not
  free : (c : HouseCall) → not_grown (own_of (in_house h c)) m ≡ false → barred (in_house h c) l ≡ none
  unfolding barred
  free c e = rw (fits_all c, e, in_place c)

  house_is : (r : Register) → held (stored_in h m) ≡ some r → house_in h m ≡ house_of limit (removals_in h m) r
  unfolding house_in register_in
  house_is r k = rw (register_in, k, o.limit_is)

  -- a call that does not grow, on the register that its house holds
  module _ (c : HouseCall) (grows-nothing : emptied h (is_grow c) ≡ none) (finds-held : own.register_for c (own_lent h m) ≡ held (stored_in h m)) (same : emptied h g ≡ none) where
    own_none : own_of (in_house h c) ≡ none
    own_none = own_is h c l ∙ grows-nothing

    over_none : overfull m.shares (edges_but none (edges_in m)) ≡ false
    over_none = ap (λ (x : Option ℕ). overfull m.shares (edges_but x (edges_in m))) (sym same) ∙ o.not_over

    held_free : (r : Register) → held (stored_in h m) ≡ some r → barred (in_house h c) l ≡ none
    unfolding not_grown
    held_free r k = free c (rw (own_none, damaged_none m h r k (up_to houses) o.others, over_none))

    own_held : (r : Register) → held (stored_in h m) ≡ some r → own_step limit (removals_in h m) c (own_lent h m) ≡ outcome_of limit (removals_in h m) c r
    own_held r k = step_admits limit (removals_in h m) c (own_lent h m) r own_fits (finds-held ∙ k)

    -- the call's effect, put back
    joined_held : (r : Register) → held (stored_in h m) ≡ some r
        → joined h m (own_step limit (removals_in h m) c (own_lent h m)) (effect c (house_of limit (removals_in h m) r)).removals ≡ step (in_house h c) l
    unfolding outcome_of put_in stored_of
    joined_held r k =
        rw (own_held r k, outcome_of)
        (sym (step_effect h c l (effect c (house_of limit (removals_in h m) r)) (held_free r k) (ap (effect c) (house_is r k))))

    own_barred : held (stored_in h m) ≡ none → own_step limit (removals_in h m) c (own_lent h m) ≡ record { lent = own_lent h m; slice = own_slice c; reply = refuses 21 }
    unfolding own_step own.gate own.scratch_after
    own_barred k = rw (own_fits, own_step, own.gate, finds-held, k) (rw own_fits)

    -- 21 of the own house
    joined_none : held (stored_in h m) ≡ none → joined h m (own_step limit (removals_in h m) c (own_lent h m)) (removals_in h m) ≡ step (in_house h c) l
    unfolding call.lent_slice scratch_after is_own
    joined_none k =
        let e : barred (in_house h c) l ≡ some 21 = damaged_21 (in_house h c) l h o.inside (rw own_none) k (fits_all c) in
        rw (own_barred k)
        (ap (λ (x : Nursery). record { lent = record { nursery = x; scratch = cleared }; slice = own_slice c; reply = refuses 21 }) (put_back h m)
        ∙ sym (step_barred (in_house h c) l 21 e ∙ rw (fits_all c)))

    -- either way, if the effect leaves the count of removals
    joined_step : ((r : Register) → (effect c (house_of limit (removals_in h m) r)).removals ≡ removals_in h m)
        → joined h m (own_step limit (removals_in h m) c (own_lent h m)) (removals_in h m) ≡ step (in_house h c) l
    joined_step stays = go (held (stored_in h m)) refl
      where
        go : (x : Option Register) → held (stored_in h m) ≡ x → joined h m (own_step limit (removals_in h m) c (own_lent h m)) (removals_in h m) ≡ step (in_house h c) l
        go none k = joined_none k
        go (some r) k = ap (joined h m (own_step limit (removals_in h m) c (own_lent h m))) (sym (stays r)) ∙ joined_held r k

-- ---- the calls

commit_count : (s : House) (x : Landed) → (commit_effect s x).removals ≡ s.removals
unfolding commit_effect
commit_count s (landed r) = refl
commit_count s (refused x) = refl

module _ (h : ℕ) (l : call.Lent) (limit : ℕ) where
  -- a list landed in its house
  pub landed_step : (bs : List ℕ) → pass_others h false l ≡ opens_with limit
      → joined h l.nursery (own_step limit (removals_in h l.nursery) (lands bs) (own_lent h l.nursery)) (removals_in h l.nursery) ≡ step (in_house h (lands bs)) l
  unfolding effect read_effect is_grow emptied own.register_for
  landed_step bs e = joined_step h l limit false (opened h false l limit e) (lands bs) refl refl refl (λ r. refl)

  -- a commit
  pub committed_step : (q : Quote) → pass_others h false l ≡ opens_with limit
      → joined h l.nursery (own_step limit (removals_in h l.nursery) (commits q) (own_lent h l.nursery)) (removals_in h l.nursery) ≡ step (in_house h (commits q)) l
  unfolding effect is_grow emptied own.register_for
  committed_step q e =
      joined_step h l limit false (opened h false l limit e) (commits q) refl refl refl
      (λ r. commit_count (house_of limit (removals_in h l.nursery) r) (commit limit r q))

  -- a question leaves all houses
  pub asked_step : (q : Ask) → pass_others h false l ≡ opens_with limit → (o : own.Outcome) → o ≡ own_step limit (removals_in h l.nursery) (asks q) (own_lent h l.nursery)
      → record { lent = record { nursery = l.nursery; scratch = o.lent.scratch }; slice = o.slice; reply = o.reply } ≡ step (in_house h (asks q)) l
  unfolding effect is_grow emptied own.register_for
  asked_step q e o p =
      let w : joined h l.nursery o (removals_in h l.nursery) ≡ step (in_house h (asks q)) l = ap (λ (x : own.Outcome). joined h l.nursery x (removals_in h l.nursery)) p
      ∙ joined_step h l limit false (opened h false l limit e) (asks q) refl refl refl (λ r. refl) in
      ap (λ (n : Nursery). record { lent = record { nursery = n; scratch = o.lent.scratch }; slice = o.slice; reply = o.reply })
      (sym (ap (λ (x : call.Outcome). x.lent.nursery) w ∙ question_quiet h q l))
      ∙ w

  -- a list grown in its house: the count of removals is 0 then
  pub grown_step : (k : ℕ) (bs : List ℕ) → pass_others h true l ≡ opens_with limit
      → joined h l.nursery (own_step limit k (grows bs) (own_lent h l.nursery)) 0 ≡ step (in_house h (grows bs)) l
  unfolding effect read_effect not_grown own_of grown_by emptied outcome_of put_in stored_of own.register_for house_in
  grown_step k bs e =
      let o = opened h true l limit e in
      let n = l.nursery in
      rw (step_admits limit k (grows bs) (own_lent h n) empty (own_fits h l limit true o) refl, outcome_of)
      (sym (step_effect h (grows bs) l (effect (grows bs) (house_of limit k empty)) (free h l limit true o (grows bs) (rw (o.others, o.not_over)))
      (ap (λ (x : ℕ). read_effect 0 (land_list x empty bs)) (sym o.limit_is))))

-- ---- a removal: the count of removals after it is raised where it is reported

not_reported : (x n : ℕ) → refuses x ≢ reported n
not_reported x n e = let z : ◌≡◌ {A = ℕ} 0 1 = cc in omega arith

removed_count : (s : House) (slice : List ℕ) (x : Removed) (n : ℕ) → (remove_effect s slice x).reply ≡ reported n → (remove_effect s slice x).removals ≡ s.removals + 1
unfolding remove_effect
removed_count s slice (removed r cs) n e = refl
removed_count s slice (kept_with x) n e = absurd (not_reported x n e)

unremoved_count : (s : House) (slice : List ℕ) (x : Removed) (y : ℕ) → (remove_effect s slice x).reply ≡ refuses y → (remove_effect s slice x).removals ≡ s.removals
unfolding remove_effect
unremoved_count s slice (removed r cs) y e = absurd (not_reported y (length cs) (sym e))
unremoved_count s slice (kept_with x) y e = refl

-- what is reported had room to be counted
remove_38 : (s : House) (d room : ℕ) → (leb (length s.register.edges) d || leb max_removals s.removals) ≡ true → remove s d room ≡ kept_with 38
unfolding remove
remove_38 s d room e = rw e

remove_room : (s : House) (d n : ℕ) (slice : List ℕ) → (remove_effect s slice (remove s d (length slice))).reply ≡ reported n → s.removals < max_removals
unfolding remove_effect
remove_room s d n slice q = go (leb (length s.register.edges) d || leb max_removals s.removals) refl
  where
    go : (b : Bool) → (leb (length s.register.edges) d || leb max_removals s.removals) ≡ b → s.removals < max_removals
    go true e = absurd (not_reported 38 n (sym (ap (λ (x : Removed). (remove_effect s slice x).reply) (remove_38 s d (length slice) e)) ∙ q))
    go false e = leb-false max_removals s.removals (or_false (leb (length s.register.edges) d) (leb max_removals s.removals) e).1

module _ (h : ℕ) (l : call.Lent) (limit d : ℕ) (slice : List ℕ) (e : pass_others h false l ≡ opens_with limit) where
  abbrev own_removed : own.Outcome
  own_removed = own_step limit (removals_in h l.nursery) (removes d slice) (own_lent h l.nursery)

  removed_held : (r : Register) → held (stored_in h l.nursery) ≡ some r → own_removed ≡ outcome_of limit (removals_in h l.nursery) (removes d slice) r
  unfolding is_grow emptied own.register_for
  removed_held r k = own_held h l limit false (opened h false l limit e) (removes d slice) refl refl refl r k

  removed_joined : (r : Register) → held (stored_in h l.nursery) ≡ some r
      → joined h l.nursery own_removed (effect (removes d slice) (house_of limit (removals_in h l.nursery) r)).removals ≡ step (in_house h (removes d slice)) l
  unfolding is_grow emptied own.register_for
  removed_joined r k = joined_held h l limit false (opened h false l limit e) (removes d slice) refl refl refl r k

  pub removed_step : (n : ℕ) → own_removed.reply ≡ reported n → joined h l.nursery own_removed (removals_in h l.nursery + 1) ≡ step (in_house h (removes d slice)) l
  unfolding effect outcome_of is_grow emptied own.register_for
  removed_step n q = go (held (stored_in h l.nursery)) refl
    where
      go : (x : Option Register) → held (stored_in h l.nursery) ≡ x → joined h l.nursery own_removed (removals_in h l.nursery + 1) ≡ step (in_house h (removes d slice)) l
      go none k =
          absurd (not_reported 21 n (sym (ap (λ (o : own.Outcome). o.reply) (own_barred h l limit false (opened h false l limit e) (removes d slice) refl refl refl k)) ∙ q))
      go (some r) k =
          let s = house_of limit (removals_in h l.nursery) r in
          ap (joined h l.nursery own_removed) (sym (removed_count s slice (remove s d (length slice)) n (sym (ap (λ (o : own.Outcome). o.reply) (removed_held r k)) ∙ q))) ∙ removed_joined r k

  pub removed_room : (n : ℕ) → own_removed.reply ≡ reported n → removals_in h l.nursery < max_removals
  unfolding effect outcome_of is_grow emptied own.register_for
  removed_room n q = go (held (stored_in h l.nursery)) refl
    where
      go : (x : Option Register) → held (stored_in h l.nursery) ≡ x → removals_in h l.nursery < max_removals
      go none k =
          absurd (not_reported 21 n (sym (ap (λ (o : own.Outcome). o.reply) (own_barred h l limit false (opened h false l limit e) (removes d slice) refl refl refl k)) ∙ q))
      go (some r) k =
          remove_room (house_of limit (removals_in h l.nursery) r) d n slice (sym (ap (λ (o : own.Outcome). o.reply) (removed_held r k)) ∙ q)

  pub unremoved_step : (y : ℕ) → own_removed.reply ≡ refuses y → joined h l.nursery own_removed (removals_in h l.nursery) ≡ step (in_house h (removes d slice)) l
  unfolding effect outcome_of is_grow emptied own.register_for
  unremoved_step y q = go (held (stored_in h l.nursery)) refl
    where
      go : (x : Option Register) → held (stored_in h l.nursery) ≡ x → joined h l.nursery own_removed (removals_in h l.nursery) ≡ step (in_house h (removes d slice)) l
      go none k = joined_none h l limit false (opened h false l limit e) (removes d slice) refl refl refl k
      go (some r) k =
          let s = house_of limit (removals_in h l.nursery) r in
          ap (joined h l.nursery own_removed) (sym (unremoved_count s slice (remove s d (length slice)) y (sym (ap (λ (o : own.Outcome). o.reply) (removed_held r k)) ∙ q))) ∙ removed_joined r k
