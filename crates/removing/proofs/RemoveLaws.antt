-- A remove on the tables of one house, from what the functions have computed to what the call is defined to leave and answer.
use Rattle.std.specs.Prelude.{if◌then◌else◌}
use mathlib.Core.Path.{◌≡◌, refl, sym, ap, ◌∙◌}
use Prim.Native.Nat.{ℕ, ◌*◌, ◌<◌}
use native.Mathlib.Omega.{arith}
use mathlib.Core.Bool.{Bool, true, false, ◌||◌}
use mathlib.Core.Option.{Option, none}
use mathlib.Core.List.{List}
use lib.ListN.{length}
use lib.Dec.{leb, ltb}
use borrow.Author.Tests.{leb-false, lt-leb}
use Rattle.model.specs.Basics.{max_vertices}
use Rattle.model.specs.Register.{Register, landed}
use Rattle.model.specs.Queries.{refuses}
use Rattle.model.specs.Tables.{Tables, Counts, cleared, counts_of, fits, grow_from, right_sizes, sizes, stored_of, tables_of}
use Rattle.model.specs.Notions.{Reachable}
use Rattle.model.proofs.Basics.Booleans.{or_false}
use Rattle.theory.proofs.Registers.Equality.{eq_list_refl, eq_list_true}
use Rattle.theory.proofs.Registers.Founded.{Founded}
use Rattle.theory.proofs.Registers.Kept.{sizes_right, cleared_fits}
use Rattle.theory.proofs.Registers.OnlyHeld.{held_counts, held_tables}
use Rattle.theory.proofs.Registers.Reachable.{founded}
use Rattle.nursery.specs.Calls.{effect, remove_effect, removes}
use Rattle.nursery.specs.Removal.{Change, change_numbers, changes_from, kept_with, max_removals, remove, removed, without}
use Rattle.nursery.proofs.Removal.{numbers_three}
use Rattle.lent.specs.declared.slices.Tables.{Tables as LentTables}
use Rattle.lent.specs.Lent.{of_lent, SameLent}
use Rattle.tables.specs.Steps.{zeroed}
use Rattle.insertion.specs.Insertion.{AnswerIn, LandingIn, done, landing_in, refused_in}
use Rattle.admission.specs.Own.{Outcome, house_of, own_step, scratch_after}
use Rattle.admission.specs.Lent.{lent, outcome}
use Rattle.admission.specs.Gate.{barred}
use Rattle.admission.proofs.SizeLaws.{zeroed_cleared}
use Rattle.admission.proofs.GateLaws.{open_cleared, opened}
use Rattle.admission.proofs.OwnLaws.{outcome_of, step_fits}
use Rattle.replacing.specs.Changes.{changes_in}
use Rattle.replacing.proofs.ChangeLaws.{changes_are}
use Rattle.settling.specs.Settling.{settled_in}
use Rattle.removing.specs.Removing.{removed_in}
use Rattle.rest.specs.Rest.{rest_in}
use Rattle.rest.proofs.RestLeft.{Left, rest_left}

-- ---- the other edges, landed or not

-- tables that keep their lengths keep their sizes
pub sizes_kept : {s t : LentTables} → SameLent s t → sizes (of_lent s) ≡ sizes (of_lent t)
unfolding sizes
sizes_kept k = rw (k.degrees_long, k.sides_long, k.ends_long, k.lengths_long, k.volumes_long, k.labels_long)

-- the register as it was viewed
pub viewed : (v t s : Tables) (c : Counts) (d : ℕ) (l : LandingIn) → v ≡ t → l ≡ rest_in v.ends v.lengths v.volumes c d s → l ≡ rest_in t.ends t.lengths t.volumes c d s
viewed v t s c d l e h = rw (← e) h

pub gated : (v t s s' : Tables) (c : Counts) (x : Option ℕ) → v ≡ t → (x ≡ barred (lent v c s)) × (s' ≡ scratch_after (lent v c s))
    → (x ≡ barred (lent t c s)) × (s' ≡ scratch_after (lent t c s))
gated v t s s' c x e h = rw (← e) h

module _ (t s s' : Tables) (c : Counts) (d : ℕ) (xs : List ℕ) (a : AnswerIn) (e : landing_in s' a ≡ rest_in t.ends t.lengths t.volumes c d s) where
  tables_are : (rest_in t.ends t.lengths t.volumes c d s).tables ≡ s'
  tables_are = ap (λ (l : LandingIn). l.tables) (sym e)

  answer_is : (rest_in t.ends t.lengths t.volumes c d s).answer ≡ a
  answer_is = ap (λ (l : LandingIn). l.answer) (sym e)

  pub out_done : (c' : Counts) (rings : Bool) (o : Outcome) → a ≡ done c' rings → sizes s' ≡ sizes s → (sizes s' ≡ sizes t → o ≡ settled_in t c s' c' xs)
      → sizes s ≡ sizes t → o ≡ removed_in t c s d xs
  unfolding removed_in
  out_done c' rings o q k f z = rw (answer_is ∙ q, removed_in, tables_are) (f (k ∙ z))

  pub out_refused : (x : ℕ) (s'' : Tables) → a ≡ refused_in x → s'' ≡ zeroed s' → outcome t c s'' xs (refuses x) ≡ removed_in t c s d xs
  unfolding removed_in
  out_refused x s'' q z = rw (answer_is ∙ q, removed_in, tables_are, z)

-- ---- the definition

remove_is : (limit removals : ℕ) (r x : Register) (d room : ℕ) → d < length r.edges → removals < max_removals → grow_from r.vertices (without d r.edges) ≡ landed x
    → remove (house_of limit removals r) d room
    ≡ (if ltb room (length (change_numbers (changes_from 0 r.labels x.labels))) then kept_with 9 else removed x (changes_from 0 r.labels x.labels))
unfolding remove
remove_is limit removals r x d room l k g = rw (lt-leb (length r.edges) d l, lt-leb max_removals removals k, g, remove)

remove_not : (limit removals : ℕ) (r : Register) (d room : ℕ) → (leb (length r.edges) d || leb max_removals removals) ≡ true
    → remove (house_of limit removals r) d room ≡ kept_with 38
unfolding remove
remove_not limit removals r d room h = rw h

labels_of : (r : Register) → (tables_of r).labels ≡ r.labels
unfolding tables_of
labels_of r = refl

edges_of_lem : (r : Register) → (counts_of r).edges ≡ length r.edges
unfolding counts_of
edges_of_lem r = refl

fits_of : (r : Register) → Reachable r → fits (tables_of r) ≡ true
unfolding fits
fits_of r g = let f : Founded r = founded r g in rw (sizes_right r f.labels_long f.room) (eq_list_refl right_sizes)

sizes_of : (r : Register) → Reachable r → sizes cleared ≡ sizes (tables_of r)
unfolding fits
sizes_of r g = let f : Founded r = founded r g in eq_list_true (sizes cleared) right_sizes cleared_fits ∙ sym (sizes_right r f.labels_long f.room)

-- where there is such an edge and room to count
settled_as : (limit removals : ℕ) (r : Register) → Reachable r → (d : ℕ) (xs : List ℕ) → d < length r.edges → removals < max_removals → (x : Left r d)
    → settled_in (tables_of r) (counts_of r) (tables_of x.register) (counts_of x.register) xs ≡ outcome_of limit removals (removes d xs) r
unfolding settled_in outcome_of effect remove_effect stored_of
settled_as limit removals r g d xs l k x = go (ltb (length xs) (3 * length cs)) refl
  where
    y : Register
    y = x.register

    cs : List Change
    cs = changes_from 0 r.labels y.labels

    same : changes_in (tables_of r).labels (tables_of y).labels max_vertices 0 ≡ changes_from 0 r.labels y.labels
    same = rw (labels_of r, labels_of y) (changes_are r.labels y.labels max_vertices (founded r g).labels_long (founded y x.reachable).labels_long)

    zero_again : zeroed (tables_of y) ≡ cleared
    zero_again = zeroed_cleared (tables_of y) (fits_of y x.reachable)

    is : remove (house_of limit removals r) d (length xs)
        ≡ (if ltb (length xs) (length (change_numbers (changes_from 0 r.labels y.labels))) then kept_with 9 else removed y (changes_from 0 r.labels y.labels))
    is = remove_is limit removals r y d (length xs) l k x.grown

    go : (b : Bool) → ltb (length xs) (3 * length (changes_from 0 r.labels y.labels)) ≡ b
        → settled_in (tables_of r) (counts_of r) (tables_of y) (counts_of y) xs ≡ outcome_of limit removals (removes d xs) r
    go true b = rw (same, zero_again, is, numbers_three cs, b)
    go false b = rw (same, zero_again, is, numbers_three cs, b)

-- ---- behind an open gate

module _ (limit removals : ℕ) (t : Tables) (c : Counts) (s s' : Tables) (d : ℕ) (xs : List ℕ) (b : Bool) (h : none ≡ barred (lent t c s)) (e : s' ≡ scratch_after (lent t c s))
    (n : b ≡ (leb c.edges d || leb max_removals removals)) where
  -- 38
  pub remove_refused : b ≡ true → outcome t c s' xs (refuses 38) ≡ own_step limit removals (removes d xs) (lent t c s)
  unfolding outcome_of effect remove_effect
  remove_refused q =
      let o = opened (lent t c s) h in
      let r = o.register in
      let m : (leb (length r.edges) d || leb max_removals removals) ≡ true = rw (← edges_of_lem r, held_counts o.is) (sym n ∙ q) in
      rw (step_fits limit removals (removes d xs) (lent t c s) r o.fit o.holds, outcome_of, remove_not limit removals r d (length xs) m, remove_effect, ← o.is.stored_is, open_cleared (lent t c s) s' h e)

  -- the edge is there, and there is room to count: the others stand landed in scratch
  pub remove_done : b ≡ false → (o : Outcome) → (sizes s' ≡ sizes t → o ≡ removed_in t c s' d xs) → o ≡ own_step limit removals (removes d xs) (lent t c s)
  unfolding removed_in
  remove_done q o f =
      let w = opened (lent t c s) h in
      let r = w.register in
      let g = w.is.reachable in
      let ts : tables_of r ≡ t = held_tables w.is in
      let cs : counts_of r ≡ c = held_counts w.is in
      let z : s' ≡ cleared = open_cleared (lent t c s) s' h e in
      let m = or_false (leb c.edges d) (leb max_removals removals) (sym n ∙ q) in
      let size : sizes s' ≡ sizes t = ap sizes z ∙ sizes_of r g ∙ ap sizes ts in
      let l : d < length r.edges = omega (arith, leb-false c.edges d m.0, edges_of_lem r, ap (λ (k : Counts). k.edges) cs) in
      let x = rest_left r g d l in
      let i : removed_in t c s' d xs ≡ settled_in (tables_of r) (counts_of r) (tables_of x.register) (counts_of x.register) xs = (λ j. removed_in (sym ts j) (sym cs j) (z j) d xs) ∙ removed_settled r d xs x in
      f size ∙ i ∙ settled_as limit removals r g d xs l (leb-false max_removals removals m.1) x
      ∙ sym (step_fits limit removals (removes d xs) (lent t c s) r w.fit w.holds)
    where
      removed_settled : (r : Register) (d : ℕ) (xs : List ℕ) (x : Left r d)
          → removed_in (tables_of r) (counts_of r) cleared d xs ≡ settled_in (tables_of r) (counts_of r) (tables_of x.register) (counts_of x.register) xs
      removed_settled r d xs x = rw (ap (λ (l : LandingIn). l.answer) x.is, removed_in, ap (λ (l : LandingIn). l.tables) x.is)
