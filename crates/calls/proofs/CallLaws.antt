-- The ways out of grow, and of land and commit behind the gate: from what the functions have computed to what the calls are defined to leave and
-- answer on the tables of one house.
use mathlib.Core.Path.{◌≡◌, refl, sym, ap, ◌∙◌}
use Prim.Native.Nat.{ℕ}
use mathlib.Core.Bool.{Bool, true, false, ◌&&◌}
use mathlib.Core.Option.{none}
use mathlib.Core.List.{List, []}
use Rattle.model.specs.Register.{Landed, Quote, Register, commit, empty, landed, refused}
use Rattle.model.specs.Format.{Read, land_list}
use Rattle.model.specs.Queries.{Reply, read, refuses}
use Rattle.model.specs.Tables.{Tables, Counts, fits, cleared, no_counts, counts_of, tables_of, stored_of}
use Rattle.model.proofs.Basics.Booleans.{and_true}
use Rattle.theory.proofs.Registers.OnlyHeld.{held_counts, held_tables}
use Rattle.nursery.specs.Calls.{Effect, HouseCall, commit_effect, commits, effect, grows, lands, read_effect, own_slice}
use Rattle.insertion.specs.Insertion.{AnswerIn, LandingIn, done, landing_in, refused_in}
use Rattle.committing.specs.Committing.{commit_in}
use Rattle.agreement.proofs.Standing.{warns_any}
use Rattle.agreement.proofs.Landing.{rings_after, shown_in}
use Rattle.agreement.proofs.Quoting.{commit_agrees}
use Rattle.landing.specs.Records.{ReadingIn, land_list_in}
use Rattle.landing.proofs.ListAgrees.{shown_read, list_agrees}
use Rattle.landing.proofs.Growing.{empty_agrees}
use Rattle.admission.specs.Lent.{lent, outcome}
use Rattle.admission.specs.Own.{Outcome, all_fit, house_of, own_step, register_for, scratch_after}
use Rattle.admission.specs.Gate.{barred, zeroed_if}
use Rattle.admission.proofs.SizeLaws.{zeroed_cleared}
use Rattle.admission.proofs.GateLaws.{opened}
use Rattle.admission.proofs.OwnLaws.{outcome_of, scratch_cleared, step_admits, step_fits, step_refused}
use Rattle.calls.specs.Committed.{counts_after, reply_to}

module _ (limit removals : ℕ) (t : Tables) (c : Counts) (s : Tables) (bs : List ℕ) where
  -- a list that was read into the register r
  read_out : (call : HouseCall) (r : Register) (n : ℕ) (g : Read) (d : ReadingIn) (s' : Tables) → own_step limit removals call (lent t c s) ≡ outcome_of limit removals call r
      → effect call (house_of limit removals r) ≡ read_effect n g → d ≡ shown_read g → s' ≡ cleared
      → outcome d.tables d.counts s' [] (read d.stop) ≡ own_step limit removals call (lent t c s)
  unfolding outcome_of read_effect stored_of
  read_out call r n g d s' p q f e = rw (f, e, p, outcome_of, q)

  -- ---- grow

  -- tables or scratch of wrong sizes: a grow is refused with 25
  pub grow_refused : (t' s' : Tables) (r : Bool) → r ≡ (fits t && fits s) → t' ≡ zeroed_if r t → s' ≡ zeroed_if r s → r ≡ false
      → outcome t' c s' [] (refuses 25) ≡ own_step limit removals (grows bs) (lent t c s)
  unfolding all_fit own_slice
  grow_refused t' s' r f a b e = rw (a, b, e) (sym (step_refused limit removals (grows bs) (lent t c s) (sym f ∙ e)))

  -- any other grow leaves what growing from the list leaves
  pub grow_done : (t' s' : Tables) (r : Bool) (d : ReadingIn) (z : Counts) → r ≡ (fits t && fits s) → t' ≡ zeroed_if r t
      → s' ≡ zeroed_if r s → r ≡ true → z ≡ no_counts → d ≡ land_list_in t' z limit bs
      → outcome d.tables d.counts s' [] (read d.stop) ≡ own_step limit removals (grows bs) (lent t c s)
  unfolding all_fit register_for effect
  grow_done t' s' r d z f a b e k q =
      let both = and_true (fits t) (fits s) (sym f ∙ e) in
      let i : t' ≡ cleared = a ∙ rw e (zeroed_cleared t both.0) in
      let j : s' ≡ cleared = b ∙ rw e (zeroed_cleared s both.1) in
      let g : land_list_in t' z limit bs ≡ shown_read (land_list limit empty bs) = rw (i, k) (empty_agrees limit bs) in
      read_out (grows bs) empty 0 (land_list limit empty bs) d s' (step_admits limit removals (grows bs) (lent t c s) empty (sym f ∙ e) refl) refl (q ∙ g) j

  -- ---- land

  -- behind an open gate a land leaves what landing the list leaves
  pub land_done : (s' : Tables) (d : ReadingIn) → none ≡ barred (lent t c s) → s' ≡ scratch_after (lent t c s)
      → d ≡ land_list_in t c limit bs → outcome d.tables d.counts s' [] (read d.stop) ≡ own_step limit removals (lands bs) (lent t c s)
  unfolding effect
  land_done s' d h e q =
      let o = opened (lent t c s) h in
      let r = o.register in
      let g : land_list_in t c limit bs ≡ shown_read (land_list limit r bs) = rw (held_tables o.is, held_counts o.is) at (list_agrees limit r bs o.is.reachable) in
      read_out (lands bs) r removals (land_list limit r bs) d s' (step_fits limit removals (lands bs) (lent t c s) r o.fit o.holds) refl (q ∙ g)
      (e ∙ scratch_cleared (lent t c s) o.fit)

-- ---- commit

-- an effect, with scratch cleared
abbrev outcome_with : Effect → Outcome
outcome_with e = record { lent = record { stored = stored_of e.leaves; scratch = cleared }; slice = e.slice; reply = e.reply }

-- what the tables, the counts and the answer come to, by what the definition leaves
commit_shown : (limit removals : ℕ) (r : Register) (t' s' : Tables) (c c' : Counts) (a : AnswerIn) (y : Reply) (rings : Bool) (x : Landed) → c ≡ counts_of r → s' ≡ cleared
    → landing_in t' a ≡ shown_in r rings x → c' ≡ counts_after c a → y ≡ reply_to a → outcome t' c' s' [] y ≡ outcome_with (commit_effect (house_of limit removals r) x)
unfolding commit_effect shown_in stored_of
commit_shown limit removals r t' s' c c' a y rings (landed r') p z l k m =
    let f : t' ≡ tables_of r' = ap (λ (d : LandingIn). d.tables) l in
    let g : a ≡ done (counts_of r') rings = ap (λ (d : LandingIn). d.answer) l in
    rw (k, m, g, f, z)
commit_shown limit removals r t' s' c c' a y rings (refused n) p z l k m =
    let f : t' ≡ tables_of r = ap (λ (d : LandingIn). d.tables) l in
    let g : a ≡ refused_in n = ap (λ (d : LandingIn). d.answer) l in
    rw (k, m, g, f, z, p)

module _ (limit removals : ℕ) (t : Tables) (c : Counts) (s : Tables) (q : Quote) where
  -- a commit that the gate lets in leaves and answers what it is defined to
  pub commit_done : (t' s' : Tables) (c' : Counts) (a : AnswerIn) (y : Reply) → none ≡ barred (lent t c s) → s' ≡ scratch_after (lent t c s)
      → landing_in t' a ≡ commit_in t c limit true q → c' ≡ counts_after c a → y ≡ reply_to a
      → outcome t' c' s' [] y ≡ own_step limit removals (commits q) (lent t c s)
  unfolding outcome_of effect commit_in
  commit_done t' s' c' a y h e l k m =
      let o = opened (lent t c s) h in
      let r = o.register in
      let g : commit_in t c limit true q ≡ shown_in r (rings_after r true q.asked) (commit limit r q) = rw (held_tables o.is, held_counts o.is) at (commit_agrees limit r q true o.is.reachable (warns_any r.edges)) in
      commit_shown limit removals r t' s' c c' a y (rings_after r true q.asked) (commit limit r q) (sym (held_counts o.is)) (e ∙ scratch_cleared (lent t c s) o.fit) (l ∙ g) k m
      ∙ sym (step_fits limit removals (commits q) (lent t c s) r o.fit o.holds)
