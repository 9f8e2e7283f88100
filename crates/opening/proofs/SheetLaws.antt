-- Opening a sheet and fetching from it behind an open gate.
use mathlib.Core.Path.{◌≡◌, ap, ◌∙◌}
use mathlib.Core.Logic.{◌≢◌}
use Prim.Native.Nat.{ℕ}
use mathlib.Core.List.{[]}
use mathlib.Core.Option.{none}
use Rattle.model.specs.Register.{Register}
use Rattle.model.specs.Queries.{OpenSheet, Reply, opened, refuses}
use Rattle.model.specs.Opened.{opening_of}
use Rattle.model.specs.Tables.{Counts, Tables, cleared, counts_of}
use Rattle.model.specs.Calls.{answer, answers, fetching, opening}
use Rattle.nursery.specs.Calls.{fetches, opens}
use Rattle.admission.specs.Own.{house_of, own_step, scratch_after}
use Rattle.model.specs.Notions.{HeldOf}
use Rattle.theory.proofs.Registers.Kept.{cleared_fits}
use Rattle.theory.proofs.Registers.OnlyHeld.{held_counts}
use Rattle.tables.specs.Meaning.{stored}
use Rattle.tables.specs.Steps.{zeroed}
use Rattle.admission.specs.Lent.{lent, outcome}
use Rattle.admission.specs.Gate.{barred}
use Rattle.admission.proofs.SizeLaws.{zeroed_cleared}
use Rattle.admission.proofs.GateLaws.{open_cleared, query_answered}
use Rattle.fetching.specs.Fetching.{fetch_in}
use Rattle.fetching.specs.Meaning.{open_sheet}
use Rattle.fetching.proofs.Agreeing.{ended_answers, fetch_answers}

module _ (t : Tables) (c : Counts) (s s' : Tables) (h : none ≡ barred (lent t c s)) (e : s' ≡ scratch_after (lent t c s)) where
  -- the counts are those of the register that is held
  pub open_answered : (limit removals : ℕ) → outcome t c s' [] (opened (open_sheet c.vertices c.edges 0 removals)) ≡ own_step limit removals opens (lent t c s)
  unfolding answer answers opening_of counts_of
  open_answered limit removals = query_answered limit removals opening (lent t c s) s' [] _ h e opens_so
    where
      opens_so : (r : Register) → HeldOf (stored t c) r
          → answer opening (house_of limit removals r) ≡ record { slice = []; reply = opened (open_sheet c.vertices c.edges 0 removals) }
      opens_so r k = ap (λ (x : Counts). record { slice = []; reply = opened (open_sheet x.vertices x.edges 0 removals) }) (held_counts k)

  -- a sheet with another count of removals is ended
  pub fetch_ended : (limit removals : ℕ) (o : OpenSheet) → o.removals ≢ removals → outcome t c s' [] (refuses 39) ≡ own_step limit removals (fetches o) (lent t c s)
  fetch_ended limit removals o d = query_answered limit removals (fetching o) (lent t c s) s' [] (refuses 39) h e (λ r k. ended_answers o (house_of limit removals r) d)

  -- the scratch was cleared again
  pub fetch_answered : (limit removals : ℕ) (o : OpenSheet) (s'' : Tables) (a : Reply) → o.removals ≡ removals
      → a ≡ fetch_in t.ends t.lengths t.volumes c o s' → s'' ≡ zeroed s' → outcome t c s'' [] a ≡ own_step limit removals (fetches o) (lent t c s)
  fetch_answered limit removals o s'' a d q z =
      query_answered limit removals (fetching o) (lent t c s) s'' [] a h (z ∙ again ∙ e)
      (λ r k. fetch_answers t c o a (q ∙ ap (fetch_in t.ends t.lengths t.volumes c o) zeros) (house_of limit removals r) k d)
    where
      zeros : s' ≡ cleared
      zeros = open_cleared (lent t c s) s' h e

      again : zeroed s' ≡ s'
      again = rw zeros (zeroed_cleared cleared cleared_fits)
