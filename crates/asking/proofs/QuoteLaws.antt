-- What a quote reads from the tables of a register is what it is defined to answer.
use mathlib.Core.Path.{◌≡◌}
use mathlib.Core.Bool.{true}
use mathlib.Core.List.{[]}
use Prim.Native.Nat.{ℕ}
use Rattle.model.specs.Graph.{Edge}
use Rattle.model.specs.Register.{Quote, Register, quote}
use Rattle.model.specs.Queries.{quoted}
use Rattle.model.specs.Tables.{Tables, Counts}
use Rattle.model.specs.Calls.{answer, answers, quoting}
use Rattle.model.specs.Notions.{HeldOf}
use Rattle.tables.specs.Meaning.{stored}
use Rattle.admission.specs.Own.{house_of}
use Rattle.theory.proofs.Registers.OnlyHeld.{held_counts, held_tables}
use Rattle.quoting.specs.Quoting.{quote_in}
use Rattle.agreement.proofs.Standing.{warns_any}
use Rattle.agreement.proofs.Quoting.{quote_agrees}

-- a quote within the limit that the house has
pub quote_answers : (limit removals : ℕ) (t : Tables) (c : Counts) (e : Edge) (q : Quote) → q ≡ quote_in t.degrees t.sides t.ends t.labels c limit true e
    → (r : Register) → HeldOf (stored t c) r → answer (quoting e) (house_of limit removals r) ≡ record { slice = []; reply = quoted q }
unfolding answer answers
quote_answers limit removals t c e q h r k =
    let f : quote_in t.degrees t.sides t.ends t.labels c limit true e ≡ quote limit r e = rw (held_tables k, held_counts k) at (quote_agrees limit r e true k.reachable (warns_any r.edges)) in
    rw (h, f)
