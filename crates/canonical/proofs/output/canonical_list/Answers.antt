use Rattle.canonical.proofs.Outputs.{too_long, whole_given, stop_told}
use Rattle.counters.specs.Answers.{as_stop}
use Rattle.model.specs.Format.{stopped}
use Rattle.model.specs.Tables.{cleared}
use Rattle.model.specs.Printing.{ascii}
use Prim.Native.Nat.{ℕ}
use native.Mathlib.Omega.{arith}
use mathlib.Core.Path.{refl, sym, ap, ◌∙◌}
use Rattle.canonical.proofs.output.canonical_list.Goals as goal

pub returns-then-list-gt-MAX_LIST : goal.returns-then-list-gt-MAX_LIST
unfolding ascii
returns-then-list-gt-MAX_LIST c =
    too_long _ _ _ _ c.if-list-gt-MAX_LIST.true c.requires refl c.put_text-long.ensures

pub returns-in-Whole : goal.returns-in-Whole
unfolding cleared
returns-in-Whole c =
    whole_given _ _ _ (omega (arith, c.if-list-gt-MAX_LIST.false)) c.requires c.grow_list-reading.ensures _ (sym (ap as_stop c.in-Whole.is)) c.put_list-size.ensures

pub returns-in-Stopped : goal.returns-in-Stopped
unfolding cleared
returns-in-Stopped c =
    stop_told _ _ _ (omega (arith, c.if-list-gt-MAX_LIST.false)) c.requires c.grow_list-reading.ensures _ _ _ (omega arith) (omega (arith, c.number-number.type_inv))
    (ap (λ (n : ℕ). stopped c.in-Stopped.record n) c.number-number.ensures ∙ sym (ap as_stop c.in-Stopped.is)) c.put_stopped-line.ensures
