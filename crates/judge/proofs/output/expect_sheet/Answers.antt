use mathlib.Core.Path.{refl, ap, ◌∙◌}
use native.Mathlib.Omega.{arith}
use Prim.Native.Nat.{ℕ}
use Rattle.model.specs.Printing.{ascii}
use Rattle.judging.specs.Right.{stops}
use Rattle.judge.proofs.Outputs.{too_long, right_awaited, none_awaited}
use Rattle.judge.proofs.output.expect_sheet.Goals as goal

pub returns-then-list-gt-MAX_LIST : goal.returns-then-list-gt-MAX_LIST
unfolding ascii
returns-then-list-gt-MAX_LIST c =
    too_long _ _ _ _ c.if-list-gt-MAX_LIST.true c.requires refl c.put_text-long.ensures

pub returns-in-Ok : goal.returns-in-Ok
returns-in-Ok c =
    (c.in-Ok.ensures.0, right_awaited _ (omega (arith, c.if-list-gt-MAX_LIST.false)) _ c.in-Ok.ensures.1)

pub returns-in-Err : goal.returns-in-Err
returns-in-Err c =
    let answer = c.right_text in
    none_awaited _ (omega (arith, c.if-list-gt-MAX_LIST.false)) _ _ _ _ (ap (λ (n : ℕ). stops c.in-Err.record n) c.number-number.ensures ∙ c.in-Err.ensures.1) (grind arith) (omega (arith, c.number-number.type_inv)) (omega (arith, answer.auto.out, c.requires)) c.put_stopped-line.ensures
