use Rattle.comparing.proofs.ByBytes.{right_longer, text_longer, text_same}
use Rattle.comparing.proofs.Loops.{common_is, ends_are, ends_fit}
use mathlib.Core.Path.{◌∙◌}
use native.Mathlib.Omega.{arith}
use Rattle.comparing.proofs.comparison.compare_texts.Goals as goal

pub overflow_add-line : goal.overflow_add-line
overflow_add-line c =
    let small = ends_fit c.args.right.now c.common_bytes-same.result _ (c.line_ends-line.ensures ∙ ends_are _) in
    omega (arith, small)

pub returns-then-same-right : goal.returns-then-same-right
returns-then-same-right c =
    right_longer c.args.right.now c.args.text.now c.common_bytes-same.result _ (c.common_bytes-same.ensures ∙ common_is _ _) (c.line_ends-line.ensures ∙ ends_are _) c.if-same-right.true

pub returns-then-same-text : goal.returns-then-same-text
returns-then-same-text c =
    text_longer c.args.right.now c.args.text.now c.common_bytes-same.result _ (c.common_bytes-same.ensures ∙ common_is _ _) (c.line_ends-line.ensures ∙ ends_are _) c.if-same-text.true

pub returns : goal.returns
returns c =
    text_same c.args.right.now c.args.text.now _ (c.common_bytes-same.ensures ∙ common_is _ _) (omega (arith, c.if-same-right.false)) (omega (arith, c.if-same-text.false))
