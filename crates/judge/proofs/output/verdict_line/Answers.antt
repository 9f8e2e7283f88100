use mathlib.Core.Path.{refl}
use native.Mathlib.Omega.{arith}
use Rattle.model.specs.Printing.{ascii}
use Rattle.judge.proofs.Outputs.{line_agrees, line_wrong}
use Rattle.judge.proofs.output.verdict_line.Goals as goal

pub returns-in-Some : goal.returns-in-Some
unfolding ascii
returns-in-Some c =
    line_wrong _ _ _ c.requires _ _ _ _ c.in-Some.ensures (omega arith) refl c.put_text-next.ensures c.put_field.ensures

pub returns-in-None : goal.returns-in-None
unfolding ascii
returns-in-None c = line_agrees _ _ _ c.requires _ _ c.in-None.ensures refl c.put_text.ensures
