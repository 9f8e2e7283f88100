use Rattle.valve.proofs.CallLaws.{gate_25, gate_21, gate_on}
use mathlib.Core.Path.{sym, ◌∙◌}
use Rattle.valve.proofs.calls.gate.Goals as goal

pub returns-then-not-sizes_fit : goal.returns-then-not-sizes_fit
returns-then-not-sizes_fit c = gate_25 _ (sym c.sizes_fit.ensures ∙ c.if-not-sizes_fit.true)

pub returns-then-not-is_held : goal.returns-then-not-is_held
returns-then-not-is_held c = gate_21 _ (sym c.sizes_fit.ensures ∙ c.if-not-sizes_fit.false) (sym c.is_held.ensures ∙ c.if-not-is_held.true)

pub returns : goal.returns
returns c = gate_on _ (sym c.sizes_fit.ensures ∙ c.if-not-sizes_fit.false) (sym c.is_held.ensures ∙ c.if-not-is_held.false)
