use native.Mathlib.Omega.{arith}
use borrow.Author.Tests.{eq-eqb, ne_eqb}
use Rattle.recording.specs.Unlabelled.{place_for}
use Rattle.recording.proofs.unlabelled.place_for.Goals as goal

pub returns-then-degree-eq0 : goal.returns-then-degree-eq0
unfolding place_for
returns-then-degree-eq0 c = (rw (eq-eqb _ _ c.if-degree-eq0.true), omega arith)

pub returns-else-degree-eq0 : goal.returns-else-degree-eq0
unfolding place_for
returns-else-degree-eq0 c = (rw (ne_eqb _ _ c.if-degree-eq0.false), omega arith)
