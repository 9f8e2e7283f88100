use mathlib.Core.Path.{refl}
use mathlib.Core.Bool.{true}
use Rattle.model.proofs.Basics.Booleans.{not_both}
use native.Mathlib.Omega.{arith}
use borrow.Author.Tests.{le-leb, lt-leb}
use Rattle.removing.proofs.own.not_removable.Goals as goal

pub returns-then-edges-edge : goal.returns-then-edges-edge
returns-then-edges-edge c = (rw (le-leb _ _ c.if-edges-edge.true), λ q. absurd (not_both true refl q))

pub returns : goal.returns
returns c = (rw (lt-leb c.args.edges c.args.edge (omega (arith, c.if-edges-edge.false))), λ q. omega (arith, c.if-edges-edge.false, c.ranges.edges.fits))
