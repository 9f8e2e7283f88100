use Rattle.relaxing.proofs.Relaxing.{keeps_same, end_vertex, end_room, far_keeps}
use Rattle.relaxing.specs.Distances.{unreached}
use native.Mathlib.Omega.{arith}
use Prim.Native.Nat.{◌≤◌, ◌*◌, ◌-◌, ◌/◌}
use mathlib.Core.Path.{refl}
use Rattle.search.proofs.following.relax_end.Goals as goal

pub returns-then-half-eq0 : goal.returns-then-half-eq0
returns-then-half-eq0 c = search keeps_same

pub returns-then-edges-half : goal.returns-then-edges-half
returns-then-edges-half c = search keeps_same

pub bounds-distances-near : goal.bounds-distances-near
bounds-distances-near c = end_room c.requires (c.args.j - 2) _ (omega arith) refl

pub overflow_add-sum : goal.overflow_add-sum
overflow_add-sum c =
    let n = end_vertex c.requires.searchable (c.args.j - 2) (omega arith) in
    let t = c.requires.top _ n in
    let u = c.requires.searchable.short (c.args.j / 2 - 1) (omega arith) in
    omega (arith, t, u)

pub returns-then-best-sum : goal.returns-then-best-sum
returns-then-best-sum c = search keeps_same

pub bounds-distances-far : goal.bounds-distances-far
bounds-distances-far c = end_room c.requires (4 * (c.args.j / 2) - 1 - c.args.j) _ (omega arith) refl

pub returns : goal.returns
returns c =
    far_keeps _ _ _ _ c.requires _ c.args.j _ _ _ _ _ _ _ refl (omega arith) c.if-edges-half.false
    refl refl refl refl refl refl c.if-distances-far.false refl
