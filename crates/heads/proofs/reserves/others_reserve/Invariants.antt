use Prim.Native.Nat.{◌+◌, ◌*◌, ◌≤◌}
use mathlib.Core.Path.{◌≡◌}
use lib.ListN.{drop, set}
use Rattle.model.specs.Basics as basics
use Rattle.nursery.specs.Licence.{reserves}
use Rattle.heads.specs.Meaning.{edges_of}
use Rattle.heads.proofs.reserves.others_reserve.Given as goal

-- what is summed, and what is left to sum
abbrev pub invariant-loop-h : goal.invariant-loop-h
invariant-loop-h l =
    let kept = set (reserves l.shares (edges_of l.heads)) l.house 0 in (l.sum ≤ 65535 * l.h) × (l.sum + basics.sum (drop l.h kept) ≡ basics.sum kept)
