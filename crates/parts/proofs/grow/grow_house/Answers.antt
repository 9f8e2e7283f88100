use mathlib.Core.Path.{refl, ap, ◌∙◌}
use Prim.Native.Nat.{ℕ}
use mathlib.Core.List.{List}
use lib.ListN.{set}
use Rattle.licence.proofs.PartLaws.{part_left}
use Rattle.parts.proofs.grow.grow_house.Goals as goal

pub returns-clause-steps : goal.returns-clause-steps
returns-clause-steps c =
    λ removals. part_left c.args.h _ _ _ _ _ _ _ _ _ _ _ _ _ _ _ _ _ _ _ _ _ removals _ _ refl c.head_of.ensures (c.with_removals.ensures.0 ∙ c.with_head.ensures.0) (c.grow_own-own.ensures.steps removals)

pub returns-clause-count : goal.returns-clause-count
returns-clause-count c = c.with_removals.ensures.1 ∙ ap (λ (ns : List ℕ). set ns c.args.h 0) c.with_head.ensures.1
