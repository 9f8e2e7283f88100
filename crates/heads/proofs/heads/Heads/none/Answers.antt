use mathlib.Core.Path.{refl, ap}
use lib.ListN.{replicate}
use Rattle.model.specs.Tables as T
use Rattle.nursery.specs.Nursery.{no_houses}
use Rattle.heads.specs.Meaning.{as_heads, as_removals}
use Rattle.heads.proofs.heads.Heads.none.Goals as goal

pub returns : goal.returns
unfolding no_houses as_heads as_removals
returns c = (ap (λ (x : T.Counts). replicate 8 x) c.none.ensures, refl)
