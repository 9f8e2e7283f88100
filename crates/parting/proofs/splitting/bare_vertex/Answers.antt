use Rattle.parting.proofs.Splits.{bare_law}
use Rattle.parting.proofs.splitting.bare_vertex.Goals as goal

pub returns : goal.returns
returns c =
    bare_law _ _ _ _ _ c.put_sides.ensures c.put_label.ensures
