use Rattle.parting.proofs.Splits.{both_law}
use Rattle.parting.proofs.splitting.split_both.Goals as goal

pub returns : goal.returns
returns c =
    both_law _ _ _ _ _ _ _ _ _ _ _ _ _ _ _ _ _ _ _ _ _ _ c.split_by-c.ensures c.split_by-d.ensures c.add32.ensures c.new.ensures
