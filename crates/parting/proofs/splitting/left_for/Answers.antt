use Rattle.parting.specs.Splitting.{left_for}
use Rattle.parting.proofs.splitting.left_for.Goals as goal

pub returns-in-NoRing : goal.returns-in-NoRing
unfolding left_for
returns-in-NoRing c = rw c.in-NoRing.is

pub returns-in-Ring : goal.returns-in-Ring
unfolding left_for
returns-in-Ring c = rw c.in-Ring.is

pub returns-in-Shared : goal.returns-in-Shared
unfolding left_for
returns-in-Shared c = rw c.in-Shared.is
