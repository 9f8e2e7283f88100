use Rattle.std.proofs.Common.{rules}
use Rattle.planner.specs.Lines.{line_volume}
use Rattle.planner.proofs.lines.volume_of.Goals as goal

pub returns : goal.returns
unfolding line_volume
returns c = search rules
