-- What a plan relabels. By `planned_counts` in Quotes a plan that was made of the tables counts what Quoting says at once.
use Rattle.std.specs.Prelude.{ℕ, false, List}
use Rattle.joining.specs.declared.merging.Merger.{Merger}
use Rattle.parting.specs.declared.splitting.Rounds.{Rounds}
use Rattle.counting.specs.Counting.{Estimated, estimated, merger_count, rounds_count}
use Rattle.placement.specs.declared.placing.Work.{Work}
use Rattle.placement.specs.declared.placing.Work.TheVariants.{Merge, Open}
use Rattle.placement.specs.declared.planning.Plan.{Plan}

abbrev pub work_count : Work → Merger → Rounds → List ℕ → List ℕ → List ℕ → List ℕ → ℕ → Estimated
work_count Merge by rounds degrees sides ends labels n = merger_count by degrees sides ends labels n
work_count (Open splits extension) by rounds degrees sides ends labels n = estimated false (rounds_count rounds)

abbrev pub planned_count : Plan → List ℕ → List ℕ → List ℕ → List ℕ → ℕ → Estimated
planned_count p degrees sides ends labels n = work_count p.work p.merger p.rounds degrees sides ends labels n
