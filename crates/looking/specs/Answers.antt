-- What the enums and structs of this crate mean.
use Rattle.std.proofs.Math.Option.{Option, none, some}
use Rattle.model.specs.Queries.{Reply, found}
use Rattle.looking.specs.Looking as looking
use Rattle.looking.specs.declared.through.Seen.{Seen}
use Rattle.looking.specs.declared.through.Look.{Look}
use Rattle.looking.specs.declared.through.FoundChain.{FoundChain}
use Rattle.std.specs.Prelude as std

abbrev pub as_seen : Seen → looking.Seen
as_seen s = looking.seen s.wearer s.before.0 s.behind.0 s.lowest.0

abbrev pub as_look : Look → looking.Look
as_look l = looking.look l.at.0 (as_seen l.known)

abbrev pub as_found : std.Option FoundChain → Option Reply
as_found (std.Some c) = some (found c.name.0 c.wearer.0 c.low.0 c.high.0)
as_found std.None = none
