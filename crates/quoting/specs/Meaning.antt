-- What the answer of this crate stands for.
use Rattle.counters.specs.Refusals.{number_of}
use Rattle.quoting.specs.Intents.{IntentIn, place, refuse}
use Rattle.quoting.specs.declared.edges.Intent.{Intent}
use Rattle.counters.specs.declared.refusals.Refusal.{Refusal}
use Rattle.std.specs.Prelude.{Result, Ok, Err}

abbrev pub as_intent : Result Intent Refusal → IntentIn
as_intent (Ok i) = place i.edge.first.0 i.edge.second.0 i.edge.length.0 i.edge.volume.0 i.plan
as_intent (Err x) = refuse (number_of x)
