-- What the enum and the struct of this crate mean.
use Rattle.model.specs.Tables.{Tables}
use Rattle.counters.specs.Refusals.{number_of}
use Rattle.counters.specs.Answers.{as_counts, as_stop}
use Rattle.list.specs.Reading.{as_place}
use Rattle.landing.specs.Records.{StepIn, ended, went_on, stopped_in, ReadingIn, reading_in}
use Rattle.landing.specs.declared.records.Step.{Step}
use Rattle.landing.specs.declared.records.Step.TheVariants.{End, Landed, Refused}
use Rattle.landing.specs.declared.records.Reading.{Reading}

abbrev pub as_step : Step → StepIn
as_step End = ended
as_step (Landed i at) = went_on (as_counts i.counts) i.rings (as_place at)
as_step (Refused x) = stopped_in (number_of x)

abbrev pub as_reading : Tables → Reading → ReadingIn
as_reading t r = reading_in t (as_counts r.counts) (as_stop r.stop)
