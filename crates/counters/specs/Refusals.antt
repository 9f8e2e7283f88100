-- Document 01, "Refusals from the input" and "Refusals from the state", and document 02, "Errors": the number of each.
use Rattle.std.specs.Prelude.{ℕ}
use Rattle.counters.specs.declared.refusals.Refusal.{Refusal}
use Rattle.counters.specs.declared.refusals.Refusal.TheVariants.{NoMark, Version, Cut, UnknownKind, NotLanded, SameVertex, Length, NotRegular, ShortSlice, NotGrown, TooManyVertices, TooManyEdges, WrongSize, Volume, OtherQuote, Beyond, OverLimit, OutOfPlace, NotRemovable, Ended}

abbrev pub number_of : Refusal → ℕ
-- "no mark (list shorter than 3 or other bytes)"
number_of NoMark = 1
-- "version not 1"; document 02, S-4: "2 now means neither 1 nor 2"
number_of Version = 2
-- "cut within header or record"
number_of Cut = 3
-- "kind byte unknown"
number_of UnknownKind = 4
-- "fitting not landed"
number_of NotLanded = 5
-- "both fittings the same"
number_of SameVertex = 6
-- "length 0 or above 100,000"
number_of Length = 7
-- "tag on no coupling, or fitting that is no coupling"
number_of NotRegular = 8
-- "lent sheet, or a C call's answer slice, shorter than the answer needs"
number_of ShortSlice = 9
-- "tables, head included, that growing their own fittings and pipes from empty would not leave"
number_of NotGrown = 21
-- "a 4,097th fitting"
number_of TooManyVertices = 22
-- "a 4,097th pipe"
number_of TooManyEdges = 23
-- "a table of the wrong size"
number_of WrongSize = 25
-- document 02, S-4: "volume above 1,000,000"
number_of Volume = 31
-- document 02, S-5: "the quote differs in any part from one made now"
number_of OtherQuote = 32
-- document 02, S-6: "an opening with more fittings or pipes than the register has, or whose pipes name a fitting beyond its own"
number_of Beyond = 33
-- document 02, S-10: "neither condition holds": the house is not below its share, nor all pipes and the others' unused shares below 4,096
number_of OverLimit = 36
-- document 02, S-10: "a house number above 7 or, when shares are set, a sum above 4,096 or a house not empty"
number_of OutOfPlace = 37
-- document 02, S-11: "no such pipe, or the count at its largest"
number_of NotRemovable = 38
-- document 02, S-11: "sheet so ended"
number_of Ended = 39
