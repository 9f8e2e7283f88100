-- What the struct of this crate means.
use Rattle.looking.specs.Answers.{as_found}
use Rattle.holders.specs.Newest as newest
use Rattle.holders.specs.declared.newest.Searched.{Searched}

abbrev pub as_sought : Searched → newest.Sought
as_sought s = newest.sought (as_found s.found) s.taken
