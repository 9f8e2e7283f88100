use Rattle.opening.proofs.sheets.OpenSheet.gives.Goals as goal

pub returns-in-Row : goal.returns-in-Row
returns-in-Row c = rw c.in-Row.is

pub returns-in-Past : goal.returns-in-Past
returns-in-Past c = rw c.in-Past.is

pub returns-in-Beyond : goal.returns-in-Beyond
returns-in-Beyond c = rw c.in-Beyond.is
