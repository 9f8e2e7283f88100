use Rattle.parting.proofs.Splits.{ends_neither, ends_one, ends_both}
use mathlib.Core.Path.{refl}
use Rattle.parting.proofs.splitting.split_ends.Goals as goal

pub returns-in-Neither : goal.returns-in-Neither
returns-in-Neither c = ends_neither _ _ _ _ _ _ _ _ _ _ _ _ _ _ c.in-Neither.is refl refl c.new.ensures

pub returns-in-One : goal.returns-in-One
returns-in-One c =
    ends_one _ _ _ _ _ _ _ _ _ _ _ _ _ _ _ _ c.in-One.is c.split_by.ensures

pub returns-in-Both : goal.returns-in-Both
returns-in-Both c =
    ends_both _ _ _ _ _ _ _ _ _ _ _ _ _ _ c.in-Both.is c.split_both.ensures
