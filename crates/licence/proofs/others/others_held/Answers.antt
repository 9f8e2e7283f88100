use Rattle.licence.proofs.OtherLaws.{zeros_again, zeros_fit}
use mathlib.Core.Path.{◌∙◌}
use Rattle.licence.proofs.others.others_held.Goals as goal

pub all_pass-requires : goal.all_pass-requires
all_pass-requires c =
    (c.requires.0, zeros_fit _ _ c.requires.1 c.clear_tables.ensures.cleared, zeros_again _ _ c.clear_tables.ensures.cleared)

pub returns-clause-cleared : goal.returns-clause-cleared
returns-clause-cleared c = c.all_pass.ensures.same ∙ c.clear_tables.ensures.cleared
