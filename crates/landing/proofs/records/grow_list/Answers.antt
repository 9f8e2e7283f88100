use mathlib.Core.Path.{◌≡◌, ap, ◌∙◌}
use Rattle.std.proofs.Common.{rules}
use Rattle.model.specs.Tables.{Tables, no_counts}
use Rattle.counters.specs.Answers.{as_stop, counts}
use Rattle.tables.specs.Meaning.{tables}
use Rattle.lent.specs.Lent.{of_lent}
use Rattle.landing.specs.Records.{reading_in}
use Rattle.landing.proofs.records.grow_list.Goals as goal

pub returns : goal.returns
unfolding no_counts
returns c =
    let list = c.land_list-stop in
    let back : tables _ _ _ _ _ _ ≡ of_lent list.new.register = search rules in
    ap (λ (t : Tables). reading_in t (counts list.new.vertices list.new.edges list.new.blocks list.new.relabellings) (as_stop list.result)) back ∙ list.ensures.lands
