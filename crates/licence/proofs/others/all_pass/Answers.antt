use Rattle.std.proofs.Common.{rules}
use mathlib.Core.Path.{◌≡◌, sym, ◌∙◌, subst}
use mathlib.Core.Bool.{true}
use Rattle.model.specs.Tables.{Tables, fits}
use Rattle.tables.specs.Steps.{zeroed}
use Rattle.licence.proofs.OtherLaws.{others_end, others_off, others_on}
use Rattle.licence.proofs.others.all_pass.Goals as goal

pub passes_house-requires : goal.passes_house-requires
passes_house-requires c =
    let e = sym c.loop-h.invariant.same in
    (c.loop-h-test.true, c.requires.0, subst (λ (t : Tables). fits t ≡ true) e c.requires.1, subst (λ (t : Tables). zeroed t ≡ t) e c.requires.2)

pub returns-then-not-passes_house-clause-tells : goal.returns-then-not-passes_house-clause-tells
returns-then-not-passes_house-clause-tells c =
    others_off _ _ _ _ _ c.loop-h-test.true (sym c.passes_house.ensures.tells ∙ c.if-not-passes_house.true) c.loop-h.invariant.rest

pub loop-h-preserved : goal.loop-h-preserved
loop-h-preserved c =
    record {
      lent = search rules;
      same = c.passes_house.ensures.same ∙ c.loop-h.invariant.same;
      rest = others_on _ _ _ _ _ c.loop-h-test.true (sym c.passes_house.ensures.tells ∙ c.if-not-passes_house.false) c.loop-h.invariant.rest;
    }

pub returns-clause-tells : goal.returns-clause-tells
returns-clause-tells c = others_end _ _ _ _ _ c.loop-h-test.false c.loop-h.invariant.rest
