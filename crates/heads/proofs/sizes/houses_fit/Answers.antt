use mathlib.Core.Path.{◌∙◌}
use Rattle.model.specs.Tables.{right_sizes, sizes}
use Rattle.admission.proofs.SizeLaws.{list_differs, list_on}
use Rattle.heads.specs.Others.{tables_fit}
use Rattle.heads.proofs.FitLaws.{fit_last, fit_none, list_end}
use Rattle.heads.proofs.sizes.houses_fit.Goals as goal

pub returns-then-register : goal.returns-then-register
unfolding tables_fit sizes right_sizes
returns-then-register c = fit_none _ _ (list_differs _ _ _ _ c.if-register.true)

pub returns-then-register-2 : goal.returns-then-register-2
unfolding tables_fit sizes right_sizes
returns-then-register-2 c = fit_none _ _ (list_differs _ _ _ _ c.if-register-2.true ∙ list_on _ _ _ _ c.if-register.false)

pub returns-then-register-3 : goal.returns-then-register-3
unfolding tables_fit sizes right_sizes
returns-then-register-3 c = fit_none _ _ (list_differs _ _ _ _ c.if-register-3.true ∙ list_on _ _ _ _ c.if-register-2.false ∙ list_on _ _ _ _ c.if-register.false)

pub returns-then-register-4 : goal.returns-then-register-4
unfolding tables_fit sizes right_sizes
returns-then-register-4 c = fit_none _ _ (list_differs _ _ _ _ c.if-register-4.true ∙ list_on _ _ _ _ c.if-register-3.false ∙ list_on _ _ _ _ c.if-register-2.false ∙ list_on _ _ _ _ c.if-register.false)

pub returns-then-register-5 : goal.returns-then-register-5
unfolding tables_fit sizes right_sizes
returns-then-register-5 c = fit_none _ _ (list_differs _ _ _ _ c.if-register-5.true ∙ list_on _ _ _ _ c.if-register-4.false ∙ list_on _ _ _ _ c.if-register-3.false ∙ list_on _ _ _ _ c.if-register-2.false ∙ list_on _ _ _ _ c.if-register.false)

pub returns-then-register-6 : goal.returns-then-register-6
unfolding tables_fit sizes right_sizes
returns-then-register-6 c = fit_none _ _ (list_differs _ _ _ _ c.if-register-6.true ∙ list_on _ _ _ _ c.if-register-5.false ∙ list_on _ _ _ _ c.if-register-4.false ∙ list_on _ _ _ _ c.if-register-3.false ∙ list_on _ _ _ _ c.if-register-2.false ∙ list_on _ _ _ _ c.if-register.false)

pub returns : goal.returns
unfolding tables_fit sizes right_sizes
returns c = fit_last _ _ (list_end _ _ c.if-register-6.false ∙ list_on _ _ _ _ c.if-register-5.false ∙ list_on _ _ _ _ c.if-register-4.false ∙ list_on _ _ _ _ c.if-register-3.false ∙ list_on _ _ _ _ c.if-register-2.false ∙ list_on _ _ _ _ c.if-register.false)
