use mathlib.Core.Path.{◌∙◌}
use Rattle.model.specs.Tables.{fits, right_sizes, sizes}
use Rattle.admission.proofs.SizeLaws.{list_differs, list_on, list_last}
use Rattle.admission.proofs.sizes.sizes_fit.Goals as goal

pub returns-then-t-ne-VERTICES : goal.returns-then-t-ne-VERTICES
unfolding fits sizes right_sizes
returns-then-t-ne-VERTICES c = list_differs _ _ _ _ c.if-t-ne-VERTICES.true

pub returns-then-t-ne-SIDES : goal.returns-then-t-ne-SIDES
unfolding fits sizes right_sizes
returns-then-t-ne-SIDES c = list_differs _ _ _ _ c.if-t-ne-SIDES.true ∙ list_on _ _ _ _ c.if-t-ne-VERTICES.false

pub returns-then-t-ne-ENDS : goal.returns-then-t-ne-ENDS
unfolding fits sizes right_sizes
returns-then-t-ne-ENDS c = list_differs _ _ _ _ c.if-t-ne-ENDS.true ∙ list_on _ _ _ _ c.if-t-ne-SIDES.false ∙ list_on _ _ _ _ c.if-t-ne-VERTICES.false

pub returns-then-t-ne-EDGES : goal.returns-then-t-ne-EDGES
unfolding fits sizes right_sizes
returns-then-t-ne-EDGES c = list_differs _ _ _ _ c.if-t-ne-EDGES.true ∙ list_on _ _ _ _ c.if-t-ne-ENDS.false ∙ list_on _ _ _ _ c.if-t-ne-SIDES.false ∙ list_on _ _ _ _ c.if-t-ne-VERTICES.false

pub returns-then-t-ne-EDGES-2 : goal.returns-then-t-ne-EDGES-2
unfolding fits sizes right_sizes
returns-then-t-ne-EDGES-2 c = list_differs _ _ _ _ c.if-t-ne-EDGES-2.true ∙ list_on _ _ _ _ c.if-t-ne-EDGES.false ∙ list_on _ _ _ _ c.if-t-ne-ENDS.false ∙ list_on _ _ _ _ c.if-t-ne-SIDES.false ∙ list_on _ _ _ _ c.if-t-ne-VERTICES.false

pub returns : goal.returns
unfolding fits sizes right_sizes
returns c = list_last _ _ ∙ list_on _ _ _ _ c.if-t-ne-EDGES-2.false ∙ list_on _ _ _ _ c.if-t-ne-EDGES.false ∙ list_on _ _ _ _ c.if-t-ne-ENDS.false ∙ list_on _ _ _ _ c.if-t-ne-SIDES.false ∙ list_on _ _ _ _ c.if-t-ne-VERTICES.false
