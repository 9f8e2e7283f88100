use Rattle.chains.proofs.SheetLaws.{row_round, row_both}
use Rattle.chains.proofs.NameLaws.{chain_round, chain_both}
use mathlib.Core.Path.{sym, ◌∙◌}
use Rattle.chains.proofs.rows.take_row.Goals as goal

pub returns-then-degree_of-eq2 : goal.returns-then-degree_of-eq2
returns-then-degree_of-eq2 c =
    let two = sym c.degree_of.ensures ∙ c.if-degree_of-eq2.true in
    (row_round _ _ _ _ _ _ _ _ _ _ _ _ _ _ _ _ c.first_end-first.ensures c.second_end-second.ensures c.walk_marking-on.ensures.0 c.length_of-own.ensures c.volume_of-known.ensures c.walk_marking-on.ensures.1 _ two c.ring_row.ensures, chain_round _ _ _ _ _ _ _ _ _ _ c.first_end-first.ensures c.second_end-second.ensures c.walk_marking-on.ensures.2 two)

pub returns : goal.returns
returns c =
    (row_both _ _ _ _ _ _ _ _ _ _ _ _ _ _ _ _ c.first_end-first.ensures c.second_end-second.ensures c.walk_marking-on.ensures.0 c.length_of-own.ensures c.volume_of-known.ensures c.walk_marking-on.ensures.1 _ _ _ _ _ _ (λ e. c.if-degree_of-eq2.false (c.degree_of.ensures ∙ e)) c.walk_marking-back.ensures.0 c.walk_marking-back.ensures.1 c.open_row.ensures, chain_both _ _ _ _ _ _ _ _ _ _ c.first_end-first.ensures c.second_end-second.ensures c.walk_marking-on.ensures.2 (λ e. c.if-degree_of-eq2.false (c.degree_of.ensures ∙ e)) _ _ c.walk_marking-back.ensures.2)
