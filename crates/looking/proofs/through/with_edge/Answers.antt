use Rattle.std.proofs.Common.{rules, ◌≡◌, min}
use Rattle.looking.proofs.LookingLaws.{edge_before, edge_behind}
use Rattle.looking.proofs.through.with_edge.Goals as goal

pub returns-then-wearer-eq0 : goal.returns-then-wearer-eq0
returns-then-wearer-eq0 c =
    let low : c.min-lowest.result.0 ≡ min c.args.d.0 c.args.known.lowest.0 = search rules in
    edge_before _ _ _ _ _ _ _ _ _ _ _ _ c.wearer_with-wearer.ensures c.length_of-own.ensures low _ c.if-wearer-eq0.true c.add_lengths.ensures

pub returns : goal.returns
returns c =
    let low : c.min-lowest.result.0 ≡ min c.args.d.0 c.args.known.lowest.0 = search rules in
    edge_behind _ _ _ _ _ _ _ _ _ _ _ _ c.wearer_with-wearer.ensures c.length_of-own.ensures low _ c.if-wearer-eq0.false c.add_lengths-2.ensures
