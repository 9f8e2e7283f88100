use Rattle.std.proofs.Common.{rules, ◌≡◌, min, max}
use Rattle.chains.proofs.rows.open_row.Goals as goal

pub returns : goal.returns
returns c =
    let lower : c.min.result.0 ≡ min c.args.back.at.0 c.args.on.at.0 = search rules in
    let other : c.max.result.0 ≡ max c.args.back.at.0 c.args.on.at.0 = search rules in
    rw (lower, other, c.from.ensures, c.from-2.ensures, c.add_lengths-2.ensures, c.add_lengths.ensures)
