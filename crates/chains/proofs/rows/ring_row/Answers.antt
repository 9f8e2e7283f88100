use Rattle.chains.proofs.rows.ring_row.Goals as goal

pub returns : goal.returns
returns c = rw (c.from.ensures, c.add_lengths.ensures)
