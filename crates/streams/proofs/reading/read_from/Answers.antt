use Rattle.std.specs.Prelude.{Ok}
use Rattle.std.proofs.Common.{rules, sym, ap, ◌∙◌}
use Rattle.streams.proofs.Input.{step_taken}
use Rattle.streams.proofs.reading.read_from.Goals as goal

pub loop-done-preserved : goal.loop-done-preserved
loop-done-preserved g c = record {
  within = search rules;
  same_length = search rules;
  taken = step_taken c.loop-done.done c.in-Some.count _ _ _ _ _ c.loop-done.list c.read-got.new.buf (ap Ok (sym c.in-Some.is) ∙ c.in_ok-count.ensures) c.loop-done.invariant.within c.loop-done.invariant.taken c.read-got.ensures.bound c.read-got.ensures.bytes;
}
