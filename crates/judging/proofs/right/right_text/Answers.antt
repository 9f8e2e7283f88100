use Rattle.judging.proofs.Judged.{text_given, stop_given}
use Rattle.counters.specs.Answers.{as_stop}
use Rattle.model.specs.Tables.{cleared}
use mathlib.Core.Path.{sym, ap}
use Rattle.judging.proofs.right.right_text.Goals as goal

pub returns-in-Whole : goal.returns-in-Whole
unfolding cleared
returns-in-Whole c =
    text_given _ _ c.grow_list-reading.ensures _ _ c.requires (sym (ap as_stop c.in-Whole.is)) c.put_listing-size.ensures.0 c.put_listing-size.ensures.1

pub returns-in-Stopped : goal.returns-in-Stopped
unfolding cleared
returns-in-Stopped c =
    stop_given _ _ c.grow_list-reading.ensures c.args.out.now _ _ (sym (ap as_stop c.in-Stopped.is))
