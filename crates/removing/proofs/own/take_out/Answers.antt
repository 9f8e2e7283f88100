use Rattle.removing.proofs.RemoveLaws.{out_done, out_refused, sizes_kept, viewed}
use Rattle.insertion.specs.Meaning.{as_answer}
use Rattle.lent.specs.Lent.{of_lent}
use mathlib.Core.Path.{ap}
use Rattle.removing.proofs.own.take_out.Goals as goal

pub returns-in-Ok-clause-takes : goal.returns-in-Ok-clause-takes
returns-in-Ok-clause-takes c =
    λ q. out_done (of_lent c.args.register.now) _ _ _ _ _ _ (viewed _ _ _ _ _ _ c.view.ensures c.land_rest.ensures.lands) _ _ _ (ap as_answer c.in-Ok.is) (sizes_kept c.land_rest.ensures.lent) c.settle.ensures.settles q

pub returns-in-Err-clause-takes : goal.returns-in-Err-clause-takes
returns-in-Err-clause-takes c =
    λ q. out_refused (of_lent c.args.register.now) _ _ _ _ _ _ (viewed _ _ _ _ _ _ c.view.ensures c.land_rest.ensures.lands) _ _ (ap as_answer c.in-Err.is) c.clear_tables.ensures.cleared
