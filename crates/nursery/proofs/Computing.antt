-- `unfolding settling` opens every definition on houses, licences, removals and series at once, beside those of `model`, for a value that the
-- checker computes. The tables of eight houses are long, and little of them is computed (`Values.bars`).
use Rattle.model.proofs.Computing.{computing}
use Rattle.model.proofs.Values.{lists}
use Rattle.nursery.specs.Licence.{reserves, overfull, unused, may_land, limit_of}
use Rattle.nursery.specs.Removal.{without, changes_from, change_numbers, remove, landings_of, landed_anew}
use Rattle.nursery.specs.Calls.{read_effect, commit_effect, remove_effect, effect, brings_eight, grown_by, own_of, edges_but, any_some, out_of_place}
use Rattle.nursery.specs.Series.{register_at, removals_at, edges_at, vertices_at, limit_at, house_at, put_at, shared_out, empty_site, made_fits, admitted, settles, after_call, after, answered, reply_to, accepts_rest, accepts, accepts_in, accepts_made, since}

unfoldable pub settling : Unit {0}
unfolding computing lists reserves overfull unused may_land limit_of without changes_from change_numbers remove landings_of landed_anew read_effect commit_effect remove_effect effect brings_eight grown_by own_of edges_but any_some out_of_place register_at removals_at edges_at vertices_at limit_at house_at put_at shared_out empty_site made_fits admitted settles after_call after answered reply_to accepts_rest accepts accepts_in accepts_made since
settling = tt
