use Rattle.checking.proofs.Refusals.{check_first, check_second, check_same, check_length, check_volume, check_edges, check_limit, check_passed}
use Rattle.checking.specs.Meaning.{as_volume}
use Rattle.counters.proofs.Within.{landed_is, landed_none}
use Rattle.counters.specs.Numbers.{as_millimetres, as_vertex}
use mathlib.Core.Path.{ap, sym, ◌∙◌}
use Rattle.checking.proofs.checks.check_edge.Goals as goal

pub returns-in_default : goal.returns-in_default
returns-in_default c = check_first _ _ _ _ _ _ (landed_none _ _ (ap as_vertex (sym c.in_default.is) ∙ c.landed.ensures))

pub returns-in_default-landed : goal.returns-in_default-landed
returns-in_default-landed c =
    check_second _ _ _ _ _ _ (landed_is _ _ _ (ap as_vertex (sym c.in-Some.is) ∙ c.landed.ensures)).0 (landed_none _ _ (ap as_vertex (sym c.in_default-landed.is) ∙ c.landed-2.ensures))

pub returns-then-first-second : goal.returns-then-first-second
returns-then-first-second c =
    check_same _ _ _ _ _ _ (landed_is _ _ _ (ap as_vertex (sym c.in-Some.is) ∙ c.landed.ensures)).0 (landed_is _ _ _ (ap as_vertex (sym c.in-Some-landed.is) ∙ c.landed-2.ensures)).0 c.if-first-second.true

pub returns-in_default-new : goal.returns-in_default-new
returns-in_default-new c =
    check_length _ _ _ _ _ _ (landed_is _ _ _ (ap as_vertex (sym c.in-Some.is) ∙ c.landed.ensures)).0 (landed_is _ _ _ (ap as_vertex (sym c.in-Some-landed.is) ∙ c.landed-2.ensures)).0 c.if-first-second.false (ap as_millimetres (sym c.in_default-new.is) ∙ c.new.ensures)

pub returns-in_default-check_volume : goal.returns-in_default-check_volume
returns-in_default-check_volume c =
    check_volume _ _ _ _ _ _ (landed_is _ _ _ (ap as_vertex (sym c.in-Some.is) ∙ c.landed.ensures)).0 (landed_is _ _ _ (ap as_vertex (sym c.in-Some-landed.is) ∙ c.landed-2.ensures)).0 c.if-first-second.false _ (ap as_millimetres (sym c.in-Some-new.is) ∙ c.new.ensures) (ap as_volume (sym c.in_default-check_volume.is) ∙ c.check_volume.ensures)

pub returns-then-counts-ge-MAX_EDGES : goal.returns-then-counts-ge-MAX_EDGES
returns-then-counts-ge-MAX_EDGES c =
    check_edges _ _ _ _ _ _ (landed_is _ _ _ (ap as_vertex (sym c.in-Some.is) ∙ c.landed.ensures)).0 (landed_is _ _ _ (ap as_vertex (sym c.in-Some-landed.is) ∙ c.landed-2.ensures)).0 c.if-first-second.false _ (ap as_millimetres (sym c.in-Some-new.is) ∙ c.new.ensures) _ (ap as_volume (sym c.in-Some-check_volume.is) ∙ c.check_volume.ensures) c.if-counts-ge-MAX_EDGES.true

pub returns-then-limit-counts : goal.returns-then-limit-counts
returns-then-limit-counts c =
    check_limit _ _ _ _ _ _ (landed_is _ _ _ (ap as_vertex (sym c.in-Some.is) ∙ c.landed.ensures)).0 (landed_is _ _ _ (ap as_vertex (sym c.in-Some-landed.is) ∙ c.landed-2.ensures)).0 c.if-first-second.false _ (ap as_millimetres (sym c.in-Some-new.is) ∙ c.new.ensures) _ (ap as_volume (sym c.in-Some-check_volume.is) ∙ c.check_volume.ensures) c.if-counts-ge-MAX_EDGES.false c.if-limit-counts.true

pub returns : goal.returns
returns c =
    let first = landed_is _ _ _ (ap as_vertex (sym c.in-Some.is) ∙ c.landed.ensures) in
    let second = landed_is _ _ _ (ap as_vertex (sym c.in-Some-landed.is) ∙ c.landed-2.ensures) in
    check_passed _ _ _ _ _ _ first.0 second.0 c.if-first-second.false _ (ap as_millimetres (sym c.in-Some-new.is) ∙ c.new.ensures) _ (ap as_volume (sym c.in-Some-check_volume.is) ∙ c.check_volume.ensures) _ _ first.1 second.1 c.if-counts-ge-MAX_EDGES.false c.if-limit-counts.false
