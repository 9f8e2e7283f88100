use Rattle.chains.proofs.VolumeLaws.{unknown_first, unknown_second, both_known}
use Rattle.chains.proofs.volumes.volume_onto.Goals as goal

pub returns-then-known-eq-UNKNOWN : goal.returns-then-known-eq-UNKNOWN
returns-then-known-eq-UNKNOWN c = unknown_first _ _ c.if-known-eq-UNKNOWN.true

pub returns-then-own-eq-UNKNOWN : goal.returns-then-own-eq-UNKNOWN
returns-then-own-eq-UNKNOWN c = unknown_second _ _ _ c.volume_of-own.ensures c.if-own-eq-UNKNOWN.true

pub returns : goal.returns
returns c =
    both_known _ _ _ _ c.volume_of-own.ensures c.if-known-eq-UNKNOWN.false c.if-own-eq-UNKNOWN.false c.add32.ensures
