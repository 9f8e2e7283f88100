use Rattle.holding.proofs.ReplayLaws.{replay_full, replay_all}
use native.Mathlib.Omega.{arith}
use Rattle.holding.proofs.replay.regrow.Goals as goal

pub returns-then-own-gt-COUNT-clause-lands : goal.returns-then-own-gt-COUNT-clause-lands
returns-then-own-gt-COUNT-clause-lands c = replay_full _ _ _ _ _ c.if-own-gt-COUNT.true

pub returns-clause-lands : goal.returns-clause-lands
returns-clause-lands c =
    replay_all _ _ _ _ _ _ (omega (arith, c.if-own-gt-COUNT.false)) c.replay.ensures.lands
