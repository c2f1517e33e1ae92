use Rattle.std.proofs.Common.{ℕ, Option, subst}
use Rattle.sat_trail.specs.Engines.{IsSettled}
use Rattle.sat_core.proofs.Answering as answering
use Rattle.sat_core.proofs.descent.descend.Goals as goal

pub loop-clash-init : goal.loop-clash-init
loop-clash-init c = answering.from-start _ _ _ _ _ _ _ c.in_ok-engine.ensures

pub decide-requires-clause-settled : goal.decide-requires-clause-settled
decide-requires-clause-settled c =
    subst (λ (clash : Option ℕ). IsSettled c.loop-clash.engine clash) (answering.none-clash c.loop-clash.clash c.loop-clash-test.ensures) c.loop-clash.invariant.settled

pub loop-clash-preserved : goal.loop-clash-preserved
loop-clash-preserved c = answering.from-start _ _ _ _ _ _ _ c.in_ok-next.ensures
