use Rattle.std.proofs.Common.{get_or, refl, arith}
use Rattle.replay_check.proofs.AlongLemmas.{along_first, along_on, along_met, along_unmet}
use Rattle.replay_check.proofs.replay.first_difference.Goals as goal

pub loop-place-init : goal.loop-place-init
loop-place-init c = along_first c.args.log.now c.args.schedule.now c.args.machine.now c.nothing-met.result c.requires.opening c.nothing-met.ensures

pub loop-place-preserved : goal.loop-place-preserved
loop-place-preserved c =
    along_on c.args.machine.now.image c.args.log.now c.args.schedule.now c.loop-place.place (get_or c.args.schedule.now c.loop-place.place 0)
    c.loop-place.machine c.advance.new.machine c.loop-place.met c.advance.new.met c.advance.result c.requires.log c.loop-place.invariant (omega arith) refl
    c.advance.ensures c.if-not-advance.false

pub returns-then-is_all_met : goal.returns-then-is_all_met
returns-then-is_all_met c =
    along_met c.args.machine.now.image c.args.log.now c.args.schedule.now c.loop-place.place c.loop-place.machine c.loop-place.met c.is_all_met.result
    c.requires.log c.loop-place.invariant (omega arith) c.is_all_met.ensures c.if-is_all_met.true

pub returns-else-is_all_met : goal.returns-else-is_all_met
returns-else-is_all_met c =
    along_unmet c.args.machine.now.image c.args.log.now c.args.schedule.now c.loop-place.place c.loop-place.machine c.loop-place.met c.is_all_met.result
    c.requires.log c.loop-place.invariant (omega arith) c.is_all_met.ensures c.if-is_all_met.false (omega arith)
