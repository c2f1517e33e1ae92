use Rattle.std.proofs.Common.{◌+◌, sym, subst, arith}
use Rattle.trace_path.specs.Followed.{HasWalk, IsGathered}
use Rattle.trace_path.proofs.WholeLemmas.{gathered_more}
use Rattle.trace_path.proofs.threads.gather.Goals as goal

pub returns-in_default-clause-none : goal.returns-in_default-clause-none
returns-in_default-clause-none c all =
    let walk : HasWalk c.args.image.now c.args.log.now c.loop-thread.thread = all c.loop-thread.thread (omega arith) in
    (rw c.in_default.is at c.in_ok-followed.ensures.none) walk.0 walk.1 walk.2

pub loop-thread-preserved : goal.loop-thread-preserved
loop-thread-preserved c =
    subst (IsGathered c.args.image.now c.args.log.now (c.loop-thread.thread + 1)) (sym c.in_ok-add.ensures)
    (gathered_more c.args.image.now c.args.log.now c.loop-thread.thread c.loop-thread.gathered c.in-Some.followed c.loop-thread.invariant
    (rw c.in-Some.is at c.in_ok-followed.ensures.some))
