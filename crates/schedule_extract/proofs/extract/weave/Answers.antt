use Rattle.std.specs.Prelude.{ℕ, ◌<◌, length, replicate}
use Rattle.std.proofs.Common.{rules, arith}
use Rattle.std.proofs.lemmas.List.{get_or-replicate}
use Rattle.schedule_extract.proofs.Passing.{none_passed, passed_step}
use Rattle.schedule_extract.proofs.Standing.{counted_thread}
use Rattle.schedule_extract.proofs.Weaving.{Scene, all_woven, left_less, none_woven, woven_more}
use Rattle.schedule_extract.specs.Going.{head}
use Rattle.schedule_extract.proofs.extract.weave.Goals as goal

pub loop-thread-init : goal.loop-thread-init
loop-thread-init c = record {
  passed = none_passed c.args.pairs.now (replicate {A = ℕ} 256 0) (replicate {A = ℕ} 256 0) (λ t room. get_or-replicate 256 t 0 0 room);
  weaving = none_woven c.args.log.now c.args.pairs.now c.args.exit c.new-schedule.result c.new-schedule.ensures;
}

pub loop-thread-smaller : goal.loop-thread-smaller
loop-thread-smaller c =
    let room : c.in-Some.thread < 256 = search rules in
    let within : c.in-Some.thread < length c.loop-thread.next = omega (arith, room, c.loop-thread.invariant.weaving.long) in
    left_less c.args.log.now c.loop-thread.next c.in-Some.thread (length c.args.log.now.threads) within c.in-Some.ensures.ready.0.0
    (counted_thread c.args.log.now (head c.loop-thread.next c.in-Some.thread) c.in-Some.ensures.ready.0.0)

pub loop-thread-preserved : goal.loop-thread-preserved
loop-thread-preserved c =
    let room : c.in-Some.thread < 256 = search rules in
    let within : c.in-Some.thread < length c.loop-thread.next = omega (arith, room, c.loop-thread.invariant.weaving.long) in
    record {
      passed = passed_step c.args.pairs.now c.loop-thread.next c.find_ready.new.marks c.in-Some.thread within c.in-Some.ensures.passed;
      weaving =
          woven_more c.args.log.now c.args.pairs.now c.args.exit c.loop-thread.next c.loop-thread.schedule _ c.in-Some.thread
          room c.in_ok-push.ensures c.in-Some.ensures.ready
          c.loop-thread.invariant.weaving;
    }

pub returns : goal.returns
returns c =
    let scene : Scene c.args.log.now c.args.pairs.now c.args.exit = record {
      fit = c.requires.of_log.fit;
      exit_is = c.requires.exit;
      ends = c.requires.exits_end;
      counted = c.requires.counted;
      go_on = c.requires.go_on;
      ring = c.requires.no_ring;
    } in
    all_woven c.args.log.now c.args.pairs.now c.args.exit c.loop-thread.next c.loop-thread.schedule scene
    c.in_default.ensures.none c.loop-thread.invariant.weaving
