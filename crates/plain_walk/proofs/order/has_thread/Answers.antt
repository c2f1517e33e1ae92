use Rattle.std.proofs.Common.{◌≡◌, Some, sym, ◌∙◌, arith}
use Rattle.guided_walk.specs.Told.{Told}
use Rattle.walk_lists.specs.Data.{told_of}
use Rattle.plain_walk.proofs.OrderLemmas.{step_before, step_needed, made_before, spawn_needed}
use Rattle.plain_walk.proofs.order.has_thread.Goals as goal

pub returns-then-at-gt0 : goal.returns-then-at-gt0
returns-then-at-gt0 c =
    let told : Told = told_of c.args.notes.now c.args.calls.now in (
      λ t. step_before told c.args.done.now c.args.at.thread c.args.at.step c.if-at-gt0.true (c.contains.ensures.0 t),
      λ all. c.contains.ensures.1 (step_needed told c.args.done.now c.args.at.thread c.args.at.step c.if-at-gt0.true all),
    )

pub returns-in-Some : goal.returns-in-Some
returns-in-Some c =
    let told : Told = told_of c.args.notes.now c.args.calls.now in
    let made : Some c.in-Some.spawn ≡ told.maker c.args.at.thread = sym c.in-Some.is ∙ c.maker_of.ensures in (
      λ t. made_before told c.args.done.now c.args.at.thread c.args.at.step c.in-Some.spawn (omega (arith, c.if-at-gt0.false)) made
          (c.contains-in-Some.ensures.0 t),
      λ all. c.contains-in-Some.ensures.1 (spawn_needed told c.args.done.now c.args.at.thread c.args.at.step c.in-Some.spawn
          (omega (arith, c.if-at-gt0.false)) (λ e. omega (arith, e, c.if-at-eq0.false)) made all),
    )
