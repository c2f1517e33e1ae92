use Rattle.std.proofs.Common.{◌≡◌, ◌<◌, ℕ, true, length, get_or, refl, sym, ◌∙◌, ap, arith}
use Rattle.std.specs.Option.{is_some}
use Rattle.rv_model.specs.Run.{fits, event_of}
use Rattle.rv_model.specs.Step.{step}
use Rattle.rv_model.proofs.SoFar.{further_by}
use Rattle.plain_machine.proofs.run.first_difference.Goals as goal

pub loop-place-preserved : goal.loop-place-preserved
loop-place-preserved c =
    let t : ℕ = get_or c.args.schedule.now c.loop-place.place 0 in
    let fit : fits c.args.image.now c.args.log.now c.loop-place.state c.as_slice.result.now t ≡ true =
    sym c.in_ok-advance.ensures.fits ∙ ap is_some c.in-Some.is in
    let there : t < length c.loop-place.state.core.threads = rw c.in-Some.is at c.in_ok-advance.ensures.there in
    let after : c.in-Some.next.state ≡ (step c.args.image.now c.loop-place.state t).state = rw c.in-Some.is at c.in_ok-advance.ensures.state in
    let event : c.in-Some.next.event ≡ event_of c.args.image.now c.loop-place.state t = rw c.in-Some.is at c.in_ok-advance.ensures.event in
    further_by c.args.image.now c.args.log.now c.args.schedule.now c.loop-place.place t c.loop-place.state c.in-Some.next.state c.loop-place.happened
    c.as_slice.result.now c.push.new.self c.in-Some.next.event c.loop-place.invariant (omega arith) refl c.as_slice.ensures fit there after event
    c.in_ok-push-in-Some.ensures
