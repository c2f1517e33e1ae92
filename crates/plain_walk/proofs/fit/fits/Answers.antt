use Rattle.std.proofs.Common.{◌≡◌, ℕ, get_or, refl, arith}
use Rattle.std.proofs.lemmas.Bool.{false≢true}
use Rattle.guided_walk.specs.Guided.{at}
use Rattle.plain_walk.specs.Data.{given_of, visit_of}
use Rattle.plain_walk.specs.Tables.{visits_in}
use Rattle.plain_walk.proofs.FitLemmas.{visit_is, far_not, far_more}
use Rattle.plain_walk.proofs.fit.fits.Goals as goal

pub returns-then-not-fits_visit : goal.returns-then-not-fits_visit
returns-then-not-fits_visit c =
    let t : ℕ = get_or c.args.schedule.now c.loop-thread.thread-index 0 in
    let seen : visit_of c.at-visited.result.now ≡ at (visits_in c.args.table.now) c.next_of-step.result =
    visit_is c.at-visited.result.now (at (visits_in c.args.table.now) c.next_of-step.result) c.at-visited.ensures.seen c.at-visited.ensures.outcome in (
      λ e. absurd (false≢true e),
      λ whole. absurd (far_not c.args.image.now (given_of c.args.rows.now) (visits_in c.args.table.now) c.args.schedule.now c.loop-thread.thread-index t c.loop-thread.done c.loop-thread.writes
          (omega arith) refl c.loop-thread.invariant c.next_of-step.result c.reserved-reservation.result (visit_of c.at-visited.result.now) c.next_of-step.ensures
          c.reserved-reservation.ensures seen (λ h. false≢true (c.if-not-fits_visit.ensures.1 h)) whole),
    )

pub loop-thread-preserved : goal.loop-thread-preserved
loop-thread-preserved c =
    let t : ℕ = get_or c.args.schedule.now c.loop-thread.thread-index 0 in
    let seen : visit_of c.at-visited.result.now ≡ at (visits_in c.args.table.now) c.next_of-step.result =
    visit_is c.at-visited.result.now (at (visits_in c.args.table.now) c.next_of-step.result) c.at-visited.ensures.seen c.at-visited.ensures.outcome in
    far_more c.args.image.now (given_of c.args.rows.now) (visits_in c.args.table.now) c.args.schedule.now c.loop-thread.thread-index t c.loop-thread.done c.loop-thread.writes
    (omega arith) refl c.loop-thread.invariant c.next_of-step.result c.reserved-reservation.result (visit_of c.at-visited.result.now) c.push.new.self c.write_more.new.writes
    c.next_of-step.ensures c.reserved-reservation.ensures seen (c.if-not-fits_visit.ensures.0 refl) c.in_ok-push.ensures c.in_ok-write_more.ensures
