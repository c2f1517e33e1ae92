use Rattle.std.proofs.Common.{◌≡◌, ℕ, ◌+◌, suc, List, ◌++◌, map, take, drop, set, get_or, ◌∙◌, ap, arith}
use Rattle.rv_model.specs.declared.state.Thread.{Thread}
use Rattle.rv_model.specs.Thread.{no_thread}
use Rattle.guest_machine.specs.Spans.{touches_span, losing_by}
use Rattle.guest_machine.proofs.SpanLemmas.{changed_in_place, seen_in_place}
use Rattle.guest_machine.proofs.span.end_reservations.Goals as goal

pub loop-thread-preserved : goal.loop-thread-preserved
loop-thread-preserved c =
    let f : Thread → Thread = losing_by (touches_span c.args.span) in
    let i : ℕ = c.loop-thread.thread-index in
    let xs : List Thread = c.args.threads.now in
    let seen : c.end_reservation.new.thread ≡ f (get_or xs i no_thread) =
    c.end_reservation.ensures ∙ ap f (ap (λ (ts : List Thread). get_or ts i no_thread) c.loop-thread.invariant ∙ seen_in_place f xs i no_thread c.loop-thread-test.true) in
    let next : suc i ≡ i + 1 = omega arith in
    ap (λ (ts : List Thread). set ts i c.end_reservation.new.thread) c.loop-thread.invariant
    ∙ ap (λ (t : Thread). set (map f (take i xs) ++ drop i xs) i t) seen
    ∙ changed_in_place f xs i no_thread c.loop-thread-test.true
    ∙ ap (λ (k : ℕ). map f (take k xs) ++ drop k xs) next
