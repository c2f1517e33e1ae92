use Rattle.std.proofs.Common.{◌≡◌, true, false}
use Rattle.trace_path.proofs.ThreadLemmas.{begun_none, left_none, all_followed}
use Rattle.trace_path.proofs.thread.walk_thread.Goals as goal

pub returns-in_default-2-clause-none : goal.returns-in_default-2-clause-none
returns-in_default-2-clause-none c =
    begun_none c.args.image.now c.args.log.now c.args.thread c.in-Some.start c.in-Some.ensures.some (rw c.in_default-2.is at c.in_ok-front.ensures.none)

pub returns-then-not-is_used_up-clause-none : goal.returns-then-not-is_used_up-clause-none
returns-then-not-is_used_up-clause-none c =
    left_none c.args.image.now c.args.log.now c.args.thread c.in-Some.start c.in-Some-2.front.places c.in-Some-2.front.accesses c.in-Some-2.front.cursor
    c.in-Some.ensures.some (rw c.in-Some-2.is at c.in_ok-front.ensures.some)
    (λ both. let used : c.is_used_up.result ≡ true = c.is_used_up.ensures.1 both in let left : c.is_used_up.result ≡ false = c.if-not-is_used_up.true in cc)

pub returns-clause-some : goal.returns-clause-some
returns-clause-some c =
    let used : c.is_used_up.result ≡ true = c.if-not-is_used_up.false in
    all_followed c.args.image.now c.args.log.now c.args.thread c.in-Some.start c.in-Some-2.front.places c.in-Some-2.front.accesses c.in-Some-2.front.cursor
    c.in-Some.ensures.some (rw c.in-Some-2.is at c.in_ok-front.ensures.some)
    (c.is_used_up.ensures.0 used).0 (c.is_used_up.ensures.0 used).1 (rw c.in-Some-2.is at c.in_ok-front.ensures.few) c.in-Some.ensures.number
