use Rattle.std.proofs.Common.{◌≡◌, ℕ, ◌+◌, ◌++◌, ◌∷◌, [], List, None, Some, cond, sym, ◌∙◌, ap, subst, arith}
use Rattle.std.specs.Prelude.{Bool, true, false}
use Rattle.std.specs.Int.{from_bool}
use Rattle.rv_model.specs.declared.walk.Place.{Place}
use Rattle.trace_path.specs.Steps.{next, next_by, stand_at}
use Rattle.trace_path.specs.Followed.{IsFront}
use Rattle.trace_path.proofs.ThreadLemmas.{front_more, front_stuck}
use Rattle.trace_path.proofs.thread.follow.Goals as goal

pub returns-in_default-clause-none : goal.returns-in_default-clause-none
returns-in_default-clause-none c places notes to steps walked =
    let stuck : None ≡ next c.args.image.now (stand_at c.args.log.now c.args.thread c.loop-step.step c.loop-step.cursor) = c.in_default.ensures in
    front_stuck c.args.image.now c.args.log.now c.args.thread c.args.start c.loop-step.step c.loop-step.places c.loop-step.accesses c.loop-step.cursor
    c.loop-step.invariant stuck places notes to (omega arith) walked

bit_is : (n : ℕ) (b : Bool) → n ≡ from_bool b → n ≡ cond {A = ℕ} b 1 0
bit_is n true e = e
bit_is n false e = e

pub loop-step-preserved : goal.loop-step-preserved
loop-step-preserved c =
    let goes : Some (next_by c.args.log.now c.args.thread (c.loop-step.step + 1) c.in-Some.next) ≡ next c.args.image.now (stand_at c.args.log.now c.args.thread c.loop-step.step c.loop-step.cursor) = c.in-Some.ensures in
    let bit : c.from-accesses.result ≡ cond {A = ℕ} c.is_access.result 1 0 = bit_is c.from-accesses.result c.is_access.result c.from-accesses.ensures in
    let pushed : c.push.new.self ≡ c.loop-step.places ++ c.in-Some.next.place ∷ [] = c.in_ok-push.ensures in
    subst (λ (places : List Place). IsFront c.args.image.now c.args.log.now c.args.thread c.args.start (c.loop-step.step + 1) places (c.loop-step.accesses + c.from-accesses.result) c.in-Some.next.cursor)
    (sym pushed)
    (front_more c.args.image.now c.args.log.now c.args.thread c.args.start c.loop-step.step c.loop-step.places c.loop-step.accesses c.loop-step.cursor c.in-Some.next
    c.from-accesses.result c.loop-step.invariant goes (bit ∙ ap (λ (b : Bool). cond {A = ℕ} b 1 0) c.is_access.ensures))
