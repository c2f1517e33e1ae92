-- The invariant holds in the beginning and after each step, and where the run ends the log is the seeded run's.
use Rattle.std.proofs.Common.{◌≡◌, ◌∙◌, ◌≤◌, ℕ, length, List, arith, sym, ap, subst}
use Rattle.std.specs.Prelude.{Option, IfSome, OnSome, IfNone}
use Rattle.odr_log.specs.declared.log.End.{End}
use Rattle.odr_log.specs.declared.log.Log.{Log}
use Rattle.odr_log.specs.declared.log.ThreadLog.{ThreadLog}
use Rattle.odr_log.specs.declared.log.CallRec.{CallRec}
use Rattle.odr_log.specs.Grammar.{IsValid}
use Rattle.rv_model.specs.Run.{end_of}
use Rattle.guest_machine.specs.Whole.{Whole}
use Rattle.guest_sched.specs.Words.{next_generator}
use Rattle.recorder.specs.declared.log_so_far.LogSoFar.{LogSoFar}
use Rattle.recorder.specs.Added.{Advances}
use Rattle.recorder.proofs.Holds.{has_room, has_logs, started, further, IsKept, kept_at_limit, kept_at_stop}
use Rattle.recorder.proofs.run.seeded_log.Goals as goal

pub loop-place-init : goal.loop-place-init
loop-place-init c =
    started c.args.image.now c.args.tape.items c.args.seed c.args.limit c.in_ok-machine.machine c.new-chooser.result c.in_ok-log.log.threads.items c.in_ok-log.log.calls
    c.in_ok-machine.ensures.image c.in_ok-machine.ensures.opening c.new-chooser.ensures c.in_ok-log.ensures.threads c.in_ok-log.ensures.calls

pub advance-requires-clause-room : goal.advance-requires-clause-room
advance-requires-clause-room c = has_room _ _ _ _ _ _ _ _ _ c.loop-place.invariant (omega arith)

pub advance-requires-clause-logs : goal.advance-requires-clause-logs
advance-requires-clause-logs c = has_logs _ _ _ _ _ _ _ _ _ c.loop-place.invariant

pub loop-place-preserved : goal.loop-place-preserved
loop-place-preserved c =
    further c.args.image.now c.args.tape.items c.args.seed c.args.limit c.loop-place._place c.in-Some.field-0 c.loop-place.machine c.advance.new.machine c.loop-place.chooser c.advance.new.chooser
    c.loop-place.log.threads.items c.advance.new.log.threads.items c.loop-place.log.calls c.advance.new.log.calls c.loop-place.invariant (omega arith)
    (λ state stands words. c.in_ok-advance.ensures.chosen c.args.seed c.loop-place._place state stands words ∙ c.in-Some.is)
    (subst (λ (o : Option ℕ). IfSome o (λ thread. Advances c.loop-place.machine c.loop-place.log.threads.items c.loop-place.log.calls thread c.advance.new.machine c.advance.new.log.threads.items c.advance.new.log.calls))
    c.in-Some.is c.in_ok-advance.ensures.advances)
    (subst (λ (o : Option ℕ). OnSome o (c.advance.new.chooser ≡ next_generator c.loop-place.chooser)) c.in-Some.is c.in_ok-advance.ensures.drawn)
    (subst (λ (o : Option ℕ). OnSome o (length c.advance.new.machine.core.threads ≤ 8)) c.in-Some.is c.in_ok-advance.ensures.few)

abbrev made : List ThreadLog → List CallRec → End → Log
made threads calls end = record { version = 1; threads = threads; calls = calls; end = end }

pub returns-in-None-clause-log : goal.returns-in-None-clause-log
returns-in-None-clause-log c =
    let machine_same : c.advance.new.machine ≡ c.loop-place.machine =
    subst (λ (o : Option ℕ). IfNone o (c.advance.new.machine ≡ c.loop-place.machine)) c.in-None.is c.in_ok-advance.ensures.machine_stays in
    let log_same : c.advance.new.log ≡ c.loop-place.log =
    subst (λ (o : Option ℕ). IfNone o (c.advance.new.log ≡ c.loop-place.log)) c.in-None.is c.in_ok-advance.ensures.log_stays in
    let made_is : c.ended.result ≡ made c.loop-place.log.threads.items c.loop-place.log.calls (end_of c.loop-place.machine.core) =
    c.ended.ensures
    ∙ (ap (λ (e : End). made c.advance.new.log.threads.items c.advance.new.log.calls e) c.end.ensures
    ∙ (ap (λ (m : Whole). made c.advance.new.log.threads.items c.advance.new.log.calls (end_of m.core)) machine_same
    ∙ ap (λ (l : LogSoFar). made l.threads.items l.calls (end_of c.loop-place.machine.core)) log_same)) in
    let kept : IsKept c.args.image.now c.args.tape.items c.args.seed c.args.limit (made c.loop-place.log.threads.items c.loop-place.log.calls (end_of c.loop-place.machine.core)) =
    kept_at_stop c.args.image.now c.args.tape.items c.args.seed c.args.limit c.loop-place._place c.loop-place.machine c.loop-place.chooser
    c.loop-place.log.threads.items c.loop-place.log.calls c.loop-place.invariant (omega arith)
    (λ state stands words. c.in_ok-advance.ensures.chosen c.args.seed c.loop-place._place state stands words ∙ c.in-None.is) in
    made_is ∙ kept.log_is

pub returns-in-None-clause-valid : goal.returns-in-None-clause-valid
returns-in-None-clause-valid c =
    let machine_same : c.advance.new.machine ≡ c.loop-place.machine =
    subst (λ (o : Option ℕ). IfNone o (c.advance.new.machine ≡ c.loop-place.machine)) c.in-None.is c.in_ok-advance.ensures.machine_stays in
    let log_same : c.advance.new.log ≡ c.loop-place.log =
    subst (λ (o : Option ℕ). IfNone o (c.advance.new.log ≡ c.loop-place.log)) c.in-None.is c.in_ok-advance.ensures.log_stays in
    let made_is : c.ended.result ≡ made c.loop-place.log.threads.items c.loop-place.log.calls (end_of c.loop-place.machine.core) =
    c.ended.ensures
    ∙ (ap (λ (e : End). made c.advance.new.log.threads.items c.advance.new.log.calls e) c.end.ensures
    ∙ (ap (λ (m : Whole). made c.advance.new.log.threads.items c.advance.new.log.calls (end_of m.core)) machine_same
    ∙ ap (λ (l : LogSoFar). made l.threads.items l.calls (end_of c.loop-place.machine.core)) log_same)) in
    let kept : IsKept c.args.image.now c.args.tape.items c.args.seed c.args.limit (made c.loop-place.log.threads.items c.loop-place.log.calls (end_of c.loop-place.machine.core)) =
    kept_at_stop c.args.image.now c.args.tape.items c.args.seed c.args.limit c.loop-place._place c.loop-place.machine c.loop-place.chooser
    c.loop-place.log.threads.items c.loop-place.log.calls c.loop-place.invariant (omega arith)
    (λ state stands words. c.in_ok-advance.ensures.chosen c.args.seed c.loop-place._place state stands words ∙ c.in-None.is) in
    subst IsValid (sym made_is) kept.valid

pub returns-clause-log : goal.returns-clause-log
returns-clause-log c =
    let made_is : c.ended-2.result ≡ made c.loop-place.log.threads.items c.loop-place.log.calls (end_of c.loop-place.machine.core) =
    c.ended-2.ensures ∙ ap (λ (e : End). made c.loop-place.log.threads.items c.loop-place.log.calls e) c.end-2.ensures in
    let kept : IsKept c.args.image.now c.args.tape.items c.args.seed c.args.limit (made c.loop-place.log.threads.items c.loop-place.log.calls (end_of c.loop-place.machine.core)) =
    kept_at_limit c.args.image.now c.args.tape.items c.args.seed c.args.limit c.loop-place._place c.loop-place.machine c.loop-place.chooser
    c.loop-place.log.threads.items c.loop-place.log.calls c.loop-place.invariant (omega arith) (omega arith) in
    made_is ∙ kept.log_is

pub returns-clause-valid : goal.returns-clause-valid
returns-clause-valid c =
    let made_is : c.ended-2.result ≡ made c.loop-place.log.threads.items c.loop-place.log.calls (end_of c.loop-place.machine.core) =
    c.ended-2.ensures ∙ ap (λ (e : End). made c.loop-place.log.threads.items c.loop-place.log.calls e) c.end-2.ensures in
    let kept : IsKept c.args.image.now c.args.tape.items c.args.seed c.args.limit (made c.loop-place.log.threads.items c.loop-place.log.calls (end_of c.loop-place.machine.core)) =
    kept_at_limit c.args.image.now c.args.tape.items c.args.seed c.args.limit c.loop-place._place c.loop-place.machine c.loop-place.chooser
    c.loop-place.log.threads.items c.loop-place.log.calls c.loop-place.invariant (omega arith) (omega arith) in
    subst IsValid (sym made_is) kept.valid
