use Rattle.std.proofs.Common.{◌≡◌, ◌≢◌, ◌∙◌, rules, sym}
use Rattle.odr_task.specs.Refusals.{reason_of}
use Rattle.odr_task.proofs.Settling.{reported_refusal}
use Rattle.odr_task.proofs.report.report.Goals as goal

pub returns-in-Ok-clause-told : goal.returns-in-Ok-clause-told
returns-in-Ok-clause-told g c =
    λ (not_memory : c.tell.result ≢ 1) (not_device : c.tell.result ≢ 6).
    let told = c.tell.ensures.told not_memory not_device in
    reported_refusal c.args.stop c.in-Refused.refusal c.tell.result (g.E.Sink.written c.args.err.now) (g.E.Sink.written c.tell.new.err) c.as_str.result.now c.in-Refused.is
    (told.0 ∙ c.status.ensures) told.1 (c.as_str.ensures.value ∙ c.in-Ok.ensures)
