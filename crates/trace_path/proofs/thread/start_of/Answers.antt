use Rattle.std.proofs.Common.{ap, ◌∙◌}
use Rattle.std.specs.List.{find}
use Rattle.odr_log.specs.declared.log.CallRec.{CallRec}
use Rattle.std.specs.Prelude.{List}
use Rattle.rv_model.specs.Walk.{makes}
use Rattle.trace_path.specs.Starts.{entry_in}
use Rattle.trace_path.proofs.StartLemmas.{begins_some}
use Rattle.trace_path.proofs.thread.start_of.Goals as goal

pub returns-else-thread-eq0-clause-some : goal.returns-else-thread-eq0-clause-some
returns-else-thread-eq0-clause-some c =
    begins_some c.args.image.now c.args.log.now c.args.thread c.spawned_at.result c.if-thread-eq0.false
    (c.spawned_at.ensures.value ∙ ap (λ (xs : List CallRec). entry_in (find (λ (r : CallRec). makes c.args.thread r.call) xs)) c.as_slice.ensures)
