use Rattle.std.proofs.Common.{◌≡◌, drop}
use Rattle.std.specs.List.{find}
use Rattle.odr_log.specs.declared.log.CallRec.{CallRec}
use Rattle.rv_model.specs.Walk.{makes}
use Rattle.trace_path.proofs.thread.spawned_at.Given as goal

abbrev pub invariant-loop-r : goal.invariant-loop-r
invariant-loop-r l = find (λ (r : CallRec). makes l.thread r.call) (drop l.r-index l.calls) ≡ find (λ (r : CallRec). makes l.thread r.call) l.calls
