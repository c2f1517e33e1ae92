use Rattle.std.proofs.Common.{sym, ◌∙◌}
use Rattle.rv_model.specs.Step.{reach_of}
use Rattle.guest_mem.specs.Blocks.{cells_of}
use Rattle.guest_calls.specs.Table.{buffer_in}
use Rattle.guest_calls.specs.declared.call.CallArgs.{CallArgs}
use Rattle.model_rows.proofs.calls_in_place.call.Goals as goal

pub apply-requires-clause-unblocked : goal.apply-requires-clause-unblocked
apply-requires-clause-unblocked c =
    let args : CallArgs = record { number = c.args.number; a0 = c.args.a0; a1 = c.args.a1 } in
    let same = c.blocked.ensures (reach_of (cells_of c.args.memory.now) (buffer_in args)) in
    sym same ∙ c.if-blocked.false
