use Rattle.std.proofs.Common.{ℕ, ap, ◌∙◌}
use Rattle.rv_model.specs.Calls.{answer_of}
use Rattle.rv_model.specs.Step.{reach_of}
use Rattle.guest_mem.specs.Blocks.{cells_of}
use Rattle.guest_calls.specs.Notes.{call_of}
use Rattle.guest_calls.specs.Table.{buffer_in}
use Rattle.guest_calls.proofs.call_state.CallState.apply.Goals as goal

-- What a join hands on does not depend on what the buffer meets.
pub returns-clause-answer : goal.returns-clause-answer
returns-clause-answer c =
    c.answer_of-a0.ensures
    ∙ ap (λ (joined : ℕ). answer_of c.args.tid joined (call_of c.note-note.result) c.args.args.a0)
    (c.join_value.ensures (reach_of (cells_of c.args.mem.now) (buffer_in c.args.args)))
