use Rattle.std.proofs.Common.{◌≡◌, ℕ, sym, subst}
use Rattle.rv32_decode.specs.declared.instr.Instr.{Instr}
use Rattle.rv_model.specs.declared.state.Note as model
use Rattle.rv_model.specs.declared.state.Note.TheVariants as shown
use Rattle.rv_model.specs.declared.hearing.Heard.{Heard}
use Rattle.rv_model.specs.Calls.{kind_at, record_of}
use Rattle.rv_model.specs.Instruction.{act}
use Rattle.guest_machine.specs.Notes.{note_of}
use Rattle.guest_machine.specs.Spans.{SpansWrites, CallSpans}
use Rattle.guest_machine.proofs.span.written.Goals as goal

pub returns-in-Ecall : goal.returns-in-Ecall
unfolding act
returns-in-Ecall c =
    let P : Instr → Type 0 = λ (i : Instr). (heard : Heard) → heard.won ≡ c.args.won → SpansWrites (act c.args.before.now i heard) (note_of c.args.note.now) c.written_by_call.result in
    let spans = λ (reserved : ℕ) (shown : model.Note) (same : shown ≡ note_of c.args.note.now).
    (let Q : model.Note → Type 0 = λ (n : model.Note). CallSpans c.args.before.now n c.written_by_call.result reserved in subst Q (sym same) (c.written_by_call.ensures reserved)) in
    subst P (sym c.in-Ecall.is) (λ (heard : Heard) (won : heard.won ≡ c.args.won) (own : shown.Called (record_of (kind_at c.args.before.now heard.reach) heard.reply) ≡ note_of c.args.note.now) (reserved : ℕ).
    spans reserved (shown.Called (record_of (kind_at c.args.before.now heard.reach) heard.reply)) own)
