-- Steps of instructions that ask nothing from outside their thread.
use Rattle.std.specs.Prelude.{◌≡◌, ◌↔◌, ℕ, Bool, false, List}
use Rattle.rv32_decode.specs.declared.instr.Instr.{Instr}
use Rattle.rv_model.specs.declared.state.Local.{Local}
use Rattle.rv_model.specs.declared.state.Note.{Note}
use Rattle.rv_model.specs.declared.state.Note.TheVariants as note
use Rattle.rv_model.specs.declared.hearing.Heard.{Heard}
use Rattle.rv_model.specs.Instruction.{act}
use Rattle.rv_model.specs.Noted.{note_in}
use Rattle.bv_terms.specs.declared.node.TermId.{TermId}
use Rattle.bv_terms.specs.Shapes.{Shape}
use Rattle.bv_terms.specs.Values.{Assignment, value_at}
use Rattle.step_terms.specs.Made.{IsTerm}
use Rattle.thread_terms.specs.Standing.{OccursInRegisters, StandFor}
use Rattle.thread_terms.specs.Steps.{HasVariables, IfGoes, RegistersHave}

-- Where the terms stood for the registers of a thread at this address, they stand for them after the instruction, if it goes on.
-- They have no further variable.
pub record GoesOn (old new : List Shape) (before after : List TermId) (pc : ℕ) (instruction : Instr) : Type 0 where
  pub stands : (w : Assignment) (local : Local) (heard : Heard) → local.pc ≡ pc → StandFor w old before local
      → IfGoes (act local instruction heard) (StandFor w new after)
  pub variables : RegistersHave (OccursInRegisters old before) new after

-- A term of one bit, which is 1 exactly where the instruction shows what is recorded, and has no variable but those of the
-- registers.
pub record Constrains (old new : List Shape) (before : List TermId) (pc : ℕ) (instruction : Instr) (shown : Note) (id : ℕ) : Type 0 where
  pub bit : IsTerm new 1 id
  pub variables : HasVariables (OccursInRegisters old before) new id
  pub meets : (w : Assignment) (local : Local) (heard : Heard) → local.pc ≡ pc → StandFor w old before local
      → (value_at w new id ≡ 1) ↔ (note_in (act local instruction heard) ≡ shown)

-- what is recorded of a branch, and of a jump to an address that a register tells
abbrev pub was_taken : Note → Bool
was_taken (note.Branch taken) = taken
was_taken other = false

abbrev pub target_of : Note → ℕ
target_of (note.Jump target) = target
target_of other = 0
