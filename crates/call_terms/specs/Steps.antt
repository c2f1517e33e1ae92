-- A step that makes a call.
use Rattle.std.specs.Prelude.{◌⊎◌, ℕ, List, Option}
use Rattle.elf_image.specs.Layout.{Layout}
use Rattle.rv32_decode.specs.declared.instr.Instr.TheVariants as instr
use Rattle.odr_log.specs.declared.log.Call.{Call}
use Rattle.odr_log.specs.declared.log.Pos.{Pos}
use Rattle.rv_model.specs.declared.state.Note.TheVariants as note
use Rattle.bv_terms.specs.declared.node.TermId.{TermId}
use Rattle.bv_terms.specs.Shapes.{Shape}
use Rattle.bv_terms.specs.Values.{value_at}
use Rattle.bv_terms.specs.Variables.{Occurs}
use Rattle.thread_terms.specs.declared.access.Stepped.{Stepped}
use Rattle.thread_terms.specs.Steps.{IsStepWith, OfRegistersOr}

-- The step at any address, whatever the thread is linked to, of which this call is recorded. A join hands on the value of a
-- term. The registers after the step have no variable but those before it, those of its access, and those of that term.
abbrev pub IsCallStep : Layout → Pos → Call → (joined : ℕ) → (old new : List Shape) → (before after : List TermId) → Stepped → Type 0
IsCallStep image p made joined old new before after stepped =
    (pc : ℕ) (link : Option ℕ) → IsStepWith (λ w. value_at w old joined)
    (λ width number. OfRegistersOr old before stepped.access width number ⊎ Occurs old width number joined)
    image p pc instr.Ecall (note.Called made) link old new before after stepped
