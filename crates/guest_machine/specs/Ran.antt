-- One instruction of one thread, done in place.
use Rattle.std.specs.Prelude.{◌≡◌, List, [], Result, Ok, Err}
use Rattle.elf_image.specs.declared.write.Write.{Write}
use Rattle.elf_image.specs.Memory.{Cells, Stands}
use Rattle.odr_log.specs.declared.log.Cause.{Cause}
use Rattle.rv32_decode.specs.declared.instr.Instr.{Instr}
use Rattle.rv32_decode.specs.declared.instr.Instr.TheVariants as instr
use Rattle.rv_model.specs.declared.state.Local.{Local}
use Rattle.rv_model.specs.declared.state.Note as model
use Rattle.rv_model.specs.declared.hearing.Outcome.{Outcome}
use Rattle.rv_model.specs.declared.hearing.Outcome.TheVariants.{Faults, Goes}
use Rattle.guest_machine.specs.declared.note.Note.{Note}
use Rattle.guest_machine.specs.Notes.{note_of}

-- the instruction went on, and left the thread and the memory so
pub record HasGone (cells : Cells) (local : Local) (writes : List Write) (shown : model.Note) (result : Result Note Cause) (now : Local) (after : Cells) : Type 0 where
  pub note : Note
  pub ok : result ≡ Ok note
  pub shows : note_of note ≡ shown
  pub local_is : now ≡ local
  pub memory : Stands cells writes after

-- the instruction faulted, and changed nothing
pub record HasFaulted (cells : Cells) (old : Local) (fault : Cause) (result : Result Note Cause) (now : Local) (after : Cells) : Type 0 where
  pub err : result ≡ Err fault
  pub local_is : now ≡ old
  pub memory : Stands cells [] after

abbrev pub Ran : Cells → Local → Outcome → Result Note Cause → Local → Cells → Type 0
Ran cells old (Faults fault) result now after = HasFaulted cells old fault result now after
Ran cells old (Goes local writes shown) result now after = HasGone cells local writes shown result now after

-- an instruction that leaves the memory alone
abbrev pub RanAlone : Local → Outcome → Result Note Cause → Local → Type 0
RanAlone old (Faults fault) result now = (result ≡ Err fault) × (now ≡ old)
RanAlone old (Goes local writes shown) result now = (note : Note) × (result ≡ Ok note) × (note_of note ≡ shown) × (now ≡ local) × (writes ≡ [])

-- an instruction that is no guest call
abbrev pub IsQuiet : Instr → Type 0
IsQuiet instr.Ecall = ⊥
IsQuiet other = Unit {0}
