-- What a record tells of the step that made the call.
use Rattle.std.specs.Prelude.{◌≡◌, ◌↔◌, ℕ}
use Rattle.elf_image.specs.Layout.{Layout}
use Rattle.rv32_decode.specs.declared.instr.Instr.TheVariants as instr
use Rattle.odr_log.specs.declared.log.Call.{Call}
use Rattle.rv_model.specs.declared.state.Local.{Local}
use Rattle.rv_model.specs.Calls.{first_argument, kind_at, record_of, second_argument}
use Rattle.rv_model.specs.CallsFit.{IsPossible, reply_in}
use Rattle.rv_model.specs.Instruction.{access_of}
use Rattle.guided_walk.specs.Guided.{met}
use Rattle.call_terms.specs.Records.{Asks, BufferMeets}

-- A call that is answered as it is recorded has this record exactly where the registers ask for it and the buffer is so.
abbrev pub RecordsTell : Type 0
RecordsTell = (image : Layout) (bytes : ℕ → ℕ) (local : Local) (made : Call) → IsPossible made
    → (record_of (kind_at local (met image bytes (access_of local instr.Ecall))) (reply_in made) ≡ made)
    ↔ (Asks local made × BufferMeets image bytes (first_argument local) (second_argument local) made)
