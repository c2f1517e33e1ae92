-- What an access meets has as many bytes as it asks for.
use Rattle.std.specs.Prelude.{◌≡◌, ℕ, ◌<◌, ◌^◌, length, MatchOption, List, [], Option, None, Some}
use Rattle.elf_image.specs.Memory.{bytes_of}
use Rattle.rv32_decode.specs.declared.instr.Instr.{Instr}
use Rattle.rv_model.specs.declared.state.Local.{Local}
use Rattle.rv_model.specs.declared.hearing.Reach.{Reach}
use Rattle.rv_model.specs.declared.hearing.Heard.{Heard}
use Rattle.rv_model.specs.Instruction.{access_of}

abbrev pub HasCount : ℕ → Reach → Type 0
HasCount count reach = MatchOption reach.bytes (Unit {0}) (λ bytes. (length bytes ≡ count) × (length bytes < 2 ^ 32))

pub record IsMet (local : Local) (instr : Instr) (heard : Heard) : Type 0 where
  pub reach : HasCount (access_of local instr).count heard.reach
  pub reply : length heard.reply.bytes < 2 ^ 32

-- the bytes of a word that is stored, if one is
abbrev pub word_bytes : Option ℕ → List ℕ
word_bytes None = []
word_bytes (Some word) = bytes_of 4 word
