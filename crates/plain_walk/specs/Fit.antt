-- When given bytes and a given success are those of a memory and a reservation.
use Rattle.std.specs.Prelude.{◌≡◌, ℕ, ◌<◌, Bool, Option, Some}
use Rattle.elf_image.specs.Memory.{Cells, byte_in}
use Rattle.rv_model.specs.Instruction.{wins}
use Rattle.guided_walk.specs.Fits.{byte_address}

abbrev pub BytesFit : (ℕ → ℕ) → Cells → ℕ → ℕ → Type 0
BytesFit bytes memory address count = (i : ℕ) → i < count → bytes i ≡ byte_in (memory (byte_address address i))

abbrev pub WonFits : Option ℕ → Option ℕ → Option ℕ → Bool → Type 0
WonFits conditional link reservation won =
    (address from : ℕ) → conditional ≡ Some address → link ≡ Some from → won ≡ wins (Some address) reservation
