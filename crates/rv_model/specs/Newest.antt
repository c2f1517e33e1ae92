-- The newest write to an address.
use Rattle.std.specs.Prelude.{ℕ, nat_eq, List, find, Option, option_map}
use Rattle.elf_image.specs.declared.write.Write.{Write}

abbrev pub newest_to : List Write → ℕ → Option ℕ
newest_to writes address = option_map (λ write. write.byte) (find (λ write. nat_eq write.address address) writes)
