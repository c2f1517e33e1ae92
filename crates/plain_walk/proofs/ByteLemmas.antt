-- Bytes that are given one by one.
use Rattle.std.specs.Prelude.{◌≡◌, ℕ, suc, zero, ◌+◌, [], ◌∷◌, ◌++◌, length, map}
use Rattle.std.specs.List.{range_with_len}
use Rattle.std.proofs.Common.{arith, refl}
use Rattle.std.proofs.lemmas.List.FromFn.{map-range_with_len_more, length-map-range_with_len}
use Rattle.elf_image.specs.Memory.{next}
use Rattle.guided_walk.specs.Fits.{byte_address}

pub one_more : (f : ℕ → ℕ) (n : ℕ) → map f (range_with_len 0 (n + 1)) ≡ map f (range_with_len 0 n) ++ f n ∷ []
one_more f n = map-range_with_len_more f 0 n n (omega arith)

pub as_many : (f : ℕ → ℕ) (n : ℕ) → length (map f (range_with_len 0 n)) ≡ n
as_many f n = length-map-range_with_len f 0 n

pub address_more : (a i : ℕ) → byte_address a (suc i) ≡ next (byte_address a i)
address_more a zero = refl
address_more a (suc i) = address_more (next a) i

pub ruleset bytes = (one_more, as_many)
