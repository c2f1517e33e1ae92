-- Products of 64 bits, and division by magnitudes and signs.
use Rattle.std.specs.Prelude.{ℕ, ◌-◌, ◌*◌, ◌/◌, ◌%◌, ◌^◌, nat_eq, bit_xor, if◌then◌else◌}
use Rattle.bv_terms.specs.BitVectors.{bits, sign_extend_value, udiv_value, urem_value}

-- a word with copies of its sign in front, up to 64 bits
abbrev pub extended : ℕ → ℕ
extended a = sign_extend_value (bits 32 a) 64

-- the high word of a product of two numbers of 64 bits
abbrev pub high_product : ℕ → ℕ → ℕ
high_product a b = a * b % 2 ^ 64 / 2 ^ 32 % 2 ^ 32

-- the highest bit of a word
abbrev pub sign : ℕ → ℕ
sign a = a / 2 ^ 31 % 2

-- a word, or its negative where the bit is set
abbrev pub negated_if : ℕ → ℕ → ℕ
negated_if bit a = if nat_eq bit 1 then (2 ^ 32 - a) % 2 ^ 32 else a

-- the word without its sign
abbrev pub magnitude : ℕ → ℕ
magnitude a = negated_if (sign a) a

-- the quotient of the magnitudes, negative where the signs differ
abbrev pub signed_quotient : ℕ → ℕ → ℕ
signed_quotient a b = negated_if (bit_xor (sign a) (sign b)) (udiv_value (bits 32 (magnitude a)) (bits 32 (magnitude b)))

-- the remainder of the magnitudes, with the sign of the dividend
abbrev pub signed_remainder : ℕ → ℕ → ℕ
signed_remainder a b = negated_if (sign a) (urem_value (bits 32 (magnitude a)) (bits 32 (magnitude b)))
