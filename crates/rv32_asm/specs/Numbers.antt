-- Numbers in assembly text: decimal with an optional sign, or 0x and hexadecimal digits.
use Rattle.std.specs.Prelude.{ℕ, ◌+◌, ◌*◌, ◌^◌, ℤ, pos, neg_ℤ, int_le, Bool, ◌&&◌, ◌==◌, nat_lt, List, [], ◌∷◌, length, take, drop, Option, Some, None, option_map, bytes_eq, codes, if◌then◌else◌}
use Rattle.std.specs.Char.{digit_value}

-- the number that digits write behind those of n; there is none from 2^32 on
abbrev pub magnitude_from : ℕ → ℕ → List ℕ → Option ℕ
magnitude_from radix n [] = Some n
magnitude_from radix n (c ∷ cs) =
    if nat_lt (digit_value c) radix && nat_lt (n * radix + digit_value c) (2 ^ 32)
    then magnitude_from radix (n * radix + digit_value c) cs
    else None

-- the number that one digit or more write
abbrev pub magnitude_of : ℕ → List ℕ → Option ℕ
magnitude_of radix digits = if length digits == 0 then None else magnitude_from radix 0 digits

unfoldable pub number_of : List ℕ → Option ℤ
number_of word =
    if bytes_eq (take 2 word) (codes "0x") then option_map pos (magnitude_of 16 (drop 2 word)) else
    if bytes_eq (take 1 word) (codes "-") then option_map (λ n. neg_ℤ (pos n)) (magnitude_of 10 (drop 1 word)) else
    option_map pos (magnitude_of 10 word)

-- a number from low to high
abbrev pub in_range : ℤ → ℤ → ℤ → Bool
in_range low high z = int_le low z && int_le z high
