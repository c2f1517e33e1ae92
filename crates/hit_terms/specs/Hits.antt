-- Which bytes of accesses have one address, and which words they touch.
use Rattle.std.specs.Prelude.{ℕ, zero, suc, ◌+◌, ◌/◌, ◌%◌, ◌^◌, Bool, false, ◌&&◌, ◌||◌, nat_eq}

-- the address of the byte at an index
abbrev pub place_of : (address index : ℕ) → ℕ
place_of address index = (address + index) % 2 ^ 32

abbrev pub is_same_place : (address index other other_index : ℕ) → Bool
is_same_place address index other other_index = nat_eq (place_of address index) (place_of other other_index)

-- a write takes place, and its byte is at the other's address
abbrev pub is_hit : (guard address index other other_index : ℕ) → Bool
is_hit guard address index other other_index = nat_eq guard 1 && is_same_place address index other other_index

-- a byte is in the aligned word at an address
abbrev pub is_in_word : (place reserved : ℕ) → Bool
is_in_word place reserved = nat_eq (place / 4) (reserved / 4)

-- one of so many bytes is in the aligned word at an address
abbrev pub reaches_word : (count address reserved : ℕ) → Bool
reaches_word zero address reserved = false
reaches_word (suc more) address reserved = reaches_word more address reserved || is_in_word (place_of address more) reserved

-- and they are written
abbrev pub is_touch : (guard count address reserved : ℕ) → Bool
is_touch guard count address reserved = nat_eq guard 1 && reaches_word count address reserved
