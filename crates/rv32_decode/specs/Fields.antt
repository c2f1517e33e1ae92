-- The fields of an instruction word (RISC-V unprivileged ISA, "Base Instruction Formats" and
-- "Immediate Encoding Variants").
use Rattle.std.specs.Prelude.{ℕ, ◌+◌, ◌-◌, ◌*◌, ◌/◌, ◌%◌, ◌^◌, ℤ, pos, ◌-ℤ◌, Bool, nat_eq, nat_lt, if◌then◌else◌}

-- the bits of a word from the high place down to the low one, as a number
abbrev pub bits : ℕ → ℕ → ℕ → ℕ
bits high low word = word / 2 ^ low % 2 ^ (high + 1 - low)

abbrev pub opcode_of : ℕ → ℕ
opcode_of word = bits 6 0 word

abbrev pub rd_of : ℕ → ℕ
rd_of word = bits 11 7 word

abbrev pub funct3_of : ℕ → ℕ
funct3_of word = bits 14 12 word

abbrev pub rs1_of : ℕ → ℕ
rs1_of word = bits 19 15 word

abbrev pub rs2_of : ℕ → ℕ
rs2_of word = bits 24 20 word

abbrev pub funct7_of : ℕ → ℕ
funct7_of word = bits 31 25 word

-- the part of funct7 that tells the atomic instructions apart
abbrev pub funct5_of : ℕ → ℕ
funct5_of word = bits 31 27 word

-- the two bits that order an atomic instruction
abbrev pub aq_of : ℕ → Bool
aq_of word = nat_eq (bits 26 26 word) 1

abbrev pub rl_of : ℕ → Bool
rl_of word = nat_eq (bits 25 25 word) 1

-- the number whose two's complement of this many bits is n
abbrev pub sign_extended : ℕ → ℕ → ℤ
sign_extended width n = if nat_lt n (2 ^ (width - 1)) then pos n else pos n -ℤ pos (2 ^ width)

abbrev pub immediate_i : ℕ → ℤ
immediate_i word = sign_extended 12 (bits 31 20 word)

abbrev pub immediate_s : ℕ → ℤ
immediate_s word = sign_extended 12 (bits 31 25 word * 2 ^ 5 + bits 11 7 word)

abbrev pub immediate_b : ℕ → ℤ
immediate_b word = sign_extended 13 (bits 31 31 word * 2 ^ 12 + bits 7 7 word * 2 ^ 11 + bits 30 25 word * 2 ^ 5 + bits 11 8 word * 2)

abbrev pub immediate_u : ℕ → ℕ
immediate_u word = bits 31 12 word * 2 ^ 12

abbrev pub immediate_j : ℕ → ℤ
immediate_j word = sign_extended 21 (bits 31 31 word * 2 ^ 20 + bits 19 12 word * 2 ^ 12 + bits 20 20 word * 2 ^ 11 + bits 30 21 word * 2)

-- a shift's amount, in the place of rs2
abbrev pub immediate_shift : ℕ → ℤ
immediate_shift word = pos (rs2_of word)

-- what a fence orders, as bits 31 to 20 stand
abbrev pub immediate_fence : ℕ → ℕ
immediate_fence word = bits 31 20 word
