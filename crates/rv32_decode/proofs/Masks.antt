-- What the masks of the table select.
use Rattle.std.proofs.Common.{◌≡◌, ℕ, ◌+◌, ◌-◌, ◌*◌, ◌/◌, ◌%◌, ◌^◌, ◌<◌, bit_and, ap, sym, ◌∙◌, arith}
use Rattle.std.proofs.lemmas.Nat.{and_block, and_mask, shr_split, mod_below, pow_pos}
use Rattle.rv32_decode.specs.Fields.{opcode_of, funct3_of, funct7_of, funct5_of, rs2_of}

-- a mask in two parts, the upper one of whole ones
and_parts : (n place ones low : ℕ) → low < 2 ^ place →
    bit_and n ((2 ^ ones - 1) * 2 ^ place + low) ≡ n / 2 ^ place % 2 ^ ones * 2 ^ place + bit_and (n % 2 ^ place) low
and_parts n place ones low below =
    let split : bit_and (n / 2 ^ place * 2 ^ place + n % 2 ^ place) ((2 ^ ones - 1) * 2 ^ place + low) ≡ bit_and (n / 2 ^ place) (2 ^ ones - 1) * 2 ^ place + bit_and (n % 2 ^ place) low
    = and_block place (n / 2 ^ place) (2 ^ ones - 1) (n % 2 ^ place) low (mod_below n (2 ^ place) (pow_pos place)) below in
    ap (λ (m : ℕ). bit_and m ((2 ^ ones - 1) * 2 ^ place + low)) (sym (shr_split n place)) ∙ split
    ∙ ap (λ (m : ℕ). m * 2 ^ place + bit_and (n % 2 ^ place) low) (and_mask (n / 2 ^ place) ones)

pub and_opcode : (n : ℕ) → bit_and n 0x7f ≡ opcode_of n
and_opcode n = and_mask n 7 ∙ omega arith

pub and_funct3 : (n : ℕ) → bit_and n 0x707f ≡ funct3_of n * 2 ^ 12 + opcode_of n
and_funct3 n =
    let upper = and_parts n 12 3 0x7f (omega arith) in
    let lower = and_opcode (n % 2 ^ 12) in
    omega arith

pub and_funct7 : (n : ℕ) → bit_and n 0xfe00707f ≡ funct7_of n * 2 ^ 25 + funct3_of n * 2 ^ 12 + opcode_of n
and_funct7 n =
    let upper = and_parts n 25 7 0x707f (omega arith) in
    let lower = and_funct3 (n % 2 ^ 25) in
    omega arith

pub and_funct5 : (n : ℕ) → bit_and n 0xf800707f ≡ funct5_of n * 2 ^ 27 + funct3_of n * 2 ^ 12 + opcode_of n
and_funct5 n =
    let upper = and_parts n 27 5 0x707f (omega arith) in
    let lower = and_funct3 (n % 2 ^ 27) in
    omega arith

pub and_reserved : (n : ℕ) → bit_and n 0xf9f0707f ≡ funct5_of n * 2 ^ 27 + rs2_of n * 2 ^ 20 + funct3_of n * 2 ^ 12 + opcode_of n
and_reserved n =
    let upper = and_parts n 27 5 0x1f0707f (omega arith) in
    let middle = and_parts (n % 2 ^ 27) 20 5 0x707f (omega arith) in
    let lower = and_funct3 (n % 2 ^ 27 % 2 ^ 20) in
    omega arith

pub and_word : (n : ℕ) → bit_and n 0xffffffff ≡ n % 2 ^ 32
and_word n = and_mask n 32
