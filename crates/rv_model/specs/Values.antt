-- What the instructions of RV32I and of the extension M compute, and the operations of the extension A on a word
-- (unprivileged ISA, chapters "RV32I", "M" and "A"). Words are whole numbers from 0 to 2 ^ 32 - 1.
use Rattle.std.specs.Prelude.{ℕ, ◌+◌, ◌-◌, ◌*◌, ◌/◌, ◌%◌, ◌^◌, ℤ, pos, negsuc, ◌+ℤ◌, ◌*ℤ◌, Bool, not, nat_eq, nat_lt, int_lt, int_div, int_rem, unsigned_abs, bit_and, bit_or, bit_xor, min, max, if◌then◌else◌}
use Rattle.std.specs.Int.{int_div_euclid, int_rem_euclid}
use Rattle.rv32_decode.specs.declared.instr.AluOp.{AluOp}
use Rattle.rv32_decode.specs.declared.instr.AluOp.TheVariants as alu
use Rattle.rv32_decode.specs.declared.instr.ImmOp.{ImmOp}
use Rattle.rv32_decode.specs.declared.instr.ImmOp.TheVariants as imm
use Rattle.rv32_decode.specs.declared.instr.BranchOp.{BranchOp}
use Rattle.rv32_decode.specs.declared.instr.BranchOp.TheVariants as branch
use Rattle.rv32_decode.specs.declared.instr.LoadOp.{LoadOp}
use Rattle.rv32_decode.specs.declared.instr.LoadOp.TheVariants as load
use Rattle.rv32_decode.specs.declared.instr.StoreOp.{StoreOp}
use Rattle.rv32_decode.specs.declared.instr.StoreOp.TheVariants as store
use Rattle.rv32_decode.specs.declared.instr.AmoOp.{AmoOp}
use Rattle.rv32_decode.specs.declared.instr.AmoOp.TheVariants as atomic

-- a word read as a signed number, in two's complement
abbrev pub to_signed : ℕ → ℤ
to_signed a = if nat_lt a (2 ^ 31) then pos a else negsuc (2 ^ 32 - 1 - a)

-- the word of a whole number, modulo 2 ^ 32
abbrev pub word_of : ℤ → ℕ
word_of z = unsigned_abs (int_rem_euclid z (pos (2 ^ 32)))

-- a word and a signed offset
unfoldable pub plus_offset : ℕ → ℤ → ℕ
plus_offset a offset = word_of (pos a +ℤ offset)

abbrev pub bit_of : Bool → ℕ
bit_of test = if test then 1 else 0

-- the high word of a signed product
abbrev pub high_of : ℤ → ℕ
high_of product = word_of (int_div_euclid product (pos (2 ^ 32)))

-- an operation on two registers; shift amounts are the low five bits, division rounds to zero
unfoldable pub alu_of : AluOp → ℕ → ℕ → ℕ
alu_of alu.Add a b = (a + b) % 2 ^ 32
alu_of alu.Sub a b = (a + 2 ^ 32 - b) % 2 ^ 32
alu_of alu.Sll a b = a * 2 ^ (b % 32) % 2 ^ 32
alu_of alu.Slt a b = bit_of (int_lt (to_signed a) (to_signed b))
alu_of alu.Sltu a b = bit_of (nat_lt a b)
alu_of alu.Xor a b = bit_xor a b
alu_of alu.Srl a b = a / 2 ^ (b % 32)
alu_of alu.Sra a b = word_of (int_div_euclid (to_signed a) (pos (2 ^ (b % 32))))
alu_of alu.Or a b = bit_or a b
alu_of alu.And a b = bit_and a b
alu_of alu.Mul a b = a * b % 2 ^ 32
alu_of alu.Mulh a b = high_of (to_signed a *ℤ to_signed b)
alu_of alu.Mulhsu a b = high_of (to_signed a *ℤ pos b)
alu_of alu.Mulhu a b = a * b / 2 ^ 32
alu_of alu.Div a b = if nat_eq b 0 then 2 ^ 32 - 1 else word_of (int_div (to_signed a) (to_signed b))
alu_of alu.Divu a b = if nat_eq b 0 then 2 ^ 32 - 1 else a / b
alu_of alu.Rem a b = if nat_eq b 0 then a else word_of (int_rem (to_signed a) (to_signed b))
alu_of alu.Remu a b = if nat_eq b 0 then a else a % b

-- the operation of an immediate form
abbrev pub operation_of : ImmOp → AluOp
operation_of imm.Addi = alu.Add
operation_of imm.Slti = alu.Slt
operation_of imm.Sltiu = alu.Sltu
operation_of imm.Xori = alu.Xor
operation_of imm.Ori = alu.Or
operation_of imm.Andi = alu.And
operation_of imm.Slli = alu.Sll
operation_of imm.Srli = alu.Srl
operation_of imm.Srai = alu.Sra

-- an operation on a register and a sign-extended immediate
unfoldable pub imm_of : ImmOp → ℕ → ℤ → ℕ
imm_of op a value = alu_of (operation_of op) a (word_of value)

-- whether a branch is taken
unfoldable pub taken_of : BranchOp → ℕ → ℕ → Bool
taken_of branch.Beq a b = nat_eq a b
taken_of branch.Bne a b = not (nat_eq a b)
taken_of branch.Blt a b = int_lt (to_signed a) (to_signed b)
taken_of branch.Bge a b = not (int_lt (to_signed a) (to_signed b))
taken_of branch.Bltu a b = nat_lt a b
taken_of branch.Bgeu a b = not (nat_lt a b)

-- what an atomic operation stores, from the old word and a register
unfoldable pub amo_of : AmoOp → ℕ → ℕ → ℕ
amo_of atomic.Swap old b = b
amo_of atomic.Add old b = (old + b) % 2 ^ 32
amo_of atomic.Xor old b = bit_xor old b
amo_of atomic.And old b = bit_and old b
amo_of atomic.Or old b = bit_or old b
amo_of atomic.Min old b = if int_lt (to_signed old) (to_signed b) then old else b
amo_of atomic.Max old b = if int_lt (to_signed old) (to_signed b) then b else old
amo_of atomic.Minu old b = min old b
amo_of atomic.Maxu old b = max old b

-- the number of bytes that a load or a store moves
abbrev pub load_size : LoadOp → ℕ
load_size load.Lb = 1
load_size load.Lh = 2
load_size load.Lw = 4
load_size load.Lbu = 1
load_size load.Lhu = 2

abbrev pub store_size : StoreOp → ℕ
store_size store.Sb = 1
store_size store.Sh = 2
store_size store.Sw = 4

-- a number of this many bits, its highest bit repeated up to bit 31
abbrev pub sign_extended : ℕ → ℕ → ℕ
sign_extended bits value = if nat_lt value (2 ^ (bits - 1)) then value else value + 2 ^ 32 - 2 ^ bits

-- the word that a load puts into its register
unfoldable pub extended : LoadOp → ℕ → ℕ
extended load.Lb value = sign_extended 8 value
extended load.Lh value = sign_extended 16 value
extended load.Lw value = value
extended load.Lbu value = value
extended load.Lhu value = value
