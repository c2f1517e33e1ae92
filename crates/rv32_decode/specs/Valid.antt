-- Which instructions have a word: registers are numbers below 32, and immediates are ones that the
-- format holds.
use Rattle.std.specs.Prelude.{◌≡◌, ℕ, ◌%◌, ◌^◌, ◌<◌, ℤ, pos, negsuc, ◌≤ℤ◌, ◌<ℤ◌, int_rem, Bool, true, false, MatchBool}
use Rattle.rv32_decode.specs.declared.instr.ImmOp.{ImmOp}
use Rattle.rv32_decode.specs.declared.instr.ImmOp.TheVariants.{Slli, Srli, Srai}
use Rattle.rv32_decode.specs.declared.instr.Instr.{Instr}
use Rattle.rv32_decode.specs.declared.instr.Instr.TheVariants.{Lui, Auipc, Jal, Jalr, Branch, Load, Store, Imm, Op, Fence, Ecall, Ebreak, LoadReserved, StoreConditional, Amo}

-- a number of 20 bits above twelve zeros
pub record IsUpperImmediate (imm : ℕ) : Type 0 where
  pub below : imm < 2 ^ 32
  pub low_zeros : imm % 2 ^ 12 ≡ 0

-- from -2048 to 2047
pub record FitsTwelveBits (imm : ℤ) : Type 0 where
  pub above : negsuc 2047 ≤ℤ imm
  pub below : imm <ℤ pos 2048

-- from -4096 to 4094 in steps of 2
pub record IsBranchOffset (offset : ℤ) : Type 0 where
  pub above : negsuc 4095 ≤ℤ offset
  pub below : offset <ℤ pos 4096
  pub even : int_rem offset (pos 2) ≡ pos 0

-- from -2^20 to 2^20 - 2 in steps of 2
pub record IsJumpOffset (offset : ℤ) : Type 0 where
  pub above : negsuc 1048575 ≤ℤ offset
  pub below : offset <ℤ pos 1048576
  pub even : int_rem offset (pos 2) ≡ pos 0

-- from 0 to 31
pub record IsShiftAmount (imm : ℤ) : Type 0 where
  pub above : pos 0 ≤ℤ imm
  pub below : imm <ℤ pos 32

abbrev pub is_shift : ImmOp → Bool
is_shift Slli = true
is_shift Srli = true
is_shift Srai = true
is_shift _ = false

abbrev pub IsValid : Instr → Type 0
IsValid (Lui rd imm) = (rd < 32) × IsUpperImmediate imm
IsValid (Auipc rd imm) = (rd < 32) × IsUpperImmediate imm
IsValid (Jal rd offset) = (rd < 32) × IsJumpOffset offset
IsValid (Jalr rd rs1 offset) = (rd < 32) × (rs1 < 32) × FitsTwelveBits offset
IsValid (Branch op rs1 rs2 offset) = (rs1 < 32) × (rs2 < 32) × IsBranchOffset offset
IsValid (Load op rd rs1 offset) = (rd < 32) × (rs1 < 32) × FitsTwelveBits offset
IsValid (Store op rs1 rs2 offset) = (rs1 < 32) × (rs2 < 32) × FitsTwelveBits offset
IsValid (Imm op rd rs1 imm) = (rd < 32) × (rs1 < 32) × MatchBool (is_shift op) (IsShiftAmount imm) (FitsTwelveBits imm)
IsValid (Op op rd rs1 rs2) = (rd < 32) × (rs1 < 32) × (rs2 < 32)
IsValid (Fence rd rs1 imm) = (rd < 32) × (rs1 < 32) × (imm < 2 ^ 12)
IsValid Ecall = Unit {0}
IsValid Ebreak = Unit {0}
IsValid (LoadReserved rd rs1 aq rl) = (rd < 32) × (rs1 < 32)
IsValid (StoreConditional rd rs1 rs2 aq rl) = (rd < 32) × (rs1 < 32) × (rs2 < 32)
IsValid (Amo op rd rs1 rs2 aq rl) = (rd < 32) × (rs1 < 32) × (rs2 < 32)
