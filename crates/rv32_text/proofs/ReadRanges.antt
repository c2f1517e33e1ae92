-- What the operands of a valid instruction are.
use Rattle.std.proofs.Common.{◌≡◌, ℕ, ◌*◌, ◌/◌, ◌^◌, ◌<◌, ◌≤◌, Bool, true, ◌&&◌, refl, arith, ℤ, pos, negsuc, neg_ℤ}
use Rattle.std.specs.Prelude.{int_le, int_lt, int_rem, ◌≤ℤ◌, ◌<ℤ◌}
use Rattle.std.specs.Ordering.{int_eq}
use Rattle.std.proofs.lemmas.Int.{ints}
use Rattle.rv32_decode.specs.Valid.{IsUpperImmediate, FitsTwelveBits, IsBranchOffset, IsJumpOffset, IsShiftAmount}
use Rattle.rv32_asm.specs.Numbers.{in_range}
use Rattle.rv32_asm.specs.Operands.{reaches, jump_reach, branch_reach}
use Rattle.rv32_text.proofs.ReadNumbers.{IsSmall}

small : (z : ℤ) → negsuc 1048575 ≤ℤ z → z <ℤ pos 1048576 → IsSmall z
small (pos n) above below = omega (arith, ints)
small (negsuc n) above below = omega (arith, ints)

both : (a b : Bool) → a ≡ true → b ≡ true → (a && b) ≡ true
both a b x y = rw (x, y) refl

pub within : (low high z : ℤ) → low ≤ℤ z → z ≤ℤ high → in_range low high z ≡ true
within low high z above below = both (int_le low z) (int_le z high) (grind (arith, ints)) (grind (arith, ints))

pub twelve_bits : (z : ℤ) → FitsTwelveBits z → IsSmall z × (in_range (negsuc 2047) (pos 2047) z ≡ true)
twelve_bits z fits = (small z (omega (arith, ints, fits.above)) (omega (arith, ints, fits.below)), within (negsuc 2047) (pos 2047) z fits.above (omega (arith, ints, fits.below)))

pub shift_amount : (z : ℤ) → IsShiftAmount z → IsSmall z × (in_range (pos 0) (pos 31) z ≡ true)
shift_amount z fits = (small z (omega (arith, ints, fits.above)) (omega (arith, ints, fits.below)), within (pos 0) (pos 31) z fits.above (omega (arith, ints, fits.below)))

even : (z : ℤ) → int_rem z (pos 2) ≡ pos 0 → int_eq (int_rem z (pos 2)) (pos 0) ≡ true
even z e = rw e refl

reached : (reach : ℕ) (z : ℤ) → neg_ℤ (pos reach) ≤ℤ z → z <ℤ pos reach → int_rem z (pos 2) ≡ pos 0 → reaches reach z ≡ true
reached reach z above below parity =
    both (int_le (neg_ℤ (pos reach)) z && int_lt z (pos reach)) (int_eq (int_rem z (pos 2)) (pos 0))
    (both (int_le (neg_ℤ (pos reach)) z) (int_lt z (pos reach)) (grind (arith, ints)) (grind (arith, ints))) (even z parity)

pub jump_offset : (z : ℤ) → IsJumpOffset z → IsSmall z × (reaches jump_reach z ≡ true)
jump_offset z fits = (small z fits.above fits.below, reached jump_reach z (omega (arith, ints, fits.above)) fits.below fits.even)

pub branch_offset : (z : ℤ) → IsBranchOffset z → IsSmall z × (reaches branch_reach z ≡ true)
branch_offset z fits = (small z (omega (arith, ints, fits.above)) (omega (arith, ints, fits.below)), reached branch_reach z (omega (arith, ints, fits.above)) fits.below fits.even)

pub upper_immediate : (imm : ℕ) → IsUpperImmediate imm → (imm / 4096 < 2 ^ 20) × (imm / 4096 * 4096 ≡ imm)
upper_immediate imm fits = (omega (arith, fits.below), omega (arith, fits.low_zeros))

pub unsigned_within : (most n : ℕ) → n ≤ most → in_range (pos 0) (pos most) (pos n) ≡ true
unsigned_within most n fits = within (pos 0) (pos most) (pos n) (omega (arith, ints)) (omega (arith, ints))
