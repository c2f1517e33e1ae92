use Rattle.std.proofs.Common.{◌≡◌, ◌<◌, ◌^◌, drop}
use Rattle.rv32_asm.specs.Numbers.{magnitude_from}
use Rattle.rv32_asm.proofs.number.magnitude.Given as goal

-- what the digits that are left add
abbrev pub invariant-loop-byte : goal.invariant-loop-byte
invariant-loop-byte l = (l.value < 2 ^ 32) × (magnitude_from l.radix l.value (drop l.byte-index l.digits) ≡ magnitude_from l.radix 0 l.digits)
