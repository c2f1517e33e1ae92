use Rattle.std.proofs.Common.{◌≤◌, arith}
use Rattle.std.proofs.Math.Nat.{mul-le-mul_left}
use Rattle.rv32_asm.proofs.number.magnitude.Goals as goal

pub overflow_mul-more : goal.overflow_mul-more
overflow_mul-more c = let small : c.from-in-loop-byte.result ≤ 16 = omega arith in omega (arith, mul-le-mul_left c.from.result small)

pub overflow_add-more : goal.overflow_add-more
overflow_add-more c = let small : c.from-in-loop-byte.result ≤ 16 = omega arith in omega (arith, mul-le-mul_left c.from.result small)
