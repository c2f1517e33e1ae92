use Rattle.std.proofs.Common.{◌≤◌, ◌^◌, arith}
use Rattle.std.proofs.Math.Pow.{pow_mono}
use Rattle.bv_terms.proofs.value.with_signs.Goals as goal

pub overflow_sub-result : goal.overflow_sub-result
overflow_sub-result c =
    let wider : 2 ^ c.args.a.width ≤ 2 ^ c.args.width = pow_mono c.requires.wider in
    omega (arith, wider, c.count.ensures.count, c.count-then-negative.ensures.count)
