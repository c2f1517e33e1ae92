use Rattle.std.proofs.Common.{◌≤◌, ◌^◌, arith}
use Rattle.std.proofs.Math.Pow.{pow_mono}
use Rattle.bit_clauses.proofs.shift.distance.Goals as goal

pub returns-in_default-clause-near : goal.returns-in_default-clause-near
returns-in_default-clause-near c h =
    let big : 6 ≤ c.args.i = omega arith in
    let more : 2 ^ 6 ≤ 2 ^ c.args.i = pow_mono big in
    omega (arith, more, h, c.requires)
