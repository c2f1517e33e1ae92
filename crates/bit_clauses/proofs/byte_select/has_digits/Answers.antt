use Rattle.std.proofs.Common.{◌^◌, ◌≤◌, arith, refl}
use Rattle.std.proofs.Math.Pow.{pow_mono}
use Rattle.bit_clauses.proofs.byte_select.has_digits.Goals as goal

pub returns-else-width-lt64 : goal.returns-else-width-lt64
returns-else-width-lt64 c =
    let wide : 64 ≤ c.args.width = omega (arith, c.if-width-lt64.false) in
    let more : 2 ^ 64 ≤ 2 ^ c.args.width = pow_mono {i = 64} wide in
    (λ t. omega (arith, c.ranges.number.fits, more), λ h. refl)
