use Rattle.std.proofs.Common.{◌≤◌, ◌+◌, ◌*◌, ◌^◌, Fits, w64, arith, subst, sym}
use Rattle.std.proofs.Math.Pow.{pow_mono}
use Rattle.bv_terms.specs.BitVectors.{bits}
use Rattle.bv_terms.proofs.Bounds.{concat_below}
use Rattle.bv_terms.proofs.value.joined.Goals as goal

pub overflow_cast-result-3 : goal.overflow_cast-result-3
overflow_cast-result-3 c =
    let a = c.args.a in
    let b = c.args.b in
    let below = concat_below (bits a.width a.value) (bits b.width b.value) c.requires.left.below c.requires.right.below in
    let most : 2 ^ (a.width + b.width) ≤ 2 ^ 64 = pow_mono c.requires.width in
    subst (λ n. Fits w64 (a.value * n + b.value)) (sym c.count.ensures.count) (omega (arith, below, most))
