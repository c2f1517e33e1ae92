use Rattle.std.proofs.Common.{◌<◌, ◌^◌, subst}
use Rattle.bv_terms.proofs.Bounds.{zeros}
use Rattle.bv_terms.proofs.pool.TermPool.bits.Goals as goal

pub returns-clause-bits : goal.returns-clause-bits
returns-clause-bits c = record {
  within = c.width-width.ensures.within;
  below = subst (λ v. v < 2 ^ c.width-width.result) (c.in-Some.ensures.value zeros) (c.width-width.ensures.below zeros);
}
