use Rattle.std.proofs.Common.{◌^◌, ◌<◌, subst}
use Rattle.std.proofs.lemmas.Nat.{pow_pos}
use Rattle.bv_terms.specs.Values.{Assignment}
use Rattle.step_terms.proofs.Making.{bounded}
use Rattle.access_terms.proofs.rights.rights.Goals as goal

-- an assignment, by which a constant's bound is read off
zero : Assignment
zero = record { value_of = λ width number. 0; below = λ width number. pow_pos width }

pub overflow_cast-place : goal.overflow_cast-place
overflow_cast-place g c =
    let below : c.in-Some.place < 2 ^ 32 = subst (λ n. n < 2 ^ 32) (c.in-Some.ensures.value zero)
    (bounded c.args.pool.now c.args.address.number 32 c.width-width.result c.requires c.width-width.ensures.width c.width-width.ensures.below zero) in
    record { fits = below }
