use Rattle.std.proofs.Common.{◌^◌, ◌<◌, subst}
use Rattle.std.proofs.lemmas.Nat.{pow_pos}
use Rattle.bv_terms.specs.Values.{Assignment}
use Rattle.step_terms.proofs.Making.{bounded}
use Rattle.access_shapes.proofs.Shaping.{first_is}
use Rattle.access_shapes.proofs.shape.place_of.Goals as goal

-- an assignment, by which a constant's bound is read off
zero : Assignment
zero = record { value_of = λ width number. 0; below = λ width number. pow_pos width }

pub overflow_cast-result : goal.overflow_cast-result
overflow_cast-result c =
    let below : c.in-Some.first < 2 ^ 32 = subst (λ n. n < 2 ^ 32) (c.in-Some.ensures.value zero)
    (bounded c.args.pool.now c.args.access.now.address.number 32 c.width-width.result c.requires.terms.address c.width-width.ensures.width c.width-width.ensures.below zero) in
    record { fits = below }

pub returns-in-Some-clause-first : goal.returns-in-Some-clause-first
returns-in-Some-clause-first c span e =
    subst (λ n. n < 2 ^ 32) (first_is c.in-Some.first c.byte_count-len.result span e)
    (subst (λ n. n < 2 ^ 32) (c.in-Some.ensures.value zero)
    (bounded c.args.pool.now c.args.access.now.address.number 32 c.width-width.result c.requires.terms.address c.width-width.ensures.width c.width-width.ensures.below zero))

pub returns-in-Some-clause-word : goal.returns-in-Some-clause-word
returns-in-Some-clause-word c t =
    bounded c.args.pool.now c.args.access.now.address.number 32 c.width-width.result c.requires.terms.address c.width-width.ensures.width c.width-width.ensures.below t

pub returns-in-None-clause-word : goal.returns-in-None-clause-word
returns-in-None-clause-word c t =
    bounded c.args.pool.now c.args.access.now.address.number 32 c.width-width.result c.requires.terms.address c.width-width.ensures.width c.width-width.ensures.below t
