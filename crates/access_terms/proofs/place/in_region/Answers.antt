use Rattle.std.proofs.Common.{◌+◌, ◌&&◌, ◌∷◌, [], cond, nat_eq, nat_lt, subst}
use Rattle.std.specs.Prelude.{nat_le}
use Rattle.std.proofs.lemmas.Result.{IfOk-weaker}
use Rattle.elf_image.specs.Layout.{covers}
use Rattle.bv_terms.specs.BitVectors.{bit_of}
use Rattle.bv_terms.specs.Values.{Assignment, value_at}
use Rattle.step_terms.specs.Made.{IsMade}
use Rattle.step_terms.proofs.Making.{grows_on, later, made_constant, made_first, of_choice, reworded, second_stays}
use Rattle.step_terms.proofs.Words.{by_bit}
use Rattle.access_terms.specs.Rights.{grants}
use Rattle.access_terms.proofs.place.in_region.Goals as goal

pub returns-clause-made : goal.returns-clause-made
returns-clause-made g c =
    let old = c.args.pool.now in
    let one = c.within.new.pool in
    let two = c.constant_bit.new.pool in
    let new = c.choice.new.pool in
    let a = c.args.address.number in
    let o = c.args.otherwise.number in
    let region = c.args.region.now in
    let x = c.in_ok-covered.covered.number in
    let y = c.in_ok-own.own.number in
    let covered = λ (w : Assignment). bit_of (covers region (value_at w old a)) in
    let covers_it = subst (λ n. IsMade old one (a ∷ []) 1 (λ w. bit_of (nat_le region.start (value_at w old a) && nat_lt (value_at w old a) (region.start + n))) x) c.len.ensures c.in_ok-covered.ensures.made in
    let own = λ (w : Assignment). bit_of (grants c.args.right region.perm) in
    IfOk-weaker c.choice.result _ _
    (λ id h. reworded old new (a ∷ o ∷ []) 1 (λ w. cond (nat_eq (covered w) 1) (own w) (value_at w old o)) (λ w. cond (covers region (value_at w old a)) (own w) (value_at w old o)) id.number
    (of_choice old two new (a ∷ o ∷ []) x y o 1 1 covered own (λ w. value_at w old o) id.number
    (later old one two (a ∷ o ∷ []) 1 covered x c.constant_bit.ensures.grows (made_first old one a o 1 covered x covers_it))
    (made_constant old one two (a ∷ o ∷ []) 1 own y (subst (λ t. IsMade one two [] 1 (λ w. bit_of t) y) c.is_granted.ensures c.in_ok-own.ensures.made))
    (second_stays old two a o 1 (grows_on old one two c.within.ensures.grows c.constant_bit.ensures.grows) c.requires.otherwise) h)
    (λ w. by_bit (covers region (value_at w old a)) (own w) (value_at w old o))) c.choice.ensures.term
