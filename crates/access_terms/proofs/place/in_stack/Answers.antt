use Rattle.std.proofs.Common.{◌/◌, ◌%◌, ◌^◌, ◌&&◌, ◌∷◌, [], nat_eq, nat_lt}
use Rattle.std.specs.Prelude.{bit_and, nat_le}
use Rattle.std.proofs.lemmas.Result.{IfOk-weaker}
use Rattle.elf_image.specs.Memory.{in_stack}
use Rattle.bv_terms.specs.BitVectors.{bit_of}
use Rattle.bv_terms.specs.Values.{Assignment, value_at}
use Rattle.step_terms.proofs.Making.{by_two, later, made_after, reworded}
use Rattle.access_terms.proofs.Tests.{stack_test}
use Rattle.access_terms.proofs.place.in_stack.Goals as goal

pub returns-clause-made : goal.returns-clause-made
returns-clause-made g c =
    let old = c.args.pool.now in
    let one = c.within.new.pool in
    let two = c.two_bits_are_zero.new.pool in
    let new = c.both.new.pool in
    let a = c.args.address.number in
    let x = c.in_ok-near.near.number in
    let y = c.in_ok-low.low.number in
    let near = λ (w : Assignment). bit_of (nat_le 0x70000000 (value_at w old a) && nat_lt (value_at w old a) 0x70080000) in
    let low = λ (w : Assignment). bit_of (nat_eq (value_at w old a / 2 ^ 14 % 2 ^ 2) 0) in
    IfOk-weaker c.both.result _ _
    (λ id h. reworded old new (a ∷ []) 1 (λ w. bit_and (near w) (low w)) (λ w. bit_of (in_stack (value_at w old a))) id.number
    (by_two old two new (a ∷ []) x y 1 1 1 near low bit_and id.number (later old one two (a ∷ []) 1 near x c.two_bits_are_zero.ensures.grows c.in_ok-near.ensures.made)
    (made_after old one two a 1 32 (λ v. bit_of (nat_eq (v / 2 ^ 14 % 2 ^ 2) 0)) y c.within.ensures.grows c.requires c.in_ok-low.ensures.made) h) (λ w. stack_test (value_at w old a))) c.both.ensures.made
