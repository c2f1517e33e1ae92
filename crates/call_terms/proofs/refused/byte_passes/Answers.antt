use Rattle.std.proofs.Common.{◌+◌, ◌-◌, ◌%◌, ◌^◌, ◌&&◌, ◌∷◌, [], nat_lt}
use Rattle.std.specs.Prelude.{bit_and, nat_le}
use Rattle.std.proofs.lemmas.Result.{IfOk-weaker}
use Rattle.elf_image.specs.Memory.{opening_cells}
use Rattle.bv_terms.specs.BitVectors.{bit_of}
use Rattle.bv_terms.specs.Values.{Assignment, value_at}
use Rattle.step_terms.proofs.Making.{by_two, later, made_after, made_first, made_second, of_inverse, reworded}
use Rattle.access_terms.specs.Rights.{allows}
use Rattle.call_terms.proofs.Buffers.{ends_before, not_refused}
use Rattle.call_terms.proofs.refused.byte_passes.Goals as goal

pub returns-clause-made : goal.returns-clause-made
returns-clause-made g c =
    let old = c.args.pool.now in
    let one = c.within.new.pool in
    let two = c.byte_allowed.new.pool in
    let three = c.inverse.new.pool in
    let four = c.inverse-2.new.pool in
    let five = c.both.new.pool in
    let new = c.inverse-3.new.pool in
    let a = c.args.address.number in
    let n = c.args.count.number in
    let i = c.args.index in
    let parts = a ∷ n ∷ [] in
    let ends = λ (w : Assignment). bit_of (nat_le (value_at w old n) i) in
    let has = λ (w : Assignment). bit_of (allows c.args.right (opening_cells c.args.image.now ((value_at w old a + i) % 2 ^ 32))) in
    let beyond = reworded old one parts 1 (λ w. bit_of (nat_le 0 (value_at w old n) && nat_lt (value_at w old n) (0 + (i + 1)))) ends c.in_ok-beyond.beyond.number
    (made_second old one a n 1 _ c.in_ok-beyond.beyond.number c.in_ok-beyond.ensures.made) (λ w. ends_before (value_at w old n) i) in
    let allowed = made_first old two a n 1 has c.in_ok-allowed.allowed.number
    (made_after old one two a 1 32 (λ v. bit_of (allows c.args.right (opening_cells c.args.image.now ((v + i) % 2 ^ 32)))) c.in_ok-allowed.allowed.number c.within.ensures.grows c.requires.address c.in_ok-allowed.ensures.made) in
    let inside = of_inverse old two three parts c.in_ok-beyond.beyond.number 1 ends c.in_ok-inside.inside.number
    (later old one two parts 1 ends c.in_ok-beyond.beyond.number c.byte_allowed.ensures.grows beyond) c.in_ok-inside.ensures.term in
    let refused = of_inverse old three four parts c.in_ok-allowed.allowed.number 1 has c.in_ok-refused.refused.number
    (later old two three parts 1 has c.in_ok-allowed.allowed.number c.inverse.ensures.grows allowed) c.in_ok-refused.ensures.term in
    let bad = by_two old four five parts c.in_ok-inside.inside.number c.in_ok-refused.refused.number 1 1 1 (λ w. 2 ^ 1 - 1 - ends w) (λ w. 2 ^ 1 - 1 - has w) bit_and c.in_ok-bad.bad.number
    (later old three four parts 1 (λ w. 2 ^ 1 - 1 - ends w) c.in_ok-inside.inside.number c.inverse-2.ensures.grows inside) refused c.in_ok-bad.ensures.made in
    IfOk-weaker c.inverse-3.result _ _
    (λ id term. reworded old new parts 1 (λ w. 2 ^ 1 - 1 - bit_and (2 ^ 1 - 1 - ends w) (2 ^ 1 - 1 - has w)) _ id.number
    (of_inverse old five new parts c.in_ok-bad.bad.number 1 (λ w. bit_and (2 ^ 1 - 1 - ends w) (2 ^ 1 - 1 - has w)) id.number bad term)
    (λ w. not_refused (nat_le (value_at w old n) i) (allows c.args.right (opening_cells c.args.image.now ((value_at w old a + i) % 2 ^ 32)))))
    c.inverse-3.ensures.term
