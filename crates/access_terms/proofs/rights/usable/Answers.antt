use Rattle.std.proofs.Common.{◌/◌, ◌%◌, ◌^◌, ◌&&◌, ◌∷◌, [], nat_eq}
use Rattle.std.specs.Prelude.{bit_and}
use Rattle.std.proofs.lemmas.Result.{IfOk-weaker}
use Rattle.elf_image.specs.Memory.{all_readable, all_writable, opening_cells}
use Rattle.rv_model.specs.Instruction.{is_aligned}
use Rattle.bv_terms.specs.BitVectors.{bit_of}
use Rattle.bv_terms.specs.Values.{Assignment, value_at}
use Rattle.step_terms.proofs.Making.{by_two, grows_on, later, made_after, reworded}
use Rattle.access_terms.specs.declared.right.Right.TheVariants.{Read, Write}
use Rattle.access_terms.specs.Rights.{all_allow}
use Rattle.access_terms.proofs.Allowing.{usable_value}
use Rattle.access_terms.proofs.rights.usable.Goals as goal

pub returns-clause-made : goal.returns-clause-made
returns-clause-made g c =
    let old = c.args.pool.now in
    let one = c.rights.new.pool in
    let two = c.rights-2.new.pool in
    let three = c.both.new.pool in
    let four = c.two_bits_are_zero.new.pool in
    let new = c.both-2.new.pool in
    let a = c.args.address.number in
    let cells = opening_cells c.args.image.now in
    let r = c.in_ok-readable.readable.number in
    let v = c.in_ok-writable.writable.number in
    let o = c.in_ok-open.open.number in
    let z = c.in_ok-aligned.aligned.number in
    let read = λ (w : Assignment). bit_of (all_allow Read cells (value_at w old a) 4) in
    let written = λ (w : Assignment). bit_of (all_allow Write cells (value_at w old a) 4) in
    let low = λ (w : Assignment). bit_of (nat_eq (value_at w old a / 2 ^ 0 % 2 ^ 2) 0) in
    let both_rights = λ (w : Assignment). bit_and (bit_of (all_allow Read cells (value_at w old a) 4)) (bit_of (all_allow Write cells (value_at w old a) 4)) in
    let to_two = grows_on old one two c.rights.ensures.grows c.rights-2.ensures.grows in
    let to_three = grows_on old two three to_two c.both.ensures.grows in
    let readable = later old one two (a ∷ []) 1 read r c.rights-2.ensures.grows c.in_ok-readable.ensures.made in
    let writable = made_after old one two a 1 32 (λ n. bit_of (all_allow Write cells n 4)) v c.rights.ensures.grows c.requires c.in_ok-writable.ensures.made in
    let granted = later old three four (a ∷ []) 1 both_rights o c.two_bits_are_zero.ensures.grows (by_two old two three (a ∷ []) r v 1 1 1 read written bit_and o readable writable c.in_ok-open.ensures.made) in
    let aligned = made_after old three four a 1 32 (λ n. bit_of (nat_eq (n / 2 ^ 0 % 2 ^ 2) 0)) z to_three c.requires c.in_ok-aligned.ensures.made in
    IfOk-weaker c.both-2.result _ _
    (λ id h. reworded old new (a ∷ []) 1 (λ w. bit_and (low w) (both_rights w)) (λ w. bit_of (is_aligned (value_at w old a) && (all_readable cells (value_at w old a) 4 && all_writable cells (value_at w old a) 4))) id.number
    (by_two old four new (a ∷ []) z o 1 1 1 low both_rights bit_and id.number aligned granted h) (λ w. usable_value cells (value_at w old a))) c.both-2.ensures.made
