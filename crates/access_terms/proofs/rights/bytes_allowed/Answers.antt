use Rattle.std.proofs.Common.{◌≡◌, ◌+◌, ◌%◌, ◌^◌, ◌∷◌, [], ◌∙◌, suc, ap, arith}
use Rattle.std.specs.Prelude.{bit_and}
use Rattle.elf_image.specs.Memory.{opening_cells}
use Rattle.bv_terms.specs.BitVectors.{bit_of}
use Rattle.bv_terms.specs.Values.{Assignment, value_at}
use Rattle.step_terms.proofs.Making.{bounded, by_two, grows_on, later, made_after, reworded, stays}
use Rattle.access_terms.specs.Rights.{all_allow, allows}
use Rattle.access_terms.proofs.Allowing.{all_more}
use Rattle.access_terms.proofs.Tests.{both_hold}
use Rattle.access_terms.proofs.rights.bytes_allowed.Goals as goal

pub byte_allowed-requires : goal.byte_allowed-requires
byte_allowed-requires g c = stays c.args.pool.now c.loop-index.pool 32 c.args.address.number c.loop-index.invariant.grows c.requires

pub loop-index-preserved : goal.loop-index-preserved
loop-index-preserved g c =
    let old = c.args.pool.now in
    let mid = c.loop-index.pool in
    let two = c.byte_allowed.new.pool in
    let new = c.both.new.pool in
    let a = c.args.address.number in
    let right = c.args.right in
    let cells = opening_cells c.args.image.now in
    let i = c.loop-index.index in
    let t = c.loop-index.test.number in
    let b = c.in_ok-byte.byte.number in
    let before = λ (w : Assignment). bit_of (all_allow right cells (value_at w old a) i) in
    let here = λ (w : Assignment). bit_of (allows right (cells ((value_at w old a + i) % 2 ^ 32))) in
    let below = bounded old a 32 c.width-width.result c.requires c.width-width.ensures.width c.width-width.ensures.below in
    let next : suc i ≡ i + 1 = omega arith in
    record {
      grows = grows_on old mid new c.loop-index.invariant.grows (grows_on mid two new c.byte_allowed.ensures.grows c.both.ensures.grows);
      made = reworded old new (a ∷ []) 1 (λ w. bit_and (before w) (here w)) (λ w. bit_of (all_allow right cells (value_at w old a) (i + 1))) _
          (by_two old two new (a ∷ []) t b 1 1 1 before here bit_and _ (later old mid two (a ∷ []) 1 before t c.byte_allowed.ensures.grows c.loop-index.invariant.made)
          (made_after old mid two a 1 32 (λ v. bit_of (allows right (cells ((v + i) % 2 ^ 32)))) b c.loop-index.invariant.grows c.requires c.in_ok-byte.ensures.made) c.in_ok-test-2.ensures.made)
          (λ w. both_hold (all_allow right cells (value_at w old a) i) (allows right (cells ((value_at w old a + i) % 2 ^ 32)))
          ∙ ap bit_of (all_more right cells (value_at w old a) i (below w) ∙ ap (all_allow right cells (value_at w old a)) next));
    }
