use Rattle.std.proofs.Common.{◌+◌, ◌%◌, ◌^◌, ◌&&◌, ◌||◌, ◌∷◌, [], nat_lt, arith}
use Rattle.std.specs.Prelude.{bit_and, nat_le}
use Rattle.elf_image.specs.Memory.{opening_cells}
use Rattle.bv_terms.specs.BitVectors.{bit_of}
use Rattle.bv_terms.specs.Values.{Assignment, value_at}
use Rattle.rv_model.specs.Calls.{fits_buffer}
use Rattle.step_terms.proofs.Making.{bounded, by_two, grows_on, later, made_second, reworded, stays}
use Rattle.access_terms.specs.Rights.{all_allow, allows}
use Rattle.call_terms.proofs.Buffers.{fits_none, fits_up_to, least, passes_after}
use Rattle.call_terms.proofs.refused.allowed.Goals as goal

pub loop-index-init : goal.loop-index-init
loop-index-init g c =
    let old = c.args.pool.now in
    let one = c.within.new.pool in
    let a = c.args.address.number in
    let n = c.args.count.number in
    let cells = opening_cells c.args.image.now in
    record {
      grows = c.within.ensures.grows;
      made = reworded old one (a ∷ n ∷ []) 1 (λ w. bit_of (nat_le 0 (value_at w old n) && nat_lt (value_at w old n) (0 + 257)))
          (λ w. bit_of (fits_buffer (value_at w old n) && all_allow c.args.right cells (value_at w old a) (least (value_at w old n) 0))) c.in_ok-test.test.number
          (made_second old one a n 1 _ c.in_ok-test.test.number c.in_ok-test.ensures.made) (λ w. fits_none c.args.right cells (value_at w old a) (value_at w old n));
    }

pub loop-index-preserved : goal.loop-index-preserved
loop-index-preserved g c =
    let old = c.args.pool.now in
    let mid = c.loop-index.pool in
    let two = c.byte_passes.new.pool in
    let new = c.both.new.pool in
    let a = c.args.address.number in
    let n = c.args.count.number in
    let right = c.args.right in
    let cells = opening_cells c.args.image.now in
    let i = c.loop-index.index in
    let t = c.loop-index.test.number in
    let b = c.in_ok-byte.byte.number in
    let before = λ (w : Assignment). bit_of (fits_buffer (value_at w old n) && all_allow right cells (value_at w old a) (least (value_at w old n) i)) in
    let here = λ (w : Assignment). bit_of (nat_le (value_at w old n) i || allows right (cells ((value_at w old a + i) % 2 ^ 32))) in
    let below = bounded old a 32 c.width-width.result c.requires.address c.width-width.ensures.width c.width-width.ensures.below in
    record {
      grows = grows_on old mid new c.loop-index.invariant.grows (grows_on mid two new c.byte_passes.ensures.grows c.both.ensures.grows);
      made = reworded old new (a ∷ n ∷ []) 1 (λ w. bit_and (before w) (here w))
          (λ w. bit_of (fits_buffer (value_at w old n) && all_allow right cells (value_at w old a) (least (value_at w old n) (i + 1)))) _
          (by_two old two new (a ∷ n ∷ []) t b 1 1 1 before here bit_and _ (later old mid two (a ∷ n ∷ []) 1 before t c.byte_passes.ensures.grows c.loop-index.invariant.made)
          (passes_after old mid two a n right cells i b c.loop-index.invariant.grows c.requires.address c.requires.count c.in_ok-byte.ensures.made) c.in_ok-test-2.ensures.made)
          (λ w. fits_up_to right cells (value_at w old a) (value_at w old n) i (below w));
    }

pub byte_passes-requires : goal.byte_passes-requires
byte_passes-requires g c = record {
  address = stays c.args.pool.now c.loop-index.pool 32 c.args.address.number c.loop-index.invariant.grows c.requires.address;
  count = stays c.args.pool.now c.loop-index.pool 32 c.args.count.number c.loop-index.invariant.grows c.requires.count;
  index = omega (arith, c.loop-index-test.true);
}
