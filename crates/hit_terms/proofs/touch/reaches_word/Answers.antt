use Rattle.std.proofs.Common.{◌≡◌, ◌+◌, ◌∷◌, [], ◌∙◌, suc, ap, arith}
use Rattle.std.specs.Prelude.{bit_or}
use Rattle.bv_terms.specs.BitVectors.{bit_of}
use Rattle.bv_terms.specs.Values.{Assignment, value_at}
use Rattle.step_terms.proofs.Making.{by_two, grows_on, later, reworded, stays}
use Rattle.hit_terms.specs.Hits.{is_in_word, place_of, reaches_word}
use Rattle.hit_terms.proofs.Selecting.{made_after_two, one_holds}
use Rattle.hit_terms.proofs.touch.reaches_word.Goals as goal

pub in_word-requires-clause-address : goal.in_word-requires-clause-address
in_word-requires-clause-address g c = stays c.args.pool.now c.loop-index.pool 32 c.args.address.number c.loop-index.invariant.grows c.requires.address

pub in_word-requires-clause-reserved : goal.in_word-requires-clause-reserved
in_word-requires-clause-reserved g c = stays c.args.pool.now c.loop-index.pool 32 c.args.reserved.number c.loop-index.invariant.grows c.requires.reserved

pub loop-index-preserved : goal.loop-index-preserved
loop-index-preserved g c =
    let old = c.args.pool.now in
    let mid = c.loop-index.pool in
    let two = c.in_word.new.pool in
    let new = c.either.new.pool in
    let a = c.args.address.number in
    let l = c.args.reserved.number in
    let i = c.loop-index.index in
    let t = c.loop-index.test.number in
    let b = c.in_ok-byte.byte.number in
    let before = λ (w : Assignment). bit_of (reaches_word i (value_at w old a) (value_at w old l)) in
    let here = λ (w : Assignment). bit_of (is_in_word (place_of (value_at w old a) i) (value_at w old l)) in
    let next : suc i ≡ i + 1 = omega arith in
    record {
      grows = grows_on old mid new c.loop-index.invariant.grows (grows_on mid two new c.in_word.ensures.grows c.either.ensures.grows);
      made = reworded old new (a ∷ l ∷ []) 1 (λ w. bit_or (before w) (here w)) (λ w. bit_of (reaches_word (i + 1) (value_at w old a) (value_at w old l))) _
          (by_two old two new (a ∷ l ∷ []) t b 1 1 1 before here bit_or _ (later old mid two (a ∷ l ∷ []) 1 before t c.in_word.ensures.grows c.loop-index.invariant.made)
          (made_after_two old mid two a l 32 32 1 (λ u v. bit_of (is_in_word (place_of u i) v)) b c.loop-index.invariant.grows c.requires.address c.requires.reserved c.in_ok-byte.ensures.made)
          c.in_ok-test-2.ensures.made)
          (λ w. one_holds (reaches_word i (value_at w old a) (value_at w old l)) (is_in_word (place_of (value_at w old a) i) (value_at w old l))
          ∙ ap (λ n. bit_of (reaches_word n (value_at w old a) (value_at w old l))) next);
    }
