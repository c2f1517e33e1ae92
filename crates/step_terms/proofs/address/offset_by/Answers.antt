use Rattle.std.proofs.Common.{◌+◌, ◌%◌, ◌^◌, ◌≤◌, ◌∷◌, [], subst, arith, w32, SFits}
use Rattle.std.specs.Prelude.{ℤ, pos, negsuc, unsigned_abs}
use Rattle.std.proofs.lemmas.Int.{to_z-of_z}
use Rattle.std.proofs.lemmas.Result.{IfOk-weaker}
use Rattle.bv_terms.specs.Values.{Assignment, value_at}
use Rattle.rv_model.specs.Values.{plus_offset, word_of}
use Rattle.step_terms.specs.Made.{IsMade}
use Rattle.step_terms.proofs.Making.{by_two, first_stays, made_constant, reworded}
use Rattle.step_terms.proofs.Words.{offset_sum}
use Rattle.step_terms.proofs.address.offset_by.Goals as goal

within : (z : ℤ) → SFits w32 z → unsigned_abs z ≤ 2 ^ 31
within (pos n) fits = let h = fits.sfits in omega (arith, h)
within (negsuc n) fits = let h = fits.sfits in omega (arith, h)

pub returns-clause-made : goal.returns-clause-made
returns-clause-made g c =
    let old = c.args.pool.now in
    let mid = c.signed_constant.new.pool in
    let new = c.of_words.new.pool in
    let a = c.args.word.number in
    let y = c.in_ok-offset.offset.number in
    let number = λ (w : Assignment). word_of c.args.offset in
    IfOk-weaker c.of_words.result _ _
    (λ id h. reworded old new (a ∷ []) 32 (λ w. (value_at w old a + word_of c.args.offset) % 2 ^ 32) (λ w. plus_offset (value_at w old a) c.args.offset) id.number
    (by_two old mid new (a ∷ []) a y 32 32 32 (λ w. value_at w old a) number (λ u v. (u + v) % 2 ^ 32) id.number (first_stays old mid a [] 32 c.signed_constant.ensures.grows c.requires)
    (made_constant old old mid (a ∷ []) 32 number y (subst (λ z. IsMade old mid [] 32 (λ w. word_of z) y) (to_z-of_z w32 c.args.offset c.ranges.offset) c.in_ok-offset.ensures.made)) h) (λ w. offset_sum (value_at w old a) c.args.offset (within c.args.offset c.ranges.offset))) c.of_words.ensures.made
