use Rattle.std.proofs.Common.{◌≡◌, ◌+◌, ◌∷◌, ◌++◌, [], subst, sym, rules, arith}
use Rattle.std.proofs.lemmas.Grind.{common_steps}
use Rattle.step_terms.proofs.Making.{grows_on}
use Rattle.access_terms.specs.Split.{AreLowBytes}
use Rattle.access_terms.proofs.LowBytes.{low_more}
use Rattle.access_terms.proofs.split.low_bytes.Goals as goal

pub loop-place-preserved : goal.loop-place-preserved
loop-place-preserved c =
    let old = c.args.pool.now in
    let mid = c.loop-place.pool in
    let new = c.stored.new.pool in
    let word = c.args.word.number in
    let i = c.loop-place.place in
    let ids = c.loop-place.bytes in
    let id = c.in_ok-byte.byte in
    let pushed : c.push.new.self ≡ ids ++ id ∷ [] = first_of (search rules, cc, grind (arith, common_steps)) in
    record {
      grows = grows_on old mid new c.loop-place.invariant.grows c.stored.ensures.grows;
      split = subst (λ l. AreLowBytes old new word (i + 1) l) (sym pushed)
          (low_more old mid new word i ids id c.loop-place.invariant.grows c.stored.ensures.grows c.requires.word c.loop-place.invariant.split c.in_ok-byte.ensures.made);
    }
