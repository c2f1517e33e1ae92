use Rattle.std.proofs.Common.{◌≡◌, ◌+◌, ◌∷◌, ◌++◌, [], take, subst, sym, ◌∙◌, ap, rules, arith}
use Rattle.std.proofs.lemmas.Grind.{common_steps}
use Rattle.std.proofs.lemmas.List.{take_more}
use Rattle.step_terms.proofs.Making.{grows_on}
use Rattle.call_terms.specs.Moved.{AreConstants}
use Rattle.call_terms.proofs.Access.{constants_more}
use Rattle.call_terms.proofs.call.constants.Goals as goal

pub loop-index-preserved : goal.loop-index-preserved
loop-index-preserved c =
    let old = c.args.pool.now in
    let mid = c.loop-index.pool in
    let new = c.constant.new.pool in
    let i = c.loop-index.index in
    let ids = c.loop-index.terms in
    let id = c.in_ok-term.term in
    let pushed : c.push.new.self ≡ ids ++ id ∷ [] = first_of (search rules, cc, grind (arith, common_steps)) in
    let more = take_more c.args.recorded.now i 0 c.loop-index-test.true ∙ ap (λ n. take i c.args.recorded.now ++ n ∷ []) (sym c.from.ensures) in
    record {
      grows = grows_on old mid new c.loop-index.invariant.grows c.constant.ensures.grows;
      constants = subst (λ l. AreConstants new (take (i + 1) c.args.recorded.now) l) (sym pushed)
          (subst (λ l. AreConstants new l (ids ++ id ∷ [])) (sym more)
          (constants_more mid new (take i c.args.recorded.now) _ ids id c.constant.ensures.grows c.loop-index.invariant.constants c.in_ok-term.ensures.made));
    }
