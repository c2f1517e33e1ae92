use Rattle.std.proofs.Common.{◌∷◌, []}
use Rattle.std.proofs.lemmas.Result.{IfOk-weaker}
use Rattle.bv_terms.specs.Values.{value_at}
use Rattle.step_terms.proofs.Making.{first_part, of_part}
use Rattle.step_terms.proofs.division.sign.Goals as goal

pub returns-clause-made : goal.returns-clause-made
returns-clause-made c =
    let old = c.args.pool.now in
    let a = c.args.word.number in
    IfOk-weaker c.part.result _ _ (λ id h. of_part old old c.part.new.pool (a ∷ []) a 32 31 31 (λ w. value_at w old a) id.number (first_part old a [] 32 c.requires) h) c.part.ensures.term
