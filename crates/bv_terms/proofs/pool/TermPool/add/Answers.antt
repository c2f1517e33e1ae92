use Rattle.std.proofs.lemmas.Result.{IfOk-weaker}
use Rattle.bv_terms.specs.Shapes.{shape_of}
use Rattle.bv_terms.proofs.Folding.{kept_folded, term_folded}
use Rattle.bv_terms.proofs.pool.TermPool.add.Goals as goal

pub returns-clause-term : goal.returns-clause-term
returns-clause-term c =
    IfOk-weaker c.store.result _ _
    (λ id h. term_folded c.args.self.now c.store.new.self (shape_of c.args.node) (shape_of c.folded-kept.result) id.number c.folded-kept.ensures.folds h) c.store.ensures.term

pub returns-clause-kept : goal.returns-clause-kept
returns-clause-kept c not_folded =
    IfOk-weaker c.store.result _ _
    (λ id h. kept_folded c.args.self.now c.store.new.self (shape_of c.args.node) (shape_of c.folded-kept.result) id.number c.folded-kept.ensures.folds h not_folded) c.store.ensures.found
