use Rattle.std.proofs.Common.{List, ◌≡◌, ◌++◌, ◌∷◌, [], ◌∙◌, ap}
use Rattle.std.proofs.lemmas.Bool.{false≢true}
use Rattle.std.proofs.lemmas.Result.{on_ok_weaker}
use Rattle.clause_store.specs.declared.lit.Lit.{Lit}
use Rattle.clause_store.specs.Formula.{Formula}
use Rattle.outcome_clauses.proofs.Affirming.{either_known, affirms_by}
use Rattle.outcome_clauses.proofs.none_of.add_affirmation.Goals as goal

pub add-requires : goal.add-requires
add-requires c =
    either_known c.args.clauses.now.vars c.args.literal c.args.conditions.now c.in_ok-clause.clause c.as_slice.result.now c.requires.literal_known
    c.requires.conditions_known c.in_ok-clause.ensures c.as_slice.ensures

pub returns-clause-ok : goal.returns-clause-ok
returns-clause-ok c =
    let old : Formula = c.args.clauses.now in
    on_ok_weaker c.add.result
    (λ (e : c.add.new.self ≡ record { vars = old.vars; clauses = old.clauses ++ c.as_slice.result.now ∷ [] }).
    affirms_by old c.add.new.self c.args.literal c.args.conditions.now c.in_ok-clause.clause c.in_ok-clause.ensures
    (λ sure. false≢true (c.if-holds_surely.ensures.1 sure))
    (e ∙ ap (λ (k : List Lit). record { vars = old.vars; clauses = old.clauses ++ k ∷ [] }) c.as_slice.ensures)) c.add.ensures.ok
