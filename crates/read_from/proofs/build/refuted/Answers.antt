use Rattle.std.proofs.Common.{◌++◌, ◌∷◌, ◌∙◌, [], ap}
use Rattle.clause_store.specs.Formula.{Formula as Clauses}
use Rattle.read_from.proofs.Refuted.{refuted_is}
use Rattle.read_from.proofs.build.refuted.Goals as goal

pub returns : goal.returns
returns c =
    refuted_is c.args.image.now c.args.log.now c.args.also.now c.add.new.self c.logged_paths_fit.ensures c.logged_calls_fit.ensures c.requires.unfit
    (ap (λ (f : Clauses). f.clauses) c.in_ok-add.ensures.ok ∙ ap (λ (f : Clauses). f.clauses ++ [] ∷ []) c.new-clauses.ensures)
