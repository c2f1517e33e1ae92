use Rattle.outcome_clauses.proofs.Affirming.{none_of}
use Rattle.outcome_clauses.proofs.none_of.add_none_of.Goals as goal

pub returns-clause-ok : goal.returns-clause-ok
returns-clause-ok c =
    none_of c.args.clauses.now c.add_refutations.new.clauses c.add_affirmation.new.clauses c.args.literal c.args.conditions.now
    c.in_ok-add_refutations.ensures.ok c.in_ok-add_affirmation.ensures.ok
