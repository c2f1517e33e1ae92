use Rattle.outcome_clauses.proofs.Placing.{placed_knows}
use Rattle.outcome_clauses.proofs.placed.add_placed_outcome.Goals as goal

pub add_outcome-requires : goal.add_outcome-requires
add_outcome-requires c =
    record { known = placed_knows c.args.clauses.now.vars c.args.table.now c.args.placed.now c.in_ok-sc.sc c.in_ok-sc.ensures c.requires.known }
