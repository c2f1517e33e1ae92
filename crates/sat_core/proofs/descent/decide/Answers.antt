use Rattle.sat_core.proofs.Answering as answering
use Rattle.sat_core.proofs.descent.decide.Goals as goal

pub returns-clause-descent : goal.returns-clause-descent
returns-clause-descent c =
    answering.descent-decided (c.args.clauses.now).vars (c.args.clauses.now).clauses c.args.lines.now c.args.first.now c.args.engine c.in_ok-decided.decided c.args.lit c.requires.descent c.requires.settled c.requires.picked c.in_ok-decided.ensures
