use Rattle.sat_core.proofs.Answering as answering
use Rattle.sat_core.proofs.descent.settle.Goals as goal

pub returns : goal.returns
returns c =
    answering.settled-down (c.args.clauses.now).vars (c.args.clauses.now).clauses c.args.lines.now c.args.first.now c.args.engine c.in_ok-ended.ended.0 c.in_ok-ended.ended.1 c.requires c.in_ok-ended.ensures c.len-steps.ensures.path
