use Rattle.std.proofs.Common.{subst}
use Rattle.std.specs.Prelude.{IfOk}
use Rattle.sat_trail.specs.Engines.{State}
use Rattle.clause_check.specs.Bases.{IsBaseOf}
use Rattle.clause_check.proofs.Basing as basing
use Rattle.clause_check.proofs.base.add_unit.Goals as goal

pub second_of-second-requires : goal.second_of-second-requires
second_of-second-requires c = c.requires.open.0

pub learn_unit-requires-clause-fits : goal.learn_unit-requires-clause-fits
learn_unit-requires-clause-fits c =
    basing.can-unit c.args.engine c.args.line.now c.args.key c.second_of-second.result c.requires.calm c.requires.unheld c.requires.open c.requires.beside c.second_of-second.ensures

pub settle-requires : goal.settle-requires
settle-requires c = basing.unit-forced c.args.engine c.in_ok-more.more c.args.line.now c.args.key c.requires.calm c.in_ok-more.ensures

pub returns : goal.returns
returns c = subst (λ (s : State). IfOk c.settle.result (λ base. IsBaseOf s.vars s.clauses base)) c.in_ok-more.ensures c.settle.ensures
