use Rattle.std.proofs.Common.{Option, subst}
use Rattle.clause_store.specs.declared.lit.Lit.{Lit}
use Rattle.clause_check.specs.Bases.{IsFirstOpen}
use Rattle.clause_check.proofs.Basing as basing
use Rattle.clause_check.proofs.base.add_line.Goals as goal

pub returns-then-is_held : goal.returns-then-is_held
returns-then-is_held c = basing.held-base c.args.engine c.args.line.now c.requires.calm c.len-steps.ensures.walk c.if-is_held.ensures

pub returns-in_default : goal.returns-in_default
returns-in_default c =
    basing.false-base c.args.engine c.args.line.now c.requires.calm c.len-steps.ensures.walk c.if-is_held.ensures
    (subst (λ (o : Option Lit). IsFirstOpen c.args.engine.steps c.args.line.now o) c.in_default.is c.first_open.ensures)

pub add_unit-requires-clause-unheld : goal.add_unit-requires-clause-unheld
add_unit-requires-clause-unheld c = c.if-is_held.ensures
