use Rattle.std.proofs.Common.{Bool, List, subst, sym}
use Rattle.sat_core.specs.declared.search.Turn.{Turn}
use Rattle.sat_core.specs.Searching.{IsTurn, IsFoundBy}
use Rattle.sat_core.proofs.Turning as turning
use Rattle.sat_core.proofs.solver.take_turns.Goals as goal

pub returns-in-Found : goal.returns-in-Found
returns-in-Found c =
    subst (λ (values : List Bool). IsFoundBy c.args.clauses.now values) (sym c.of.ensures)
    (subst (λ (turn : Turn). IsTurn c.args.clauses.now c.args.first.now c.args.budget c.loop-scout.lines turn) c.in-Found.is c.in_ok-values.ensures)

pub returns-in-Some : goal.returns-in-Some
returns-in-Some c =
    subst (λ (values : List Bool). IsFoundBy c.args.clauses.now values) (sym c.of-in-Some.ensures)
    (turning.if_some _ c.in_ok-values-in-Paused.field-0 c.in-Some.values c.in_ok-values-in-Paused.ensures c.in-Some.is)
