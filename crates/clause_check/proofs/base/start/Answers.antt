use Rattle.std.proofs.Common.{ℕ, List, subst}
use Rattle.std.specs.Prelude.{IfOk}
use Rattle.clause_store.specs.declared.lit.Lit.{Lit}
use Rattle.clause_check.specs.Bases.{IsBaseOf}
use Rattle.clause_check.proofs.Basing as basing
use Rattle.clause_check.proofs.base.start.Goals as goal

pub settle-requires : goal.settle-requires
settle-requires c =
    basing.loaded-forced (c.args.clauses.now).vars (c.args.clauses.now).clauses c.new-lines.result c.in_ok-engine.field-0 c.in-Some.engine c.new-lines.ensures c.in_ok-engine.ensures c.in-Some.is

pub returns-in-Some : goal.returns-in-Some
returns-in-Some c =
    subst (λ (n : ℕ). IfOk c.settle.result (λ base. IsBaseOf n (c.args.clauses.now).clauses base))
    (basing.loaded-vars (c.args.clauses.now).vars (c.args.clauses.now).clauses c.new-lines.result c.in_ok-engine.field-0 c.in-Some.engine c.new-lines.ensures c.in_ok-engine.ensures c.in-Some.is)
    (subst (λ (cs : List (List Lit)). IfOk c.settle.result (λ base. IsBaseOf c.in-Some.engine.vars cs base))
    (basing.loaded-clauses (c.args.clauses.now).vars (c.args.clauses.now).clauses c.new-lines.result c.in_ok-engine.field-0 c.in-Some.engine c.new-lines.ensures c.in_ok-engine.ensures c.in-Some.is) c.settle.ensures)

pub returns : goal.returns
returns c = basing.loaded-none (c.args.clauses.now).vars (c.args.clauses.now).clauses c.new-lines.result c.in_ok-engine.field-0 c.new-lines.ensures c.in_ok-engine.ensures c.in-None.is
