use Rattle.std.proofs.Common.{◌++◌, take}
use Rattle.clause_store.specs.UnitRule.{Derived}
use Rattle.clause_check.specs.Bases.{IsBase}
use Rattle.clause_check.proofs.verdict.first_gap.Given as goal

abbrev pub invariant-loop-at : goal.invariant-loop-at
invariant-loop-at l =
    record {
      stands : IsBase l.clauses.vars (l.clauses.clauses ++ take l.at l.lines) l.base;
      derived : Derived l.clauses.clauses (take l.at l.lines);
    }
