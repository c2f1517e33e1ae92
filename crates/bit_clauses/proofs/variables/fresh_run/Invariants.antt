use Rattle.std.proofs.Common.{◌≡◌, ◌+◌}
use Rattle.bit_clauses.proofs.variables.fresh_run.Given as goal

abbrev pub invariant-loop-i : goal.invariant-loop-i
invariant-loop-i l = l.clauses ≡ record l.initial.clauses { vars = l.initial.clauses.vars + l.i }
