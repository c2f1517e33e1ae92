use Rattle.std.proofs.Common.{◌∙◌, sym, subst}
use Rattle.clause_store.specs.Formula.{IsKnown}
use Rattle.bit_clauses.proofs.Comparisons.{known-opposite}
use Rattle.bit_clauses.proofs.Shifts.{magnitude_circuit}
use Rattle.bit_clauses.proofs.shift.magnitude.Goals as goal

pub select-requires-clause-first_known : goal.select-requires-clause-first_known
select-requires-clause-first_known c = subst (IsKnown c.args.clauses.now.vars) (sym (c.as_slice.ensures ∙ c.in_ok-opposites.ensures)) (known-opposite c.args.clauses.now.vars c.args.lits.now c.requires.lits_known)

pub returns-clause-circuit : goal.returns-clause-circuit
returns-clause-circuit c = magnitude_circuit c.args.clauses.now c.select.new.clauses c.args.lits.now c.as_slice.result.now c.in_ok-out.out c.args.sign (c.as_slice.ensures ∙ c.in_ok-opposites.ensures) c.in_ok-out.ensures.circuit
