use Rattle.clause_store.specs.declared.lit.Lit.{Lit}
use Rattle.bit_gates.specs.Gate.{both, joined}
use Rattle.bit_gates.specs.Fixed.{and_clauses}
use Rattle.bit_gates.proofs.GateLemmas.{output_of, gate_made, rest_of_fixed, and_fixes, and_given, and_settled}
use Rattle.bit_gates.proofs.gates.and.Goals as goal

pub returns-clause-gate : goal.returns-clause-gate
returns-clause-gate c =
    gate_made c.args.clauses.now c.fresh_literal.new.clauses c.fix_and.new.clauses c.in_ok-out.out (λ (out : Lit). and_clauses c.args.a c.args.b out)
    (joined both c.args.a c.args.b) c.in_ok-out.ensures.known
    (and_fixes c.args.clauses.now.vars c.args.a c.args.b (output_of c.args.clauses.now) c.requires.a_known c.requires.b_known)
    c.in_ok-out.ensures.literal c.in_ok-out.ensures.ok c.in_ok-fix_and.ensures.ok

pub returns-clause-given : goal.returns-clause-given
returns-clause-given c =
    λ v p q rest.
    and_given c.args.a c.args.b c.in_ok-out.out v p q
    (rest_of_fixed c.fresh_literal.new.clauses c.fix_and.new.clauses (and_clauses c.args.a c.args.b c.in_ok-out.out) c.in_ok-fix_and.ensures.ok v rest)

pub returns-clause-settled : goal.returns-clause-settled
returns-clause-settled c =
    λ v rest.
    and_settled c.args.a c.args.b c.in_ok-out.out v
    (rest_of_fixed c.fresh_literal.new.clauses c.fix_and.new.clauses (and_clauses c.args.a c.args.b c.in_ok-out.out) c.in_ok-fix_and.ensures.ok v rest)
