use Rattle.clause_store.specs.declared.lit.Lit.{Lit}
use Rattle.bit_gates.specs.Gate.{chosen}
use Rattle.bit_gates.specs.Fixed.{mux_clauses}
use Rattle.bit_gates.proofs.GateLemmas.{output_of, gate_made, chosen_gives, mux_fixes}
use Rattle.bit_gates.proofs.gates.mux.Goals as goal

pub returns-clause-gate : goal.returns-clause-gate
returns-clause-gate c =
    gate_made c.args.clauses.now c.fresh_literal.new.clauses c.fix_mux.new.clauses c.in_ok-out.out
    (λ (out : Lit). mux_clauses c.args.when c.args.yes c.args.no out)
    (chosen c.args.when c.args.yes c.args.no) c.in_ok-out.ensures.known
    (mux_fixes c.args.clauses.now.vars c.args.when c.args.yes c.args.no (output_of c.args.clauses.now) c.requires.when_known c.requires.yes_known c.requires.no_known)
    c.in_ok-out.ensures.literal c.in_ok-out.ensures.ok c.in_ok-fix_mux.ensures.ok

pub returns-clause-given : goal.returns-clause-given
returns-clause-given c =
    chosen_gives c.fresh_literal.new.clauses c.fix_mux.new.clauses c.args.when c.args.yes c.args.no c.in_ok-out.out c.in_ok-fix_mux.ensures.ok
