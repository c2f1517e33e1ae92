use Rattle.std.proofs.Common.{◌≡◌, ◌+◌, ◌-◌, false, List, length, subst, sym, arith}
use Rattle.bv_terms.specs.BitVectors.{sign_extend_value}
use Rattle.clause_store.specs.declared.lit.Lit.{Lit}
use Rattle.bit_clauses.specs.Operation.{SpellsWired}
use Rattle.bit_clauses.proofs.Wires.{signs_wired}
use Rattle.bit_clauses.proofs.unary.with_signs.Goals as goal

pub returns : goal.returns
returns c = λ sure.
    let d : Lit = record { var = 0; positive = false } in
    let top = length c.args.lits.now - 1 in
    let last : top + 1 ≡ length c.args.lits.now = omega (arith, c.requires.some_bit) in
    subst (λ (l : List Lit). SpellsWired c.args.lits.now sure c.args.width (λ a. sign_extend_value a c.args.width) l) (sym c.in_ok-out.ensures)
    (signs_wired c.args.lits.now sure top c.args.width d last c.requires.wider)
