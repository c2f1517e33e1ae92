use Rattle.std.proofs.Common.{List, ◌+◌, ◌-◌, subst, sym}
use Rattle.bv_terms.specs.BitVectors.{extract_value}
use Rattle.clause_store.specs.declared.lit.Lit.{Lit}
use Rattle.bit_clauses.specs.Operation.{SpellsWired}
use Rattle.bit_clauses.proofs.Wires.{part_wired}
use Rattle.bit_clauses.proofs.unary.part.Goals as goal

pub returns : goal.returns
returns c = λ sure. subst (λ (l : List Lit). SpellsWired c.args.lits.now sure (c.args.high + 1 - c.args.low) (λ a. extract_value a c.args.high c.args.low) l) (sym c.in_ok-out.ensures)
    (part_wired c.args.lits.now sure c.args.high c.args.low c.requires.ordered c.requires.within)
