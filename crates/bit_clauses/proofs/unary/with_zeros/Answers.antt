use Rattle.std.proofs.Common.{List, subst, sym}
use Rattle.clause_store.specs.declared.lit.Lit.{Lit}
use Rattle.bit_clauses.specs.Operation.{SpellsWired}
use Rattle.bit_clauses.proofs.Wires.{zeros_wired}
use Rattle.bit_clauses.proofs.unary.with_zeros.Goals as goal

pub returns : goal.returns
returns c = subst (λ (l : List Lit). SpellsWired c.args.lits.now c.args.yes c.args.width (λ a. a.value) l) (sym c.in_ok-out.ensures)
    (zeros_wired c.args.lits.now c.args.yes c.opposite-no.result c.args.width c.opposite-no.ensures c.requires)
