use Rattle.std.proofs.Common.{◌≡◌, List, ap, ◌∙◌, subst, sym}
use Rattle.bv_terms.specs.Shapes.{shape_of}
use Rattle.clause_store.specs.declared.lit.Lit.{Lit}
use Rattle.bit_clauses.specs.Bits.{Bits, BuildsTerm}
use Rattle.bit_clauses.specs.Nodes.{SpellsNode}
use Rattle.bit_clauses.proofs.Blasted.{with_term}
use Rattle.bit_clauses.proofs.Building.{builds_operation}
use Rattle.bit_clauses.proofs.blaster.Blaster.build_operation.Goals as goal

pub returns-clause-builds : goal.returns-clause-builds
returns-clause-builds c =
    let id = c.args.id.number in
    let b : Bits = record { sure = c.self.inside.yes; variables = c.self.inside.variables; terms = c.self.inside.terms.items } in
    let e : c.args.self.now ≡ b = first_of (assumption (c.self.view_is), assumption (sym c.self.view_is), search (c.self.view_is, sym c.self.view_is)) in
    let same : c.as_slice.result.now ≡ c.args.self.now.terms = c.as_slice.ensures.value ∙ ap (λ (x : Bits). x.terms) (sym e) in
    let spells = subst (λ (ts : List (List Lit)). SpellsNode c.args.clauses.now c.node_bits.new.clauses ts c.args.yes (shape_of c.args.node) c.in_ok-out.out) same c.in_ok-out.ensures.spells in
    subst (λ (x : Bits). BuildsTerm c.args.self.now (with_term x id c.in_ok-out.out) c.args.pool.now c.args.clauses.now c.node_bits.new.clauses id) e
    (builds_operation c.args.self.now c.args.pool.now c.args.clauses.now c.node_bits.new.clauses id (shape_of c.args.node) c.args.yes c.in_ok-out.out
    c.requires.known c.requires.sure c.requires.within c.requires.room c.requires.free c.requires.node c.requires.operation c.requires.width c.requires.is_width.0 c.requires.is_width.1 c.requires.value c.requires.children spells)
