use Rattle.std.proofs.Common.{◌≡◌, ◌+◌, ◌-◌, [], List, true, cond, length, nat_eq, subst}
use Rattle.std.specs.Prelude.{All}
use Rattle.bv_terms.specs.declared.node.Node.{Node}
use Rattle.bv_terms.specs.declared.node.Node.TheVariants as node
use Rattle.bv_terms.specs.BitVectors.{not_value, extract_value, sign_extend_value, byte_value}
use Rattle.bv_terms.specs.Shapes.{shape_of, Const}
use Rattle.clause_store.specs.declared.lit.Lit.{Lit}
use Rattle.clause_store.specs.Literals.{Assignment, literal_value}
use Rattle.bit_clauses.specs.Circuit.{DecidesAll}
use Rattle.bit_clauses.specs.Nodes.{HasLiterals, HaveLiterals, SpellsNode}
use Rattle.bit_clauses.specs.Operation.{Spells, SpellsOf, SpellsOperation, SpellsWired}
use Rattle.bit_clauses.specs.Spelled.{spelled}
use Rattle.bit_clauses.proofs.Blasted.{first_child}
use Rattle.bit_clauses.proofs.Children.{at_node, child_known, const_node, of_one, of_two, of_three}
use Rattle.bit_clauses.proofs.Operations.{if_three}
use Rattle.bit_clauses.proofs.nodes.node_bits.Goals as goal

pub returns-in-Const-clause-spells : goal.returns-in-Const-clause-spells
returns-in-Const-clause-spells c =
    let f = c.args.clauses.now in
    let terms = c.args.terms.now in
    at_node c.args.node (node.Const c.in-Const.width c.in-Const.value) c.constant.result f f terms c.args.yes
    (λ out. SpellsNode f f terms c.args.yes (Const c.in-Const.width c.in-Const.value) out) c.in-Const.is (λ out h. h)
    (if_three c.constant.result (λ out. length out ≡ c.in-Const.width) (λ out. All (λ (l : Lit). l.var ≡ c.args.yes.var) out)
    (λ out. (w : Assignment) → literal_value w c.args.yes ≡ true → spelled w out ≡ c.in-Const.value)
    (λ out. SpellsNode f f terms c.args.yes (Const c.in-Const.width c.in-Const.value) out)
    (λ out count same is. const_node f terms c.args.yes c.in-Const.width c.in-Const.value out c.requires.yes_known count same is)
    c.constant.ensures.width c.constant.ensures.same_variable c.constant.ensures.value)

pub returns-in-Not-clause-spells : goal.returns-in-Not-clause-spells
returns-in-Not-clause-spells c =
    let f = c.args.clauses.now in
    let terms = c.args.terms.now in
    let lits = c.lits_of.result.now in
    let of = c.in-Not.of.number in
    let kids = subst (λ (k : Node). HaveLiterals terms f.vars (shape_of k)) c.in-Not.is c.requires.children in
    at_node c.args.node (node.Not c.in-Not.of) c.inverse.result f f terms c.args.yes
    (λ out. (sure : Lit) → SpellsWired lits sure (length lits) not_value out) c.in-Not.is
    (λ out h t.
    of_one f f terms of lits c.args.yes (λ (l : List Lit). length l) not_value out c.lits_of.ensures
    (h c.args.yes f (child_known terms f.vars of lits c.lits_of.ensures (first_child (HasLiterals terms f.vars) of [] kids)) c.requires.yes_known))
    c.inverse.ensures

pub returns-in-Bin-clause-spells : goal.returns-in-Bin-clause-spells
returns-in-Bin-clause-spells c =
    let old = c.args.clauses.now in
    let new = c.operation.new.clauses in
    let terms = c.args.terms.now in
    let left = c.lits_of-in-Bin.result.now in
    let right = c.lits_of-in-Bin-2.result.now in
    at_node c.args.node (node.Bin c.in-Bin.op c.in-Bin.left c.in-Bin.right) c.operation.result old new terms c.args.yes
    (λ out. SpellsOperation old new c.in-Bin.op left right c.args.yes out) c.in-Bin.is
    (λ out h t. of_two old new terms c.in-Bin.op c.in-Bin.left.number c.in-Bin.right.number left right c.args.yes out c.lits_of-in-Bin.ensures c.lits_of-in-Bin-2.ensures h)
    c.operation.ensures.spells

pub returns-in-Extract-clause-spells : goal.returns-in-Extract-clause-spells
returns-in-Extract-clause-spells c =
    let f = c.args.clauses.now in
    let terms = c.args.terms.now in
    let lits = c.lits_of-in-Extract.result.now in
    let of = c.in-Extract.of.number in
    let kids = subst (λ (k : Node). HaveLiterals terms f.vars (shape_of k)) c.in-Extract.is c.requires.children in
    at_node c.args.node (node.Extract c.in-Extract.of c.in-Extract.high c.in-Extract.low) c.part.result f f terms c.args.yes
    (λ out. (sure : Lit) → SpellsWired lits sure (c.in-Extract.high + 1 - c.in-Extract.low) (λ a. extract_value a c.in-Extract.high c.in-Extract.low) out) c.in-Extract.is
    (λ out h t.
    of_one f f terms of lits c.args.yes (λ (l : List Lit). c.in-Extract.high + 1 - c.in-Extract.low) (λ a. extract_value a c.in-Extract.high c.in-Extract.low) out c.lits_of-in-Extract.ensures
    (h c.args.yes f (child_known terms f.vars of lits c.lits_of-in-Extract.ensures (first_child (HasLiterals terms f.vars) of [] kids)) c.requires.yes_known))
    c.part.ensures

pub returns-in-SignExtend-clause-spells : goal.returns-in-SignExtend-clause-spells
returns-in-SignExtend-clause-spells c =
    let f = c.args.clauses.now in
    let terms = c.args.terms.now in
    let lits = c.lits_of-in-SignExtend.result.now in
    let of = c.in-SignExtend.of.number in
    let kids = subst (λ (k : Node). HaveLiterals terms f.vars (shape_of k)) c.in-SignExtend.is c.requires.children in
    at_node c.args.node (node.SignExtend c.in-SignExtend.of c.in-SignExtend.width) c.with_signs.result f f terms c.args.yes
    (λ out. (sure : Lit) → SpellsWired lits sure (c.in-SignExtend.width) (λ a. sign_extend_value a c.in-SignExtend.width) out) c.in-SignExtend.is
    (λ out h t.
    of_one f f terms of lits c.args.yes (λ (l : List Lit). c.in-SignExtend.width) (λ a. sign_extend_value a c.in-SignExtend.width) out c.lits_of-in-SignExtend.ensures
    (h c.args.yes f (child_known terms f.vars of lits c.lits_of-in-SignExtend.ensures (first_child (HasLiterals terms f.vars) of [] kids)) c.requires.yes_known))
    c.with_signs.ensures

pub returns-in-Ite-clause-spells : goal.returns-in-Ite-clause-spells
returns-in-Ite-clause-spells c =
    let old = c.args.clauses.now in
    let new = c.choice.new.clauses in
    let terms = c.args.terms.now in
    let when = c.lits_of-in-Ite.result.now in
    let first = c.lits_of-in-Ite-2.result.now in
    let second = c.lits_of-in-Ite-3.result.now in
    at_node c.args.node (node.Ite c.in-Ite.when c.in-Ite.first c.in-Ite.second) c.choice.result old new terms c.args.yes
    (λ out. Spells old new (λ v. DecidesAll v when × DecidesAll v first × DecidesAll v second) c.args.yes (length first) (λ w. cond (nat_eq (spelled w when) 1) (spelled w first) (spelled w second)) out) c.in-Ite.is
    (λ out h t.
    of_three old new terms c.in-Ite.when.number c.in-Ite.first.number c.in-Ite.second.number when first second c.args.yes out
    c.lits_of-in-Ite.ensures c.lits_of-in-Ite-2.ensures c.lits_of-in-Ite-3.ensures h)
    c.choice.ensures.spells

pub returns-in-ByteSelect-clause-spells : goal.returns-in-ByteSelect-clause-spells
returns-in-ByteSelect-clause-spells c =
    let old = c.args.clauses.now in
    let new = c.byte_select.new.clauses in
    let terms = c.args.terms.now in
    let lits = c.lits_of-in-ByteSelect.result.now in
    at_node c.args.node (node.ByteSelect c.in-ByteSelect.first c.in-ByteSelect.bytes c.in-ByteSelect.index) c.byte_select.result old new terms c.args.yes
    (λ out. SpellsOf old new lits c.args.yes 8 (λ a. byte_value c.in-ByteSelect.first c.in-ByteSelect.bytes.now a.value) out) c.in-ByteSelect.is
    (λ out h t.
    of_one old new terms c.in-ByteSelect.index.number lits c.args.yes (λ (l : List Lit). 8) (λ a. byte_value c.in-ByteSelect.first c.in-ByteSelect.bytes.now a.value) out
    c.lits_of-in-ByteSelect.ensures h)
    c.byte_select.ensures.spells
