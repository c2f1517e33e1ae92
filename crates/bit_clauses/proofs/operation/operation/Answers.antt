use Rattle.std.proofs.Common.{◌≡◌, ◌++◌, List, false, length, ◌∙◌, subst, sym}
use Rattle.std.specs.Prelude.{IfOk}
use Rattle.bv_terms.specs.declared.node.BinOp.{BinOp}
use Rattle.bv_terms.specs.declared.node.BinOp.TheVariants as op
use Rattle.bv_terms.specs.BitVectors.{bits}
use Rattle.clause_store.specs.declared.lit.Lit.{Lit}
use Rattle.clause_store.specs.Literals.{literal_value}
use Rattle.clause_store.specs.Formula.{IsKnown}
use Rattle.bit_clauses.specs.declared.way.Way.TheVariants as way
use Rattle.bit_clauses.specs.Circuit.{IsCircuit, Decides, DecidesAll}
use Rattle.bit_clauses.specs.Operation.{SpellsOperation}
use Rattle.bit_clauses.specs.Shift.{shifted_value, signed_value}
use Rattle.bit_clauses.specs.Spelled.{spelled}
use Rattle.bit_clauses.proofs.Numbers.{spelled_small}
use Rattle.bit_clauses.proofs.Operations.{by_nil, concat_spells, if_one, if_three, left_shift_same, right_shift_same, signed_shift_same}
use Rattle.bit_clauses.proofs.operation.operation.Goals as goal

pub returns-in-Shl-clause-spells : goal.returns-in-Shl-clause-spells
returns-in-Shl-clause-spells c =
    let left = c.args.left.now in
    let right = c.args.right.now in
    let nil = c.opposite-no.result in
    subst (λ (o : BinOp). IfOk c.shift.result (λ out. SpellsOperation c.args.clauses.now c.shift.new.clauses o left right c.args.yes out)) (sym c.in-Shl.is)
    (if_three c.shift.result (λ out. length out ≡ length left) (λ out. IsKnown c.shift.new.clauses.vars out)
    (λ out. IsCircuit c.args.clauses.now c.shift.new.clauses (λ v. DecidesAll v left × DecidesAll v right × Decides v nil) (λ v. DecidesAll v out)
    (λ w. literal_value w nil ≡ false → spelled w out ≡ shifted_value way.Up (length left) (spelled w left) (spelled w right)))
    (λ out. SpellsOperation c.args.clauses.now c.shift.new.clauses op.Shl left right c.args.yes out)
    (λ out count known one.
    by_nil c.args.clauses.now c.shift.new.clauses op.Shl left right out c.args.yes nil (λ v. DecidesAll v out) (λ w. literal_value w nil ≡ false → spelled w out ≡ shifted_value way.Up (length left) (spelled w left) (spelled w right))
    c.opposite-no.ensures count known one (λ v h. h) (λ w t m. m t ∙ left_shift_same (spelled w left) (length left) (spelled w right)))
    c.shift.ensures.width c.shift.ensures.known c.shift.ensures.circuit)

pub returns-in-Lshr-clause-spells : goal.returns-in-Lshr-clause-spells
returns-in-Lshr-clause-spells c =
    let left = c.args.left.now in
    let right = c.args.right.now in
    let nil = c.opposite-no.result in
    subst (λ (o : BinOp). IfOk c.shift-in-Lshr.result (λ out. SpellsOperation c.args.clauses.now c.shift-in-Lshr.new.clauses o left right c.args.yes out)) (sym c.in-Lshr.is)
    (if_three c.shift-in-Lshr.result (λ out. length out ≡ length left) (λ out. IsKnown c.shift-in-Lshr.new.clauses.vars out)
    (λ out. IsCircuit c.args.clauses.now c.shift-in-Lshr.new.clauses (λ v. DecidesAll v left × DecidesAll v right × Decides v nil) (λ v. DecidesAll v out)
    (λ w. literal_value w nil ≡ false → spelled w out ≡ shifted_value way.Down (length left) (spelled w left) (spelled w right)))
    (λ out. SpellsOperation c.args.clauses.now c.shift-in-Lshr.new.clauses op.Lshr left right c.args.yes out)
    (λ out count known one.
    by_nil c.args.clauses.now c.shift-in-Lshr.new.clauses op.Lshr left right out c.args.yes nil (λ v. DecidesAll v out) (λ w. literal_value w nil ≡ false → spelled w out ≡ shifted_value way.Down (length left) (spelled w left) (spelled w right))
    c.opposite-no.ensures count known one (λ v h. h) (λ w t m. m t ∙ right_shift_same (spelled w left) (length left) (spelled w right) (spelled_small w left)))
    c.shift-in-Lshr.ensures.width c.shift-in-Lshr.ensures.known c.shift-in-Lshr.ensures.circuit)

pub returns-in-Ashr-clause-spells : goal.returns-in-Ashr-clause-spells
returns-in-Ashr-clause-spells c =
    let left = c.args.left.now in
    let right = c.args.right.now in
    let nil = c.opposite-no.result in
    subst (λ (o : BinOp). IfOk c.shift_signed.result (λ out. SpellsOperation c.args.clauses.now c.shift_signed.new.clauses o left right c.args.yes out)) (sym c.in-Ashr.is)
    (if_three c.shift_signed.result (λ out. length out ≡ length left) (λ out. IsKnown c.shift_signed.new.clauses.vars out)
    (λ out. IsCircuit c.args.clauses.now c.shift_signed.new.clauses (λ v. DecidesAll v left × DecidesAll v right × Decides v nil) (λ v. DecidesAll v out)
    (λ w. literal_value w nil ≡ false → spelled w out ≡ signed_value (bits (length left) (spelled w left)) (spelled w right)))
    (λ out. SpellsOperation c.args.clauses.now c.shift_signed.new.clauses op.Ashr left right c.args.yes out)
    (λ out count known one.
    by_nil c.args.clauses.now c.shift_signed.new.clauses op.Ashr left right out c.args.yes nil (λ v. DecidesAll v out) (λ w. literal_value w nil ≡ false → spelled w out ≡ signed_value (bits (length left) (spelled w left)) (spelled w right))
    c.opposite-no.ensures count known one (λ v h. h) (λ w t m. m t ∙ signed_shift_same (spelled w left) (length left) (length right) (spelled w right) (spelled_small w left)))
    c.shift_signed.ensures.width c.shift_signed.ensures.known c.shift_signed.ensures.circuit)

pub returns-in-Concat-clause-spells : goal.returns-in-Concat-clause-spells
returns-in-Concat-clause-spells c =
    let f = c.args.clauses.now in
    let left = c.args.left.now in
    let right = c.args.right.now in
    subst (λ (o : BinOp). IfOk c.joined.result (λ out. SpellsOperation f f o left right c.args.yes out)) (sym c.in-Concat.is)
    (if_one c.joined.result (λ out. out ≡ right ++ left) (λ out. SpellsOperation f f op.Concat left right c.args.yes out)
    (λ out e. subst (λ (l : List Lit). SpellsOperation f f op.Concat left right c.args.yes l) (sym e) (concat_spells f left right c.args.yes c.requires.left_known c.requires.right_known))
    c.joined.ensures)
