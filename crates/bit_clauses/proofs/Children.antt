-- The literals of a node, from those of its children.
use Rattle.std.proofs.Common.{◌≡◌, ◌<◌, ℕ, true, cond, List, [], ◌∷◌, length, nat_eq, sym, subst}
use Rattle.std.specs.Prelude.{Result, IfOk, All}
use Rattle.bv_terms.specs.declared.node.BinOp.{BinOp}
use Rattle.bv_terms.specs.declared.node.Node.{Node}
use Rattle.bv_terms.specs.BitVectors.{BitVector, bin_value, bin_width}
use Rattle.bv_terms.specs.Shapes.{Const, shape_of}
use Rattle.clause_store.specs.declared.lit.Lit.{Lit}
use Rattle.clause_store.specs.Literals.{Assignment, literal_value}
use Rattle.clause_store.specs.Formula.{Formula, IsKnown}
use Rattle.clause_store.specs.UnitRule.{Partial}
use Rattle.bit_clauses.specs.Circuit.{Decides, DecidesAll}
use Rattle.bit_clauses.specs.Nodes.{lits_at, HasLiterals, SpellsNode}
use Rattle.bit_clauses.specs.Operation.{Spells, SpellsOf, SpellsOperation, vector}
use Rattle.bit_clauses.specs.Spelled.{spelled}
use Rattle.bit_clauses.proofs.Blasted.{first_child, other_children}
use Rattle.bit_clauses.proofs.Circuits.{said, no_circuit}
use Rattle.bit_clauses.proofs.Operations.{if_one}
use Rattle.bit_clauses.proofs.Tables.{same_decided, same_known}

respelled : (old new : Formula) (Given Asked : Partial → Type 0) (sure : Lit) (width : ℕ) (value : Assignment → ℕ) (out : List Lit)
    → Spells old new Asked sure width value out → ((v : Partial) → Given v → Asked v) → Spells old new Given sure width value out
respelled old new Given Asked sure width value out h asked = record {
  count = h.count;
  known = h.known;
  circuit = said old new (λ v. Given v × Decides v sure) (λ v. Asked v × Decides v sure) (λ v. DecidesAll v out) (λ v. DecidesAll v out)
      (λ w. literal_value w sure ≡ true → spelled w out ≡ value w) (λ w. literal_value w sure ≡ true → spelled w out ≡ value w)
      h.circuit (λ v g. (asked v g.0, g.1)) (λ v g k. k) (λ w m. m);
}

pub at_node : {E : Type 0} (n m : Node) (r : Result (List Lit) E) (old new : Formula) (terms : List (List Lit)) (sure : Lit) (P : List Lit → Type 0) → n ≡ m
    → ((out : List Lit) → P out → SpellsNode old new terms sure (shape_of m) out) → IfOk r P → IfOk r (λ out. SpellsNode old new terms sure (shape_of n) out)
at_node n m r old new terms sure P e f p =
    subst (λ (k : Node). IfOk r (λ out. SpellsNode old new terms sure (shape_of k) out)) (sym e) (if_one r P (λ out. SpellsNode old new terms sure (shape_of m) out) f p)

pub child_known : (terms : List (List Lit)) (vars of : ℕ) (lits : List Lit) → lits ≡ lits_at terms of → HasLiterals terms vars of → IsKnown vars lits
child_known terms vars of lits e h = subst (IsKnown vars) (sym e) h.known

pub const_node : (f : Formula) (terms : List (List Lit)) (sure : Lit) (width value : ℕ) (out : List Lit) → sure.var < f.vars → length out ≡ width
    → All (λ (l : Lit). l.var ≡ sure.var) out → ((w : Assignment) → literal_value w sure ≡ true → spelled w out ≡ value) → SpellsNode f f terms sure (Const width value) out
const_node f terms sure width value out known count same is t = record {
  count = count;
  known = same_known f.vars out sure same known;
  circuit = no_circuit f (λ v. All (λ id. DecidesAll v (lits_at terms id)) [] × Decides v sure) (λ v. DecidesAll v out) (λ w. literal_value w sure ≡ true → spelled w out ≡ value)
      (λ v g. same_decided v out sure same g.1) is;
}

pub of_one : (old new : Formula) (terms : List (List Lit)) (of : ℕ) (lits : List Lit) (sure : Lit) (width : List Lit → ℕ) (value : BitVector → ℕ) (out : List Lit)
    → lits ≡ lits_at terms of → SpellsOf old new lits sure (width lits) value out
    → Spells old new (λ v. All (λ id. DecidesAll v (lits_at terms id)) (of ∷ [])) sure (width (lits_at terms of)) (λ w. value (vector w (lits_at terms of))) out
of_one old new terms of lits sure width value out e h =
    let here = subst (λ (l : List Lit). SpellsOf old new l sure (width l) value out) e h in
    respelled old new (λ v. All (λ id. DecidesAll v (lits_at terms id)) (of ∷ [])) (λ v. DecidesAll v (lits_at terms of)) sure (width (lits_at terms of))
    (λ w. value (vector w (lits_at terms of))) out here (λ v g. first_child (λ id. DecidesAll v (lits_at terms id)) of [] g)

pub of_two : (old new : Formula) (terms : List (List Lit)) (op : BinOp) (one other : ℕ) (left right : List Lit) (sure : Lit) (out : List Lit)
    → left ≡ lits_at terms one → right ≡ lits_at terms other → SpellsOperation old new op left right sure out
    → Spells old new (λ v. All (λ id. DecidesAll v (lits_at terms id)) (one ∷ other ∷ [])) sure (bin_width op (length (lits_at terms one)) (length (lits_at terms other)))
    (λ w. bin_value op (vector w (lits_at terms one)) (vector w (lits_at terms other))) out
of_two old new terms op one other left right sure out e f h =
    let half = subst (λ (l : List Lit). SpellsOperation old new op l right sure out) e h in
    let here = subst (λ (l : List Lit). SpellsOperation old new op (lits_at terms one) l sure out) f half in
    respelled old new (λ v. All (λ id. DecidesAll v (lits_at terms id)) (one ∷ other ∷ [])) (λ v. DecidesAll v (lits_at terms one) × DecidesAll v (lits_at terms other)) sure
    (bin_width op (length (lits_at terms one)) (length (lits_at terms other))) (λ w. bin_value op (vector w (lits_at terms one)) (vector w (lits_at terms other))) out here
    (λ v g. (
      first_child (λ id. DecidesAll v (lits_at terms id)) one (other ∷ []) g,
      first_child (λ id. DecidesAll v (lits_at terms id)) other [] (other_children (λ id. DecidesAll v (lits_at terms id)) one (other ∷ []) g),
    ))

abbrev SpellsChoice : Formula → Formula → List Lit → List Lit → List Lit → Lit → List Lit → Type 0
SpellsChoice old new when first second sure out =
    Spells old new (λ v. DecidesAll v when × DecidesAll v first × DecidesAll v second) sure (length first) (λ w. cond (nat_eq (spelled w when) 1) (spelled w first) (spelled w second)) out

pub of_three : (old new : Formula) (terms : List (List Lit)) (a b d : ℕ) (when first second : List Lit) (sure : Lit) (out : List Lit)
    → when ≡ lits_at terms a → first ≡ lits_at terms b → second ≡ lits_at terms d
    → Spells old new (λ v. DecidesAll v when × DecidesAll v first × DecidesAll v second) sure (length first) (λ w. cond (nat_eq (spelled w when) 1) (spelled w first) (spelled w second)) out
    → Spells old new (λ v. All (λ id. DecidesAll v (lits_at terms id)) (a ∷ b ∷ d ∷ [])) sure (length (lits_at terms b))
    (λ w. cond (nat_eq (spelled w (lits_at terms a)) 1) (spelled w (lits_at terms b)) (spelled w (lits_at terms d))) out
of_three old new terms a b d when first second sure out e f g h =
    let one = subst (λ (l : List Lit). SpellsChoice old new l first second sure out) e h in
    let two = subst (λ (l : List Lit). SpellsChoice old new (lits_at terms a) l second sure out) f one in
    let here = subst (λ (l : List Lit). SpellsChoice old new (lits_at terms a) (lits_at terms b) l sure out) g two in
    respelled old new (λ v. All (λ id. DecidesAll v (lits_at terms id)) (a ∷ b ∷ d ∷ []))
    (λ v. DecidesAll v (lits_at terms a) × DecidesAll v (lits_at terms b) × DecidesAll v (lits_at terms d)) sure (length (lits_at terms b))
    (λ w. cond (nat_eq (spelled w (lits_at terms a)) 1) (spelled w (lits_at terms b)) (spelled w (lits_at terms d))) out here
    (λ v k.
    let more = other_children (λ id. DecidesAll v (lits_at terms id)) a (b ∷ d ∷ []) k in (
      first_child (λ id. DecidesAll v (lits_at terms id)) a (b ∷ d ∷ []) k,
      first_child (λ id. DecidesAll v (lits_at terms id)) b (d ∷ []) more,
      first_child (λ id. DecidesAll v (lits_at terms id)) d [] (other_children (λ id. DecidesAll v (lits_at terms id)) b (d ∷ []) more),
    ))
