-- Equal nodes are one node to contracts.
use Rattle.std.proofs.Common.{◌≡◌, ℕ, Bool, true, false, ◌&&◌, eqb, List, Bor, refl, sym, arith}
use Rattle.std.proofs.lemmas.Bool.{and_parts}
use Rattle.std.specs.Cmp.Lexicographic.{same_text}
use Rattle.bv_terms.specs.declared.node.Node.{Node}
use Rattle.bv_terms.specs.declared.node.TermId.{TermId}
use Rattle.bv_terms.specs.declared.node.Node.TheVariants as node
use Rattle.bv_terms.specs.declared.term.Term.{Term}
use Rattle.bv_terms.specs.contracts.node.NodePartialEq.TheImpl.{ghosts}
use Rattle.bv_terms.specs.contracts.term.TermPartialEq.TheImpl as of_term
use Rattle.bv_terms.specs.Shapes.{shape_of}

middle : (a b c : Bool) → (a && (b && c)) ≡ true → true ≡ b
middle a true c e = refl
middle true false c e = sym e
middle false false c e = sym e

eq_tables : (f g : ℕ) (b c : Bor (List ℕ)) (i j : TermId) → ghosts.eq (node.ByteSelect f b i) (node.ByteSelect g c j) ≡ true → b.now ≡ c.now
eq_tables f g b c i j e = same_text b.now c.now (middle _ _ _ e)

pub eq_shapes : (a b : Node) → ghosts.eq a b ≡ true → shape_of a ≡ shape_of b
eq_shapes (node.Const w v) (node.Const x y) e = grind arith
eq_shapes (node.Var w v) (node.Var x y) e = grind arith
eq_shapes (node.Not a) (node.Not b) e = grind arith
eq_shapes (node.Neg a) (node.Neg b) e = grind arith
eq_shapes (node.Bin o a b) (node.Bin p c d) e = grind arith
eq_shapes (node.Extract a h l) (node.Extract b i m) e = grind arith
eq_shapes (node.ZeroExtend a w) (node.ZeroExtend b x) e = grind arith
eq_shapes (node.SignExtend a w) (node.SignExtend b x) e = grind arith
eq_shapes (node.Ite a b c) (node.Ite d f g) e = grind arith
eq_shapes (node.ByteSelect f b i) (node.ByteSelect g c j) e =
    let bytes : b.now ≡ c.now = eq_tables f g b c i j e in grind (arith, bytes)
eq_shapes a b e = cc

pub eq_terms : (a b : Term) → of_term.ghosts.eq a b ≡ true → shape_of a.node ≡ shape_of b.node
eq_terms a b e = eq_shapes a.node b.node (and_parts (ghosts.eq a.node b.node) (eqb a.width b.width) e).0
