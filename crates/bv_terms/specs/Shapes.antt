-- A node as contracts see it: its children by number, its table as a list of bytes.
use Rattle.std.specs.Prelude.{ℕ, List, [], ◌∷◌}
use Rattle.bv_terms.specs.declared.node.BinOp.{BinOp}
use Rattle.bv_terms.specs.declared.node.Node.{Node}
use Rattle.bv_terms.specs.declared.node.Node.TheVariants as node

-- the variants are those of `Node`
pub data Shape : Type 0 where
  Const : (width value : ℕ) → Shape
  Var : (width number : ℕ) → Shape
  Not : (of : ℕ) → Shape
  Neg : (of : ℕ) → Shape
  Bin : (op : BinOp) (left right : ℕ) → Shape
  Extract : (of high low : ℕ) → Shape
  ZeroExtend : (of width : ℕ) → Shape
  SignExtend : (of width : ℕ) → Shape
  Ite : (test first second : ℕ) → Shape
  ByteSelect : (first : ℕ) (bytes : List ℕ) (index : ℕ) → Shape

-- what a node is
abbrev pub shape_of : Node → Shape
shape_of (node.Const width value) = Const width value
shape_of (node.Var width number) = Var width number
shape_of (node.Not of) = Not of.number
shape_of (node.Neg of) = Neg of.number
shape_of (node.Bin op left right) = Bin op left.number right.number
shape_of (node.Extract of high low) = Extract of.number high low
shape_of (node.ZeroExtend of width) = ZeroExtend of.number width
shape_of (node.SignExtend of width) = SignExtend of.number width
shape_of (node.Ite test first second) = Ite test.number first.number second.number
shape_of (node.ByteSelect first bytes index) = ByteSelect first bytes.now index.number

-- the terms that a node stands on
abbrev pub children : Shape → List ℕ
children (Const width value) = []
children (Var width number) = []
children (Not of) = of ∷ []
children (Neg of) = of ∷ []
children (Bin op left right) = left ∷ right ∷ []
children (Extract of high low) = of ∷ []
children (ZeroExtend of width) = of ∷ []
children (SignExtend of width) = of ∷ []
children (Ite test first second) = test ∷ first ∷ second ∷ []
children (ByteSelect first bytes index) = index ∷ []
