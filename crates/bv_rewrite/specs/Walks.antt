-- A walk through the nodes below a root, which stands on a list of visits.
use Rattle.std.specs.Prelude.{◌≡◌, ◌<◌, ◌+◌, ◌^◌, ℕ, Option, None, Some, List, length, All}
use Rattle.std.specs.List.{sum_by}
use Rattle.bv_terms.specs.declared.node.TermId.{TermId}
use Rattle.bv_terms.specs.Shapes.{Shape, Const, Var, Not, Neg, Bin, Extract, ZeroExtend, SignExtend, Ite, ByteSelect}
use Rattle.bv_rewrite.specs.declared.walk.Visit.{Visit}
use Rattle.bv_rewrite.specs.declared.walk.Visit.TheVariants as visit
use Rattle.bv_rewrite.specs.Simpler.{StandsFor}

-- the term of a visit
abbrev pub visited : Visit → ℕ
visited (visit.Enter term) = term.number
visited (visit.Leave term) = term.number

-- more than all visits that come of this one
abbrev pub weight : Visit → ℕ
weight (visit.Enter term) = 5 ^ (term.number + 1)
weight (visit.Leave term) = 1

abbrev pub weights : List Visit → ℕ
weights visits = sum_by weight visits

-- the visits are to terms among these
abbrev pub AreInside : List Shape → List Visit → Type 0
AreInside nodes visits = All (λ v. visited v < length nodes) visits

-- what stands for each term that was left can stand for it
abbrev pub AreDone : List Shape → (ℕ → Option TermId) → Type 0
AreDone nodes done = (term : ℕ) (id : TermId) → done term ≡ Some id → (term < length nodes) × StandsFor nodes nodes term id.number

-- what stands for a term: itself, before it was left
abbrev pub standing : (ℕ → Option TermId) → ℕ → ℕ
standing done term = standing_at (done term) term
  where
    standing_at : Option TermId → ℕ → ℕ
    standing_at (Some id) term = id.number
    standing_at None term = term

-- the node with other children
abbrev pub with_children : (ℕ → ℕ) → Shape → Shape
with_children other (Const width value) = Const width value
with_children other (Var width number) = Var width number
with_children other (Not of) = Not (other of)
with_children other (Neg of) = Neg (other of)
with_children other (Bin op left right) = Bin op (other left) (other right)
with_children other (Extract of high low) = Extract (other of) high low
with_children other (ZeroExtend of width) = ZeroExtend (other of) width
with_children other (SignExtend of width) = SignExtend (other of) width
with_children other (Ite test first second) = Ite (other test) (other first) (other second)
with_children other (ByteSelect first bytes index) = ByteSelect first bytes (other index)
