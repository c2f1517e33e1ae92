-- Which terms one stands on.
use Rattle.std.specs.Prelude.{◌≡◌, ◌+◌, ◌<◌, ℕ, Bool, true, false, Some, List, [], ◌∷◌, Contains, length, slice_get, slice_index_or, slice_set, if◌then◌else◌}
use Rattle.bv_terms.specs.Shapes.{Shape, Const, Var, Not, Neg, Bin, Extract, ZeroExtend, SignExtend, Ite, ByteSelect, children}
use Rattle.bit_clauses.specs.Bits.{StandsOn}

abbrev pub IsMarked : List Bool → ℕ → Type 0
IsMarked marks id = slice_index_or marks id false ≡ true

abbrev pub mark_all : List Bool → List ℕ → List Bool
mark_all marks [] = marks
mark_all marks (id ∷ more) = mark_all (slice_set marks id true) more

-- the marks, with those of the children of a term that is marked
abbrev pub mark_one : List Bool → ℕ → Shape → List Bool
mark_one marks id node = if slice_index_or marks id false then mark_all marks (children node) else marks

-- the terms that a node stands on are among so many
abbrev pub AreBelow : ℕ → Shape → Type 0
AreBelow count (Const width value) = Unit {0}
AreBelow count (Var width number) = Unit {0}
AreBelow count (Not of) = of < count
AreBelow count (Neg of) = of < count
AreBelow count (Bin op left right) = (left < count) × (right < count)
AreBelow count (Extract of high low) = of < count
AreBelow count (ZeroExtend of width) = of < count
AreBelow count (SignExtend of width) = of < count
AreBelow count (Ite test first second) = (test < count) × (first < count) × (second < count)
AreBelow count (ByteSelect first bytes index) = index < count

-- the root and the terms that it stands on are marked, and no term in which other variables occur
pub record AreNeeded (nodes : List Shape) (root : ℕ) (marks : List Bool) : Type 0 where
  pub count : length marks ≡ root + 1
  pub root_marked : IsMarked marks root
  pub closed : (id child : ℕ) (node : Shape) → IsMarked marks id → slice_get nodes id ≡ Some node → Contains (children node) child → IsMarked marks child
  pub only : (id : ℕ) → IsMarked marks id → StandsOn nodes root id

-- the terms that a term stands on are marked, if it is
pub record MarksBelow (nodes : List Shape) (id : ℕ) (old new : List Bool) : Type 0 where
  pub node : Shape
  pub found : slice_get nodes id ≡ Some node
  pub below : AreBelow id node
  pub marks : new ≡ mark_one old id node
