-- The width and the value of each term of a list of nodes, in which a node stands on nodes before it.
use Rattle.std.specs.Prelude.{ℕ, ◌+◌, ◌-◌, ◌^◌, ◌<◌, ◌≤◌, ◌≡◌, nat_eq, List, [], ◌∷◌, ◌++◌, fold, length, slice_index, slice_index_or, slice_get, if◌then◌else◌}
use Rattle.bv_terms.specs.BitVectors.{BitVector, not_value, neg_value, bin_value, bin_width, extract_value, sign_extend_value, byte_value}
use Rattle.bv_terms.specs.Shapes.{Shape, Const, Var, Not, Neg, Bin, Extract, ZeroExtend, SignExtend, Ite, ByteSelect}

-- a value for each variable, which is named by its width and its number
pub record Assignment : Type 0 where
  pub value_of : (width number : ℕ) → ℕ
  pub below : (width number : ℕ) → value_of width number < 2 ^ width

-- the width of a node, from the widths of terms
abbrev pub node_width : (ℕ → ℕ) → Shape → ℕ
node_width width_of (Const width value) = width
node_width width_of (Var width number) = width
node_width width_of (Not of) = width_of of
node_width width_of (Neg of) = width_of of
node_width width_of (Bin op left right) = bin_width op (width_of left) (width_of right)
node_width width_of (Extract of high low) = high + 1 - low
node_width width_of (ZeroExtend of width) = width
node_width width_of (SignExtend of width) = width
node_width width_of (Ite test first second) = width_of first
node_width width_of (ByteSelect first bytes index) = 8

-- the value of a node under an assignment, from the bit vectors of terms
abbrev pub node_value : Assignment → (ℕ → BitVector) → Shape → ℕ
node_value w term (Const width value) = value
node_value w term (Var width number) = w.value_of width number
node_value w term (Not of) = not_value (term of)
node_value w term (Neg of) = neg_value (term of)
node_value w term (Bin op left right) = bin_value op (term left) (term right)
node_value w term (Extract of high low) = extract_value (term of) high low
node_value w term (ZeroExtend of width) = (term of).value
node_value w term (SignExtend of width) = sign_extend_value (term of) width
node_value w term (Ite test first second) = if nat_eq (term test).value 1 then (term first).value else (term second).value
node_value w term (ByteSelect first bytes index) = byte_value first bytes (term index).value

-- what each node has, by a rule that knows what the nodes before it have
abbrev pub gathered : {A : Type 0} → (List A → Shape → A) → List Shape → List A
gathered rule nodes = fold (λ known node. known ++ rule known node ∷ []) [] nodes

abbrev pub next_width : List ℕ → Shape → ℕ
next_width known node = node_width (slice_index known) node

-- the width of a term
unfoldable pub width_at : List Shape → ℕ → ℕ
width_at nodes id = slice_index (gathered next_width nodes) id

-- the bit vectors of the terms of a list that are known, an empty one for others
abbrev pub known_term : List BitVector → ℕ → BitVector
known_term known id = slice_index_or known id (record { width = 0; value = 0 })

abbrev pub next_term : Assignment → List BitVector → Shape → BitVector
next_term w known node = record { width = node_width (λ id. (known_term known id).width) node; value = node_value w (known_term known) node }

-- the value of a term under an assignment
unfoldable pub value_at : Assignment → List Shape → ℕ → ℕ
value_at w nodes id = (known_term (gathered (next_term w) nodes) id).value

-- a term's bit vector under an assignment
abbrev pub term_at : Assignment → List Shape → ℕ → BitVector
term_at w nodes id = record { width = width_at nodes id; value = value_at w nodes id }

-- the terms that were there keep their nodes, widths and values
pub record KeepsTerms (old new : List Shape) : Type 0 where
  pub grows : length old ≤ length new
  pub node : (id : ℕ) → id < length old → slice_get new id ≡ slice_get old id
  pub width : (id : ℕ) → id < length old → width_at new id ≡ width_at old id
  pub value : (w : Assignment) (id : ℕ) → id < length old → value_at w new id ≡ value_at w old id
