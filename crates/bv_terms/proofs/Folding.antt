-- A node in whose place a constant stands.
use Rattle.std.proofs.Common.{◌≡◌, ℕ, List, Some, length, slice_get, refl, sym, ◌∙◌, subst, inl, inr, arith}
use Rattle.std.specs.Prelude.{true, false}
use Rattle.std.proofs.lemmas.Bool.{false≢true}
use Rattle.bv_terms.specs.Constants.{is_constant_at}
use Rattle.bv_terms.specs.Fitting.{IsBits, IsFitting}
use Rattle.bv_terms.specs.Folded.{FoldsTo, Itself, Constant, is_folded}
use Rattle.bv_terms.specs.Placed.{AreFitting}
use Rattle.bv_terms.specs.Shapes.{Shape, Const, Var}
use Rattle.bv_terms.specs.Values.{Assignment, node_value, node_width, term_at, value_at, width_at}
use Rattle.bv_terms.specs.Variables.{IsTermOf, OccursOnlyBy}
use Rattle.bv_terms.proofs.Bounds.{node_sound, term_sound, zeros}

-- the value of a node fits its width
pub bits_of_node : (w : Assignment) (nodes : List Shape) (node : Shape) → AreFitting nodes → IsFitting (width_at nodes) (length nodes) node → IsBits (node_width (width_at nodes) node) (node_value w (term_at w nodes) node)
bits_of_node w nodes node fitting fits = node_sound w (width_at nodes) (value_at w nodes) (length nodes) node fits (λ c below. term_sound w nodes fitting c below)

-- a folded node's value fits its width
pub folded_bits : (nodes : List Shape) (node : Shape) (width value : ℕ) → AreFitting nodes → IsFitting (width_at nodes) (length nodes) node
    → width ≡ node_width (width_at nodes) node → ((w : Assignment) → node_value w (term_at w nodes) node ≡ value) → IsBits width value
folded_bits nodes node width value fitting fits is values =
    let sound = bits_of_node zeros nodes node fitting fits in
    subst (λ n. IsBits n value) (sym is) (subst (λ v. IsBits (node_width (width_at nodes) node) v) (values zeros) sound)

pub fits_folded : (nodes : List Shape) (node kept : Shape) → FoldsTo nodes node kept → IsFitting (width_at nodes) (length nodes) node → IsFitting (width_at nodes) (length nodes) kept
fits_folded nodes node _ (Itself not_folded) fits = fits
fits_folded nodes node _ (Constant width value folded is bits values) fits = (bits.within, bits.below)

differ : (width value of number : ℕ) → Const width value ≡ Var of number → ⊥
differ width value of number e = cc

-- no variable occurs in a constant
none_occurs : (old new : List Shape) (id width value : ℕ) (node : Shape) → OccursOnlyBy old new id (Const width value) → OccursOnlyBy old new id node
none_occurs old new id width value node only of number there = elim (only of number there) [
  | inl e ↦ absurd (differ width value of number e)
  | inr (child, (k, lt, e), occurs) ↦ absurd (omega arith)
]

pub term_folded : (old new : List Shape) (node kept : Shape) (id : ℕ) → FoldsTo old node kept → IsTermOf old new kept id → IsTermOf old new node id
term_folded old new node _ id (Itself not_folded) term = term
term_folded old new node _ id (Constant width value folded is bits values) term = record {
  inside = term.inside;
  width = term.width ∙ is;
  value = λ w. term.value w ∙ sym (values w);
  occurs = none_occurs old new id width value node term.occurs;
}

pub constant_folded : (old new : List Shape) (node kept : Shape) (id : ℕ) → FoldsTo old node kept → slice_get new id ≡ Some kept → is_folded old node ≡ true → is_constant_at new id ≡ true
constant_folded old new node _ id (Itself not_folded) at folded = absurd (false≢true (sym not_folded ∙ folded))
constant_folded old new node _ id (Constant width value is_so is bits values) at folded = rw at refl

pub kept_folded : (old new : List Shape) (node kept : Shape) (id : ℕ) → FoldsTo old node kept → slice_get new id ≡ Some kept → is_folded old node ≡ false → slice_get new id ≡ Some node
kept_folded old new node _ id (Itself not_folded) at not_so = at
kept_folded old new node _ id (Constant width value is_so is bits values) at not_so = absurd (false≢true (sym not_so ∙ is_so))
