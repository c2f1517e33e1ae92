-- What stands in a node's place by a right swap.
use Rattle.std.proofs.Common.{◌≡◌, ℕ, ◌<◌, ◌^◌, true, List, length, refl, sym, ◌∙◌, ap, subst, inl, inr, nat_eq, arith}
use Rattle.std.specs.Prelude.{Option, IfSome}
use Rattle.std.proofs.lemmas.Option.{IfSome_then}
use Rattle.std.proofs.lemmas.Bool.{eqb-true}
use Rattle.std.proofs.lemmas.Nat.{pow_pos}
use Rattle.bv_terms.specs.declared.node.BinOp.{BinOp}
use Rattle.bv_terms.specs.declared.node.BinOp.TheVariants as op
use Rattle.bv_terms.specs.BitVectors.{bin_value, bin_width}
use Rattle.bv_terms.specs.Fitting.{AreOperands}
use Rattle.bv_terms.specs.Shapes.{Shape, Const, Var, Bin}
use Rattle.bv_terms.specs.Values.{Assignment, term_at, value_at, width_at}
use Rattle.bv_terms.specs.Variables.{IsTermOf, OccursOnlyBy}
use Rattle.bv_rewrite.specs.declared.view.Swap.{Swap}
use Rattle.bv_rewrite.specs.declared.view.Swap.TheVariants as swap
use Rattle.bv_rewrite.specs.declared.view.View.{View}
use Rattle.bv_rewrite.specs.Right.{IsRight, swap_value, takes_child}
use Rattle.bv_rewrite.specs.Swapped.{ChildFits, HoldsOf}
use Rattle.bv_rewrite.specs.Views.{Agrees, view_of}

-- operands of any other operation than Concat have one width
pub one_width : (o : BinOp) (left right : ℕ) → (o ≡ op.Concat → ⊥) → AreOperands o left right → left ≡ right
one_width op.And left right other fit = fit
one_width op.Or left right other fit = fit
one_width op.Xor left right other fit = fit
one_width op.Add left right other fit = fit
one_width op.Sub left right other fit = fit
one_width op.Mul left right other fit = fit
one_width op.Udiv left right other fit = fit
one_width op.Urem left right other fit = fit
one_width op.Shl left right other fit = fit
one_width op.Lshr left right other fit = fit
one_width op.Ashr left right other fit = fit
one_width op.Eq left right other fit = fit
one_width op.Ult left right other fit = fit
one_width op.Slt left right other fit = fit
one_width op.Concat left right other fit = absurd (other refl)

child_fits : (nodes : List Shape) (o : BinOp) (left right : ℕ) (s : Swap) → width_at nodes left ≡ width_at nodes right → (takes_child s ≡ true → bin_width o (width_at nodes left) (width_at nodes left) ≡ width_at nodes left) → ChildFits nodes o left right s
child_fits nodes o left right swap.Left one kept = subst (λ n. bin_width o (width_at nodes left) n ≡ width_at nodes left) one (kept refl)
child_fits nodes o left right swap.Right one kept = subst (λ n. bin_width o (width_at nodes left) n ≡ n) one (kept refl)
child_fits nodes o left right (swap.Value value) one kept = tt

pub holds_of : (nodes : List Shape) (o : BinOp) (left right : ℕ) (s : Swap) → width_at nodes left ≡ width_at nodes right
    → ((w : Assignment) → Agrees (view_of nodes o left right) (value_at w nodes left) (value_at w nodes right))
    → IsRight (view_of nodes o left right) s → HoldsOf nodes o left right s
holds_of nodes o left right s one agrees law = record {
  width = child_fits nodes o left right s one law.width;
  value = λ w.
      subst (λ n. bin_value o (term_at w nodes left) (record { width = n; value = value_at w nodes right }) ≡ swap_value s (value_at w nodes left) (value_at w nodes right)) one
      (law.value (value_at w nodes left) (value_at w nodes right) (agrees w));
}

-- what the book answers to the view of two terms holds of them
pub answers_hold : (nodes : List Shape) (o : BinOp) (left right : ℕ) (view : View) (answer : Option Swap) → view ≡ view_of nodes o left right → width_at nodes left ≡ width_at nodes right
    → ((w : Assignment) → Agrees view (value_at w nodes left) (value_at w nodes right)) → IfSome answer (IsRight view) → IfSome answer (HoldsOf nodes o left right)
answers_hold nodes o left right view answer is one agrees law =
    let shown = subst (λ (v : View). (w : Assignment) → Agrees v (value_at w nodes left) (value_at w nodes right)) is agrees in
    IfSome_then answer (subst (λ (v : View). IfSome answer (IsRight v)) is law) (λ s h. holds_of nodes o left right s one shown h)

-- a child that a right swap names has the width and the values of the operation
pub left_holds : (nodes : List Shape) (o : BinOp) (left right : ℕ) → left < length nodes → HoldsOf nodes o left right swap.Left → IsTermOf nodes nodes (Bin o left right) left
left_holds nodes o left right inside holds = record {
  inside = inside;
  width = sym holds.width;
  value = λ w. sym (holds.value w);
  occurs = λ of number there. inr (left, (0, omega arith, refl), there);
}

pub right_holds : (nodes : List Shape) (o : BinOp) (left right : ℕ) → right < length nodes → HoldsOf nodes o left right swap.Right → IsTermOf nodes nodes (Bin o left right) right
right_holds nodes o left right inside holds = record {
  inside = inside;
  width = sym holds.width;
  value = λ w. sym (holds.value w);
  occurs = λ of number there. inr (right, (1, omega arith, refl), there);
}

zeros : Assignment
zeros = record { value_of = λ width number. 0; below = λ width number. pow_pos width }

-- a constant that is the node's value fits the node's width
pub constant_fits : (nodes : List Shape) (o : BinOp) (left right width value : ℕ) → ((w : Assignment) → bin_value o (term_at w nodes left) (term_at w nodes right) < 2 ^ width) → HoldsOf nodes o left right (swap.Value value) → value < 2 ^ width
constant_fits nodes o left right width value below holds = subst (λ v. v < 2 ^ width) (holds.value zeros) (below zeros)

differ : (width value of number : ℕ) → Const width value ≡ Var of number → ⊥
differ width value of number e = cc

-- no variable occurs in a constant
none_occurs : (old new : List Shape) (id width value : ℕ) (node : Shape) → OccursOnlyBy old new id (Const width value) → OccursOnlyBy old new id node
none_occurs old new id width value node only of number there = elim (only of number there) [
  | inl e ↦ absurd (differ width value of number e)
  | inr (child, (k, lt, e), occurs) ↦ absurd (omega arith)
]

pub constant_holds : (old new : List Shape) (o : BinOp) (left right width value id : ℕ) → width ≡ bin_width o (width_at old left) (width_at old right) → HoldsOf old o left right (swap.Value value)
    → IsTermOf old new (Const width value) id → IsTermOf old new (Bin o left right) id
constant_holds old new o left right width value id same holds term = record {
  inside = term.inside;
  width = term.width ∙ same;
  value = λ w. term.value w ∙ sym (holds.value w);
  occurs = none_occurs old new id width value (Bin o left right) term.occurs;
}

-- what is known of a term that is a constant holds under each assignment
at_assignment : (constant : Option ℕ) (value : Assignment → ℕ) → IfSome constant (λ number. (w : Assignment) → value w ≡ number) → (w : Assignment) → IfSome constant (λ number. value w ≡ number)
at_assignment constant value known w = IfSome_then constant known (λ number h. h w)

-- the view of two terms agrees with their values
pub view_agrees : (nodes : List Shape) (o : BinOp) (left right width : ℕ) (a b : Option ℕ)
    → ((w : Assignment) → value_at w nodes left < 2 ^ width) → ((w : Assignment) → value_at w nodes right < 2 ^ width)
    → IfSome a (λ number. (w : Assignment) → value_at w nodes left ≡ number) → IfSome b (λ number. (w : Assignment) → value_at w nodes right ≡ number)
    → (w : Assignment) → Agrees (record { op = o; width = width; same = nat_eq left right; left = a; right = b }) (value_at w nodes left) (value_at w nodes right)
view_agrees nodes o left right width a b left_below right_below left_known right_known w = record {
  left_below = left_below w;
  right_below = right_below w;
  one_term = λ same. ap (value_at w nodes) (eqb-true left right same);
  left_constant = at_assignment a (λ u. value_at u nodes left) left_known w;
  right_constant = at_assignment b (λ u. value_at u nodes right) right_known w;
}
