-- Parts of numbers, and of terms.
use Rattle.std.proofs.Common.{zero, suc, [], ◌∷◌, Bool, true, false, cond, nat_eq, ◌≡◌, ℕ, ◌+◌, ◌-◌, ◌*◌, ◌/◌, ◌%◌, ◌^◌, ◌<◌, ◌≤◌, List, length, refl, sym, ◌∙◌, ap, subst, inl, inr, arith, Some, slice_get}
use Rattle.std.specs.Prelude.{◌⊎◌, Contains}
use Rattle.std.proofs.Math.Nat.{div-div-eq-div-mul, mod-eq_of_lt}
use Rattle.std.proofs.Math.Pow.{mod-mod-pow}
use Rattle.std.proofs.lemmas.Nat.{div-mul-add, mod_below, mod-mul-add, mod-pow-add, pow-add, pow_pos}
use Rattle.bv_terms.specs.declared.node.BinOp.TheVariants as op
use Rattle.std.proofs.lemmas.Bool.Decides.{nat_tests}
use Rattle.bv_terms.specs.BitVectors.{extract_value, is_negative}
use Rattle.bv_terms.specs.Fitting.{IsFitting}
use Rattle.bv_terms.specs.Shapes.{Shape, Var, Bin, Extract, Ite, Neg, Not, SignExtend, ZeroExtend, children, shape_of}
use Rattle.bv_terms.specs.Values.{Assignment, node_value, node_width, term_at, value_at, width_at}
use Rattle.bv_terms.specs.Variables.{IsTermOf, Occurs, Inside}
use Rattle.bv_rewrite.specs.declared.form.Form.{Form}
use Rattle.bv_rewrite.specs.declared.form.Form.TheVariants as form
use Rattle.bv_rewrite.specs.Forms.{HasWidth, Holds, IsFormOf, OccursBy, StandsIn}

-- ---- numbers

-- a part of a number's low digits that lies in them is a part of the number
part_of_low : (x n low k r : ℕ) → n ≡ r + k + low → x % 2 ^ n / 2 ^ low % 2 ^ k ≡ x / 2 ^ low % 2 ^ k
part_of_low x n low k r e =
    ap (λ m. x % 2 ^ m / 2 ^ low % 2 ^ k) e
    ∙ ap (λ y. y / 2 ^ low % 2 ^ k) (mod-pow-add x (r + k) low)
    ∙ ap (λ y. y % 2 ^ k) (div-mul-add (x / 2 ^ low % 2 ^ (r + k)) (2 ^ low) (x % 2 ^ low) (mod_below x (2 ^ low) (pow_pos low)))
    ∙ mod-mod-pow (x / 2 ^ low) r k

div_pow : (x i j : ℕ) → x / 2 ^ i / 2 ^ j ≡ x / 2 ^ (i + j)
div_pow x i j = div-div-eq-div-mul x (2 ^ i) (2 ^ j) ∙ ap (λ y. x / y) (sym (pow-add 2 i j))

-- a part of a part
pub part_twice : (x h l high low : ℕ) → low ≤ high → high < h + 1 - l → x / 2 ^ l % 2 ^ (h + 1 - l) / 2 ^ low % 2 ^ (high + 1 - low) ≡ x / 2 ^ (l + low) % 2 ^ (l + high + 1 - (l + low))
part_twice x h l high low order inside =
    part_of_low (x / 2 ^ l) (h + 1 - l) low (high + 1 - low) (h + 1 - l - (high + 1)) (omega (arith, order, inside))
    ∙ ap (λ y. y % 2 ^ (high + 1 - low)) (div_pow x l low)
    ∙ let e : high + 1 - low ≡ l + high + 1 - (l + low) = omega (arith, order) in
    ap (λ k. x / 2 ^ (l + low) % 2 ^ k) e

-- a part of the right one of two numbers side by side
pub part_right : (a b m high low : ℕ) → b < 2 ^ m → low ≤ high → high < m → (a * 2 ^ m + b) / 2 ^ low % 2 ^ (high + 1 - low) ≡ b / 2 ^ low % 2 ^ (high + 1 - low)
part_right a b m high low below order inside =
    sym (part_of_low (a * 2 ^ m + b) m low (high + 1 - low) (m - (high + 1)) (omega (arith, order, inside)))
    ∙ ap (λ y. y / 2 ^ low % 2 ^ (high + 1 - low)) (mod-mul-add a (2 ^ m) b below)

-- a part of the left one
pub part_left : (a b m high low : ℕ) → b < 2 ^ m → m ≤ low → low ≤ high → (a * 2 ^ m + b) / 2 ^ low % 2 ^ (high + 1 - low) ≡ a / 2 ^ (low - m) % 2 ^ (high - m + 1 - (low - m))
part_left a b m high low below past order =
    let deep : low ≡ m + (low - m) = omega (arith, past) in
    let wide : high + 1 - low ≡ high - m + 1 - (low - m) = omega (arith, past, order) in
    ap (λ k. (a * 2 ^ m + b) / 2 ^ k % 2 ^ (high + 1 - low)) deep
    ∙ ap (λ y. y % 2 ^ (high + 1 - low)) (sym (div_pow (a * 2 ^ m + b) m (low - m)))
    ∙ ap (λ y. y / 2 ^ (low - m) % 2 ^ (high + 1 - low)) (div-mul-add a (2 ^ m) b below)
    ∙ ap (λ k. a / 2 ^ (low - m) % 2 ^ k) wide

-- two neighbouring parts side by side
pub parts_joined : (x h l m n : ℕ) → l ≡ n + 1 → m ≤ n → l ≤ h → x / 2 ^ m % 2 ^ (h + 1 - m) ≡ x / 2 ^ l % 2 ^ (h + 1 - l) * 2 ^ (n + 1 - m) + x / 2 ^ m % 2 ^ (n + 1 - m)
parts_joined x h l m n next order upper =
    let whole : h + 1 - m ≡ h + 1 - l + (n + 1 - m) = omega (arith, next, order, upper) in
    let deep : m + (n + 1 - m) ≡ l = omega (arith, next, order) in
    ap (λ k. x / 2 ^ m % 2 ^ k) whole
    ∙ mod-pow-add (x / 2 ^ m) (h + 1 - l) (n + 1 - m)
    ∙ ap (λ y. y % 2 ^ (h + 1 - l) * 2 ^ (n + 1 - m) + x / 2 ^ m % 2 ^ (n + 1 - m)) (div_pow x m (n + 1 - m) ∙ ap (λ k. x / 2 ^ k) deep)

by_one : (a : ℕ) → a / 1 ≡ a
by_one a = omega arith

-- all of a number
pub whole_part : (x high : ℕ) → x < 2 ^ (high + 1) → x / 2 ^ 0 % 2 ^ (high + 1 - 0) ≡ x
whole_part x high below =
    let e : high + 1 - 0 ≡ high + 1 = omega arith in
    ap (λ k. x / 1 % 2 ^ k) e ∙ ap (λ y. y % 2 ^ (high + 1)) (by_one x) ∙ mod-eq_of_lt below

pub not_twice : (n a : ℕ) → a < n → n - 1 - (n - 1 - a) ≡ a
not_twice n a below = omega (arith, below)

pub neg_twice : (n a : ℕ) → a < n → (n - (n - a) % n) % n ≡ a
neg_twice n a below = grind (arith, mod-eq_of_lt)

-- ---- terms

pub width_below : (nodes : List Shape) (id wide : ℕ) → HasWidth nodes id wide → (w : Assignment) → value_at w nodes id < 2 ^ width_at nodes id
width_below nodes id wide has w = subst (λ n. value_at w nodes id < 2 ^ n) has.is (has.below w)

-- a variable of a child is one of the node
pub by_child : (nodes : List Shape) (node : Shape) (child : ℕ) → Contains (children node) child → (width number : ℕ) → Occurs nodes width number child → OccursBy nodes width number node
by_child nodes node child has width number there = inr (child, has, there)

one_child : (of child : ℕ) → Contains (of ∷ []) child → child ≡ of
one_child of child (zero, lt, e) = sym e
one_child of child (suc k, lt, e) = absurd (omega (arith, lt))

only : (nodes : List Shape) (of high low width number : ℕ) → OccursBy nodes width number (Extract of high low) → Occurs nodes width number of
only nodes of high low width number (inl e) = absurd cc
only nodes of high low width number (inr (child, has, there)) = subst (λ c. Occurs nodes width number c) (one_child of child has) there

pub stands_itself : (nodes : List Shape) (node : Shape) → IsFitting (width_at nodes) (length nodes) node → StandsIn nodes node node
stands_itself nodes node fit = record { fitting = fit; width = refl; value = λ w. refl; occurs = λ width number there. there }

pub stands_through : (nodes : List Shape) (a b c : Shape) → StandsIn nodes a b → StandsIn nodes b c → StandsIn nodes a c
stands_through nodes a b c one two = record {
  fitting = two.fitting;
  width = two.width ∙ one.width;
  value = λ w. two.value w ∙ one.value w;
  occurs = λ width number there. one.occurs width number (two.occurs width number there);
}

pub form_through : (nodes : List Shape) (a b : Shape) (id : ℕ) → StandsIn nodes a b → IsTermOf nodes nodes b id → IsTermOf nodes nodes a id
form_through nodes a b id one two = record {
  inside = two.inside;
  width = two.width ∙ one.width;
  value = λ w. two.value w ∙ one.value w;
  occurs = λ width number there. one.occurs width number (two.occurs width number there);
}

pub term_through : (old new : List Shape) (a b : Shape) (id : ℕ) → StandsIn old a b → IsTermOf old new b id → IsTermOf old new a id
term_through old new a b id one two = record {
  inside = two.inside;
  width = two.width ∙ one.width;
  value = λ w. two.value w ∙ one.value w;
  occurs = λ width number there. one.occurs width number (two.occurs width number there);
}

-- a part of a part of a term
pub deeper_part : (nodes : List Shape) (of high low x h l : ℕ) → Holds nodes of (Extract x h l) → IsFitting (width_at nodes) (length nodes) (Extract of high low)
    → StandsIn nodes (Extract of high low) (Extract x (l + high) (l + low))
deeper_part nodes of high low x h l holds fit =
    let inside : high < h + 1 - l = omega (arith, fit.2, holds.width) in
    record {
      fitting = (omega (arith, holds.fitting.0, fit.0), omega (arith, fit.1), omega (arith, inside, holds.fitting.1, holds.fitting.2));
      width = omega (arith, fit.1);
      value = λ w.
          sym (part_twice (value_at w nodes x) h l high low fit.1 inside)
          ∙ ap (λ v. v / 2 ^ low % 2 ^ (high + 1 - low)) (sym (holds.value w));
      occurs = λ width number there.
          by_child nodes (Extract of high low) of (0, omega arith, refl) width number
          (Inside of x (Extract x h l) holds.found (0, omega arith, refl) (only nodes x (l + high) (l + low) width number there));
    }

-- a part of the right one of two terms side by side
pub right_part : (nodes : List Shape) (of high low left right wide : ℕ) → Holds nodes of (Bin op.Concat left right) → HasWidth nodes right wide
    → IsFitting (width_at nodes) (length nodes) (Extract of high low) → high < wide → StandsIn nodes (Extract of high low) (Extract right high low)
right_part nodes of high low left right wide holds has fit inner = let inside : high < width_at nodes right = omega (arith, inner, has.is) in record {
  fitting = (omega (arith, holds.fitting.1, fit.0), fit.1, inside);
  width = refl;
  value = λ w.
      sym (part_right (value_at w nodes left) (value_at w nodes right) (width_at nodes right) high low (width_below nodes right wide has w) fit.1 inside)
      ∙ ap (λ v. v / 2 ^ low % 2 ^ (high + 1 - low)) (sym (holds.value w));
  occurs = λ width number there.
      by_child nodes (Extract of high low) of (0, omega arith, refl) width number
      (Inside of right (Bin op.Concat left right) holds.found (1, omega arith, refl) (only nodes right high low width number there));
}

past_right : (nodes : List Shape) (of high low left right : ℕ) → Holds nodes of (Bin op.Concat left right) → ((w : Assignment) → value_at w nodes right < 2 ^ width_at nodes right)
    → IsFitting (width_at nodes) (length nodes) (Extract of high low) → width_at nodes right ≤ low
    → StandsIn nodes (Extract of high low) (Extract left (high - width_at nodes right) (low - width_at nodes right))
past_right nodes of high low left right holds below fit past = record {
  fitting = (omega (arith, holds.fitting.0, fit.0), omega (arith, fit.1, past), omega (arith, fit.1, fit.2, past, holds.width));
  width = omega (arith, fit.1, past);
  value = λ w.
      sym (part_left (value_at w nodes left) (value_at w nodes right) (width_at nodes right) high low (below w) past fit.1)
      ∙ ap (λ v. v / 2 ^ low % 2 ^ (high + 1 - low)) (sym (holds.value w));
  occurs = λ width number there.
      by_child nodes (Extract of high low) of (0, omega arith, refl) width number
      (Inside of left (Bin op.Concat left right) holds.found (0, omega arith, refl)
      (only nodes left (high - width_at nodes right) (low - width_at nodes right) width number there));
}

-- a part of the left one
pub left_part : (nodes : List Shape) (of high low left right wide : ℕ) → Holds nodes of (Bin op.Concat left right) → HasWidth nodes right wide
    → IsFitting (width_at nodes) (length nodes) (Extract of high low) → wide ≤ low
    → StandsIn nodes (Extract of high low) (Extract left (high - wide) (low - wide))
left_part nodes of high low left right wide holds has fit outer =
    subst (λ n. StandsIn nodes (Extract of high low) (Extract left (high - n) (low - n))) (sym has.is)
    (past_right nodes of high low left right holds (width_below nodes right wide has) fit (omega (arith, outer, has.is)))

-- all bits of a term are the term
pub whole_term : (nodes : List Shape) (of high low wide : ℕ) → of < length nodes → HasWidth nodes of wide → low ≡ 0 → wide ≡ high + 1 → IsTermOf nodes nodes (Extract of high low) of
whole_term nodes of high low wide inside has first last = record {
  inside = inside;
  width = omega (arith, first, last, has.is);
  value = λ w.
      sym (ap (λ l. extract_value (term_at w nodes of) high l) first
      ∙ whole_part (value_at w nodes of) high (subst (λ n. value_at w nodes of < 2 ^ n) last (has.below w)));
  occurs = λ width number there. by_child nodes (Extract of high low) of (0, omega arith, refl) width number there;
}

-- neighbouring parts of one term side by side are a part of it
pub one_part : (nodes : List Shape) (left right of h l n m : ℕ) → Holds nodes left (Extract of h l) → Holds nodes right (Extract of n m) → l ≡ n + 1
    → StandsIn nodes (Bin op.Concat left right) (Extract of h m)
one_part nodes left right of h l n m upper lower next = record {
  fitting = (omega (arith, upper.fitting.0, upper.inside), omega (arith, next, lower.fitting.1, upper.fitting.1), upper.fitting.2);
  width = omega (arith, next, lower.fitting.1, upper.fitting.1, upper.width, lower.width);
  value = λ w.
      parts_joined (value_at w nodes of) h l m n next lower.fitting.1 upper.fitting.1
      ∙ ap (λ k. value_at w nodes of / 2 ^ l % 2 ^ (h + 1 - l) * 2 ^ k + value_at w nodes of / 2 ^ m % 2 ^ (n + 1 - m)) (sym lower.width)
      ∙ ap (λ v. v * 2 ^ width_at nodes right + value_at w nodes of / 2 ^ m % 2 ^ (n + 1 - m)) (sym (upper.value w))
      ∙ ap (λ v. value_at w nodes left * 2 ^ width_at nodes right + v) (sym (lower.value w));
  occurs = λ width number there.
      by_child nodes (Bin op.Concat left right) left (0, omega arith, refl) width number
      (Inside left of (Extract of h l) upper.found (0, omega arith, refl) (only nodes of h m width number there));
}

-- ---- what is undone

pub inverse_twice : (nodes : List Shape) (of inner wide : ℕ) → Holds nodes of (Not inner) → HasWidth nodes inner wide → IsTermOf nodes nodes (Not of) inner
inverse_twice nodes of inner wide holds has = record {
  inside = omega (arith, holds.fitting, holds.inside);
  width = sym holds.width;
  value = λ w.
      sym (ap (λ v. 2 ^ width_at nodes of - 1 - v) (holds.value w)
      ∙ ap (λ n. 2 ^ n - 1 - (2 ^ width_at nodes inner - 1 - value_at w nodes inner)) holds.width
      ∙ not_twice (2 ^ width_at nodes inner) (value_at w nodes inner) (width_below nodes inner wide has w));
  occurs = λ width number there.
      by_child nodes (Not of) of (0, omega arith, refl) width number (Inside of inner (Not inner) holds.found (0, omega arith, refl) there);
}

pub negative_twice : (nodes : List Shape) (of inner wide : ℕ) → Holds nodes of (Neg inner) → HasWidth nodes inner wide → IsTermOf nodes nodes (Neg of) inner
negative_twice nodes of inner wide holds has = record {
  inside = omega (arith, holds.fitting, holds.inside);
  width = sym holds.width;
  value = λ w.
      sym (ap (λ v. (2 ^ width_at nodes of - v) % 2 ^ width_at nodes of) (holds.value w)
      ∙ ap (λ n. (2 ^ n - (2 ^ width_at nodes inner - value_at w nodes inner) % 2 ^ width_at nodes inner) % 2 ^ n) holds.width
      ∙ neg_twice (2 ^ width_at nodes inner) (value_at w nodes inner) (width_below nodes inner wide has w));
  occurs = λ width number there.
      by_child nodes (Neg of) of (0, omega arith, refl) width number (Inside of inner (Neg inner) holds.found (0, omega arith, refl) there);
}

-- ---- what is as wide as it was

pub zeros_none : (nodes : List Shape) (of wide : ℕ) → of < length nodes → width_at nodes of ≡ wide → IsTermOf nodes nodes (ZeroExtend of wide) of
zeros_none nodes of wide inside same = record {
  inside = inside;
  width = same;
  value = λ w. refl;
  occurs = λ width number there. by_child nodes (ZeroExtend of wide) of (0, omega arith, refl) width number there;
}

no_more : (n m a : ℕ) → m ≡ n → a + (2 ^ n - 2 ^ m) ≡ a
no_more n m a e = ap (λ k. a + (2 ^ n - 2 ^ k)) e ∙ (let none : a + (2 ^ n - 2 ^ n) ≡ a = omega arith in none)

cond_both : (b : Bool) (x y a : ℕ) → x ≡ a → y ≡ a → cond b x y ≡ a
cond_both true x y a e f = e
cond_both false x y a e f = f

pub signs_none : (nodes : List Shape) (of wide : ℕ) → of < length nodes → width_at nodes of ≡ wide → IsTermOf nodes nodes (SignExtend of wide) of
signs_none nodes of wide inside same = record {
  inside = inside;
  width = same;
  value = λ w.
      sym (cond_both (is_negative (term_at w nodes of)) (value_at w nodes of + (2 ^ wide - 2 ^ width_at nodes of)) (value_at w nodes of) (value_at w nodes of)
      (no_more wide (width_at nodes of) (value_at w nodes of) same) refl);
  occurs = λ width number there. by_child nodes (SignExtend of wide) of (0, omega arith, refl) width number there;
}

-- ---- choices

pub no_choice : (nodes : List Shape) (test first second : ℕ) → first < length nodes → first ≡ second → IsTermOf nodes nodes (Ite test first second) first
no_choice nodes test first second inside one = record {
  inside = inside;
  width = refl;
  value = λ w.
      sym (cond_both (nat_eq (value_at w nodes test) 1) (value_at w nodes first) (value_at w nodes second) (value_at w nodes first) refl
      (ap (λ k. value_at w nodes k) (sym one)));
  occurs = λ width number there. by_child nodes (Ite test first second) first (1, omega arith, refl) width number there;
}

pub first_chosen : (nodes : List Shape) (test first second value : ℕ) → first < length nodes → value ≡ 1 → ((w : Assignment) → value_at w nodes test ≡ value) → IsTermOf nodes nodes (Ite test first second) first
first_chosen nodes test first second value inside one known = record {
  inside = inside;
  width = refl;
  value = λ w. sym (ap (λ v. cond (nat_eq v 1) (value_at w nodes first) (value_at w nodes second)) (known w ∙ one));
  occurs = λ width number there. by_child nodes (Ite test first second) first (1, omega arith, refl) width number there;
}

not_one : (v : ℕ) → (v ≡ 1 → ⊥) → nat_eq v 1 ≡ false
not_one v other = grind (arith, nat_tests, other)

pub second_chosen : (nodes : List Shape) (test first second value : ℕ) → second < length nodes → width_at nodes first ≡ width_at nodes second → (value ≡ 1 → ⊥) → ((w : Assignment) → value_at w nodes test ≡ value)
    → IsTermOf nodes nodes (Ite test first second) second
second_chosen nodes test first second value inside same other known = record {
  inside = inside;
  width = sym same;
  value = λ w.
      sym (ap (λ v. cond (nat_eq v 1) (value_at w nodes first) (value_at w nodes second)) (known w)
      ∙ ap (λ b. cond b (value_at w nodes first) (value_at w nodes second)) (not_one value other));
  occurs = λ width number there. by_child nodes (Ite test first second) second (2, omega arith, refl) width number there;
}

-- what stands in a node's place has the node's form
pub form_of_other : (nodes : List Shape) (a b : Shape) (form : Form) → StandsIn nodes a b → IsFormOf nodes b form → IsFormOf nodes a form
form_of_other nodes a b (form.Known id) stands is = form_through nodes a b id.number stands is
form_of_other nodes a b (form.New other) stands is = stands_through nodes a b (shape_of other) stands is
