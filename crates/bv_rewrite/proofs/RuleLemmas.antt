-- The rules keep the law.
use Rattle.std.proofs.Common.{◌≡◌, ℕ, zero, suc, ◌+◌, ◌-◌, ◌*◌, ◌/◌, ◌%◌, ◌^◌, ◌<◌, Bool, true, false, cond, not, ◌&&◌, ◌||◌, nat_lt, nat_eq, Some, refl, sym, ◌∙◌, ap, subst, inl, inr, arith, zero-add, bit_and}
use Rattle.std.specs.Prelude.{◌⊎◌, Option, IfSome}
use Rattle.std.specs.Int.Bits.{and_self, and_zero_l, and_zero_r, or_self, or_zero_l, or_zero_r, xor_self, xor_zero_l, xor_zero_r}
use Rattle.std.proofs.Math.Nat.{mod-eq_of_lt, mod_self}
use Rattle.std.proofs.lemmas.Nat.{and_comm, and_mask}
use Rattle.std.proofs.lemmas.Bool.Decides.{nat_tests}
use Rattle.bv_terms.specs.declared.node.BinOp.{BinOp}
use Rattle.bv_terms.specs.declared.node.BinOp.TheVariants as op
use Rattle.bv_terms.specs.BitVectors.{bin_value, bin_width, bit_of, bits, is_negative, lshr_if, shl_if}
use Rattle.bv_rewrite.specs.declared.view.Swap.TheVariants as swap
use Rattle.bv_rewrite.specs.declared.view.View.{View}
use Rattle.bv_rewrite.specs.Neutral.{IsNeutralLeft, IsNeutralRight}
use Rattle.bv_rewrite.specs.Right.{IsRight}

-- ---- numbers that change nothing on the right

plus_none : (a : ℕ) → a + 0 ≡ a
plus_none a = omega arith

pub add_right : (n : ℕ) → IsNeutralRight op.Add n 0
add_right n = record { keeps_width = refl; value = λ left below. ap (λ x. x % 2 ^ n) (plus_none left) ∙ mod-eq_of_lt below }

whole_more : (n a : ℕ) → a < n → (a + (n - 0)) % n ≡ a
whole_more n a below = grind (arith, mod-eq_of_lt below)

pub sub_right : (n : ℕ) → IsNeutralRight op.Sub n 0
sub_right n = record { keeps_width = refl; value = λ left below. whole_more (2 ^ n) left below }

pub or_right : (n : ℕ) → IsNeutralRight op.Or n 0
or_right n = record { keeps_width = refl; value = λ left below. or_zero_r left }

pub xor_right : (n : ℕ) → IsNeutralRight op.Xor n 0
xor_right n = record { keeps_width = refl; value = λ left below. xor_zero_r left }

positive : (n : ℕ) → nat_lt 0 (suc n) ≡ true
positive n = grind (arith, nat_tests)

times_one : (a : ℕ) → a * 1 ≡ a
times_one a = omega arith

by_one : (a : ℕ) → a / 1 ≡ a
by_one a = omega arith

shl_zero : (n a : ℕ) → a < 2 ^ n → bin_value op.Shl (bits n a) (bits n 0) ≡ a
shl_zero zero a below = let none : a ≡ 0 = omega arith in sym none
shl_zero (suc n) a below = ap (λ b. shl_if b (bits (suc n) a) 0) (positive n) ∙ (ap (λ x. x % 2 ^ suc n) (times_one a) ∙ mod-eq_of_lt below)

pub shl_right : (n : ℕ) → IsNeutralRight op.Shl n 0
shl_right n = record { keeps_width = refl; value = λ left below. shl_zero n left below }

lshr_zero : (n a : ℕ) → a < 2 ^ n → lshr_if (nat_lt 0 n) a 0 ≡ a
lshr_zero zero a below = let none : a ≡ 0 = omega arith in sym none
lshr_zero (suc n) a below = ap (λ b. lshr_if b a 0) (positive n) ∙ by_one a

pub lshr_right : (n : ℕ) → IsNeutralRight op.Lshr n 0
lshr_right n = record { keeps_width = refl; value = λ left below. lshr_zero n left below }

ones_twice : (n a : ℕ) → a < n → n - 1 - (n - 1 - a) ≡ a
ones_twice n a below = omega arith

ones_below : (n a : ℕ) → a < n → n - 1 - a < n
ones_below n a below = omega arith

either : (b : Bool) (x y a : ℕ) → x ≡ a → y ≡ a → cond b x y ≡ a
either true x y a e f = e
either false x y a e f = f

ashr_zero : (n a : ℕ) → a < 2 ^ n → bin_value op.Ashr (bits n a) (bits n 0) ≡ a
ashr_zero n a below =
    either (is_negative (bits n a)) (2 ^ n - 1 - lshr_if (nat_lt 0 n) (2 ^ n - 1 - a) 0) (lshr_if (nat_lt 0 n) a 0) a
    (ap (λ x. 2 ^ n - 1 - x) (lshr_zero n (2 ^ n - 1 - a) (ones_below (2 ^ n) a below)) ∙ ones_twice (2 ^ n) a below) (lshr_zero n a below)

pub ashr_right : (n : ℕ) → IsNeutralRight op.Ashr n 0
ashr_right n = record { keeps_width = refl; value = λ left below. ashr_zero n left below }

one_times : (a : ℕ) → 1 * a ≡ a
one_times a = omega arith

pub mul_right : (n : ℕ) → IsNeutralRight op.Mul n 1
mul_right n = record { keeps_width = refl; value = λ left below. ap (λ x. x % 2 ^ n) (times_one left) ∙ mod-eq_of_lt below }

pub udiv_right : (n : ℕ) → IsNeutralRight op.Udiv n 1
udiv_right n = record { keeps_width = refl; value = λ left below. by_one left }

pub and_right : (n ones : ℕ) → ones ≡ 2 ^ n - 1 → IsNeutralRight op.And n ones
and_right n ones is = record { keeps_width = refl; value = λ left below. ap (λ x. bit_and left x) is ∙ and_mask left n ∙ mod-eq_of_lt below }

-- ---- numbers that change nothing on the left

pub add_left : (n : ℕ) → IsNeutralLeft op.Add n 0
add_left n = record { keeps_width = refl; value = λ right below. ap (λ x. x % 2 ^ n) (zero-add right) ∙ mod-eq_of_lt below }

pub or_left : (n : ℕ) → IsNeutralLeft op.Or n 0
or_left n = record { keeps_width = refl; value = λ right below. or_zero_l right }

pub xor_left : (n : ℕ) → IsNeutralLeft op.Xor n 0
xor_left n = record { keeps_width = refl; value = λ right below. xor_zero_l right }

pub mul_left : (n : ℕ) → IsNeutralLeft op.Mul n 1
mul_left n = record { keeps_width = refl; value = λ right below. ap (λ x. x % 2 ^ n) (one_times right) ∙ mod-eq_of_lt below }

pub and_left : (n ones : ℕ) → ones ≡ 2 ^ n - 1 → IsNeutralLeft op.And n ones
and_left n ones is = record { keeps_width = refl; value = λ right below. and_comm ones right ∙ ap (λ x. bit_and right x) is ∙ and_mask right n ∙ mod-eq_of_lt below }

-- ---- rules

constant_is : (constant : Option ℕ) (value number : ℕ) → constant ≡ Some number → IfSome constant (λ n. value ≡ n) → value ≡ number
constant_is constant value number is known = subst (λ (c : Option ℕ). IfSome c (λ n. value ≡ n)) is known

pub right_is_neutral : (view : View) (number : ℕ) → view.right ≡ Some number → IsNeutralRight view.op view.width number → IsRight view swap.Left
right_is_neutral view number is neutral = record {
  width = λ _. neutral.keeps_width;
  value = λ left right agrees.
      subst (λ n. bin_value view.op (bits view.width left) (bits view.width n) ≡ left) (sym (constant_is view.right right number is agrees.right_constant)) (neutral.value left agrees.left_below);
}

pub left_is_neutral : (view : View) (number : ℕ) → view.left ≡ Some number → IsNeutralLeft view.op view.width number → IsRight view swap.Right
left_is_neutral view number is neutral = record {
  width = λ _. neutral.keeps_width;
  value = λ left right agrees.
      subst (λ n. bin_value view.op (bits view.width n) (bits view.width right) ≡ right) (sym (constant_is view.left left number is agrees.left_constant)) (neutral.value right agrees.right_below);
}

-- an operation that is 0 with 0 on either side
abbrev IsAbsorbed : BinOp → Type 0
IsAbsorbed o = (n a : ℕ) → (bin_value o (bits n 0) (bits n a) ≡ 0) × (bin_value o (bits n a) (bits n 0) ≡ 0)

zero_mod : (n : ℕ) → 0 % 2 ^ n ≡ 0
zero_mod n = grind arith

no_times : (a : ℕ) → 0 * a ≡ 0
no_times a = omega arith

times_none : (a : ℕ) → a * 0 ≡ 0
times_none a = omega arith

and_absorbed : IsAbsorbed op.And
and_absorbed n a = (and_zero_l a, and_zero_r a)

mul_absorbed : IsAbsorbed op.Mul
mul_absorbed n a = (ap (λ x. x % 2 ^ n) (no_times a) ∙ zero_mod n, ap (λ x. x % 2 ^ n) (times_none a) ∙ zero_mod n)

absorbed : (view : View) (o : BinOp) → view.op ≡ o → IsAbsorbed o → (view.left ≡ Some 0) ⊎ (view.right ≡ Some 0) → IsRight view (swap.Value 0)
absorbed view o is law (inl e) = record {
  width = λ none. cc;
  value = λ left right agrees.
      ap (λ (p : BinOp). bin_value p (bits view.width left) (bits view.width right)) is
      ∙ ap (λ n. bin_value o (bits view.width n) (bits view.width right)) (constant_is view.left left 0 e agrees.left_constant) ∙ (law view.width right).0;
}
absorbed view o is law (inr e) = record {
  width = λ none. cc;
  value = λ left right agrees.
      ap (λ (p : BinOp). bin_value p (bits view.width left) (bits view.width right)) is
      ∙ ap (λ n. bin_value o (bits view.width left) (bits view.width n)) (constant_is view.right right 0 e agrees.right_constant) ∙ (law view.width left).1;
}

pub and_zero : (view : View) → view.op ≡ op.And → (view.left ≡ Some 0) ⊎ (view.right ≡ Some 0) → IsRight view (swap.Value 0)
and_zero view is e = absorbed view op.And is and_absorbed e

pub mul_zero : (view : View) → view.op ≡ op.Mul → (view.left ≡ Some 0) ⊎ (view.right ≡ Some 0) → IsRight view (swap.Value 0)
mul_zero view is e = absorbed view op.Mul is mul_absorbed e

-- an operation on one term twice
twice : (view : View) (o : BinOp) (number : ℕ) → view.op ≡ o → ((n a : ℕ) → a < 2 ^ n → bin_value o (bits n a) (bits n a) ≡ number) → view.same ≡ true → IsRight view (swap.Value number)
twice view o number is law one = record {
  width = λ none. cc;
  value = λ left right agrees.
      ap (λ (p : BinOp). bin_value p (bits view.width left) (bits view.width right)) is
      ∙ ap (λ n. bin_value o (bits view.width left) (bits view.width n)) (sym (agrees.one_term one)) ∙ law view.width left agrees.left_below;
}

twice_itself : (view : View) (o : BinOp) → view.op ≡ o → ((n : ℕ) → bin_width o n n ≡ n) → ((n a : ℕ) → bin_value o (bits n a) (bits n a) ≡ a) → view.same ≡ true → IsRight view swap.Left
twice_itself view o is width law one = record {
  width = λ _. ap (λ (p : BinOp). bin_width p view.width view.width) is ∙ width view.width;
  value = λ left right agrees.
      ap (λ (p : BinOp). bin_value p (bits view.width left) (bits view.width right)) is
      ∙ ap (λ n. bin_value o (bits view.width left) (bits view.width n)) (sym (agrees.one_term one)) ∙ law view.width left;
}

pub and_same : (view : View) → view.op ≡ op.And → view.same ≡ true → IsRight view swap.Left
and_same view is one = twice_itself view op.And is (λ n. refl) (λ n a. and_self a) one

pub or_same : (view : View) → view.op ≡ op.Or → view.same ≡ true → IsRight view swap.Left
or_same view is one = twice_itself view op.Or is (λ n. refl) (λ n a. or_self a) one

less_whole : (n a : ℕ) → a < n → (a + (n - a)) % n ≡ 0
less_whole n a below =
    let e : a + (n - a) ≡ n = omega arith in
    ap (λ x. x % n) e ∙ mod_self n

pub sub_same : (view : View) → view.op ≡ op.Sub → view.same ≡ true → IsRight view (swap.Value 0)
sub_same view is one = twice view op.Sub 0 is (λ n a below. less_whole (2 ^ n) a below) one

pub xor_same : (view : View) → view.op ≡ op.Xor → view.same ≡ true → IsRight view (swap.Value 0)
xor_same view is one = twice view op.Xor 0 is (λ n a below. xor_self a) one

not_below : (a : ℕ) → nat_lt a a ≡ false
not_below a = grind (arith, nat_tests)

pub ult_same : (view : View) → view.op ≡ op.Ult → view.same ≡ true → IsRight view (swap.Value 0)
ult_same view is one = twice view op.Ult 0 is (λ n a below. ap bit_of (not_below a)) one

signs : (b c : Bool) → c ≡ false → ((b && not b) || (not (b && not b) && c)) ≡ false
signs true c e = e
signs false c e = e

pub slt_same : (view : View) → view.op ≡ op.Slt → view.same ≡ true → IsRight view (swap.Value 0)
slt_same view is one = twice view op.Slt 0 is (λ n a below. ap bit_of (signs (is_negative (bits n a)) (nat_lt a a) (not_below a))) one

equal_itself : (a : ℕ) → nat_eq a a ≡ true
equal_itself a = grind (arith, nat_tests)

pub eq_same : (view : View) → view.op ≡ op.Eq → view.same ≡ true → IsRight view (swap.Value 1)
eq_same view is one = twice view op.Eq 1 is (λ n a below. ap bit_of (equal_itself a)) one

-- what is shown of a view by a test that it fails
pub shown : (b : Bool) → not b ≡ false → b ≡ true
shown true e = refl
shown false e = cc
