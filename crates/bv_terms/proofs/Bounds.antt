-- A term's width is 1 to 64, and its value below 2 to the power of its width.
use Rattle.std.proofs.Common.{◌≡◌, ℕ, suc, zero, ◌+◌, ◌-◌, ◌*◌, ◌/◌, ◌%◌, ◌^◌, ◌<◌, ◌≤◌, Bool, true, false, cond, List, length, get_or, sym, ◌∙◌, subst, arith, nat_eq, nat_lt}
use Rattle.std.proofs.lemmas.Nat.{pow_pos, mod_below, or_lt, xor_lt, and_le_l, shr_le, pow-add, mul-add-lt}
use Rattle.std.proofs.lemmas.Option.{slice_get-get_or}
use Rattle.std.proofs.Math.Pow.{pow_mono}
use Rattle.std.proofs.Math.Nat.{div-le_self, mod-le, mul_comm}
use Rattle.bv_terms.specs.declared.node.BinOp.{BinOp}
use Rattle.bv_terms.specs.declared.node.BinOp.TheVariants as op
use Rattle.bv_terms.specs.BitVectors.{BitVector, bit_of, is_negative, bin_width, bin_value, not_value, shl_if, lshr_if, lshr_value, is_signed_less}
use Rattle.bv_terms.specs.Shapes.{Shape, Const, Var, Not, Neg, Bin, Extract, ZeroExtend, SignExtend, Ite, ByteSelect}
use Rattle.bv_terms.specs.Values.{Assignment, node_width, node_value, width_at, value_at}
use Rattle.bv_terms.specs.Fitting.{IsFitting, AreOperands, IsBits, IsWidth}
use Rattle.bv_terms.specs.Placed.{AreFitting}
use Rattle.bv_terms.proofs.Terms.{has_node}

cond_below : (b : Bool) (x y n : ℕ) → x < n → y < n → cond b x y < n
cond_below true x y n h k = h
cond_below false x y n h k = k

bit_below : (b : Bool) → bit_of b < 2
bit_below true = omega arith
bit_below false = omega arith

ones_below : (n x : ℕ) → 2 ^ n - 1 - x < 2 ^ n
ones_below n x = omega (arith, pow_pos n)

shl_below_width : (b : Bool) (a : BitVector) (by : ℕ) → shl_if b a by < 2 ^ a.width
shl_below_width true a by = mod_below (a.value * 2 ^ by) (2 ^ a.width) (pow_pos a.width)
shl_below_width false a by = pow_pos a.width

lshr_below : (b : Bool) (a by n : ℕ) → a < n → lshr_if b a by < n
lshr_below true a by n h = omega (arith, shr_le a by)
lshr_below false a by n h = omega arith

pub concat_below : (a b : BitVector) → a.value < 2 ^ a.width → b.value < 2 ^ b.width → a.value * 2 ^ b.width + b.value < 2 ^ (a.width + b.width)
concat_below a b h k =
    subst (λ n. a.value * 2 ^ b.width + b.value < n) (mul_comm (2 ^ b.width) (2 ^ a.width) ∙ sym (pow-add 2 a.width b.width))
    (mul-add-lt a.value (2 ^ b.width) b.value (2 ^ a.width) h k)

-- ---- an operation on two bit vectors of one width

same_width : (o : BinOp) (a b : BitVector) → a.width ≡ b.width → a.value < 2 ^ a.width → b.value < 2 ^ b.width → bin_value o a b < 2 ^ bin_width o a.width b.width
same_width op.And a b e h k = omega (arith, and_le_l a.value b.value)
same_width op.Or a b e h k = or_lt a.width a.value b.value h (subst (λ n. b.value < 2 ^ n) (sym e) k)
same_width op.Xor a b e h k = xor_lt a.width a.value b.value h (subst (λ n. b.value < 2 ^ n) (sym e) k)
same_width op.Add a b e h k = mod_below (a.value + b.value) (2 ^ a.width) (pow_pos a.width)
same_width op.Sub a b e h k = mod_below (a.value + (2 ^ a.width - b.value)) (2 ^ a.width) (pow_pos a.width)
same_width op.Mul a b e h k = mod_below (a.value * b.value) (2 ^ a.width) (pow_pos a.width)
same_width op.Udiv a b e h k = cond_below (nat_eq b.value 0) (2 ^ a.width - 1) (a.value / b.value) (2 ^ a.width) (omega (arith, pow_pos a.width)) (omega (arith, div-le_self a.value b.value))
same_width op.Urem a b e h k = cond_below (nat_eq b.value 0) a.value (a.value % b.value) (2 ^ a.width) h (omega (arith, mod-le a.value b.value))
same_width op.Shl a b e h k = shl_below_width (nat_lt b.value a.width) a b.value
same_width op.Lshr a b e h k = lshr_below (nat_lt b.value a.width) a.value b.value (2 ^ a.width) h
same_width op.Ashr a b e h k = cond_below (is_negative a) (2 ^ a.width - 1 - lshr_if (nat_lt b.value a.width) (not_value a) b.value) (lshr_value a b) (2 ^ a.width) (ones_below a.width (lshr_if (nat_lt b.value a.width) (not_value a) b.value)) (lshr_below (nat_lt b.value a.width) a.value b.value (2 ^ a.width) h)
same_width op.Eq a b e h k = bit_below (nat_eq a.value b.value)
same_width op.Ult a b e h k = bit_below (nat_lt a.value b.value)
same_width op.Slt a b e h k = bit_below (is_signed_less a b)
same_width op.Concat a b e h k = concat_below a b h k

-- ---- a node

bin_sound : (o : BinOp) (a b : BitVector) → AreOperands o a.width b.width → IsBits a.width a.value → IsBits b.width b.value → IsBits (bin_width o a.width b.width) (bin_value o a b)
bin_sound op.And a b e h k = record { within = h.within; below = same_width op.And a b e h.below k.below }
bin_sound op.Or a b e h k = record { within = h.within; below = same_width op.Or a b e h.below k.below }
bin_sound op.Xor a b e h k = record { within = h.within; below = same_width op.Xor a b e h.below k.below }
bin_sound op.Add a b e h k = record { within = h.within; below = same_width op.Add a b e h.below k.below }
bin_sound op.Sub a b e h k = record { within = h.within; below = same_width op.Sub a b e h.below k.below }
bin_sound op.Mul a b e h k = record { within = h.within; below = same_width op.Mul a b e h.below k.below }
bin_sound op.Udiv a b e h k = record { within = h.within; below = same_width op.Udiv a b e h.below k.below }
bin_sound op.Urem a b e h k = record { within = h.within; below = same_width op.Urem a b e h.below k.below }
bin_sound op.Shl a b e h k = record { within = h.within; below = same_width op.Shl a b e h.below k.below }
bin_sound op.Lshr a b e h k = record { within = h.within; below = same_width op.Lshr a b e h.below k.below }
bin_sound op.Ashr a b e h k = record { within = h.within; below = same_width op.Ashr a b e h.below k.below }
bin_sound op.Eq a b e h k = record { within = (omega arith, omega arith); below = same_width op.Eq a b e h.below k.below }
bin_sound op.Ult a b e h k = record { within = (omega arith, omega arith); below = same_width op.Ult a b e h.below k.below }
bin_sound op.Slt a b e h k = record { within = (omega arith, omega arith); below = same_width op.Slt a b e h.below k.below }
bin_sound op.Concat a b e h k = record { within = (omega (arith, h.within.0), e); below = concat_below a b h.below k.below }

sign_below : (b : Bool) (width more value : ℕ) → width ≤ more → value < 2 ^ width → cond b (value + (2 ^ more - 2 ^ width)) value < 2 ^ more
sign_below true width more value h k = let e : 2 ^ width ≤ 2 ^ more = pow_mono h in omega arith
sign_below false width more value h k = let e : 2 ^ width ≤ 2 ^ more = pow_mono h in omega arith

pub node_sound : (w : Assignment) (f v : ℕ → ℕ) (count : ℕ) (node : Shape) → IsFitting f count node → ((c : ℕ) → c < count → IsBits (f c) (v c))
    → IsBits (node_width f node) (node_value w (λ c. record { width = f c; value = v c }) node)
node_sound w f v count (Const width value) fit sound = record { within = fit.0; below = fit.1 }
node_sound w f v count (Var width number) fit sound = record { within = fit; below = w.below width number }
node_sound w f v count (Not of) fit sound = record { within = (sound of fit).within; below = ones_below (f of) (v of) }
node_sound w f v count (Neg of) fit sound = record { within = (sound of fit).within; below = mod_below (2 ^ f of - v of) (2 ^ f of) (pow_pos (f of)) }
node_sound w f v count (Bin o left right) fit sound = bin_sound o (record { width = f left; value = v left }) (record { width = f right; value = v right }) fit.2 (sound left fit.0) (sound right fit.1)
node_sound w f v count (Extract of high low) fit sound =
    let top = (sound of fit.0).within.1 in
    record { within = (omega (arith, fit.1), omega (arith, fit.1, fit.2, top)); below = mod_below (v of / 2 ^ low) (2 ^ (high + 1 - low)) (pow_pos (high + 1 - low)) }
node_sound w f v count (ZeroExtend of width) fit sound =
    let s = sound of fit.0 in
    let e : 2 ^ f of ≤ 2 ^ width = pow_mono fit.1 in
    record { within = (omega (arith, s.within.0, fit.1), fit.2); below = omega (arith, s.below, e) }
node_sound w f v count (SignExtend of width) fit sound =
    let s = sound of fit.0 in
    record { within = (omega (arith, s.within.0, fit.1), fit.2); below = sign_below (is_negative (record { width = f of; value = v of })) (f of) width (v of) fit.1 s.below }
node_sound w f v count (Ite test first second) fit sound =
    let s = sound first fit.1 in
    let t = sound second fit.2 in
    record { within = s.within; below = cond_below (nat_eq (v test) 1) (v first) (v second) (2 ^ f first) s.below (subst (λ n. v second < 2 ^ n) (sym fit.4) t.below) }
node_sound w f v count (ByteSelect first bytes index) fit sound =
    record { within = (omega arith, omega arith); below = cond_below (nat_lt (v index) first) 0 (get_or bytes (v index - first) 0 % 2 ^ 8) (2 ^ 8) (omega arith) (mod_below (get_or bytes (v index - first) 0) (2 ^ 8) (omega arith)) }

-- ---- a term

by_bound : (w : Assignment) (nodes : List Shape) → AreFitting nodes → (bound id : ℕ) → id < bound → id < length nodes → IsBits (width_at nodes id) (value_at w nodes id)
by_bound w nodes fit zero id h within = absurd (omega arith)
by_bound w nodes fit (suc bound) id h within =
    let node = get_or nodes id (Const 0 0) in
    let at = slice_get-get_or nodes id (Const 0 0) within in
    let has = has_node nodes id node at (fit id node at) in
    let sound = node_sound w (width_at nodes) (value_at w nodes) id node (fit id node at) (λ c b. by_bound w nodes fit bound c (omega (arith, b, h)) (omega (arith, b, within))) in
    subst (λ n. IsBits n (value_at w nodes id)) (sym has.width) (subst (λ v. IsBits (node_width (width_at nodes) node) v) (sym (has.value w)) sound)

pub term_sound : (w : Assignment) (nodes : List Shape) → AreFitting nodes → (id : ℕ) → id < length nodes → IsBits (width_at nodes id) (value_at w nodes id)
term_sound w nodes fit id within = by_bound w nodes fit (suc id) id (omega arith) within

pub zeros : Assignment
zeros = record { value_of = λ width number. 0; below = λ width number. pow_pos width }

pub width_within : (nodes : List Shape) → AreFitting nodes → (id width : ℕ) → id < length nodes → width ≡ width_at nodes id → IsWidth width
width_within nodes fit id width within e = subst IsWidth (sym e) (term_sound zeros nodes fit id within).within

pub value_below : (nodes : List Shape) → AreFitting nodes → (id width : ℕ) → id < length nodes → width ≡ width_at nodes id → (w : Assignment) → value_at w nodes id < 2 ^ width
value_below nodes fit id width within e w = subst (λ n. value_at w nodes id < 2 ^ n) (sym e) (term_sound w nodes fit id within).below
