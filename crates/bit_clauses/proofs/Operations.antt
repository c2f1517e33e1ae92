-- Circuits as operations on terms.
use Rattle.std.proofs.Common.{◌≡◌, ℕ, ◌+◌, ◌-◌, ◌*◌, ◌/◌, ◌%◌, ◌^◌, ◌<◌, ◌≤◌, Bool, true, false, cond, not, List, ◌++◌, length, nat_lt, sym, ◌∙◌, ap, subst, arith, inl, inr, length-append}
use Rattle.std.specs.Prelude.{Result, Ok, Err, IfOk, replicate}
use Rattle.std.proofs.Math.Nat.{div-eq_of_lt}
use Rattle.std.proofs.Math.Pow.{pow_mono}
use Rattle.std.proofs.lemmas.Bool.{cases_lt}
use Rattle.std.proofs.lemmas.Bool.Decides.{nat_tests}
use Rattle.std.proofs.lemmas.Nat.{mod-mul-add}
use Rattle.std.proofs.lemmas.List.Elements.{All-replicate, All-append}
use Rattle.std.proofs.lemmas.List.{length-replicate}
use Rattle.bv_terms.specs.declared.node.BinOp.{BinOp}
use Rattle.bv_terms.specs.declared.node.BinOp.TheVariants as op
use Rattle.bv_terms.specs.BitVectors.{bit_of, bits, bin_value, bin_width, lshr_if, shl_if, is_negative, ashr_value}
use Rattle.clause_store.specs.declared.lit.Lit.{Lit}
use Rattle.clause_store.specs.Literals.{Assignment, literal_value, opposite}
use Rattle.clause_store.specs.Formula.{Formula, IsKnown}
use Rattle.clause_store.specs.UnitRule.{Partial}
use Rattle.clause_store.proofs.Rest.{literal_value-opposite}
use Rattle.bit_clauses.specs.Circuit.{IsCircuit, Decides, DecidesAll}
use Rattle.bit_clauses.specs.Operation.{Spells, SpellsOperation, vector}
use Rattle.bit_clauses.specs.Shift.{signed_value}
use Rattle.bit_clauses.specs.Spelled.{spelled, bit}
use Rattle.bit_clauses.proofs.Circuits.{said, no_circuit}
use Rattle.bit_clauses.proofs.Numbers.{spelled-append}
use Rattle.bit_clauses.proofs.Shifts.{up_far}

pub spells : (old new : Formula) (Given Asked Gives : Partial → Type 0) (Means : Assignment → Type 0) (sure : Lit) (width : ℕ) (value : Assignment → ℕ) (out : List Lit)
    → length out ≡ width → IsKnown new.vars out → IsCircuit old new Asked Gives Means
    → ((v : Partial) → Given v → Decides v sure → Asked v) → ((v : Partial) → Gives v → DecidesAll v out)
    → ((w : Assignment) → literal_value w sure ≡ true → Means w → spelled w out ≡ value w) → Spells old new Given sure width value out
spells old new Given Asked Gives Means sure width value out count known one asked gives means = record {
  count = count;
  known = known;
  circuit = said old new (λ v. Given v × Decides v sure) Asked Gives (λ v. DecidesAll v out) Means (λ w. literal_value w sure ≡ true → spelled w out ≡ value w)
      one (λ v g. asked v g.0 g.1) (λ v g h. gives v h) (λ w m t. means w t m);
}

-- the literal that is false
pub nil_false : (w : Assignment) (sure nil : Lit) → nil ≡ opposite sure → literal_value w sure ≡ true → literal_value w nil ≡ false
nil_false w sure nil e t = ap (literal_value w) e ∙ literal_value-opposite w sure ∙ ap not t

pub nil_decided : (v : Partial) (sure nil : Lit) → nil ≡ opposite sure → Decides v sure → Decides v nil
nil_decided v sure nil e d = subst (λ (l : Lit). Decides v l) (sym e) d

pub nil_known : (n : ℕ) (sure nil : Lit) → nil ≡ opposite sure → sure.var < n → nil.var < n
nil_known n sure nil e h = subst (λ (l : Lit). l.var < n) (sym e) h

-- an operation by a circuit that stands on both terms and a literal that is true
pub by_sure : (old new : Formula) (op : BinOp) (left right out : List Lit) (sure : Lit) (Gives : Partial → Type 0) (Means : Assignment → Type 0)
    → length out ≡ bin_width op (length left) (length right) → IsKnown new.vars out
    → IsCircuit old new (λ v. DecidesAll v left × DecidesAll v right × Decides v sure) Gives Means
    → ((v : Partial) → Gives v → DecidesAll v out)
    → ((w : Assignment) → literal_value w sure ≡ true → Means w → spelled w out ≡ bin_value op (vector w left) (vector w right))
    → SpellsOperation old new op left right sure out
by_sure old new op left right out sure Gives Means count known one gives means =
    spells old new (λ v. DecidesAll v left × DecidesAll v right) (λ v. DecidesAll v left × DecidesAll v right × Decides v sure) Gives Means sure
    (bin_width op (length left) (length right)) (λ w. bin_value op (vector w left) (vector w right)) out count known one (λ v g d. (g.0, g.1, d)) gives means

-- an operation by a circuit that stands on both terms and a literal that is false
pub by_nil : (old new : Formula) (op : BinOp) (left right out : List Lit) (sure nil : Lit) (Gives : Partial → Type 0) (Means : Assignment → Type 0) → nil ≡ opposite sure
    → length out ≡ bin_width op (length left) (length right) → IsKnown new.vars out
    → IsCircuit old new (λ v. DecidesAll v left × DecidesAll v right × Decides v nil) Gives Means
    → ((v : Partial) → Gives v → DecidesAll v out)
    → ((w : Assignment) → literal_value w nil ≡ false → Means w → spelled w out ≡ bin_value op (vector w left) (vector w right))
    → SpellsOperation old new op left right sure out
by_nil old new op left right out sure nil Gives Means e count known one gives means =
    spells old new (λ v. DecidesAll v left × DecidesAll v right) (λ v. DecidesAll v left × DecidesAll v right × Decides v nil) Gives Means sure
    (bin_width op (length left) (length right)) (λ w. bin_value op (vector w left) (vector w right)) out count known one
    (λ v g d. (g.0, g.1, nil_decided v sure nil e d)) gives (λ w t m. means w (nil_false w sure nil e t) m)

-- an operation by a circuit that stands on both terms alone
pub by_both : (old new : Formula) (op : BinOp) (left right out : List Lit) (sure : Lit) (Means : Assignment → Type 0)
    → length out ≡ bin_width op (length left) (length right) → IsKnown new.vars out
    → IsCircuit old new (λ v. DecidesAll v left × DecidesAll v right) (λ v. DecidesAll v out) Means
    → ((w : Assignment) → Means w → spelled w out ≡ bin_value op (vector w left) (vector w right))
    → SpellsOperation old new op left right sure out
by_both old new op left right out sure Means count known one means =
    spells old new (λ v. DecidesAll v left × DecidesAll v right) (λ v. DecidesAll v left × DecidesAll v right) (λ v. DecidesAll v out) Means sure
    (bin_width op (length left) (length right)) (λ w. bin_value op (vector w left) (vector w right)) out count known one (λ v g d. g) (λ v h. h) (λ w t m. means w m)

one_digit : (b : ℕ) → b + 2 * 0 ≡ b
one_digit b = omega arith

-- a test as a term of one bit
pub by_test : (old new : Formula) (op : BinOp) (left right bits_out : List Lit) (sure out : Lit) (test : Assignment → Bool) → bits_out ≡ replicate 1 out
    → bin_width op (length left) (length right) ≡ 1 → out.var < new.vars
    → IsCircuit old new (λ v. DecidesAll v left × DecidesAll v right × Decides v sure) (λ v. Decides v out) (λ w. literal_value w sure ≡ true → literal_value w out ≡ test w)
    → ((w : Assignment) → bit_of (test w) ≡ bin_value op (vector w left) (vector w right))
    → SpellsOperation old new op left right sure bits_out
by_test old new op left right bits_out sure out test e width known one same =
    subst (λ (l : List Lit). SpellsOperation old new op left right sure l) (sym e)
    (by_sure old new op left right (replicate 1 out) sure (λ v. Decides v out) (λ w. literal_value w sure ≡ true → literal_value w out ≡ test w)
    (length-replicate 1 out ∙ sym width) (All-replicate (λ (l : Lit). l.var < new.vars) 1 out known) one
    (λ v h. All-replicate (Decides v) 1 out h)
    (λ w t m. one_digit (bit w out) ∙ ap bit_of (m t) ∙ same w))

-- ---- values

-- what a sum leaves below the width
pub sum_same : (s p c a b : ℕ) → s + p * c ≡ a + b + 0 → s < p → s ≡ (a + b) % p
sum_same s p c a b e h =
    let whole : a + b ≡ c * p + s = omega (arith, e) in
    sym (ap (λ n. n % p) whole ∙ mod-mul-add c p s h)

pub difference_same : (s p c a b : ℕ) → s + p * c + b ≡ a + p → s < p → b < p → s ≡ (a + (p - b)) % p
difference_same s p c a b e h k =
    let whole : a + (p - b) ≡ c * p + s = omega (arith, e, k) in
    sym (ap (λ n. n % p) whole ∙ mod-mul-add c p s h)

pub negative_same : (s p c b : ℕ) → s + p * c + b ≡ 0 + p → s < p → b < p → s ≡ (p - b) % p
negative_same s p c b e h k = difference_same s p c 0 b e h k ∙ ap (λ n. n % p) (nothing (p - b))
  where
    nothing : (n : ℕ) → 0 + n ≡ n
    nothing n = omega arith

pub right_shift_same : (a n by : ℕ) → a < 2 ^ n → a / 2 ^ by ≡ lshr_if (nat_lt by n) a by
right_shift_same a n by h = elim (cases_lt by n) [
  | inl near ↦
      let e : nat_lt by n ≡ true = grind (arith, nat_tests, near) in
      ap (λ b. lshr_if b a by) (sym e)
  | inr far ↦
      let e : nat_lt by n ≡ false = grind (arith, nat_tests, far) in
      let more : 2 ^ n ≤ 2 ^ by = pow_mono far in
      div-eq_of_lt (omega (arith, h, more)) ∙ ap (λ b. lshr_if b a by) (sym e)
]

pub left_shift_same : (a n by : ℕ) → a * 2 ^ by % 2 ^ n ≡ shl_if (nat_lt by n) (bits n a) by
left_shift_same a n by = elim (cases_lt by n) [
  | inl near ↦
      let e : nat_lt by n ≡ true = grind (arith, nat_tests, near) in
      ap (λ b. shl_if b (bits n a) by) (sym e)
  | inr far ↦
      let e : nat_lt by n ≡ false = grind (arith, nat_tests, far) in
      up_far a n by far ∙ ap (λ b. shl_if b (bits n a) by) (sym e)
]

pub signed_shift_same : (a n m by : ℕ) → a < 2 ^ n → signed_value (bits n a) by ≡ ashr_value (bits n a) (bits m by)
signed_shift_same a n m by h =
    let other : 2 ^ n - 1 - a < 2 ^ n = omega (arith, h) in
    ap (λ x. cond (is_negative (bits n a)) (2 ^ n - 1 - x) (a / 2 ^ by)) (right_shift_same (2 ^ n - 1 - a) n by other)
    ∙ ap (λ x. cond (is_negative (bits n a)) (2 ^ n - 1 - lshr_if (nat_lt by n) (2 ^ n - 1 - a) by) x) (right_shift_same a n by h)

pub parts_same : (high low p : ℕ) → low + p * high ≡ high * p + low
parts_same high low p = omega arith

-- what holds of the value in an `Ok`, by three facts
pub if_three : {T E : Type 0} (r : Result T E) (P Q R S : T → Type 0) → ((x : T) → P x → Q x → R x → S x) → IfOk r P → IfOk r Q → IfOk r R → IfOk r S
if_three (Ok x) P Q R S f p q r = f x p q r
if_three (Err e) P Q R S f p q r = tt

pub if_one : {T E : Type 0} (r : Result T E) (P S : T → Type 0) → ((x : T) → P x → S x) → IfOk r P → IfOk r S
if_one (Ok x) P S f p = f x p
if_one (Err e) P S f p = tt

count_both : (a b : ℕ) → b + a ≡ a + b
count_both a b = omega arith

-- the left above the right
pub concat_spells : (f : Formula) (left right : List Lit) (sure : Lit) → IsKnown f.vars left → IsKnown f.vars right → SpellsOperation f f op.Concat left right sure (right ++ left)
concat_spells f left right sure h k = record {
  count = length-append right left ∙ count_both (length left) (length right);
  known = All-append (λ (l : Lit). l.var < f.vars) right left k h;
  circuit = no_circuit f (λ v. (DecidesAll v left × DecidesAll v right) × Decides v sure) (λ v. DecidesAll v (right ++ left))
      (λ w. literal_value w sure ≡ true → spelled w (right ++ left) ≡ spelled w left * 2 ^ length right + spelled w right)
      (λ v g. All-append (Decides v) right left g.0.1 g.0.0)
      (λ w t. spelled-append w right left ∙ parts_same (spelled w left) (spelled w right) (2 ^ length right));
}
