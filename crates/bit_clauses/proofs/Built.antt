-- Numbers that are built bit by bit, the lowest first.
use Rattle.std.proofs.Common.{◌≡◌, ℕ, ◌+◌, ◌*◌, ◌^◌, ◌<◌, ◌≤◌, Bool, true, false, cond, List, [], ◌∷◌, ◌++◌, length, get_or, take, refl, sym, ◌∙◌, ap, subst, arith, length-append}
use Rattle.std.specs.Prelude.{Result, Ok, Err, IfOk}
use Rattle.std.proofs.lemmas.List.Elements.{All-push, All-nil}
use Rattle.std.proofs.lemmas.List.{take_all, length-take-le}
use Rattle.std.proofs.lemmas.Nat.{and_block, or_block, xor_block}
use Rattle.bv_terms.specs.BitVectors.{bit_of}
use Rattle.clause_store.specs.declared.lit.Lit.{Lit}
use Rattle.clause_store.specs.Literals.{Assignment, literal_value}
use Rattle.clause_store.specs.Formula.{Formula, IsKnown}
use Rattle.clause_store.specs.UnitRule.{Partial}
use Rattle.bit_clauses.specs.declared.gate.Gate.{Gate}
use Rattle.bit_clauses.specs.declared.gate.Gate.TheVariants as gate
use Rattle.bit_clauses.specs.Circuit.{IsCircuit, Decides, DecidesAll}
use Rattle.bit_clauses.specs.Spelled.{bit, spelled}
use Rattle.bit_clauses.specs.Bitwise.{gate_of, bitwise_value}
use Rattle.bit_clauses.proofs.Circuits.{chained, no_circuit, said}
use Rattle.bit_clauses.proofs.Adders.{known_later}
use Rattle.bit_clauses.proofs.Numbers.{spelled-more, spelled-push, spelled_small}

-- so many bits are there, and spell the value so far
pub record IsBuilt (old new : Formula) (Given : Partial → Type 0) (bits : List Lit) (value : Assignment → ℕ → ℕ) (i : ℕ) : Type 0 where
  pub circuit : IsCircuit old new Given (λ v. DecidesAll v bits) (λ w. spelled w bits ≡ value w i)
  pub count : length bits ≡ i
  pub bits_known : IsKnown new.vars bits

pub built-none : (f : Formula) (Given : Partial → Type 0) (bits : List Lit) (value : Assignment → ℕ → ℕ) → bits ≡ [] → ((w : Assignment) → value w 0 ≡ 0) → IsBuilt f f Given bits value 0
built-none f Given bits value e starts = subst (λ l. IsBuilt f f Given l value 0) (sym e) (record {
  circuit = no_circuit f Given (λ v. DecidesAll v []) (λ w. 0 ≡ value w 0) (λ v g. All-nil (Decides v)) (λ w. sym (starts w));
  count = refl;
  bits_known = All-nil (λ (l : Lit). l.var < f.vars);
})

pub built-more : (old mid new : Formula) (Given Asked : Partial → Type 0) (Means : Assignment → Type 0) (bits after : List Lit) (out : Lit) (value : Assignment → ℕ → ℕ) (i : ℕ)
    → IsBuilt old mid Given bits value i → IsCircuit mid new Asked (λ v. Decides v out) Means → out.var < new.vars → after ≡ bits ++ out ∷ []
    → ((v : Partial) → Given v → Asked v) → ((w : Assignment) → Means w → value w (i + 1) ≡ value w i + 2 ^ i * bit w out)
    → IsBuilt old new Given after value (i + 1)
built-more old mid new Given Asked Means bits after out value i before step known e asked more = subst (λ l. IsBuilt old new Given l value (i + 1)) (sym e) (record {
  circuit = chained old mid new Given (λ v. DecidesAll v bits) Asked (λ v. Decides v out) (λ v. DecidesAll v (bits ++ out ∷ []))
      (λ w. spelled w bits ≡ value w i) Means (λ w. spelled w (bits ++ out ∷ []) ≡ value w (i + 1))
      before.circuit step (λ v g h. asked v g) (λ v g h k. All-push (Decides v) bits out h k)
      (λ w p q. spelled-push w bits out ∙ ap (λ n. spelled w bits + 2 ^ n * bit w out) before.count ∙ ap (λ n. n + 2 ^ i * bit w out) p ∙ sym (more w q));
  count = length-append bits (out ∷ []) ∙ ap (λ n. n + 1) before.count;
  bits_known = All-push (λ (l : Lit). l.var < new.vars) bits out (known_later mid.vars new.vars bits step.grows.vars before.bits_known) known;
})

pub built-all : (old new : Formula) (Given : Partial → Type 0) (bits : List Lit) (value : Assignment → ℕ → ℕ) (i : ℕ) (Means : Assignment → Type 0)
    → IsBuilt old new Given bits value i → ((w : Assignment) → spelled w bits ≡ value w i → Means w) → IsCircuit old new Given (λ v. DecidesAll v bits) Means
built-all old new Given bits value i Means built means =
    said old new Given Given (λ v. DecidesAll v bits) (λ v. DecidesAll v bits) (λ w. spelled w bits ≡ value w i) Means built.circuit (λ v g. g) (λ v g h. h) means

-- ---- a choice

abbrev pub chosen_value : Lit → List Lit → List Lit → Assignment → ℕ → ℕ
chosen_value when first second w i = cond (literal_value w when) (spelled w (take i first)) (spelled w (take i second))

cond_step : (b p q : Bool) (m n k : ℕ) → (s t : ℕ) → s ≡ m + k * bit_of p → t ≡ n + k * bit_of q → cond b s t ≡ cond b m n + k * bit_of (cond b p q)
cond_step true p q m n k s t e f = e
cond_step false p q m n k s t e f = f

pub chosen-more : (when out : Lit) (first second : List Lit) (w : Assignment) (i : ℕ) (d : Lit) → i < length first → length first ≡ length second
    → literal_value w out ≡ cond (literal_value w when) (literal_value w (get_or first i d)) (literal_value w (get_or second i d))
    → chosen_value when first second w (i + 1) ≡ chosen_value when first second w i + 2 ^ i * bit w out
chosen-more when out first second w i d within same e =
    cond_step (literal_value w when) (literal_value w (get_or first i d)) (literal_value w (get_or second i d)) (spelled w (take i first)) (spelled w (take i second)) (2 ^ i)
    (spelled w (take (i + 1) first)) (spelled w (take (i + 1) second)) (spelled-more w first i d within) (spelled-more w second i d (omega (arith, within, same)))
    ∙ ap (λ b. chosen_value when first second w i + 2 ^ i * bit_of b) (sym e)

-- ---- a gate at each digit

abbrev pub joined_value : Gate → List Lit → List Lit → Assignment → ℕ → ℕ
joined_value g left right w i = bitwise_value g (spelled w (take i left)) (spelled w (take i right))

gate_block : (g : Gate) (i a b : ℕ) (x y : Bool) → a < 2 ^ i → b < 2 ^ i → bitwise_value g (bit_of x * 2 ^ i + a) (bit_of y * 2 ^ i + b) ≡ bitwise_value g (bit_of x) (bit_of y) * 2 ^ i + bitwise_value g a b
gate_block gate.And i a b x y h k = and_block i (bit_of x) (bit_of y) a b h k
gate_block gate.Or i a b x y h k = or_block i (bit_of x) (bit_of y) a b h k
gate_block gate.Xor i a b x y h k = xor_block i (bit_of x) (bit_of y) a b h k

gate_bit : (g : Gate) (x y : Bool) → bitwise_value g (bit_of x) (bit_of y) ≡ bit_of (gate_of g x y)
gate_bit gate.And true true = refl
gate_bit gate.And true false = refl
gate_bit gate.And false true = refl
gate_bit gate.And false false = refl
gate_bit gate.Or true true = refl
gate_bit gate.Or true false = refl
gate_bit gate.Or false true = refl
gate_bit gate.Or false false = refl
gate_bit gate.Xor true true = refl
gate_bit gate.Xor true false = refl
gate_bit gate.Xor false true = refl
gate_bit gate.Xor false false = refl

small : (w : Assignment) (xs : List Lit) (i : ℕ) → i < length xs → spelled w (take i xs) < 2 ^ i
small w xs i h = subst (λ n. spelled w (take i xs) < 2 ^ n) (length-take-le i xs (omega (arith, h))) (spelled_small w (take i xs))

turned : (a p x : ℕ) → a + p * x ≡ x * p + a
turned a p x = omega arith

pub joined-more : (g : Gate) (out : Lit) (left right : List Lit) (w : Assignment) (i : ℕ) (d : Lit) → i < length left → length left ≡ length right
    → literal_value w out ≡ gate_of g (literal_value w (get_or left i d)) (literal_value w (get_or right i d))
    → joined_value g left right w (i + 1) ≡ joined_value g left right w i + 2 ^ i * bit w out
joined-more g out left right w i d within same e =
    let x = literal_value w (get_or left i d) in
    let y = literal_value w (get_or right i d) in
    let other : i < length right = omega (arith, within, same) in
    ap (λ n. bitwise_value g n (spelled w (take (i + 1) right))) (spelled-more w left i d within ∙ turned (spelled w (take i left)) (2 ^ i) (bit_of x))
    ∙ ap (λ n. bitwise_value g (bit_of x * 2 ^ i + spelled w (take i left)) n) (spelled-more w right i d other ∙ turned (spelled w (take i right)) (2 ^ i) (bit_of y))
    ∙ gate_block g i (spelled w (take i left)) (spelled w (take i right)) x y (small w left i within) (small w right i other)
    ∙ ap (λ n. n * 2 ^ i + joined_value g left right w i) (gate_bit g x y ∙ ap bit_of (sym e))
    ∙ sym (turned (joined_value g left right w i) (2 ^ i) (bit w out))

pub joined-none : (g : Gate) (left right : List Lit) (w : Assignment) → joined_value g left right w 0 ≡ 0
joined-none gate.And left right w = refl
joined-none gate.Or left right w = refl
joined-none gate.Xor left right w = refl

cond_same : (b : Bool) (n : ℕ) → cond b n n ≡ n
cond_same true n = refl
cond_same false n = refl

pub chosen-none : (when : Lit) (first second : List Lit) (w : Assignment) → chosen_value when first second w 0 ≡ 0
chosen-none when first second w = cond_same (literal_value w when) 0

pub joined-all : (g : Gate) (left right : List Lit) (w : Assignment) (i : ℕ) → length left ≤ i → length left ≡ length right → joined_value g left right w i ≡ bitwise_value g (spelled w left) (spelled w right)
joined-all g left right w i h same =
    ap (λ l. bitwise_value g (spelled w l) (spelled w (take i right))) (take_all i left h) ∙ ap (λ l. bitwise_value g (spelled w left) (spelled w l)) (take_all i right (omega (arith, h, same)))

pub chosen-all : (when : Lit) (first second : List Lit) (w : Assignment) (i : ℕ) → length first ≤ i → length first ≡ length second → chosen_value when first second w i ≡ cond (literal_value w when) (spelled w first) (spelled w second)
chosen-all when first second w i h same =
    ap (λ l. cond (literal_value w when) (spelled w l) (spelled w (take i second))) (take_all i first h) ∙ ap (λ l. cond (literal_value w when) (spelled w first) (spelled w l)) (take_all i second (omega (arith, h, same)))

pub if_both : {T E : Type 0} (r : Result T E) (P Q R : T → Type 0) → ((x : T) → P x → Q x → R x) → IfOk r P → IfOk r Q → IfOk r R
if_both (Ok x) P Q R f p q = f x p q
if_both (Err e) P Q R f p q = tt
