-- Operations that need no gate.
use Rattle.std.proofs.Common.{◌≡◌, ℕ, zero, suc, ◌+◌, ◌-◌, ◌*◌, ◌/◌, ◌%◌, ◌^◌, ◌<◌, ◌≤◌, Bool, true, false, cond, List, [], ◌∷◌, ◌++◌, map, length, get_or, take, drop, nat_eq, refl, sym, ◌∙◌, ap, subst, arith, length-append, length-drop}
use Rattle.std.specs.Prelude.{IsSome, All, replicate}
use Rattle.std.proofs.Math.Nat.{pow-suc}
use Rattle.std.proofs.lemmas.Nat.{pow-add}
use Rattle.std.proofs.lemmas.List.Elements.{All-get_or, All-append, All-take, All-drop, All-replicate, All-map}
use Rattle.std.proofs.lemmas.List.{length-map, length-take-le, length-replicate}
use Rattle.bv_terms.specs.BitVectors.{BitVector, bit_of, bits, not_value, extract_value, sign_extend_value}
use Rattle.clause_store.specs.declared.lit.Lit.{Lit}
use Rattle.clause_store.specs.Literals.{Assignment, literal_value, opposite}
use Rattle.bit_clauses.specs.Circuit.{Decides, DecidesAll}
use Rattle.bit_clauses.specs.Operation.{SpellsWired, vector}
use Rattle.bit_clauses.specs.Spelled.{bit, spelled}
use Rattle.bit_clauses.proofs.Adders.{pow-more}
use Rattle.bit_clauses.proofs.Circuits.{no_circuit}
use Rattle.bit_clauses.proofs.Comparisons.{negative_by_top}
use Rattle.bit_clauses.proofs.Numbers.{spelled-append, spelled-push}
use Rattle.bit_clauses.proofs.Operations.{nil_false}
use Rattle.bit_clauses.proofs.Products.{spelled-take, spelled-replicate}
use Rattle.bit_clauses.proofs.Shifts.{spelled-drop, opposite_value}

-- literals of the variables of others
pub wired : (lits out : List Lit) (sure : Lit) (width : ℕ) (value : BitVector → ℕ) → length out ≡ width
    → ((Q : ℕ → Type 0) → All (λ (l : Lit). Q l.var) lits → Q sure.var → All (λ (l : Lit). Q l.var) out)
    → ((w : Assignment) → literal_value w sure ≡ true → spelled w out ≡ value (vector w lits))
    → SpellsWired lits sure width value out
wired lits out sure width value count all means f known sure_known = record {
  count = count;
  known = all (λ x. x < f.vars) known sure_known;
  circuit = no_circuit f (λ v. DecidesAll v lits × Decides v sure) (λ v. DecidesAll v out) (λ w. literal_value w sure ≡ true → spelled w out ≡ value (vector w lits))
      (λ v g. all (λ x. IsSome (v x)) g.0 g.1) means;
}

pub inverse_wired : (lits : List Lit) (sure : Lit) → SpellsWired lits sure (length lits) not_value (map opposite lits)
inverse_wired lits sure = wired lits (map opposite lits) sure (length lits) not_value (length-map lits opposite)
    (λ Q h k. All-map (λ (l : Lit). Q l.var) opposite lits h) (λ w t. opposite_value w lits)

pub part_wired : (lits : List Lit) (sure : Lit) (high low : ℕ) → low ≤ high → high < length lits
    → SpellsWired lits sure (high + 1 - low) (λ a. extract_value a high low) (take (high + 1 - low) (drop low lits))
part_wired lits sure high low h k =
    let room : high + 1 - low ≤ length (drop low lits) = omega (arith, h, k, length-drop low lits) in
    wired lits (take (high + 1 - low) (drop low lits)) sure (high + 1 - low) (λ a. extract_value a high low) (length-take-le (high + 1 - low) (drop low lits) room)
    (λ Q a b. All-take (λ (l : Lit). Q l.var) (high + 1 - low) (drop low lits) (All-drop (λ (l : Lit). Q l.var) low lits a))
    (λ w t. spelled-take w (drop low lits) (high + 1 - low) room ∙ ap (λ n. n % 2 ^ (high + 1 - low)) (spelled-drop w lits low (omega (arith, h, k))))

wider_count : (lits : List Lit) (fill : Lit) (width : ℕ) → length lits ≤ width → length (lits ++ replicate (width - length lits) fill) ≡ width
wider_count lits fill width h = length-append lits (replicate (width - length lits) fill) ∙ omega (arith, h, length-replicate (width - length lits) fill)

nothing_more : (a p : ℕ) → a + p * 0 ≡ a
nothing_more a p = omega arith

pub zeros_wired : (lits : List Lit) (sure nil : Lit) (width : ℕ) → nil ≡ opposite sure → length lits ≤ width
    → SpellsWired lits sure width (λ a. a.value) (lits ++ replicate (width - length lits) nil)
zeros_wired lits sure nil width e h =
    let k = width - length lits in
    wired lits (lits ++ replicate k nil) sure width (λ a. a.value) (wider_count lits nil width h)
    (λ Q a b. All-append (λ (l : Lit). Q l.var) lits (replicate k nil) a (All-replicate (λ (l : Lit). Q l.var) k nil (subst (λ (l : Lit). Q l.var) (sym e) b)))
    (λ w t.
    spelled-append w lits (replicate k nil) ∙ ap (λ n. spelled w lits + 2 ^ length lits * n) (spelled-replicate w k nil (nil_false w sure nil e t))
    ∙ nothing_more (spelled w lits) (2 ^ length lits))

ones : (w : Assignment) (n : ℕ) (l : Lit) → literal_value w l ≡ true → spelled w (replicate n l) + 1 ≡ 2 ^ n
ones w zero l e = refl
ones w (suc n) l e =
    let more = ones w n l e in
    let twice = pow-suc 2 n in
    let one : bit w l ≡ 1 = ap bit_of e in
    omega (arith, more, twice, one)

ones_in_front : (a p x q : ℕ) → x + 1 ≡ q → a + p * x ≡ a + (p * q - p)
ones_in_front a p x q e = omega (arith, ap (λ y. p * y) e)

copies : (b : Bool) (n k a x : ℕ) → (b ≡ true → x + 1 ≡ 2 ^ k) → (b ≡ false → x ≡ 0) → a + 2 ^ n * x ≡ cond b (a + (2 ^ (n + k) - 2 ^ n)) a
copies true n k a x full none = ones_in_front a (2 ^ n) x (2 ^ k) (full refl) ∙ ap (λ y. a + (y - 2 ^ n)) (sym (pow-add 2 n k))
copies false n k a x full none = ap (λ y. a + 2 ^ n * y) (none refl) ∙ nothing_more a (2 ^ n)

pub signs_wired : (lits : List Lit) (sure : Lit) (top width : ℕ) (d : Lit) → top + 1 ≡ length lits → length lits ≤ width
    → SpellsWired lits sure width (λ a. sign_extend_value a width) (lits ++ replicate (width - length lits) (get_or lits top d))
signs_wired lits sure top width d e h =
    let k = width - length lits in
    let sign = get_or lits top d in
    let whole : length lits + k ≡ width = omega (arith, h) in
    let within : top < length lits = omega (arith, e) in
    wired lits (lits ++ replicate k sign) sure width (λ a. sign_extend_value a width) (wider_count lits sign width h)
    (λ Q a b. All-append (λ (l : Lit). Q l.var) lits (replicate k sign) a (All-replicate (λ (l : Lit). Q l.var) k sign (All-get_or (λ (l : Lit). Q l.var) lits top d within a)))
    (λ w t.
    spelled-append w lits (replicate k sign)
    ∙ copies (literal_value w sign) (length lits) k (spelled w lits) (spelled w (replicate k sign)) (λ p. ones w k sign p) (λ p. spelled-replicate w k sign p)
    ∙ ap (λ n. cond (literal_value w sign) (spelled w lits + (2 ^ n - 2 ^ length lits)) (spelled w lits)) whole
    ∙ ap (λ b. cond b (spelled w lits + (2 ^ width - 2 ^ length lits)) (spelled w lits)) (sym (negative_by_top w lits top d e)))

-- ---- one bit

one_digit : (b : ℕ) → b + 2 * 0 ≡ b
one_digit b = omega arith

pub one_bit : (w : Assignment) (lits : List Lit) (d : Lit) → length lits ≡ 1 → spelled w lits ≡ bit w (get_or lits 0 d)
one_bit w [] d e = absurd (omega (arith, e))
one_bit w (x ∷ []) d e = one_digit (bit w x)
one_bit w (x ∷ y ∷ more) d e = absurd (omega (arith, e))

pub is_one : (b : Bool) → nat_eq (bit_of b) 1 ≡ b
is_one true = refl
is_one false = refl

-- ---- the digits of a constant

digit_step : (s p r h d v : ℕ) → s + p * r ≡ v → r ≡ h * 2 + d → s + p * d + p * 2 * h ≡ v
digit_step s p r h d v e f = omega (arith, e, ap (λ n. p * n) f)

pub constant_step : (w : Assignment) (bits : List Lit) (l : Lit) (rest value : ℕ) → spelled w bits + 2 ^ length bits * rest ≡ value → bit w l ≡ rest % 2
    → spelled w (bits ++ l ∷ []) + 2 ^ length (bits ++ l ∷ []) * (rest / 2) ≡ value
constant_step w bits l rest value e f =
    let halves : rest ≡ rest / 2 * 2 + rest % 2 = omega arith in
    ap (λ n. n + 2 ^ length (bits ++ l ∷ []) * (rest / 2)) (spelled-push w bits l ∙ ap (λ b. spelled w bits + 2 ^ length bits * b) f)
    ∙ ap (λ n. spelled w bits + 2 ^ length bits * (rest % 2) + n * (rest / 2)) (ap (λ n. 2 ^ n) (length-append bits (l ∷ [])) ∙ pow-more (length bits))
    ∙ digit_step (spelled w bits) (2 ^ length bits) rest (rest / 2) (rest % 2) value e halves

pub none_left : (s p r v : ℕ) → s + p * r ≡ v → v < p → s ≡ v
none_left s p zero v e h = omega (arith, e)
none_left s p (suc r) v e h = absurd (omega (arith, e, h))
