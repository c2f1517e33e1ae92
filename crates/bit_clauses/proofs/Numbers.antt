-- The number that bits spell: one bit more on top, the bits turned round, parts of them.
use Rattle.std.proofs.Common.{◌≡◌, ℕ, ◌+◌, ◌*◌, ◌^◌, ◌<◌, ◌≤◌, Bool, true, false, not, List, [], ◌∷◌, ◌++◌, map, length, get_or, take, refl, sym, ◌∙◌, ap, subst, arith}
use Rattle.std.proofs.Math.Nat.{pow-suc}
use Rattle.std.proofs.lemmas.List.{map-append, take_more, length-map, length-take-le}
use Rattle.bv_terms.specs.BitVectors.{bit_of}
use Rattle.clause_store.specs.declared.lit.Lit.{Lit}
use Rattle.clause_store.specs.Literals.{Assignment, literal_value}
use Rattle.bit_clauses.specs.Spelled.{number, values, spelled}

pub bit_small : (b : Bool) → bit_of b ≤ 1
bit_small true = omega arith
bit_small false = omega arith

append_step : (b n p y m : ℕ) → m ≡ n + p * y → b + 2 * m ≡ b + 2 * n + p * 2 * y
append_step b n p y m e = omega (arith, e)

pub number-append : (xs ys : List Bool) → number (xs ++ ys) ≡ number xs + 2 ^ length xs * number ys
number-append [] ys = omega arith
number-append (x ∷ xs) ys =
    subst (λ p. bit_of x + 2 * number (xs ++ ys) ≡ bit_of x + 2 * number xs + p * number ys) (sym (pow-suc 2 (length xs)))
    (append_step (bit_of x) (number xs) (2 ^ length xs) (number ys) (number (xs ++ ys)) (number-append xs ys))

pub number_small : (xs : List Bool) → number xs < 2 ^ length xs
number_small [] = omega arith
number_small (x ∷ xs) =
    let more = number_small xs in
    let twice = pow-suc 2 (length xs) in
    omega (arith, more, twice, bit_small x)

pub bit-not : (b : Bool) → bit_of (not b) + bit_of b ≡ 1
bit-not true = refl
bit-not false = refl

pub number-not : (xs : List Bool) → number (map not xs) + number xs + 1 ≡ 2 ^ length xs
number-not [] = refl
number-not (x ∷ xs) =
    let more = number-not xs in
    let twice = pow-suc 2 (length xs) in
    omega (arith, more, twice, bit-not x)

pub spelled-append : (w : Assignment) (xs ys : List Lit) → spelled w (xs ++ ys) ≡ spelled w xs + 2 ^ length xs * spelled w ys
spelled-append w xs ys =
    ap number (map-append (literal_value w) xs ys) ∙ number-append (values w xs) (values w ys)
    ∙ ap (λ n. spelled w xs + 2 ^ n * spelled w ys) (length-map xs (literal_value w))

pub spelled_small : (w : Assignment) (xs : List Lit) → spelled w xs < 2 ^ length xs
spelled_small w xs = subst (λ n. spelled w xs < 2 ^ n) (length-map xs (literal_value w)) (number_small (values w xs))

pub spelled-push : (w : Assignment) (xs : List Lit) (l : Lit) → spelled w (xs ++ l ∷ []) ≡ spelled w xs + 2 ^ length xs * bit_of (literal_value w l)
spelled-push w xs l = spelled-append w xs (l ∷ []) ∙ ap (λ n. spelled w xs + 2 ^ length xs * n) (omega arith)

-- one bit more of a list
pub spelled-more : (w : Assignment) (xs : List Lit) (i : ℕ) (d : Lit) → i < length xs → spelled w (take (i + 1) xs) ≡ spelled w (take i xs) + 2 ^ i * bit_of (literal_value w (get_or xs i d))
spelled-more w xs i d h =
    ap (spelled w) (take_more xs i d h) ∙ spelled-push w (take i xs) (get_or xs i d)
    ∙ ap (λ n. spelled w (take i xs) + 2 ^ n * bit_of (literal_value w (get_or xs i d))) (length-take-le i xs (omega arith))

-- ---- the steps of circuits, over plain numbers

-- one more column of a sum, at the place whose bit counts p
pub column : (p s a b c0 c x y r d : ℕ) → s + p * c ≡ a + b + c0 → r + 2 * d ≡ x + y + c → (s + p * r) + p * 2 * d ≡ (a + p * x) + (b + p * y) + c0
column p s a b c0 c x y r d e f = omega (arith, e, ap (λ n. p * n) f)
