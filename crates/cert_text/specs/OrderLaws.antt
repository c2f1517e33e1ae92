-- Laws of the order of literals: it is strict and total.
use Rattle.std.proofs.Common.{◌≡◌, ◌≢◌, ◌⊎◌, ℕ, ◌<◌, Bool, true, false, cond, eqb, ltb, refl, ap, ap₂, ◌∙◌, sym, subst, arith, inl, inr}
use Rattle.std.proofs.lemmas.Bool.{eqb-true, eq-eqb, ne_eqb, ltb-true, lt-ltb, cases_order}
use Rattle.std.specs.Bool.{IsTrue}
use Rattle.cert_text.specs.declared.cert.CertLit.{CertLit}
use Rattle.cert_text.specs.declared.cert.CertLit.TheVariants.{Before, Var}
use Rattle.cert_text.specs.Order.{first_by, stands_before}

by_lower : (a b : ℕ) (later : Bool) → a < b → IsTrue (first_by a b later)
by_lower a b later below = rw (ne_eqb a b (λ same. omega arith)) (lt-ltb a b below)

by_later : (a : ℕ) (later : Bool) → IsTrue later → IsTrue (first_by a a later)
by_later a later holds = rw (eq-eqb a a refl) holds

-- the lower number, or the same one and what comes later
parts : (a b : ℕ) (later : Bool) → IsTrue (first_by a b later) → (a < b) ⊎ ((a ≡ b) × IsTrue later)
parts a b later first = pick (eqb a b) refl first
  where
    pick : (same : Bool) → eqb a b ≡ same → IsTrue (cond same later (ltb a b)) → (a < b) ⊎ ((a ≡ b) × IsTrue later)
    pick true same holds = inr (eqb-true a b same, holds)
    pick false other holds = inl (ltb-true a b holds)

by_parts : (a b : ℕ) (later : Bool) → (a < b) ⊎ ((a ≡ b) × IsTrue later) → IsTrue (first_by a b later)
by_parts a b later found = elim found [ inl below ↦ by_lower a b later below | inr same ↦ subst (λ n. IsTrue (first_by a n later)) same.0 (by_later a later same.1) ]

onward_by : (a b c : ℕ) (p q r : Bool) → (IsTrue p → IsTrue q → IsTrue r) → IsTrue (first_by a b p) → IsTrue (first_by b c q) → IsTrue (first_by a c r)
onward_by a b c p q r on first second = by_parts a c r (both (parts a b p first) (parts b c q second))
  where
    both : (a < b) ⊎ ((a ≡ b) × IsTrue p) → (b < c) ⊎ ((b ≡ c) × IsTrue q) → (a < c) ⊎ ((a ≡ c) × IsTrue r)
    both (inl x) (inl y) = inl (omega arith)
    both (inl x) (inr y) = let same = y.0 in inl (omega arith)
    both (inr x) (inl y) = let same = x.0 in inl (omega arith)
    both (inr x) (inr y) = inr (x.0 ∙ y.0, on x.1 y.1)

not_by : (a : ℕ) (later : Bool) → (IsTrue later → ⊥) → IsTrue (first_by a a later) → ⊥
not_by a later not first = elim (parts a a later first) [ inl below ↦ omega arith | inr same ↦ not same.1 ]

-- one of both is first, or all is the same
either_by : (a b : ℕ) (p q : Bool) (Same : Type 0) → Same ⊎ IsTrue p ⊎ IsTrue q → ((a ≡ b) × Same) ⊎ IsTrue (first_by a b p) ⊎ IsTrue (first_by b a q)
either_by a b p q Same later = elim (cases_order a b) [
  | inl same ↦ elim later [
    | inl all ↦ inl (same, all)
    | inr one ↦ elim one [
      | inl first ↦ inr (inl (by_parts a b p (inr (same, first))))
      | inr second ↦ inr (inr (by_parts b a q (inr (sym same, second))))
    ]
  ]
  | inr other ↦ elim other [ inl below ↦ inr (inl (by_lower a b p below)) | inr above ↦ inr (inr (by_lower b a q above)) ]
]

never : IsTrue false → ⊥
never e = cc

-- ---- the three laws

pub either : (l m : CertLit) → (l ≡ m) ⊎ IsTrue (stands_before l m) ⊎ IsTrue (stands_before m l)
either (Before t i u j) (Before v k w l) =
    elim (either_by t v _ _ _ (either_by i k _ _ _ (either_by u w _ _ _ (either_by j l false false (Unit {0}) (inl tt))))) [
      | inl same ↦ inl (ap₂ (λ (a b : ℕ). Before a b u j) same.0 same.1.0 ∙ ap₂ (λ (a b : ℕ). Before v k a b) same.1.1.0 same.1.1.1.0)
      | inr one ↦ inr one
    ]
either (Before t i u j) (Var n p) = inr (inl refl)
either (Var n p) (Before t i u j) = inr (inr refl)
either (Var m true) (Var n true) = elim (either_by m n false false (Unit {0}) (inl tt)) [ inl same ↦ inl (ap (λ (k : ℕ). Var k true) same.0) | inr one ↦ inr one ]
either (Var m true) (Var n false) = elim (either_by m n true false (Unit {0}) (inr (inl refl))) [ inl same ↦ inr (inl (by_parts m n true (inr (same.0, refl)))) | inr one ↦ inr one ]
either (Var m false) (Var n true) = elim (either_by m n false true (Unit {0}) (inr (inr refl))) [ inl same ↦ inr (inr (by_parts n m true (inr (sym same.0, refl)))) | inr one ↦ inr one ]
either (Var m false) (Var n false) = elim (either_by m n false false (Unit {0}) (inl tt)) [ inl same ↦ inl (ap (λ (k : ℕ). Var k false) same.0) | inr one ↦ inr one ]

pub not_itself : (l : CertLit) → IsTrue (stands_before l l) → ⊥
not_itself (Before t i u j) first = not_by t _ (not_by i _ (not_by u _ (not_by j false never))) first
not_itself (Var n true) first = not_by n false never first
not_itself (Var n false) first = not_by n false never first

pub onward : (k l m : CertLit) → IsTrue (stands_before k l) → IsTrue (stands_before l m) → IsTrue (stands_before k m)
onward (Before a b c d) (Before e f g h) (Before p q r s) first second =
    onward_by a e p _ _ _ (onward_by b f q _ _ _ (onward_by c g r _ _ _ (onward_by d h s false false false (λ x y. x)))) first second
onward (Before a b c d) (Before e f g h) (Var n p) first second = refl
onward (Before a b c d) (Var n p) (Before e f g h) first second = absurd (never second)
onward (Before a b c d) (Var m p) (Var n q) first second = refl
onward (Var n p) (Before e f g h) m first second = absurd (never first)
onward (Var m p) (Var n q) (Before e f g h) first second = absurd (never second)
onward (Var k true) (Var l true) (Var m true) first second = onward_by k l m false false false (λ x y. x) first second
onward (Var k true) (Var l true) (Var m false) first second = onward_by k l m false true true (λ x y. y) first second
onward (Var k true) (Var l false) (Var m true) first second = onward_by k l m true false false (λ x y. y) first second
onward (Var k true) (Var l false) (Var m false) first second = onward_by k l m true false true (λ x y. refl) first second
onward (Var k false) (Var l true) (Var m true) first second = onward_by k l m false false false (λ x y. x) first second
onward (Var k false) (Var l true) (Var m false) first second = onward_by k l m false true false (λ x y. x) first second
onward (Var k false) (Var l false) (Var m p) first second = onward_by k l m false false false (λ x y. x) first second
