-- What holds of recorded neighbours and is handed on holds of all recorded pairs.
use Rattle.std.proofs.Common.{◌≡◌, ℕ, zero, suc, ◌<◌, ◌⊎◌, Bool, true, false, ◌&&◌, sym, ◌∙◌, inl, inr, arith}
use Rattle.std.proofs.lemmas.Bool.{false≢true, and_parts, and_from, false_from_ne_true}
use Rattle.order_clauses.specs.Orders.{IsStrictBelow}
use Rattle.order_clauses.specs.Clauses.{AreNeighbours}
use Rattle.order_clauses.proofs.Counts.{find-below, count_below, count-lt}

abbrev is_between : (ℕ → ℕ → Bool) → ℕ → ℕ → ℕ → Bool
is_between recorded a b m = recorded a m && recorded m b

fewer-first : (n : ℕ) (recorded : ℕ → ℕ → Bool) → IsStrictBelow n recorded → (a m b : ℕ) → a < n → m < n → b < n → recorded a m ≡ true → recorded m b ≡ true
    → count_below n (is_between recorded a m) < count_below n (is_between recorded a b)
fewer-first n recorded strict a m b a_in m_in b_in r s =
    count-lt n (is_between recorded a m) (is_between recorded a b)
    (λ k k_in e.
    let parts = and_parts (recorded a k) (recorded k m) e in
    and_from (recorded a k) (recorded k b) parts.0 (strict.transitive k m b k_in m_in b_in parts.1 s))
    m m_in
    (false_from_ne_true (is_between recorded a m m) (λ e. false≢true (sym (strict.irreflexive m m_in) ∙ (and_parts (recorded a m) (recorded m m) e).1)))
    (and_from (recorded a m) (recorded m b) r s)

fewer-last : (n : ℕ) (recorded : ℕ → ℕ → Bool) → IsStrictBelow n recorded → (a m b : ℕ) → a < n → m < n → b < n → recorded a m ≡ true → recorded m b ≡ true
    → count_below n (is_between recorded m b) < count_below n (is_between recorded a b)
fewer-last n recorded strict a m b a_in m_in b_in r s =
    count-lt n (is_between recorded m b) (is_between recorded a b)
    (λ k k_in e.
    let parts = and_parts (recorded m k) (recorded k b) e in
    and_from (recorded a k) (recorded k b) (strict.transitive a m k a_in m_in k_in r parts.0) parts.1)
    m m_in
    (false_from_ne_true (is_between recorded m b m) (λ e. false≢true (sym (strict.irreflexive m m_in) ∙ (and_parts (recorded m m) (recorded m b) e).0)))
    (and_from (recorded a m) (recorded m b) r s)

along_within : (n : ℕ) (recorded : ℕ → ℕ → Bool) → IsStrictBelow n recorded → (P : ℕ → ℕ → Type 0)
    → ((a b : ℕ) → a < n → b < n → AreNeighbours n recorded a b → P a b)
    → ((a m b : ℕ) → P a m → P m b → P a b)
    → (fuel a b : ℕ) → a < n → b < n → recorded a b ≡ true → count_below n (is_between recorded a b) < fuel → P a b
along_within n recorded strict P step join zero a b a_in b_in r few = absurd (omega (arith, few))
along_within n recorded strict P step join (suc fuel) a b a_in b_in r few =
    go (along_within n recorded strict P step join fuel) (find-below n (is_between recorded a b))
  where
    go : ((x y : ℕ) → x < n → y < n → recorded x y ≡ true → count_below n (is_between recorded x y) < fuel → P x y)
        → ((m : ℕ) × (m < n) × (is_between recorded a b m ≡ true)) ⊎ ((m : ℕ) → m < n → is_between recorded a b m ≡ false) → P a b
    go again (inl some) =
        let parts = and_parts (recorded a some.0) (recorded some.0 b) some.2 in
        join a some.0 b
        (again a some.0 a_in some.1 parts.0 (omega (arith, few, fewer-first n recorded strict a some.0 b a_in some.1 b_in parts.0 parts.1)))
        (again some.0 b some.1 b_in parts.1 (omega (arith, few, fewer-last n recorded strict a some.0 b a_in some.1 b_in parts.0 parts.1)))
    go again (inr none) =
        step a b a_in b_in
        (record {
          before = r;
          none_between = λ m m_in p q. false≢true (sym (none m m_in) ∙ and_from (recorded a m) (recorded m b) p q);
        })

pub along : (n : ℕ) (recorded : ℕ → ℕ → Bool) → IsStrictBelow n recorded → (P : ℕ → ℕ → Type 0)
    → ((a b : ℕ) → a < n → b < n → AreNeighbours n recorded a b → P a b)
    → ((a m b : ℕ) → P a m → P m b → P a b)
    → (a b : ℕ) → a < n → b < n → recorded a b ≡ true → P a b
along n recorded strict P step join a b a_in b_in r =
    along_within n recorded strict P step join (suc (count_below n (is_between recorded a b))) a b a_in b_in r (omega arith)
