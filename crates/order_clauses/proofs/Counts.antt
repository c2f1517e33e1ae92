-- Numbers below a bound, searched and counted by a test.
use Rattle.std.proofs.Common.{◌≡◌, ◌≢◌, ℕ, zero, suc, ◌<◌, ◌≤◌, ◌⊎◌, Bool, true, false, cond, refl, sym, ap, subst, inl, inr, arith}
use Rattle.std.proofs.lemmas.Bool.{false≢true}

pub split-below : (j k : ℕ) → j < suc k → (j < k) ⊎ (j ≡ k)
split-below zero zero h = inr refl
split-below zero (suc k) h = inl (omega arith)
split-below (suc j) zero h = absurd (omega (arith, h))
split-below (suc j) (suc k) h = go (split-below j k (omega (arith, h)))
  where
    go : (j < k) ⊎ (j ≡ k) → (suc j < suc k) ⊎ (suc j ≡ suc k)
    go (inl b) = inl (omega (arith, b))
    go (inr e) = inr (ap (λ (x : ℕ). suc x) e)

pub lower-first : (a b : ℕ) → a ≢ b → (a < b) ⊎ (b < a)
lower-first zero zero differ = absurd (differ refl)
lower-first zero (suc b) differ = inl (omega arith)
lower-first (suc a) zero differ = inr (omega arith)
lower-first (suc a) (suc b) differ = go (lower-first a b (λ e. differ (ap (λ (x : ℕ). suc x) e)))
  where
    go : (a < b) ⊎ (b < a) → (suc a < suc b) ⊎ (suc b < suc a)
    go (inl h) = inl (omega (arith, h))
    go (inr h) = inr (omega (arith, h))

-- some number below n passes, or none does
pub find-below : (n : ℕ) (test : ℕ → Bool) → ((m : ℕ) × (m < n) × (test m ≡ true)) ⊎ ((m : ℕ) → m < n → test m ≡ false)
find-below zero test = inr (λ m h. absurd (omega (arith, h)))
find-below (suc n) test = go (find-below n test) (test n) refl
  where
    fails : ((m : ℕ) → m < n → test m ≡ false) → test n ≡ false → (m : ℕ) → (m < n) ⊎ (m ≡ n) → test m ≡ false
    fails none last m (inl h) = none m h
    fails none last m (inr e) = subst (λ (x : ℕ). test x ≡ false) (sym e) last

    go : ((m : ℕ) × (m < n) × (test m ≡ true)) ⊎ ((m : ℕ) → m < n → test m ≡ false) → (t : Bool) → test n ≡ t
        → ((m : ℕ) × (m < suc n) × (test m ≡ true)) ⊎ ((m : ℕ) → m < suc n → test m ≡ false)
    go (inl some) t e = inl (some.0, omega (arith, some.1), some.2)
    go (inr none) true e = inl (n, omega arith, e)
    go (inr none) false e = inr (λ m h. fails none e m (split-below m n h))

-- how many numbers below n pass
pub count_below : ℕ → (ℕ → Bool) → ℕ
count_below zero test = zero
count_below (suc n) test = cond (test n) (suc (count_below n test)) (count_below n test)

step-le : (b c : Bool) (x y : ℕ) → x ≤ y → (b ≡ true → c ≡ true) → cond b (suc x) x ≤ cond c (suc y) y
step-le true true x y h implies = omega (arith, h)
step-le true false x y h implies = absurd (false≢true (implies refl))
step-le false true x y h implies = omega (arith, h)
step-le false false x y h implies = h

step-lt : (b c : Bool) (x y : ℕ) → x < y → (b ≡ true → c ≡ true) → cond b (suc x) x < cond c (suc y) y
step-lt true true x y h implies = omega (arith, h)
step-lt true false x y h implies = absurd (false≢true (implies refl))
step-lt false true x y h implies = omega (arith, h)
step-lt false false x y h implies = h

new-lt : (b c : Bool) (x y : ℕ) → x ≤ y → b ≡ false → c ≡ true → cond b (suc x) x < cond c (suc y) y
new-lt true c x y h f t = absurd (false≢true (sym f))
new-lt false true x y h f t = omega (arith, h)
new-lt false false x y h f t = absurd (false≢true t)

pub count-le : (n : ℕ) (s t : ℕ → Bool) → ((k : ℕ) → k < n → s k ≡ true → t k ≡ true) → count_below n s ≤ count_below n t
unfolding count_below
count-le zero s t implies = omega arith
count-le (suc n) s t implies =
    step-le (s n) (t n) (count_below n s) (count_below n t) (count-le n s t (λ k h. implies k (omega (arith, h)))) (implies n (omega arith))

pub count-lt : (n : ℕ) (s t : ℕ → Bool) → ((k : ℕ) → k < n → s k ≡ true → t k ≡ true) → (m : ℕ) → m < n → s m ≡ false → t m ≡ true → count_below n s < count_below n t
unfolding count_below
count-lt zero s t implies m h f p = absurd (omega (arith, h))
count-lt (suc n) s t implies m h f p =
    go (split-below m n h) (λ b. count-lt n s t (λ k g. implies k (omega (arith, g))) m b f p) (count-le n s t (λ k g. implies k (omega (arith, g))))
  where
    go : (m < n) ⊎ (m ≡ n) → (m < n → count_below n s < count_below n t) → count_below n s ≤ count_below n t
        → cond (s n) (suc (count_below n s)) (count_below n s) < cond (t n) (suc (count_below n t)) (count_below n t)
    go (inl b) again le = step-lt (s n) (t n) (count_below n s) (count_below n t) (again b) (implies n (omega arith))
    go (inr e) again le =
        new-lt (s n) (t n) (count_below n s) (count_below n t) le (subst (λ (x : ℕ). s x ≡ false) e f) (subst (λ (x : ℕ). t x ≡ true) e p)
