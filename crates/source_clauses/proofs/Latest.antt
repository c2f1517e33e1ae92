-- The greatest number below a bound that passes a test, by an order of these numbers.
use Rattle.std.proofs.Common.{◌≡◌, ◌≢◌, ℕ, zero, suc, ◌<◌, ◌⊎◌, Bool, true, false, refl, sym, ◌∙◌, ap, subst, inl, inr, arith}
use Rattle.std.proofs.lemmas.Bool.{false≢true}
use Rattle.order_clauses.proofs.Counts.{split-below}

pub record IsTotal (n : ℕ) (lt : ℕ → ℕ → Bool) : Type 0 where
  pub transitive : (a b c : ℕ) → a < n → b < n → c < n → lt a b ≡ true → lt b c ≡ true → lt a c ≡ true
  pub all : (a b : ℕ) → a < n → b < n → a ≢ b → (lt a b ≡ true) ⊎ (lt b a ≡ true)

-- a number that passes, and each other one that passes is before it
pub record IsLatest (n : ℕ) (lt : ℕ → ℕ → Bool) (test : ℕ → Bool) (i : ℕ) : Type 0 where
  pub within : i < n
  pub passes : test i ≡ true
  pub last : (j : ℕ) → j < n → j ≢ i → test j ≡ true → lt j i ≡ true

abbrev pub NonePasses : ℕ → (ℕ → Bool) → Type 0
NonePasses n test = (i : ℕ) → i < n → test i ≡ false

-- two numbers are the same or not
pub either_same : (i j : ℕ) → (i ≡ j) ⊎ (i ≢ j)
either_same zero zero = inl refl
either_same zero (suc j) = inr (λ e. omega (arith, e))
either_same (suc i) zero = inr (λ e. omega (arith, e))
either_same (suc i) (suc j) = go (either_same i j)
  where
    go : (i ≡ j) ⊎ (i ≢ j) → (suc i ≡ suc j) ⊎ (suc i ≢ suc j)
    go (inl e) = inl (ap (λ (x : ℕ). suc x) e)
    go (inr d) = inr (λ e. d (omega (arith, e)))

pub latest_or_none : (n : ℕ) (lt : ℕ → ℕ → Bool) → IsTotal n lt → (test : ℕ → Bool) → ((i : ℕ) × IsLatest n lt test i) ⊎ NonePasses n test
latest_or_none zero lt total test = inr (λ i h. absurd (omega (arith, h)))
latest_or_none (suc n) lt total test =
    go (latest_or_none n lt fewer test) (test n) refl
  where
    fewer : IsTotal n lt
    fewer =
        record {
          transitive = λ a b c a_in b_in c_in. total.transitive a b c (omega (arith, a_in)) (omega (arith, b_in)) (omega (arith, c_in));
          all = λ a b a_in b_in. total.all a b (omega (arith, a_in)) (omega (arith, b_in));
        }

    more : (j : ℕ) → j < n → j < suc n
    more j h = omega (arith, h)

    below_differs : (i : ℕ) → i < n → i ≢ n
    below_differs i h e = omega (arith, h, e)

    -- the last number is later than the latest before it
    last_later : (i : ℕ) → IsLatest n lt test i → test n ≡ true → lt i n ≡ true → IsLatest (suc n) lt test n
    last_later i latest e later =
        record { within = omega arith; passes = e; last = λ j j_in differ passes. go_below j (split-below j n j_in) differ passes }
      where
        same_or : (j : ℕ) → j < n → (j ≡ i) ⊎ (j ≢ i) → test j ≡ true → lt j n ≡ true
        same_or j j_in (inl s) passes = subst (λ (x : ℕ). lt x n ≡ true) (sym s) later
        same_or j j_in (inr d) passes =
            total.transitive j i n (more j j_in) (more i latest.within) (omega arith) (latest.last j j_in d passes) later

        go_below : (j : ℕ) → (j < n) ⊎ (j ≡ n) → j ≢ n → test j ≡ true → lt j n ≡ true
        go_below j (inl h) differ passes = same_or j h (either_same j i) passes
        go_below j (inr s) differ passes = absurd (differ s)

    stays : (i : ℕ) → IsLatest n lt test i → (test n ≡ true → lt n i ≡ true) → IsLatest (suc n) lt test i
    stays i latest before =
        record {
          within = more i latest.within;
          passes = latest.passes;
          last = λ j j_in differ passes. go_below j (split-below j n j_in) differ passes;
        }
      where
        go_below : (j : ℕ) → (j < n) ⊎ (j ≡ n) → j ≢ i → test j ≡ true → lt j i ≡ true
        go_below j (inl h) differ passes = latest.last j h differ passes
        go_below j (inr s) differ passes =
            subst (λ (x : ℕ). lt x i ≡ true) (sym s) (before (subst (λ (x : ℕ). test x ≡ true) s passes))

    alone : NonePasses n test → test n ≡ true → IsLatest (suc n) lt test n
    alone none e =
        record { within = omega arith; passes = e; last = λ j j_in differ passes. go_below j (split-below j n j_in) differ passes }
      where
        go_below : (j : ℕ) → (j < n) ⊎ (j ≡ n) → j ≢ n → test j ≡ true → lt j n ≡ true
        go_below j (inl h) differ passes = absurd (false≢true (sym (none j h) ∙ passes))
        go_below j (inr s) differ passes = absurd (differ s)

    still_none : NonePasses n test → test n ≡ false → NonePasses (suc n) test
    still_none none e i i_in = go_below i (split-below i n i_in)
      where
        go_below : (i : ℕ) → (i < n) ⊎ (i ≡ n) → test i ≡ false
        go_below i (inl h) = none i h
        go_below i (inr s) = subst (λ (x : ℕ). test x ≡ false) (sym s) e

    with_last : (i : ℕ) → IsLatest n lt test i → test n ≡ true → (lt i n ≡ true) ⊎ (lt n i ≡ true)
        → ((i : ℕ) × IsLatest (suc n) lt test i) ⊎ NonePasses (suc n) test
    with_last i latest e (inl later) = inl (n, last_later i latest e later)
    with_last i latest e (inr before) = inl (i, stays i latest (λ _. before))

    go : ((i : ℕ) × IsLatest n lt test i) ⊎ NonePasses n test → (t : Bool) → test n ≡ t
        → ((i : ℕ) × IsLatest (suc n) lt test i) ⊎ NonePasses (suc n) test
    go (inl some) true e =
        with_last some.0 some.1 e (total.all some.0 n (more some.0 some.1.within) (omega arith) (below_differs some.0 some.1.within))
    go (inl some) false e = inl (some.0, stays some.0 some.1 (λ t. absurd (false≢true (sym e ∙ t))))
    go (inr none) true e = inl (n, alone none e)
    go (inr none) false e = inr (still_none none e)
