-- Orders of places, as tests whether one place stands before another.
use Rattle.std.specs.Prelude.{◌≡◌, ◌≢◌, ◌⊎◌, ℕ, ◌<◌, Bool, true, false}

-- no place stands before itself, and what stands before one that stands before a third stands before the third
pub record IsStrict (lt : ℕ → ℕ → Bool) : Type 0 where
  pub irreflexive : (a : ℕ) → lt a a ≡ false
  pub transitive : (a b c : ℕ) → lt a b ≡ true → lt b c ≡ true → lt a c ≡ true

-- the same of the places below n alone
pub record IsStrictBelow (n : ℕ) (lt : ℕ → ℕ → Bool) : Type 0 where
  pub irreflexive : (a : ℕ) → a < n → lt a a ≡ false
  pub transitive : (a b c : ℕ) → a < n → b < n → c < n → lt a b ≡ true → lt b c ≡ true → lt a c ≡ true

-- a strict order of all numbers that keeps the pairs of another, and has each two places below n one way or the other
pub record IsTotalAbove (n : ℕ) (lt total : ℕ → ℕ → Bool) : Type 0 where
  pub strict : IsStrict total
  pub keeps : (a b : ℕ) → a < n → b < n → lt a b ≡ true → total a b ≡ true
  pub all : (a b : ℕ) → a < n → b < n → a ≢ b → (total a b ≡ true) ⊎ (total b a ≡ true)

-- the same of the places below n alone
pub record IsTotalBelow (n : ℕ) (lt total : ℕ → ℕ → Bool) : Type 0 where
  pub strict : IsStrictBelow n total
  pub keeps : (a b : ℕ) → a < n → b < n → lt a b ≡ true → total a b ≡ true
  pub all : (a b : ℕ) → a < n → b < n → a ≢ b → (total a b ≡ true) ⊎ (total b a ≡ true)
