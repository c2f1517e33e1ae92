-- Laws of orders of accesses, by their numbers.
use Rattle.std.specs.Prelude.{◌≡◌, ◌≢◌, ℕ, ◌<◌, Bool, true, false}
use Rattle.order_clauses.specs.Orders.{IsStrict, IsTotalAbove}

-- a strict order of chosen numbers below n that has each pair of them that another order has
pub record IsOrderOfChosen (n : ℕ) (recorded : ℕ → ℕ → Bool) (chosen : ℕ → Bool) (above : ℕ → ℕ → Bool) : Type 0 where
  pub strict : IsStrict above
  pub first_below : (a b : ℕ) → above a b ≡ true → a < n
  pub second_below : (a b : ℕ) → above a b ≡ true → b < n
  pub first_chosen : (a b : ℕ) → above a b ≡ true → chosen a ≡ true
  pub second_chosen : (a b : ℕ) → above a b ≡ true → chosen b ≡ true
  pub keeps : (a b : ℕ) → chosen a ≡ true → chosen b ≡ true → recorded a b ≡ true → above a b ≡ true

-- a strict order that has both orders in it, and among the chosen nothing else
pub record IsMerge (recorded above : ℕ → ℕ → Bool) (chosen : ℕ → Bool) (lt : ℕ → ℕ → Bool) : Type 0 where
  pub strict : IsStrict lt
  pub keeps_recorded : (a b : ℕ) → recorded a b ≡ true → lt a b ≡ true
  pub keeps_above : (a b : ℕ) → above a b ≡ true → lt a b ≡ true
  pub adds_nothing : (a b : ℕ) → chosen a ≡ true → chosen b ≡ true → lt a b ≡ true → above a b ≡ true

-- The recorded order and an order of the chosen ones that agrees with it lie in one strict order, which adds nothing
-- among the chosen, and in total orders that have any pair that this leaves open either way round.
abbrev pub OrdersMerge : Type 0
OrdersMerge =
    (n : ℕ) (recorded : ℕ → ℕ → Bool) (chosen : ℕ → Bool) (above : ℕ → ℕ → Bool)
    → IsStrict recorded → IsOrderOfChosen n recorded chosen above
    → (lt : ℕ → ℕ → Bool) × IsMerge recorded above chosen lt
    × ((a b : ℕ) → a ≢ b → lt b a ≡ false → (total : ℕ → ℕ → Bool) × IsTotalAbove n lt total × (total a b ≡ true))
