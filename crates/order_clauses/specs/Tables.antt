-- The literals that say which of two places stands before the other.
use Rattle.std.specs.Prelude.{◌≡◌, ◌≢◌, ℕ, ◌<◌, ◌+◌, Bool, true, false, List, length, get_or}
use Rattle.clause_store.specs.Literals.{Assignment}
use Rattle.clause_store.specs.UnitRule.{Partial, AllAtRest}
use Rattle.clause_store.specs.Literals.{Satisfies}
use Rattle.clause_store.specs.Formula.{Formula}
use Rattle.order_clauses.specs.declared.order_lit.OrderLit.{OrderLit}
use Rattle.order_clauses.specs.declared.order_lit.OrderLit.TheVariants as order_lit
use Rattle.order_clauses.specs.declared.pair.Pair.{Pair}
use Rattle.order_clauses.specs.Literals.{literal_of, spelled, all_given, known_before}
use Rattle.order_clauses.specs.Orders.{IsStrict, IsTotalAbove, IsTotalBelow}

abbrev pub pair_at : List Pair → ℕ → Pair
pair_at pairs k = get_or pairs k (record { first = 0; second = 0 })

-- The literal "a before b" is the variable of this number among those from `first` on, or its negation.
pub record IsOpened (n : ℕ) (recorded : ℕ → ℕ → Bool) (lit : ℕ → ℕ → OrderLit) (first : ℕ) (pairs : List Pair) (k a b : ℕ) : Type 0 where
  pub pair : pair_at pairs k ≡ record { first = a; second = b }
  pub rising : a < b
  pub within : b < n
  pub not_before : recorded a b ≡ false
  pub not_after : recorded b a ≡ false
  pub forth : lit a b ≡ order_lit.Is (literal_of (first + k) true)
  pub back : lit b a ≡ order_lit.Is (literal_of (first + k) false)

-- Where one of two places is recorded to stand before the other, the table says so. For each other pair of different
-- places below n it has one variable of its own, which is true where the smaller place stands before the greater one.
pub record IsTable (n : ℕ) (recorded : ℕ → ℕ → Bool) (lit : ℕ → ℕ → OrderLit) (first : ℕ) (pairs : List Pair) : Type 0 where
  pub own : (a : ℕ) → lit a a ≡ order_lit.Never
  pub always : (a b : ℕ) → a ≢ b → recorded a b ≡ true → lit a b ≡ order_lit.Always
  pub never : (a b : ℕ) → a ≢ b → recorded a b ≡ false → recorded b a ≡ true → lit a b ≡ order_lit.Never
  pub opened : (a b : ℕ) → a < b → b < n → recorded a b ≡ false → recorded b a ≡ false
      → (k : ℕ) × (k < length pairs) × IsOpened n recorded lit first pairs k a b
  pub listed : (k : ℕ) → k < length pairs → IsOpened n recorded lit first pairs k (pair_at pairs k).first (pair_at pairs k).second

-- an assignment that agrees with another on the old variables, satisfies the new clauses and spells an order
pub record SpellsOrder (n : ℕ) (lit : ℕ → ℕ → OrderLit) (lt : ℕ → ℕ → Bool) (vars : ℕ) (w : Assignment) (new : Formula) : Type 0 where
  pub extended : Assignment
  pub agrees : (x : ℕ) → x < vars → extended x ≡ w x
  pub satisfies : Satisfies extended new.clauses
  pub spells : (a b : ℕ) → a < n → b < n → a ≢ b → spelled extended (lit a b) ≡ lt a b

-- Clauses whose assignments are the total orders of the places below n that keep the recorded pairs.
pub record IsOrders (n : ℕ) (recorded : ℕ → ℕ → Bool) (lit : ℕ → ℕ → OrderLit) (old new : Formula) : Type 0 where
  -- each assignment that satisfies them spells such an order
  pub sound : (w : Assignment) → Satisfies w new.clauses → IsTotalAbove n recorded (known_before n lit (all_given w))
  -- each such order is spelled, whatever the old variables are
  pub complete : (w : Assignment) → Satisfies w old.clauses → (lt : ℕ → ℕ → Bool) → IsTotalBelow n recorded lt → SpellsOrder n lit lt old.vars w new
  -- what is recorded is known from the first
  pub keeps : (v : Partial) (a b : ℕ) → a < n → b < n → recorded a b ≡ true → known_before n lit v a b ≡ true
  -- wherever the unit rule has nothing to do, what is known is a strict order
  pub rests : (v : Partial) → AllAtRest v new.clauses → IsStrict (known_before n lit v)
  -- and some total order keeps it and has any pair that isn't known the other way round
  pub either : (v : Partial) → AllAtRest v new.clauses → (a b : ℕ) → a < n → b < n → a ≢ b → known_before n lit v b a ≡ false
      → (total : ℕ → ℕ → Bool) × IsTotalAbove n (known_before n lit v) total × (total a b ≡ true)
