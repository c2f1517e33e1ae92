-- The clauses that make order literals an order.
use Rattle.std.specs.Prelude.{◌≡◌, ◌⊎◌, ℕ, ◌<◌, Bool, true, List, [], ◌∷◌, ◌++◌, Contains}
use Rattle.clause_store.specs.declared.lit.Lit.{Lit}
use Rattle.clause_store.specs.Formula.{Formula}
use Rattle.order_clauses.specs.declared.order_lit.OrderLit.{OrderLit}
use Rattle.order_clauses.specs.declared.order_lit.OrderLit.TheVariants as order_lit

-- the added clauses are exactly those of a kind, and there is no new variable
pub record Adds (old new : Formula) (Kind : List Lit → Type 0) : Type 0 where
  pub vars : new.vars ≡ old.vars
  pub more : List (List Lit)
  pub clauses : new.clauses ≡ old.clauses ++ more
  pub only : (c : List Lit) → Contains more c → Kind c
  pub each : (c : List Lit) → Kind c → Contains more c

-- of one of the kinds of the numbers below k
pub record Below (k : ℕ) (Kind : ℕ → List Lit → Type 0) (c : List Lit) : Type 0 where
  pub at : ℕ
  pub within : at < k
  pub kind : Kind at c

-- "one of these": none where an order literal is no literal
pub record PairClause (p q : OrderLit) (c : List Lit) : Type 0 where
  pub one : Lit
  pub other : Lit
  pub is_one : p ≡ order_lit.Is one
  pub is_other : q ≡ order_lit.Is other
  pub clause : c ≡ one ∷ other ∷ []

pub record TripleClause (p q r : OrderLit) (c : List Lit) : Type 0 where
  pub one : Lit
  pub other : Lit
  pub third : Lit
  pub is_one : p ≡ order_lit.Is one
  pub is_other : q ≡ order_lit.Is other
  pub is_third : r ≡ order_lit.Is third
  pub clause : c ≡ one ∷ other ∷ third ∷ []

-- one place is recorded to stand before the other, and none below n between them
pub record AreNeighbours (n : ℕ) (recorded : ℕ → ℕ → Bool) (a b : ℕ) : Type 0 where
  pub before : recorded a b ≡ true
  pub none_between : (m : ℕ) → m < n → recorded a m ≡ true → recorded m b ≡ true → ⊥

-- of recorded neighbours a and b: x stands before b, or a before x
pub record NeighbourClause (n : ℕ) (recorded : ℕ → ℕ → Bool) (lit : ℕ → ℕ → OrderLit) (a b : ℕ) (c : List Lit) : Type 0 where
  pub neighbours : AreNeighbours n recorded a b
  pub clause : Below n (λ x. PairClause (lit x b) (lit a x)) c

-- three places don't stand in a ring, either way round
abbrev pub RingClause : (ℕ → ℕ → OrderLit) → ℕ → ℕ → ℕ → List Lit → Type 0
RingClause lit i j k c = TripleClause (lit j i) (lit k j) (lit i k) c ⊎ TripleClause (lit k i) (lit j k) (lit i j) c

abbrev pub NeighbourClauses : ℕ → (ℕ → ℕ → Bool) → (ℕ → ℕ → OrderLit) → List Lit → Type 0
NeighbourClauses n recorded lit = Below n (λ a. Below n (λ b. NeighbourClause n recorded lit a b))

abbrev pub RingClauses : ℕ → (ℕ → ℕ → OrderLit) → List Lit → Type 0
RingClauses n lit = Below n (λ i. Below i (λ j. Below j (λ k. RingClause lit i j k)))

abbrev pub OrderClause : ℕ → (ℕ → ℕ → Bool) → (ℕ → ℕ → OrderLit) → List Lit → Type 0
OrderClause n recorded lit c = NeighbourClauses n recorded lit c ⊎ RingClauses n lit c
