-- Laws of assignments and of the unit rule.
use Rattle.std.specs.Prelude.{◌≡◌, ◌⊎◌, ◌↔◌, ℕ, ◌<◌, ◌≤◌, Bool, Some, List, Contains}
use Rattle.clause_store.specs.declared.lit.Lit.{Lit}
use Rattle.clause_store.specs.Literals.{Assignment, IsTrueUnder, Satisfies, opposite}
use Rattle.clause_store.specs.UnitRule.{Partial, MakesTrue, AllAtRest, Follows, Derived}
use Rattle.clause_store.specs.Formula.{Formula, AllKnown, Grows, Extension}
use Rattle.clause_store.specs.Steps.{FollowsBySteps, ReachesFalse, ReachesTrue}

-- Rest and steps say the same of what follows.
abbrev pub FollowsIsBySteps : Type 0
FollowsIsBySteps = (clauses : List (List Lit)) (line : List Lit) → Follows clauses line ↔ FollowsBySteps clauses line

-- the second values have all values of the first
abbrev pub Keeps : Partial → Partial → Type 0
Keeps from v = (x : ℕ) (b : Bool) → from x ≡ Some b → v x ≡ Some b

-- A literal is true at each rest that keeps some values exactly where steps from them make it true or a clause false.
abbrev pub RestIsBySteps : Type 0
RestIsBySteps =
    (clauses : List (List Lit)) (from : Partial) (l : Lit)
    → ((v : Partial) → Keeps from v → AllAtRest v clauses → MakesTrue v l) ↔ (ReachesTrue clauses from l ⊎ ReachesFalse clauses from)

-- What follows is true in every assignment that satisfies the clauses.
abbrev pub FollowsIsTrue : Type 0
FollowsIsTrue = (clauses : List (List Lit)) (line : List Lit) (w : Assignment) → Follows clauses line → Satisfies w clauses → IsTrueUnder w line

-- Lines derived one after the other are true in every assignment that satisfies the clauses.
abbrev pub DerivedIsTrue : Type 0
DerivedIsTrue = (clauses lines : List (List Lit)) (w : Assignment) → Derived clauses lines → Satisfies w clauses → Satisfies w lines

-- both have the same literals, in any order and each any number of times
abbrev pub SameLiterals : List Lit → List Lit → Type 0
SameLiterals c d = (l : Lit) → Contains c l ↔ Contains d l

-- for each clause there is one with the same literals
abbrev pub EachAmong : List (List Lit) → List (List Lit) → Type 0
EachAmong clauses others = (c : List Lit) → Contains clauses c → (d : List Lit) × Contains others d × SameLiterals c d

-- More clauses keep what follows. Neither order nor literals that stand more than once change it.
abbrev pub MoreClausesKeep : Type 0
MoreClausesKeep =
    (clauses others : List (List Lit)) (line same : List Lit) → EachAmong clauses others → SameLiterals line same → Follows clauses line
    → Follows others same

-- A line that has a literal and its opposite follows from any clauses.
abbrev pub OppositesFollow : Type 0
OppositesFollow = (clauses : List (List Lit)) (line : List Lit) (l : Lit) → Contains line l → Contains line (opposite l) → Follows clauses line

-- Clauses are satisfied alike by assignments that agree on their variables.
abbrev pub SatisfiedAlike : Type 0
SatisfiedAlike =
    (f : Formula) (w u : Assignment) → AllKnown f → ((x : ℕ) → x < f.vars → u x ≡ w x) → Satisfies w f.clauses → Satisfies u f.clauses

-- What extends an extension, and keeps more variables, extends the first assignment.
abbrev pub ExtensionsCompose : Type 0
ExtensionsCompose =
    (vars more : ℕ) (w : Assignment) (clauses further : List (List Lit)) (first : Extension vars w clauses)
    → vars ≤ more → Extension more first.extended further → Extension vars w further

-- What grew and grew again has grown.
abbrev pub GrowthComposes : Type 0
GrowthComposes = (old between new : Formula) → Grows old between → Grows between new → Grows old new

-- Where all clauses are true, the older ones are.
abbrev pub OlderSatisfied : Type 0
OlderSatisfied = (old new : Formula) (w : Assignment) → Grows old new → Satisfies w new.clauses → Satisfies w old.clauses

-- Where all clauses are at rest, the older ones are.
abbrev pub OlderAtRest : Type 0
OlderAtRest = (old new : Formula) (v : Partial) → Grows old new → AllAtRest v new.clauses → AllAtRest v old.clauses
