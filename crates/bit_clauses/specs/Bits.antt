-- What a Blaster knows: the literals of variables and of terms.
use Rattle.std.specs.Prelude.{◌≡◌, ◌+◌, ◌<◌, ◌≤◌, ℕ, zero, suc, Bool, true, ◌&&◌, nat_eq, Option, Some, None, IsSome, All, List, [], ◌∷◌, ◌++◌, Contains, length, slice_get, if◌then◌else◌}
use Rattle.bv_terms.specs.Shapes.{Shape, Var, children}
use Rattle.bv_terms.specs.Values.{value_at, width_at}
use Rattle.bv_terms.specs.Values.{Assignment as TermAssignment}
use Rattle.bv_terms.specs.Variables.{Occurs}
use Rattle.clause_store.specs.declared.lit.Lit.{Lit}
use Rattle.clause_store.specs.Literals.{Assignment, Satisfies}
use Rattle.clause_store.specs.Formula.{Formula, Grows, IsKnown}
use Rattle.clause_store.specs.UnitRule.{Partial, AllAtRest}
use Rattle.bit_clauses.specs.declared.variables.Variable.{Variable}
use Rattle.bit_clauses.specs.Circuit.{DecidesAll}
use Rattle.bit_clauses.specs.Nodes.{lits_at}
use Rattle.bit_clauses.specs.Spelled.{spelled}

-- a literal that is true, the variables that have literals, and the literals of terms
pub record Bits : Type 0 where
  pub sure : Option Lit
  pub variables : List Variable
  pub terms : List (List Lit)

-- so many literals of variables one after another
abbrev pub run : ℕ → ℕ → List Lit
run first zero = []
run first (suc count) = run first count ++ record { var = first + count; positive = true } ∷ []

-- the first of the literals of a variable, if it has some
abbrev pub first_of : List Variable → (width number : ℕ) → Option ℕ
first_of [] width number = None
first_of (x ∷ more) width number = if nat_eq x.width width && nat_eq x.number number then Some x.first else first_of more width number

-- the literals of each variable that has some spell its value
abbrev pub Agrees : Bits → TermAssignment → Assignment → Type 0
Agrees b t w = (width number first : ℕ) → first_of b.variables width number ≡ Some first → spelled w (run first width) ≡ t.value_of width number

-- the literals of each variable that occurs in the term have values
abbrev pub VariablesDecided : Bits → Partial → List Shape → ℕ → Type 0
VariablesDecided b v nodes id = (width number first : ℕ) → Occurs nodes width number id → first_of b.variables width number ≡ Some first → DecidesAll v (run first width)

abbrev pub IsBuilt : Bits → ℕ → Type 0
IsBuilt b id = 0 < length (lits_at b.terms id)

-- the terms that a node stands on have literals
abbrev pub AreBuilt : Bits → Shape → Type 0
AreBuilt b node = All (IsBuilt b) (children node)

-- the term's literals are those of the variable of this width and number
pub record AreOfVariable (b : Bits) (width number id : ℕ) : Type 0 where
  pub first : ℕ
  pub found : first_of b.variables width number ≡ Some first
  pub literals : lits_at b.terms id ≡ run first width

-- The term's literals spell its value where the clauses hold, and with its variables the unit rule gives them. The terms
-- that it stands on have literals too, and a variable's term has the variable's.
pub record HasBits (b : Bits) (nodes : List Shape) (f : Formula) (id : ℕ) : Type 0 where
  pub within : id < length nodes
  pub count : length (lits_at b.terms id) ≡ width_at nodes id
  pub narrow : length (lits_at b.terms id) ≤ 64
  pub known : IsKnown f.vars (lits_at b.terms id)
  pub value : (w : Assignment) (t : TermAssignment) → Satisfies w f.clauses → Agrees b t w → spelled w (lits_at b.terms id) ≡ value_at t nodes id
  pub decided : (v : Partial) → AllAtRest v f.clauses → VariablesDecided b v nodes id → DecidesAll v (lits_at b.terms id)
  pub below : (node : Shape) → slice_get nodes id ≡ Some node → AreBuilt b node
  pub variable : (width number : ℕ) → slice_get nodes id ≡ Some (Var width number) → AreOfVariable b width number id

-- a clause makes the literal true
pub record IsSure (f : Formula) (sure : Lit) : Type 0 where
  pub known : sure.var < f.vars
  pub clause : Contains f.clauses (sure ∷ [])

-- what is known are literals of the terms of this pool, by these clauses
pub record IsOf (b : Bits) (nodes : List Shape) (f : Formula) : Type 0 where
  pub sure : (l : Lit) → b.sure ≡ Some l → IsSure f l
  pub variables : (width number first : ℕ) → first_of b.variables width number ≡ Some first → first + width ≤ f.vars
  pub terms : (id : ℕ) → IsBuilt b id → HasBits b nodes f id

-- what had literals keeps them
pub record KeepsBits (old new : Bits) : Type 0 where
  pub sure : (l : Lit) → old.sure ≡ Some l → new.sure ≡ Some l
  pub variables : (width number first : ℕ) → first_of old.variables width number ≡ Some first → first_of new.variables width number ≡ Some first
  pub terms : (id : ℕ) → IsBuilt old id → lits_at new.terms id ≡ lits_at old.terms id

-- an assignment that agrees with another on so many variables, satisfies the clauses and gives variables their values
pub record TermExtension (b : Bits) (t : TermAssignment) (vars : ℕ) (w : Assignment) (clauses : List (List Lit)) : Type 0 where
  pub extended : Assignment
  pub agrees : (x : ℕ) → x < vars → extended x ≡ w x
  pub satisfies : Satisfies extended clauses
  pub spells : Agrees b t extended

-- Literals and clauses were added for a term. Every assignment that satisfies the older clauses extends, whatever
-- values the variables that are new to the formula have. With the variables that occur in the term, the unit rule
-- gives all that was added.
pub record IsBlasted (old new : Bits) (nodes : List Shape) (before after : Formula) (root : ℕ) : Type 0 where
  pub known : IsOf new nodes after
  pub grows : Grows before after
  pub keeps : KeepsBits old new
  pub extends : (w : Assignment) (t : TermAssignment) → Satisfies w before.clauses → Agrees old t w → TermExtension new t before.vars w after.clauses
  pub decides : (v : Partial) → AllAtRest v after.clauses → VariablesDecided new v nodes root → (x : ℕ) → before.vars ≤ x → x < after.vars → IsSome (v x)

-- a step that serves whatever term
abbrev pub Adds : Bits → Bits → Formula → Formula → Type 0
Adds old new before after = (nodes : List Shape) (root : ℕ) → IsOf old nodes before → IsBlasted old new nodes before after root

-- a step that serves whatever term the variable occurs in
abbrev pub AddsFor : (width number : ℕ) → Bits → Bits → Formula → Formula → Type 0
AddsFor width number old new before after =
    (nodes : List Shape) (root : ℕ) → Occurs nodes width number root → IsOf old nodes before → IsBlasted old new nodes before after root

-- there is an entry for the term, and literals are as they were
pub record HasRoom (old new : Bits) (id : ℕ) : Type 0 where
  pub sure : new.sure ≡ old.sure
  pub variables : new.variables ≡ old.variables
  pub terms : (j : ℕ) → lits_at new.terms j ≡ lits_at old.terms j
  pub room : id < length new.terms

-- what occurs in the term occurs in the root
abbrev pub StandsOn : List Shape → (root id : ℕ) → Type 0
StandsOn nodes root id = (width number : ℕ) → Occurs nodes width number id → Occurs nodes width number root

-- the literals of a term were added, for whatever stands on it
pub record BuildsTerm (old new : Bits) (nodes : List Shape) (before after : Formula) (id : ℕ) : Type 0 where
  pub blasted : (root : ℕ) → StandsOn nodes root id → IsBlasted old new nodes before after root
  pub built : IsBuilt new id
  pub size : length new.terms ≡ length old.terms

-- the terms that a term's node stands on have literals
abbrev pub BuiltBelow : Bits → List Shape → ℕ → Type 0
BuiltBelow b nodes id = (node : Shape) (child : ℕ) → slice_get nodes id ≡ Some node → Contains (children node) child → child < id → IsBuilt b child

-- the literals of a term were added, if it is marked, for whatever stands on it
pub record Steps (marked : Bool) (old new : Bits) (nodes : List Shape) (before after : Formula) (id : ℕ) : Type 0 where
  pub blasted : (root : ℕ) → (marked ≡ true → StandsOn nodes root id) → IsBlasted old new nodes before after root
  pub built : marked ≡ true → IsBuilt new id
  pub size : length new.terms ≡ length old.terms

-- literals and clauses were added for a term of one bit, and then the clause that makes it true
pub record Asserts (old new : Bits) (nodes : List Shape) (before after : Formula) (id : ℕ) : Type 0 where
  pub between : Formula
  pub literal : Lit
  pub blasted : IsBlasted old new nodes before between id
  pub built : HasBits new nodes between id
  pub bits : lits_at new.terms id ≡ literal ∷ []
  pub added : after ≡ record between { clauses = between.clauses ++ (literal ∷ []) ∷ [] }
