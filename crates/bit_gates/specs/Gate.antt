-- What a gate adds to a formula, and what the unit rule then gives.
use Rattle.std.specs.Prelude.{◌≡◌, ◌⊎◌, ◌+◌, ◌&&◌, ◌||◌, Bool, not, if◌then◌else◌, List, ◌++◌}
use Rattle.clause_store.specs.declared.lit.Lit.{Lit}
use Rattle.clause_store.specs.Literals.{Assignment, literal_value, Satisfies}
use Rattle.clause_store.specs.UnitRule.{Partial, MakesTrue, MakesFalse, IsGiven, AllAtRest}
use Rattle.clause_store.specs.Formula.{Formula, Extension}

-- truth values joined by a gate

abbrev pub both : Bool → Bool → Bool
both p q = p && q

abbrev pub either : Bool → Bool → Bool
either p q = p || q

abbrev pub differ : Bool → Bool → Bool
differ p q = if p then not q else q

abbrev pub agree : Bool → Bool → Bool
agree p q = if p then q else not q

-- the value of two literals joined by a gate, and of the literal that a third one chooses

abbrev pub joined : (Bool → Bool → Bool) → Lit → Lit → Assignment → Bool
joined gate a b w = gate (literal_value w a) (literal_value w b)

abbrev pub chosen : Lit → Lit → Lit → Assignment → Bool
chosen when then_lit else_lit w = if literal_value w when then literal_value w then_lit else literal_value w else_lit

-- The new formula has one variable more, the output's, and further clauses. In every assignment that satisfies them
-- the output has the gate's value, and every assignment that satisfies the old clauses extends to the new ones.
pub record IsGate (old new : Formula) (value : Assignment → Bool) (out : Lit) : Type 0 where
  pub fresh : out.var ≡ old.vars
  pub vars : new.vars ≡ old.vars + 1
  pub more : List (List Lit)
  pub clauses : new.clauses ≡ old.clauses ++ more
  pub has_value : (w : Assignment) → Satisfies w new.clauses → literal_value w out ≡ value w
  pub extends : (w : Assignment) → Satisfies w old.clauses → Extension old.vars w new.clauses

-- With both inputs given, the rule gives the output the gate's value.
abbrev pub BothGive : (Bool → Bool → Bool) → List (List Lit) → Lit → Lit → Lit → Type 0
BothGive gate clauses a b out =
    (v : Partial) (p q : Bool) → AllAtRest v clauses → IsGiven v a p → IsGiven v b q → IsGiven v out (gate p q)

-- One input of this value alone gives the output the same value.
abbrev pub OneGives : Bool → List (List Lit) → Lit → Lit → Lit → Type 0
OneGives value clauses a b out = (v : Partial) → AllAtRest v clauses → IsGiven v a value ⊎ IsGiven v b value → IsGiven v out value

-- The condition with the input that it chooses gives the output that input's value.
pub record ChosenGives (clauses : List (List Lit)) (when then_lit else_lit out : Lit) : Type 0 where
  pub on_true : (v : Partial) (p : Bool) → AllAtRest v clauses → MakesTrue v when → IsGiven v then_lit p → IsGiven v out p
  pub on_false : (v : Partial) (p : Bool) → AllAtRest v clauses → MakesFalse v when → IsGiven v else_lit p → IsGiven v out p
