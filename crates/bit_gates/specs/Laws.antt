-- Laws of gates.
use Rattle.std.specs.Prelude.{ℕ, Bool, List}
use Rattle.clause_store.specs.declared.lit.Lit.{Lit}
use Rattle.clause_store.specs.Rooted.{IsRooted}
use Rattle.bit_gates.specs.Gate.{BothGive, ChosenGives}

-- A gate with rooted inputs has a rooted output.
abbrev pub JoinedIsRooted : Type 0
JoinedIsRooted =
    (gate : Bool → Bool → Bool) (clauses : List (List Lit)) (a b out : Lit) (roots : List ℕ) → BothGive gate clauses a b out
    → IsRooted clauses roots a → IsRooted clauses roots b → IsRooted clauses roots out

abbrev pub ChosenIsRooted : Type 0
ChosenIsRooted =
    (clauses : List (List Lit)) (when then_lit else_lit out : Lit) (roots : List ℕ) → ChosenGives clauses when then_lit else_lit out
    → IsRooted clauses roots when → IsRooted clauses roots then_lit → IsRooted clauses roots else_lit → IsRooted clauses roots out
