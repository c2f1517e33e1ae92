-- Lists of steps and relations between steps.
use Rattle.std.specs.Prelude.{◌≡◌, ◌⊎◌, List, [], ◌∷◌}
use Rattle.odr_log.specs.declared.log.Pos.{Pos}

abbrev pub In : Pos → List Pos → Type 0
In p [] = ⊥
In p (q ∷ later) = (q ≡ p) ⊎ In p later

-- nothing that stands later is before something that stands earlier
abbrev pub Keeps : (Pos → Pos → Type 0) → List Pos → Type 0
Keeps before [] = Unit {0}
Keeps before (p ∷ later) = ((q : Pos) → In q later → before q p → ⊥) × Keeps before later

abbrev pub Distinct : List Pos → Type 0
Distinct [] = Unit {0}
Distinct (p ∷ later) = (In p later → ⊥) × Distinct later

-- exactly the steps with a property, each once
pub record Lists (P : Pos → Type 0) (steps : List Pos) : Type 0 where
  pub all : (p : Pos) → P p → In p steps
  pub only : (p : Pos) → In p steps → P p
  pub once : Distinct steps

-- one step stands before another
abbrev pub Stands : List Pos → Pos → Pos → Type 0
Stands [] p q = ⊥
Stands (first ∷ later) p q = ((first ≡ p) × In q later) ⊎ Stands later p q
