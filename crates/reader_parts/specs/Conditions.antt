-- Conditions that tell whether a write hits what is read.
use Rattle.std.specs.Prelude.{◌≡◌, ℕ, ◌<◌, Bool, List, [], ◌∷◌, All, length}
use Rattle.bv_terms.specs.declared.node.TermId.{TermId}
use Rattle.bv_terms.specs.Shapes.{Shape}
use Rattle.bv_terms.specs.Values.{Assignment as TermAssignment}
use Rattle.clause_store.specs.Literals.{Assignment}
use Rattle.clause_store.specs.UnitRule.{Partial, AllAtRest}
use Rattle.order_clauses.specs.declared.order_lit.OrderLit.{OrderLit}
use Rattle.order_clauses.specs.Grid.{IsKnownOrder}
use Rattle.order_clauses.specs.Literals.{spelled}
use Rattle.source_clauses.specs.Conditions.{IsDecided}
use Rattle.encoder.specs.declared.encoder.Encoder.{Encoder}
use Rattle.encoder.specs.Encodes.{AllVariablesDecided, Spells}
use Rattle.step_terms.specs.Made.{IsTerm}
use Rattle.thread_terms.specs.declared.access.Access.{Access}

-- A condition that is true exactly where a test of some terms is. The unit rule decides it by the variables of these.
pub record IsCondition (encoder : Encoder) (parts : List ℕ) (test : TermAssignment → Bool) (condition : OrderLit) : Type 0 where
  pub known : IsKnownOrder encoder.clauses.vars condition
  pub tells : (w : Assignment) (t : TermAssignment) → Spells encoder t w → spelled w condition ≡ test t
  pub decided : (v : Partial) → AllAtRest v encoder.clauses.clauses → AllVariablesDecided encoder v parts → (b : Bool) × IsDecided v condition b

-- the terms that say whether one access writes where another one reads
abbrev pub hit_parts : (writer reader : Access) → List ℕ
hit_parts writer reader = writer.guard.number ∷ writer.address.number ∷ reader.address.number ∷ []

-- the terms of an access stand among these
pub record HasTerms (nodes : List Shape) (access : Access) : Type 0 where
  pub address : IsTerm nodes 32 access.address.number
  pub guard : IsTerm nodes 1 access.guard.number
  pub reads : All (λ (id : TermId). id.number < length nodes) access.reads
  pub writes : All (λ (id : TermId). id.number < length nodes) access.writes
