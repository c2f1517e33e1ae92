-- When the outcome of a store-conditional can be said by clauses, and what these say.
use Rattle.std.specs.Prelude.{◌≡◌, ◌≢◌, ℕ, ◌<◌, Bool, true, List, [], ◌∷◌, All, length, Some}
use Rattle.bv_terms.specs.Values.{Assignment as TermAssignment}
use Rattle.clause_store.specs.Formula.{Formula}
use Rattle.clause_store.specs.Literals.{Assignment}
use Rattle.clause_store.specs.UnitRule.{Partial}
use Rattle.order_clauses.specs.declared.order_lit.OrderLit.{OrderLit}
use Rattle.order_clauses.specs.Grid.{IsKnownOrder}
use Rattle.order_clauses.specs.Literals.{spelled}
use Rattle.source_clauses.specs.Conditions.{IsDecided}
use Rattle.outcome_clauses.specs.declared.store_conditional.StoreConditional.{StoreConditional}
use Rattle.outcome_clauses.specs.Contract.{AddsOutcome}
use Rattle.encoder.specs.declared.encoder.Encoder.{Encoder}
use Rattle.encoder.specs.Encodes.{Encodes}
use Rattle.term_sources.specs.Sees.{access_at}
use Rattle.formula_parts.specs.Order.{DecidesOrder, IsOrder, Setting, SpellsOrder}
use Rattle.formula_parts.specs.Facts.{Succeeds}
use Rattle.formula_parts.specs.Parts.{Adds, StandsOn}
use Rattle.reader_parts.specs.Conditions.{HasTerms}
use Rattle.outcome_parts.specs.declared.rival.Rival.{Rival}
use Rattle.outcome_parts.specs.Rivals.{IsBuiltConditional, conditional_parts, rival_at, touches}

-- a condition says that one access stands before another
pub record IsBefore (setting : Setting) (vars a b : ℕ) (condition : OrderLit) : Type 0 where
  pub known : IsKnownOrder vars condition
  pub tells : (w : Assignment) (lt : ℕ → ℕ → Bool) → IsOrder setting.log setting.accesses lt → SpellsOrder w setting.places lt → spelled w condition ≡ lt a b
  pub decided : (v : Partial) (lt : ℕ → ℕ → Bool) → IsOrder setting.log setting.accesses lt → DecidesOrder v setting.places lt → IsDecided v condition (lt a b)

-- a rival is an access of another thread, and says when it stands between the two
pub record IsRival (setting : Setting) (vars lr x : ℕ) (rival : Rival) : Type 0 where
  pub there : rival.access < length setting.accesses
  pub other : (access_at setting.accesses rival.access).pos.thread ≢ (access_at setting.accesses x).pos.thread
  pub after : IsBefore setting vars lr rival.access rival.after
  pub before : IsBefore setting vars rival.access x rival.before

-- A store-conditional that looks back to a load-reserved, and all rivals: each access of another thread that writes to the word
-- between the two is one of them.
pub record CanSucceed (setting : Setting) (encoder : Encoder) (lr x : ℕ) (rivals : List Rival) : Type 0 where
  pub stands : StandsOn setting encoder
  pub terms : All (HasTerms setting.nodes) setting.accesses
  pub there : x < length setting.accesses
  pub reserved : lr < length setting.accesses
  pub link : (access_at setting.accesses x).link ≡ Some lr
  pub earlier : (lt : ℕ → ℕ → Bool) → IsOrder setting.log setting.accesses lt → lt lr x ≡ true
  pub each : (k : ℕ) → k < length rivals → IsRival setting encoder.clauses.vars lr x (rival_at rivals k)
  pub enough : (t : TermAssignment) (lt : ℕ → ℕ → Bool) → IsOrder setting.log setting.accesses lt
      → (y : ℕ) → y < length setting.accesses → (access_at setting.accesses y).pos.thread ≢ (access_at setting.accesses x).pos.thread
      → lt lr y ≡ true → lt y x ≡ true → touches t setting.nodes (access_at setting.accesses y) (access_at setting.accesses lr) ≡ true
      → (k : ℕ) × (k < length rivals) × ((rival_at rivals k).access ≡ y)

-- The clauses of a built store-conditional say that it has its outcome.
abbrev pub OutcomesAreParts : Type 0
OutcomesAreParts =
    (setting : Setting) (old mid : Encoder) (after : Formula) (lr x : ℕ) (rivals : List Rival) (sc : StoreConditional)
    → CanSucceed setting old lr x rivals → Encodes old mid (conditional_parts setting.accesses lr x rivals)
    → IsBuiltConditional old.pool mid setting.accesses lr x rivals sc → AddsOutcome mid.clauses after sc
    → Adds setting old (record mid { clauses = after }) (Succeeds x ∷ [])
