-- A store-conditional by literals, and its success by the values of terms.
use Rattle.std.specs.Prelude.{◌≡◌, ◌≢◌, ◌↔◌, ℕ, ◌<◌, Bool, true, List, length, nat_eq, get_or}
use Rattle.bv_terms.specs.Values.{Assignment as TermAssignment}
use Rattle.clause_store.specs.Literals.{Assignment, literal_value}
use Rattle.order_clauses.specs.declared.order_lit.OrderLit.TheVariants as order_lit
use Rattle.order_clauses.specs.Literals.{spelled}
use Rattle.outcome_clauses.specs.declared.store_conditional.Ender.{Ender}
use Rattle.outcome_clauses.specs.declared.store_conditional.StoreConditional.{StoreConditional}
use Rattle.outcome_clauses.specs.Succeeds.{HasOutcome}
use Rattle.encoder.specs.declared.encoder.Encoder.{Encoder}
use Rattle.encoder.specs.Encodes.{Spells}
use Rattle.thread_terms.specs.declared.access.Access.{Access}
use Rattle.hit_terms.specs.Hits.{is_touch}
use Rattle.term_sources.specs.Sees.{SucceedsAt, access_at, address_value, guard_value}

-- an access writes to the word at another one's address
abbrev pub touches_at : TermAssignment → Encoder → List Access → (y lr : ℕ) → Bool
touches_at t encoder accesses y lr =
    is_touch (guard_value t encoder.pool (access_at accesses y)) (length (access_at accesses y).writes) (address_value t encoder.pool (access_at accesses y))
    (address_value t encoder.pool (access_at accesses lr))

abbrev pub ender_at : List Ender → ℕ → Ender
ender_at enders k = get_or enders k (record { after = order_lit.Always; before = order_lit.Always; hit = order_lit.Always })

-- an ender is an access of another thread, and says whether it writes to the reserved word
pub record IsEnder (encoder : Encoder) (accesses : List Access) (lr x : ℕ) (ender : Ender) (y : ℕ) : Type 0 where
  pub there : y < length accesses
  pub other : (access_at accesses y).pos.thread ≢ (access_at accesses x).pos.thread
  pub hit : (w : Assignment) (t : TermAssignment) → Spells encoder t w → spelled w ender.hit ≡ touches_at t encoder accesses y lr

-- The store-conditional of access x that looks back to access lr: its outcome is its guard, and each ender is an access.
pub record IsConditionalOf (encoder : Encoder) (accesses : List Access) (lr x : ℕ) (sc : StoreConditional) : Type 0 where
  pub outcome : (w : Assignment) (t : TermAssignment) → Spells encoder t w
      → literal_value w sc.outcome ≡ nat_eq (guard_value t encoder.pool (access_at accesses x)) 1
  pub same : (w : Assignment) (t : TermAssignment) → Spells encoder t w
      → spelled w sc.same ≡ nat_eq (address_value t encoder.pool (access_at accesses lr)) (address_value t encoder.pool (access_at accesses x))
  pub access : ℕ → ℕ
  pub enders : (k : ℕ) → k < length sc.enders → IsEnder encoder accesses lr x (ender_at sc.enders k) (access k)

-- an order of all accesses is what the enders' conditions say of it
pub record SpellsEnders (w : Assignment) (sc : StoreConditional) (access : ℕ → ℕ) (lr x : ℕ) (lt : ℕ → ℕ → Bool) : Type 0 where
  pub after : (k : ℕ) → k < length sc.enders → spelled w (ender_at sc.enders k).after ≡ lt lr (access k)
  pub before : (k : ℕ) → k < length sc.enders → spelled w (ender_at sc.enders k).before ≡ lt (access k) x

-- each write of another thread between the two that touches the word is an ender
abbrev pub HasEnders : TermAssignment → Encoder → List Access → (access : ℕ → ℕ) → (count lr x : ℕ) → (ℕ → ℕ → Bool) → Type 0
HasEnders t encoder accesses access count lr x lt =
    (y : ℕ) → y < length accesses → (access_at accesses y).pos.thread ≢ (access_at accesses x).pos.thread → lt lr y ≡ true → lt y x ≡ true
    → touches_at t encoder accesses y lr ≡ true → (k : ℕ) × (k < count) × (access k ≡ y)

abbrev pub ConditionalsSucceedByTerms : Type 0
ConditionalsSucceedByTerms = (encoder : Encoder) (accesses : List Access) (lr x : ℕ) (sc : StoreConditional) (w : Assignment) (t : TermAssignment)
    (lt : ℕ → ℕ → Bool) (is : IsConditionalOf encoder accesses lr x sc) → Spells encoder t w → SpellsEnders w sc is.access lr x lt
    → HasEnders t encoder accesses is.access (length sc.enders) lr x lt
    → HasOutcome w sc ↔ ((guard_value t encoder.pool (access_at accesses x) ≡ 1) ↔ SucceedsAt t encoder.pool accesses lt lr x)
