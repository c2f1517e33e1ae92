-- Writes of other threads that may end a reservation, and the store-conditional that is built of them.
use Rattle.std.specs.Prelude.{◌≡◌, ℕ, ◌<◌, Bool, false, nat_eq, List, [], ◌∷◌, ◌++◌, length, get_or, slice_index_or}
use Rattle.bv_terms.specs.Shapes.{Shape}
use Rattle.bv_terms.specs.Values.{Assignment as TermAssignment}
use Rattle.clause_store.specs.declared.lit.Lit.{Lit}
use Rattle.order_clauses.specs.declared.order_lit.OrderLit.TheVariants as order_lit
use Rattle.order_clauses.specs.Grid.{IsKnownOrder}
use Rattle.outcome_clauses.specs.declared.store_conditional.Ender.{Ender}
use Rattle.outcome_clauses.specs.declared.store_conditional.StoreConditional.{StoreConditional}
use Rattle.bit_clauses.specs.Bits.{IsBuilt}
use Rattle.bit_clauses.specs.Nodes.{lits_at}
use Rattle.encoder.specs.declared.encoder.Encoder.{Encoder}
use Rattle.thread_terms.specs.declared.access.Access.{Access}
use Rattle.hit_terms.specs.Hits.{is_touch}
use Rattle.term_sources.specs.Sees.{access_at, address_value, guard_value}
use Rattle.read_clauses.specs.Conditionals.{ender_at}
use Rattle.reader_parts.specs.Conditions.{IsCondition}
use Rattle.outcome_parts.specs.declared.rival.Rival.{Rival}

abbrev pub rival_at : List Rival → ℕ → Rival
rival_at rivals k = get_or rivals k (record { access = 0; after = order_lit.Always; before = order_lit.Always })

-- it is one of so many accesses, and the literals of its order are of so many variables
pub record KnowsRival (vars count : ℕ) (rival : Rival) : Type 0 where
  pub there : rival.access < count
  pub after : IsKnownOrder vars rival.after
  pub before : IsKnownOrder vars rival.before

-- an access writes to the word at another one's address
abbrev pub touches : TermAssignment → List Shape → (writer reserved : Access) → Bool
touches t nodes writer reserved =
    is_touch (guard_value t nodes writer) (length writer.writes) (address_value t nodes writer) (address_value t nodes reserved)

-- two accesses have one address
abbrev pub have_same_address : TermAssignment → List Shape → (first second : Access) → Bool
have_same_address t nodes first second = nat_eq (address_value t nodes first) (address_value t nodes second)

-- ---- the terms that a store-conditional stands on

-- those that say whether an access writes to the reserved word
abbrev pub touch_parts : (writer reserved : Access) → List ℕ
touch_parts writer reserved = writer.guard.number ∷ writer.address.number ∷ reserved.address.number ∷ []

abbrev pub rival_parts : List Access → (lr : ℕ) → List Rival → List ℕ
rival_parts accesses lr [] = []
rival_parts accesses lr (rival ∷ more) = touch_parts (access_at accesses rival.access) (access_at accesses lr) ++ rival_parts accesses lr more

-- and the two addresses
abbrev pub address_parts : (reserved conditional : Access) → List ℕ
address_parts reserved conditional = reserved.address.number ∷ conditional.address.number ∷ []

abbrev pub conditional_parts : List Access → (lr x : ℕ) → List Rival → List ℕ
conditional_parts accesses lr x rivals =
    rival_parts accesses lr rivals
    ++ (address_parts (access_at accesses lr) (access_at accesses x) ++ (access_at accesses x).guard.number ∷ [])

-- ---- what is built

pub record IsEnderOf (nodes : List Shape) (encoder : Encoder) (accesses : List Access) (lr : ℕ) (rival : Rival) (ender : Ender) : Type 0 where
  pub after : ender.after ≡ rival.after
  pub before : ender.before ≡ rival.before
  pub hit : IsCondition encoder (touch_parts (access_at accesses rival.access) (access_at accesses lr))
      (λ t. touches t nodes (access_at accesses rival.access) (access_at accesses lr)) ender.hit

pub record AreEndersOf (nodes : List Shape) (encoder : Encoder) (accesses : List Access) (lr : ℕ) (rivals : List Rival) (enders : List Ender) : Type 0 where
  pub count : length enders ≡ length rivals
  pub each : (k : ℕ) → k < length rivals → IsEnderOf nodes encoder accesses lr (rival_at rivals k) (ender_at enders k)

-- the first literal of a term
abbrev pub first_literal : Encoder → ℕ → Lit
first_literal encoder id = slice_index_or (lits_at encoder.blaster.terms id) 0 (record { var = 0; positive = false })

-- The store-conditional of access x that looks back to access lr: its outcome is its guard.
pub record IsBuiltConditional (nodes : List Shape) (encoder : Encoder) (accesses : List Access) (lr x : ℕ) (rivals : List Rival) (sc : StoreConditional) : Type 0 where
  pub same : IsCondition encoder (address_parts (access_at accesses lr) (access_at accesses x))
      (λ t. nat_eq (address_value t nodes (access_at accesses lr)) (address_value t nodes (access_at accesses x))) sc.same
  pub enders : AreEndersOf nodes encoder accesses lr rivals sc.enders
  pub guard : IsBuilt encoder.blaster (access_at accesses x).guard.number
  pub outcome : sc.outcome ≡ first_literal encoder (access_at accesses x).guard.number
