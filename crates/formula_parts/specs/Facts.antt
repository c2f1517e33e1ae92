-- What clauses say of accesses in an order: where a byte is read from, whether a store-conditional succeeds, what a term is.
use Rattle.std.specs.Prelude.{◌≡◌, ℕ, ◌<◌, Bool, true, length, slice_index_or, Some}
use Rattle.bv_terms.specs.Values.{value_at}
use Rattle.bv_terms.specs.Values.{Assignment as TermAssignment}
use Rattle.clause_store.specs.UnitRule.{Partial}
use Rattle.bit_clauses.specs.Bits.{IsBuilt, VariablesDecided}
use Rattle.bit_clauses.specs.Circuit.{DecidesAll}
use Rattle.bit_clauses.specs.Nodes.{lits_at}
use Rattle.encoder.specs.declared.encoder.Encoder.{Encoder}
use Rattle.thread_terms.specs.declared.access.Access.{Access}
use Rattle.term_sources.specs.Sees.{HasOutcome, SeesAt, access_at, no_id}
use Rattle.formula_parts.specs.Order.{Setting}

pub data Fact : Type 0 where
  -- a byte of an access is what the access sees there
  Reads : (x i : ℕ) → Fact
  -- an access, where it looks back, writes exactly where it succeeds
  Succeeds : (x : ℕ) → Fact
  -- a term is 1
  Is : (term : ℕ) → Fact

abbrev pub Holds : Setting → TermAssignment → (ℕ → ℕ → Bool) → Fact → Type 0
Holds setting t lt (Reads x i) = SeesAt setting.image t setting.nodes setting.accesses lt x i
Holds setting t lt (Succeeds x) = HasOutcome t setting.nodes setting.accesses lt x
Holds setting t lt (Is term) = value_at t setting.nodes term ≡ 1

-- ---- what the unit rule gives

-- the variables of a term have values
abbrev pub IsGivenTerm : Encoder → Partial → ℕ → Type 0
IsGivenTerm encoder v id = VariablesDecided encoder.blaster v encoder.pool id

-- the variables of an access's address and guard, and of what it reads and writes, have values
pub record IsGivenAccess (encoder : Encoder) (v : Partial) (access : Access) : Type 0 where
  pub address : IsGivenTerm encoder v access.address.number
  pub guard : IsGivenTerm encoder v access.guard.number
  pub reads : (i : ℕ) → i < length access.reads → IsGivenTerm encoder v (slice_index_or access.reads i no_id).number
  pub writes : (m : ℕ) → m < length access.writes → IsGivenTerm encoder v (slice_index_or access.writes m no_id).number

-- Those of each access that an order has before an access have values, and those of its own address.
pub record IsReady (setting : Setting) (encoder : Encoder) (v : Partial) (lt : ℕ → ℕ → Bool) (x : ℕ) : Type 0 where
  pub older : (y : ℕ) → y < length setting.accesses → lt y x ≡ true → IsGivenAccess encoder v (access_at setting.accesses y)
  pub address : IsGivenTerm encoder v (access_at setting.accesses x).address.number

-- a term has literals, and these have values
pub record IsGivenBits (encoder : Encoder) (v : Partial) (id : ℕ) : Type 0 where
  pub built : IsBuilt encoder.blaster id
  pub decided : DecidesAll v (lits_at encoder.blaster.terms id)

-- what is given by all that stands before an access in an order: the byte that it reads, and whether it writes
abbrev pub Gives : Setting → Encoder → Partial → (ℕ → ℕ → Bool) → Fact → Type 0
Gives setting encoder v lt (Reads x i) = IsReady setting encoder v lt x → IsGivenBits encoder v (slice_index_or (access_at setting.accesses x).reads i no_id).number
Gives setting encoder v lt (Succeeds x) =
    (lr : ℕ) → (access_at setting.accesses x).link ≡ Some lr → IsReady setting encoder v lt x
    → IsGivenBits encoder v (access_at setting.accesses x).guard.number
Gives setting encoder v lt (Is term) = Unit {0}

-- ---- all variables of accesses

-- The variables of all accesses have values.
abbrev pub AreGiven : Setting → Encoder → Partial → Type 0
AreGiven setting encoder v = (x : ℕ) → x < length setting.accesses → IsGivenAccess encoder v (access_at setting.accesses x)

-- and those of the term of a fact
abbrev pub IsGivenFact : Encoder → Partial → Fact → Type 0
IsGivenFact encoder v (Reads x i) = Unit {0}
IsGivenFact encoder v (Succeeds x) = Unit {0}
IsGivenFact encoder v (Is term) = IsGivenTerm encoder v term
