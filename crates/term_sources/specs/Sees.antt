-- What accesses see of each other by the values of their terms, in an order of their numbers.
use Rattle.std.specs.Prelude.{◌≡◌, ◌≢◌, ◌⊎◌, ◌↔◌, ℕ, ◌<◌, Bool, true, false, List, [], length, slice_index_or, Some, None}
use Rattle.elf_image.specs.Layout.{Layout}
use Rattle.elf_image.specs.Memory.{byte_in, opening_cells}
use Rattle.bv_terms.specs.declared.node.TermId.{TermId}
use Rattle.bv_terms.specs.Shapes.{Shape}
use Rattle.bv_terms.specs.Values.{Assignment, value_at}
use Rattle.thread_terms.specs.declared.access.Access.{Access}
use Rattle.hit_terms.specs.Hits.{is_hit, is_touch, place_of}

abbrev pub no_id : TermId
no_id = record { number = 0 }

abbrev pub no_access : Access
no_access = record { pos = record { thread = 0; step = 0 }; address = no_id; guard = no_id; reads = []; writes = []; link = None }

-- the access with a number
abbrev pub access_at : List Access → ℕ → Access
access_at accesses x = slice_index_or accesses x no_access

-- ---- values

abbrev pub address_value : Assignment → List Shape → Access → ℕ
address_value t nodes access = value_at t nodes access.address.number

abbrev pub guard_value : Assignment → List Shape → Access → ℕ
guard_value t nodes access = value_at t nodes access.guard.number

-- the value of one of some terms
abbrev pub value_of : Assignment → List Shape → List TermId → ℕ → ℕ
value_of t nodes ids i = value_at t nodes (slice_index_or ids i no_id).number

-- one access writes its byte m, and where another one reads its byte i
abbrev pub hits : Assignment → List Shape → (writer : Access) → ℕ → (reader : Access) → ℕ → Bool
hits t nodes writer m reader i = is_hit (guard_value t nodes writer) (address_value t nodes writer) m (address_value t nodes reader) i

-- ---- sources

-- An access sees in its byte the newest byte that is written there before it.
pub record SeesWrite (t : Assignment) (nodes : List Shape) (accesses : List Access) (lt : ℕ → ℕ → Bool) (x i : ℕ) : Type 0 where
  pub writer : ℕ
  pub byte : ℕ
  pub there : writer < length accesses
  pub within : byte < length (access_at accesses writer).writes
  pub older : lt writer x ≡ true
  pub is_hit : hits t nodes (access_at accesses writer) byte (access_at accesses x) i ≡ true
  pub newest : (y m : ℕ) → y < length accesses → m < length (access_at accesses y).writes → y ≢ writer → lt y x ≡ true
      → hits t nodes (access_at accesses y) m (access_at accesses x) i ≡ true → lt y writer ≡ true
  pub reads : value_of t nodes (access_at accesses x).reads i ≡ value_of t nodes (access_at accesses writer).writes byte

-- It sees the initial byte, as none is written there before it.
pub record SeesInitial (image : Layout) (t : Assignment) (nodes : List Shape) (accesses : List Access) (lt : ℕ → ℕ → Bool) (x i : ℕ) : Type 0 where
  pub none : (y m : ℕ) → y < length accesses → m < length (access_at accesses y).writes → lt y x ≡ true
      → hits t nodes (access_at accesses y) m (access_at accesses x) i ≡ true → ⊥
  pub reads : value_of t nodes (access_at accesses x).reads i ≡ byte_in (opening_cells image (place_of (address_value t nodes (access_at accesses x)) i))

abbrev pub SeesAt : Layout → Assignment → List Shape → List Access → (ℕ → ℕ → Bool) → (x i : ℕ) → Type 0
SeesAt image t nodes accesses lt x i = SeesWrite t nodes accesses lt x i ⊎ SeesInitial image t nodes accesses lt x i

-- ---- outcomes

-- no access of another thread that stands between two accesses writes to the word at the first one's address
abbrev pub IsUndisturbedAt : Assignment → List Shape → List Access → (ℕ → ℕ → Bool) → (lr x : ℕ) → Type 0
IsUndisturbedAt t nodes accesses lt lr x =
    (y : ℕ) → y < length accesses → (access_at accesses y).pos.thread ≢ (access_at accesses x).pos.thread → lt lr y ≡ true → lt y x ≡ true
    → is_touch (guard_value t nodes (access_at accesses y)) (length (access_at accesses y).writes) (address_value t nodes (access_at accesses y))
    (address_value t nodes (access_at accesses lr)) ≡ false

-- A store-conditional succeeds: its address is the load-reserved's, and no other thread wrote to the word between.
pub record SucceedsAt (t : Assignment) (nodes : List Shape) (accesses : List Access) (lt : ℕ → ℕ → Bool) (lr x : ℕ) : Type 0 where
  pub same : address_value t nodes (access_at accesses lr) ≡ address_value t nodes (access_at accesses x)
  pub undisturbed : IsUndisturbedAt t nodes accesses lt lr x

-- the guard of a store-conditional that looks back is 1 exactly where it succeeds
abbrev pub HasOutcome : Assignment → List Shape → List Access → (ℕ → ℕ → Bool) → ℕ → Type 0
HasOutcome t nodes accesses lt x =
    (lr : ℕ) → (access_at accesses x).link ≡ Some lr → (guard_value t nodes (access_at accesses x) ≡ 1) ↔ SucceedsAt t nodes accesses lt lr x

-- each byte that an access reads, and its outcome, are what it sees in an order
pub record IsSeen (image : Layout) (t : Assignment) (nodes : List Shape) (accesses : List Access) (lt : ℕ → ℕ → Bool) (x : ℕ) : Type 0 where
  pub bytes : (i : ℕ) → i < length (access_at accesses x).reads → SeesAt image t nodes accesses lt x i
  pub outcome : HasOutcome t nodes accesses lt x
