-- Whether what is given is what memory and reservations are where accesses stand in an order.
use Rattle.std.specs.Prelude.{◌≡◌, ◌≢◌, ◌⊎◌, ◌↔◌, ℕ, ◌<◌, Bool, true, false, List, [], ◌∷◌, nat_eq, Option, Some, None, Result, Ok, Err, if◌then◌else◌}
use Rattle.elf_image.specs.declared.write.Write.{Write}
use Rattle.elf_image.specs.Layout.{Layout}
use Rattle.elf_image.specs.Memory.{opening_cells, byte_in}
use Rattle.rv32_decode.specs.declared.instr.Instr.{Instr}
use Rattle.odr_log.specs.declared.log.Cause.{Cause}
use Rattle.odr_log.specs.declared.log.Pos.{Pos}
use Rattle.rv_model.specs.Thread.{touches}
use Rattle.rv_model.specs.Noted.{writes_in}
use Rattle.guided_walk.specs.Guided.{Given, Visits, at, instr_of, conditional_in}
use Rattle.guided_walk.specs.Orders.{In}
use Rattle.guided_walk.specs.Fits.{byte_address, conditional_by, read_count}
use Rattle.walk_facts.specs.Links.{access_address, is_linking as links, is_reserving as reserves}

-- ---- read bytes

-- the byte that writes, the newest first, leave at an address, if one of them is there
abbrev pub newest_in : List Write → ℕ → Option ℕ
newest_in [] address = None
newest_in (write ∷ older) address = if nat_eq write.address address then Some write.byte else newest_in older address

-- the byte that a step writes at an address, if it writes there
abbrev pub written : Visits → Pos → ℕ → Option ℕ
written visits p address = newest_in (writes_in (at visits p).outcome) address

-- An access before a step writes this byte at an address, and each other access before the step that writes there stands
-- before that one.
pub record IsNewest (visits : Visits) (accesses : List Pos) (before : Pos → Pos → Type 0) (p : Pos) (address byte : ℕ) : Type 0 where
  pub writer : Pos
  pub listed : In writer accesses
  pub older : before writer p
  pub writes : written visits writer address ≡ Some byte
  pub newest : (q : Pos) (other : ℕ) → In q accesses → before q p → written visits q address ≡ Some other → q ≢ writer → before q writer

-- no access before a step writes at an address
abbrev pub IsUnwritten : Visits → List Pos → (Pos → Pos → Type 0) → Pos → ℕ → Type 0
IsUnwritten visits accesses before p address = (q : Pos) → In q accesses → before q p → written visits q address ≡ None

-- the byte at an address before a step: that of the newest write there before it, else the initial one
abbrev pub IsByteBefore : Layout → Visits → List Pos → (Pos → Pos → Type 0) → Pos → (address byte : ℕ) → Type 0
IsByteBefore image visits accesses before p address byte =
    IsNewest visits accesses before p address byte
    ⊎ (IsUnwritten visits accesses before p address × (byte ≡ byte_in (opening_cells image address)))

-- ---- store-conditionals

-- an LR was fetched
abbrev pub is_reserving : Result Instr Cause → Bool
is_reserving (Ok instruction) = reserves instruction
is_reserving (Err fault) = false

-- an LR or an SC was
abbrev pub is_linking : Result Instr Cause → Bool
is_linking (Ok instruction) = links instruction
is_linking (Err fault) = false

-- A step looks back to the last LR of its thread before it, where no SC stands between.
pub record LooksBack (image : Layout) (visits : Visits) (lr p : Pos) : Type 0 where
  pub thread : lr.thread ≡ p.thread
  pub earlier : lr.step < p.step
  pub reserves : is_reserving (instr_of image (at visits lr).seen) ≡ true
  pub last : (step : ℕ) → lr.step < step → step < p.step → is_linking (instr_of image (visits p.thread step).seen) ≡ false

-- between an LR and an SC no access of another thread writes to the word at an address
abbrev pub IsUndisturbed : Visits → List Pos → (Pos → Pos → Type 0) → (lr p : Pos) → ℕ → Type 0
IsUndisturbed visits accesses before lr p address =
    (q : Pos) → In q accesses → q.thread ≢ p.thread → before lr q → before q p → touches (writes_in (at visits q).outcome) address ≡ false

-- ---- one access, and all

-- Each byte that an access reads is the byte there before it. A store-conditional that looks back to an LR succeeds exactly
-- where its address is the LR's and no other thread wrote to the word between.
pub record IsFitting (image : Layout) (given : Given) (visits : Visits) (accesses : List Pos) (before : Pos → Pos → Type 0) (p : Pos) : Type 0 where
  pub bytes : (i : ℕ) → i < read_count image (at visits p)
      → IsByteBefore image visits accesses before p (byte_address (access_address image visits p) i) (given.bytes p.thread p.step i)
  pub won : (lr : Pos) (address : ℕ) → conditional_by (conditional_in image (at visits p).seen) (at visits p).outcome ≡ Some address
      → LooksBack image visits lr p
      → (given.won p.thread p.step ≡ true)
      ↔ ((access_address image visits lr ≡ address) × IsUndisturbed visits accesses before lr p (access_address image visits lr))

abbrev pub FitsOrder : Layout → Given → Visits → List Pos → (Pos → Pos → Type 0) → Type 0
FitsOrder image given visits accesses before = (p : Pos) → In p accesses → IsFitting image given visits accesses before p
