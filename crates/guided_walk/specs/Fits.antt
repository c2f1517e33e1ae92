-- Whether what is given is what memory and reservations are along a schedule.
use Rattle.std.specs.Prelude.{◌≡◌, ℕ, zero, suc, ◌<◌, Bool, true, false, List, [], ◌∷◌, ◌++◌, nat_eq, Option, Some, None, Result, Ok, if◌then◌else◌}
use Rattle.elf_image.specs.declared.write.Write.{Write}
use Rattle.elf_image.specs.Layout.{Layout}
use Rattle.elf_image.specs.Memory.{Cells, opening_cells, cells_after, byte_in, next}
use Rattle.rv32_decode.specs.declared.instr.Instr.{Instr}
use Rattle.rv32_decode.specs.declared.instr.Instr.TheVariants as instr
use Rattle.odr_log.specs.declared.log.Cause.{Cause}
use Rattle.odr_log.specs.declared.log.Pos.{Pos}
use Rattle.odr_log.specs.declared.log.Call.TheVariants as call
use Rattle.rv_model.specs.declared.state.Note.{Note}
use Rattle.rv_model.specs.declared.state.Note.TheVariants as note
use Rattle.rv_model.specs.declared.hearing.Outcome.{Outcome}
use Rattle.rv_model.specs.declared.hearing.Outcome.TheVariants.{Faults, Goes}
use Rattle.rv_model.specs.Thread.{surviving}
use Rattle.rv_model.specs.Instruction.{reserving_at, wins}
use Rattle.rv_model.specs.Noted.{writes_in}
use Rattle.guided_walk.specs.Told.{Told}
use Rattle.guided_walk.specs.Guided.{Given, Visits, Visit, at, IsGuided, instr_of, access_in, conditional_in}
use Rattle.guided_walk.specs.Schedules.{places}

-- the writes of steps, the newest first; of the steps too the newest stands first
abbrev pub writes_along : Visits → List Pos → List Write
writes_along visits [] = []
writes_along visits (p ∷ older) = writes_in (at visits p).outcome ++ writes_along visits older

-- the memory after steps
abbrev pub memory_along : Layout → Visits → List Pos → Cells
memory_along image visits done = cells_after (opening_cells image) (writes_along visits done)

-- A thread's reservation after steps: the address of its last load-reserved, unless one of its store-conditionals or a
-- write of another thread to the word stands after it.
abbrev pub reserved : Layout → Visits → ℕ → List Pos → Option ℕ
reserved image visits thread [] = None
reserved image visits thread (p ∷ older) =
    if nat_eq p.thread thread
    then reserving_at (at visits p).seen.local (instr_of image (at visits p).seen) (reserved image visits thread older)
    else surviving (writes_in (at visits p).outcome) (reserved image visits thread older)

-- an instruction that reads memory, where it showed this
abbrev pub has_read : Result Instr Cause → Note → Bool
has_read (Ok (instr.Load op rd rs1 offset)) shown = true
has_read (Ok (instr.LoadReserved rd rs1 aq rl)) shown = true
has_read (Ok (instr.Amo op rd rs1 rs2 aq rl)) shown = true
has_read (Ok instr.Ecall) (note.Called (call.Write bytes)) = true
has_read other shown = false

-- a step that read memory; one that faults reads nothing
abbrev pub reads_in : Result Instr Cause → Outcome → Bool
reads_in fetched (Faults fault) = false
reads_in fetched (Goes local writes shown) = has_read fetched shown

abbrev pub read_count : Layout → Visit → ℕ
read_count image visit = if reads_in (instr_of image visit.seen) visit.outcome then (access_in image visit.seen).count else 0

-- the address of a store-conditional that took place
abbrev pub conditional_by : Option ℕ → Outcome → Option ℕ
conditional_by address (Faults fault) = None
conditional_by address (Goes local writes shown) = address

-- the address of a byte of an access
abbrev pub byte_address : ℕ → ℕ → ℕ
byte_address address zero = address
byte_address address (suc i) = byte_address (next address) i

-- Each byte that a step read is the memory's. A store-conditional that looks back to a load-reserved succeeds exactly where
-- the thread still has its reservation, and of this address.
pub record FitsVisit (image : Layout) (given : Given) (memory : Cells) (reservation : Option ℕ) (p : Pos) (visit : Visit) : Type 0 where
  pub bytes : (i : ℕ) → i < read_count image visit → given.bytes p.thread p.step i ≡ byte_in (memory (byte_address (access_in image visit.seen).address i))
  pub won : (address link : ℕ) → conditional_by (conditional_in image visit.seen) visit.outcome ≡ Some address → visit.seen.link ≡ Some link
      → given.won p.thread p.step ≡ wins (Some address) reservation

-- the same of each step of a list, after others of which the newest stands first
abbrev pub FitsAlong : Layout → Given → Visits → List Pos → List Pos → Type 0
FitsAlong image given visits done [] = Unit {0}
FitsAlong image given visits done (p ∷ later) =
    FitsVisit image given (memory_along image visits done) (reserved image visits p.thread done) p (at visits p) × FitsAlong image given visits (p ∷ done) later

-- Each byte that a step read is that of the newest write before it in the schedule, else the initial one, and each
-- store-conditional succeeds as the reservations along the schedule have it.
abbrev pub Fits : Layout → Given → Visits → List ℕ → Type 0
Fits image given visits schedule = FitsAlong image given visits [] (places schedule)

-- a schedule is explained by one guided walk that fits it
pub record Explained (image : Layout) (told : Told) (schedule : List ℕ) : Type 0 where
  pub given : Given
  pub visits : Visits
  pub guided : IsGuided image told given visits
  pub fits : Fits image given visits schedule
