-- What symbolic paths are: accesses, constraints and the registers at the end, as terms over what is given.
use Rattle.std.specs.Prelude.{◌≡◌, ◌↔◌, ◌⊎◌, ℕ, ◌+◌, ◌*◌, ◌<◌, Bool, true, false, List, [], length, map, slice_get, slice_index_or, Some, None, All, Contains, if◌then◌else◌}
use Rattle.elf_image.specs.Layout.{Layout}
use Rattle.elf_image.specs.Memory.{writes_of}
use Rattle.rv32_decode.specs.declared.instr.Instr.{Instr}
use Rattle.rv32_decode.specs.declared.instr.Instr.TheVariants as instr
use Rattle.odr_log.specs.declared.log.Log.{Log}
use Rattle.odr_log.specs.declared.log.Pos.{Pos}
use Rattle.rv_model.specs.Noted.{writes_in}
use Rattle.rv_model.specs.RecordedOrder.{Counted}
use Rattle.rv_model.specs.Run.{logged}
use Rattle.rv_model.specs.Thread.{register}
use Rattle.rv_model.specs.Walk.{Walk, places_of}
use Rattle.bv_terms.specs.declared.node.TermId.{TermId}
use Rattle.bv_terms.specs.Shapes.{Shape}
use Rattle.bv_terms.specs.Values.{Assignment, value_at}
use Rattle.guided_walk.specs.Fits.{read_count}
use Rattle.guided_walk.specs.Flow.{Flow}
use Rattle.guided_walk.specs.Guided.{Guided, IsGuided, Visit, Visits, access_in, at, seen_before}
use Rattle.guided_walk.specs.Orders.{Lists}
use Rattle.guided_walk.specs.Told.{Told, noted, told}
use Rattle.step_terms.specs.Bytes.{AreBytes, values}
use Rattle.step_terms.specs.Made.{IsTerm}
use Rattle.thread_terms.specs.declared.access.Access.{Access}
use Rattle.thread_terms.specs.Given.{given_by}
use Rattle.thread_terms.specs.Steps.{HasVariables, IsOf, guard_shape, is_written, read_size, write_size}
use Rattle.thread_terms.specs.Variables.{AreVariables}
pub use Rattle.walk_facts.specs.Steps.{IsAccess, instr_of_step, no_place}
use Rattle.path_exec.specs.declared.paths.Paths.{Paths}
use Rattle.path_exec.specs.Links.{LinksTo, looks_back}

-- an assignment meets constraints, which are terms of one bit
abbrev pub Meets : Assignment → List Shape → List TermId → Type 0
Meets w nodes constraints = All (λ (id : TermId). value_at w nodes id.number ≡ 1) constraints

-- ---- an access under an assignment

-- an access is what its step does: its address, how many bytes it reads, and what it writes
pub record IsShown (image : Layout) (w : Assignment) (nodes : List Shape) (access : Access) (visit : Visit) : Type 0 where
  pub address : value_at w nodes access.address.number ≡ (access_in image visit.seen).address
  pub reads : length access.reads ≡ read_count image visit
  pub writes : writes_in visit.outcome
      ≡ (if is_written w nodes access then writes_of (value_at w nodes access.address.number) (values w nodes access.writes) [] else [])

-- ---- variables

-- the variable belongs to one of these accesses
pub record IsOfOne (accesses : List Access) (width number : ℕ) : Type 0 where
  pub access : Access
  pub listed : Contains accesses access
  pub is : IsOf access width number

-- The variable belongs to an access from which something can flow to a step.
pub record IsOfEarlier (log : Log) (accesses : List Access) (p : Pos) (width number : ℕ) : Type 0 where
  pub access : Access
  pub listed : Contains accesses access
  pub is : IsOf access width number
  pub flows : Counted log p → Flow log access.pos p

-- the same, or it belongs to the access itself
abbrev pub IsOfEarlierOr : Log → List Access → Access → (width number : ℕ) → Type 0
IsOfEarlierOr log accesses access width number = IsOfEarlier log accesses access.pos width number ⊎ IsOf access width number

-- ---- an access of the list

abbrev pub is_conditional : Instr → Bool
is_conditional (instr.StoreConditional rd rs1 rs2 aq rl) = true
is_conditional other = false

-- What an access has beside its values. What it reads are variables of its own; an address has variables of earlier accesses
-- alone, and a guard or a written byte has those of earlier accesses or of the access itself.
pub record IsListed (log : Log) (walk : Walk) (nodes : List Shape) (accesses : List Access) (access : Access) : Type 0 where
  pub counted : Counted log access.pos
  pub address : IsTerm nodes 32 access.address.number
  pub address_from : HasVariables (IsOfEarlier log accesses access.pos) nodes access.address.number
  pub guard : slice_get nodes access.guard.number ≡ Some (guard_shape (instr_of_step walk access.pos) (noted (told log walk) access.pos) access.pos access.link)
  pub guard_bit : IsTerm nodes 1 access.guard.number
  pub read_many : length access.reads ≡ read_size (instr_of_step walk access.pos) (noted (told log walk) access.pos)
  pub reads : AreVariables nodes access.pos access.reads
  pub write_many : length access.writes ≡ write_size (instr_of_step walk access.pos) (noted (told log walk) access.pos)
  pub writes : AreBytes nodes access.writes
  pub writes_from : All (λ (id : TermId). HasVariables (IsOfEarlierOr log accesses access) nodes id.number) access.writes
  pub linked : is_conditional (instr_of_step walk access.pos) ≡ true → LinksTo accesses access.pos.thread access.link (looks_back (places_of walk access.pos.thread) access.pos.step)
  pub unlinked : is_conditional (instr_of_step walk access.pos) ≡ false → access.link ≡ None

-- ---- the contract

abbrev pub position : Access → Pos
position access = access.pos

-- a register of a thread after its counted steps
abbrev pub end_register : Layout → Told → Log → Visits → ℕ → ℕ → ℕ
end_register image told log visits thread number = register (seen_before image told visits thread (logged log thread).steps).local number

-- the term of a register at the end
abbrev pub end_at : List TermId → (thread number : ℕ) → ℕ
end_at ends thread number = (slice_index_or ends (32 * thread + number) (record { number = 0 })).number

-- what the registers at the end are
pub record AreEnds (image : Layout) (log : Log) (walk : Walk) (nodes : List Shape) (paths : Paths) : Type 0 where
  pub count : length paths.ends ≡ 32 * length log.threads
  pub words : (thread number : ℕ) → thread < length log.threads → number < 32 → IsTerm nodes 32 (end_at paths.ends thread number)
  pub values : (w : Assignment) (visits : Visits) → IsGuided image (told log walk) (given_by w) visits → (thread number : ℕ) → thread < length log.threads → number < 32
      → value_at w nodes (end_at paths.ends thread number) ≡ end_register image (told log walk) log visits thread number
  pub variables : (thread number : ℕ) → thread < length log.threads → number < 32 → HasVariables (IsOfOne paths.accesses) nodes (end_at paths.ends thread number)

-- Symbolic paths of a log: an assignment meets the constraints exactly where the guided walk holds with what it gives; and where
-- it holds, accesses and registers are those of the walk.
pub record ArePaths (image : Layout) (log : Log) (walk : Walk) (nodes : List Shape) (paths : Paths) : Type 0 where
  pub meets : (w : Assignment) → Meets w nodes paths.constraints ↔ Guided image (told log walk) (given_by w)
  pub bits : All (λ (id : TermId). IsTerm nodes 1 id.number) paths.constraints
  pub constraints_from : All (λ (id : TermId). HasVariables (IsOfOne paths.accesses) nodes id.number) paths.constraints
  pub shows : (w : Assignment) (visits : Visits) → IsGuided image (told log walk) (given_by w) visits → All (λ (a : Access). IsShown image w nodes a (at visits a.pos)) paths.accesses
  pub lists : Lists (IsAccess log walk) (map position paths.accesses)
  pub each : All (IsListed log walk nodes paths.accesses) paths.accesses
  pub ends : AreEnds image log walk nodes paths
