-- What a step does to the terms of its thread, and what it adds to them.
use Rattle.std.specs.Prelude.{◌≡◌, ◌↔◌, ◌⊎◌, ℕ, List, [], All, IfSome, length, nat_eq, slice_get, Bool, true, Option, Some, None, Ok, is_some, if◌then◌else◌}
use Rattle.elf_image.specs.Layout.{Layout}
use Rattle.elf_image.specs.Memory.{writes_of}
use Rattle.rv32_decode.specs.declared.instr.Instr.{Instr}
use Rattle.rv32_decode.specs.declared.instr.Instr.TheVariants as instr
use Rattle.odr_log.specs.declared.log.Call.TheVariants as call
use Rattle.odr_log.specs.declared.log.Pos.{Pos}
use Rattle.rv_model.specs.declared.state.Local.{Local}
use Rattle.rv_model.specs.declared.state.Note.{Note}
use Rattle.rv_model.specs.declared.state.Note.TheVariants as note
use Rattle.rv_model.specs.declared.hearing.Outcome.{Outcome}
use Rattle.rv_model.specs.declared.hearing.Outcome.TheVariants.{Faults, Goes}
use Rattle.rv_model.specs.Accesses.{is_access}
use Rattle.rv_model.specs.Instruction.{access_of}
use Rattle.rv_model.specs.Noted.{note_in, writes_in}
use Rattle.rv_model.specs.Values.{load_size, store_size}
use Rattle.bv_terms.specs.declared.node.TermId.{TermId}
use Rattle.bv_terms.specs.Shapes.{Shape, Const, Var}
use Rattle.bv_terms.specs.Values.{Assignment, value_at}
use Rattle.bv_terms.specs.Variables.{Occurs}
use Rattle.guided_walk.specs.Fits.{reads_in}
use Rattle.guided_walk.specs.Guided.{Seen}
use Rattle.step_terms.specs.Bytes.{AreBytes, values}
use Rattle.step_terms.specs.Made.{IsTerm}
use Rattle.thread_terms.specs.declared.access.Access.{Access}
use Rattle.thread_terms.specs.declared.access.Stepped.{Stepped}
use Rattle.thread_terms.specs.Given.{outcome_by}
use Rattle.thread_terms.specs.Standing.{OccursInRegisters, StandFor}
use Rattle.thread_terms.specs.Variables.{AreVariables, IsByteOf, IsOutcomeOf, step_number}

-- ---- before and after a step

-- A thread before a step: the terms stand for its registers, it is at this address, and it has a link exactly where one is
-- known.
pub record StandsBefore (w : Assignment) (nodes : List Shape) (registers : List TermId) (pc : ℕ) (link : Option ℕ) (seen : Seen) : Type 0 where
  pub stand : StandFor w nodes registers seen.local
  pub at : seen.local.pc ≡ pc
  pub linked : is_some seen.link ≡ is_some link

-- a property of the thread after a step that goes on
abbrev pub IfGoes : Outcome → (Local → Type 0) → Type 0
IfGoes (Faults fault) P = Unit {0}
IfGoes (Goes local writes shown) P = P local

-- ---- variables

-- all variables of a term have a property
abbrev pub HasVariables : (ℕ → ℕ → Type 0) → List Shape → ℕ → Type 0
HasVariables P nodes id = (width number : ℕ) → Occurs nodes width number id → P width number

-- all variables of registers have it
abbrev pub RegistersHave : (ℕ → ℕ → Type 0) → List Shape → List TermId → Type 0
RegistersHave P nodes registers = (width number : ℕ) → OccursInRegisters nodes registers width number → P width number

-- A variable of an access: of a byte that it reads, or of the outcome of a store-conditional that looks back to a
-- load-reserved.
abbrev pub IsOf : Access → (width number : ℕ) → Type 0
IsOf access width number = IsByteOf access.pos (length access.reads) width number ⊎ ((is_some access.link ≡ true) × IsOutcomeOf access.pos width number)

abbrev pub IsOfAny : Option Access → (width number : ℕ) → Type 0
IsOfAny None width number = ⊥
IsOfAny (Some access) width number = IsOf access width number

-- a variable of the registers before a step, or of its access
abbrev pub OfRegistersOr : List Shape → List TermId → Option Access → ℕ → ℕ → Type 0
OfRegistersOr nodes registers access width number = OccursInRegisters nodes registers width number ⊎ IsOfAny access width number

-- ---- an access

-- its bytes are written
abbrev pub is_written : Assignment → List Shape → Access → Bool
is_written w nodes access = nat_eq (value_at w nodes access.guard.number) 1

-- An access is what its step did: the address, how many bytes were read, and the writes.
pub record Shows (w : Assignment) (nodes : List Shape) (access : Access) (instruction : Instr) (local : Local) (outcome : Outcome) : Type 0 where
  pub address : value_at w nodes access.address.number ≡ (access_of local instruction).address
  pub reads : length access.reads ≡ (if reads_in (Ok instruction) outcome then (access_of local instruction).count else 0)
  pub writes : writes_in outcome
      ≡ (if is_written w nodes access then writes_of (value_at w nodes access.address.number) (values w nodes access.writes) [] else [])

-- the outcome of a store-conditional: with a link a variable of its own, without one 0
abbrev pub outcome_shape : Pos → Option ℕ → Shape
outcome_shape p (Some link) = Var 1 (step_number p.thread p.step)
outcome_shape p None = Const 1 0

-- The guard of an access: the outcome of a store-conditional, 0 of an access that writes nothing, 1 of every other.
abbrev pub guard_shape : Instr → Note → Pos → Option ℕ → Shape
guard_shape (instr.StoreConditional rd rs1 rs2 aq rl) shown p link = outcome_shape p link
guard_shape (instr.Store op rs1 rs2 offset) shown p link = Const 1 1
guard_shape (instr.Amo op rd rs1 rs2 aq rl) shown p link = Const 1 1
guard_shape instr.Ecall (note.Called (call.Read want bytes)) p link = Const 1 1
guard_shape other shown p link = Const 1 0

-- only a store-conditional looks back
abbrev pub link_of : Instr → Option ℕ → Option ℕ
link_of (instr.StoreConditional rd rs1 rs2 aq rl) link = link
link_of other link = None

-- how many bytes an access of an instruction reads, and how many it may write
abbrev pub read_size : Instr → Note → ℕ
read_size (instr.Load op rd rs1 offset) shown = load_size op
read_size (instr.LoadReserved rd rs1 aq rl) shown = 4
read_size (instr.Amo op rd rs1 rs2 aq rl) shown = 4
read_size instr.Ecall (note.Called (call.Write bytes)) = length bytes
read_size other shown = 0

abbrev pub write_size : Instr → Note → ℕ
write_size (instr.Store op rs1 rs2 offset) shown = store_size op
write_size (instr.StoreConditional rd rs1 rs2 aq rl) shown = 4
write_size (instr.Amo op rd rs1 rs2 aq rl) shown = 4
write_size instr.Ecall (note.Called (call.Read want bytes)) = length bytes
write_size other shown = 0

-- An access of this step: what it reads are variables of its own, one for each byte, and an address has only variables that
-- the registers had before.
pub record IsOwn (p : Pos) (instruction : Instr) (shown : Note) (known : Option ℕ)
    (old new : List Shape) (before : List TermId) (access : Access) : Type 0 where
  pub pos : access.pos ≡ p
  pub link : access.link ≡ link_of instruction known
  pub address : IsTerm new 32 access.address.number
  pub address_from : HasVariables (OccursInRegisters old before) new access.address.number
  pub guard : slice_get new access.guard.number ≡ Some (guard_shape instruction shown p known)
  pub guard_bit : IsTerm new 1 access.guard.number
  pub guard_from : HasVariables (IsOf access) new access.guard.number
  pub read_many : length access.reads ≡ read_size instruction shown
  pub reads : AreVariables new p access.reads
  pub write_many : length access.writes ≡ write_size instruction shown
  pub writes : AreBytes new access.writes
  pub writes_from : All (λ (id : TermId). HasVariables (OfRegistersOr old before (Some access)) new id.number) access.writes

-- ---- a step

-- A step of a thread at an address, of which this is recorded, where a join hands on this value. The constraint is met
-- exactly where the step shows what is recorded, and has no variable but those of the registers and of the access; then the
-- terms stand for the thread after it, and its access is what it did. The registers after it have variables of this kind alone.
pub record IsStepWith (joined : Assignment → ℕ) (known : ℕ → ℕ → Type 0) (image : Layout) (p : Pos) (pc : ℕ) (instruction : Instr)
    (shown : Note) (link : Option ℕ) (old new : List Shape) (before after : List TermId) (stepped : Stepped) : Type 0 where
  pub bit : IsTerm new 1 stepped.constraint.number
  pub constraint_from : HasVariables (OfRegistersOr old before stepped.access) new stepped.constraint.number
  pub meets : (w : Assignment) (seen : Seen) → StandsBefore w old before pc link seen
      → (value_at w new stepped.constraint.number ≡ 1) ↔ (note_in (outcome_by image w p instruction shown (joined w) seen) ≡ shown)
  pub stands : (w : Assignment) (seen : Seen) → StandsBefore w old before pc link seen
      → note_in (outcome_by image w p instruction shown (joined w) seen) ≡ shown
      → IfGoes (outcome_by image w p instruction shown (joined w) seen) (StandFor w new after)
  pub shows : (w : Assignment) (seen : Seen) → StandsBefore w old before pc link seen
      → note_in (outcome_by image w p instruction shown (joined w) seen) ≡ shown
      → IfSome stepped.access (λ (access : Access). Shows w new access instruction seen.local (outcome_by image w p instruction shown (joined w) seen))
  pub accesses : is_some stepped.access ≡ is_access instruction shown
  pub own : IfSome stepped.access (IsOwn p instruction shown link old new before)
  pub variables : RegistersHave known new after

-- the same whatever a join hands on, where no variable is new but the step's own
abbrev pub IsStep : Layout → Pos → (pc : ℕ) → Instr → Note → (link : Option ℕ) → (old new : List Shape) → (before after : List TermId) → Stepped → Type 0
IsStep image p pc instruction shown link old new before after stepped =
    (joined : Assignment → ℕ) → IsStepWith joined (OfRegistersOr old before stepped.access) image p pc instruction shown link old new before after stepped

-- a step of an instruction that asks neither its address nor a link: it shows nothing
abbrev pub IsPlainStep : Layout → Pos → Instr → (old new : List Shape) → (before after : List TermId) → Stepped → Type 0
IsPlainStep image p instruction old new before after stepped =
    (pc : ℕ) (link : Option ℕ) → IsStep image p pc instruction note.Nothing link old new before after stepped

-- The fault that ends a log: the constraint is met exactly where the step faults as it is recorded, and has no variable but
-- those of the registers.
pub record IsFault (image : Layout) (p : Pos) (pc : ℕ) (instruction : Instr) (shown : Note) (link : Option ℕ)
    (old new : List Shape) (before : List TermId) (id : ℕ) : Type 0 where
  pub bit : IsTerm new 1 id
  pub variables : HasVariables (OccursInRegisters old before) new id
  pub meets : (w : Assignment) (seen : Seen) (joined : ℕ) → StandsBefore w old before pc link seen
      → (value_at w new id ≡ 1) ↔ (note_in (outcome_by image w p instruction shown joined seen) ≡ shown)
