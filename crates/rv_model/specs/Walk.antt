-- The walk of a log: where each thread was at each of its counted steps, by the branches, jumps and calls that the
-- log has, and where it faulted. Registers and memory are not asked.
use Rattle.std.specs.Prelude.{◌≡◌, ℕ, zero, suc, ◌+◌, ◌<◌, Bool, true, false, not, List, [], ◌∷◌, length, nat_eq, slice_index_or, Option, Some, None, Result, Ok, Err, All, AllPairs, if◌then◌else◌}
use Rattle.std.specs.List.{filter, find}
use Rattle.std.specs.Result.{result_ok}
use Rattle.elf_image.specs.Layout.{Layout}
use Rattle.rv32_decode.specs.declared.instr.Instr.{Instr}
use Rattle.rv32_decode.specs.declared.instr.Instr.TheVariants as instr
use Rattle.odr_log.specs.declared.log.Cause.{Cause}
use Rattle.odr_log.specs.declared.log.Cause.TheVariants as cause
use Rattle.odr_log.specs.declared.log.Call.{Call}
use Rattle.odr_log.specs.declared.log.Call.TheVariants as call
use Rattle.odr_log.specs.declared.log.CallRec.{CallRec}
use Rattle.odr_log.specs.declared.log.End.{End}
use Rattle.odr_log.specs.declared.log.End.TheVariants as end
use Rattle.odr_log.specs.declared.log.Log.{Log}
use Rattle.rv_model.specs.declared.state.Event.{Event}
use Rattle.rv_model.specs.declared.state.Note.{Note}
use Rattle.rv_model.specs.declared.state.Note.TheVariants as note
use Rattle.rv_model.specs.declared.walk.Place.{Place}
use Rattle.rv_model.specs.declared.walk.FaultPlace.{FaultPlace}
use Rattle.rv_model.specs.declared.walk.Transfer.{Transfer}
use Rattle.rv_model.specs.declared.walk.Transfer.TheVariants as transfer
use Rattle.rv_model.specs.Values.{plus_offset}
use Rattle.rv_model.specs.Thread.{word_after}
use Rattle.rv_model.specs.Instruction.{is_aligned}
use Rattle.rv_model.specs.Step.{instr_at}
use Rattle.rv_model.specs.Run.{path_of, records_of, logged}

-- the places of each thread with the note of each, and the place of the fault
pub record Walk : Type 0 where
  pub places : List (List Place)
  pub notes : List (List Note)
  pub fault : Option FaultPlace

abbrev pub places_of : Walk → ℕ → List Place
places_of walk thread = slice_index_or walk.places thread []

abbrev pub notes_of : Walk → ℕ → List Note
notes_of walk thread = slice_index_or walk.notes thread []

-- ---- one step

-- how control goes on after the instruction at an address
unfoldable pub transfer_of : ℕ → Instr → Transfer
transfer_of pc (instr.Jal rd offset) = transfer.Direct (plus_offset pc offset)
transfer_of pc (instr.Jalr rd rs1 offset) = transfer.Indirect
transfer_of pc (instr.Branch op rs1 rs2 offset) = transfer.Branch (plus_offset pc offset)
transfer_of pc instr.Ecall = transfer.Call
transfer_of pc instr.Ebreak = transfer.Breakpoint
transfer_of pc (instr.Lui rd imm) = transfer.Next
transfer_of pc (instr.Auipc rd imm) = transfer.Next
transfer_of pc (instr.Load op rd rs1 offset) = transfer.Next
transfer_of pc (instr.Store op rs1 rs2 offset) = transfer.Next
transfer_of pc (instr.Imm op rd rs1 imm) = transfer.Next
transfer_of pc (instr.Op op rd rs1 rs2) = transfer.Next
transfer_of pc (instr.Fence rd rs1 imm) = transfer.Next
transfer_of pc (instr.LoadReserved rd rs1 aq rl) = transfer.Next
transfer_of pc (instr.StoreConditional rd rs1 rs2 aq rl) = transfer.Next
transfer_of pc (instr.Amo op rd rs1 rs2 aq rl) = transfer.Next

-- a target, none where it is no multiple of four
abbrev pub aligned : ℕ → Option ℕ
aligned target = if is_aligned target then Some target else None

-- the address after an instruction that retired with a note, none where it can't have that note
abbrev pub goes_to : ℕ → Transfer → Note → Option ℕ
goes_to pc transfer.Next note.Nothing = Some (word_after pc)
goes_to pc (transfer.Direct target) note.Nothing = aligned target
goes_to pc transfer.Indirect (note.Jump target) = aligned target
goes_to pc (transfer.Branch target) (note.Branch true) = aligned target
goes_to pc (transfer.Branch target) (note.Branch false) = Some (word_after pc)
goes_to pc transfer.Call (note.Called made) = Some (word_after pc)
goes_to pc other shown = None

-- ---- one thread

-- places that lead from one address to another, with the note of each
abbrev pub Leads : Layout → ℕ → List Place → List Note → ℕ → Type 0
Leads image pc [] [] after = pc ≡ after
Leads image pc (place ∷ places) (shown ∷ notes) after =
    (place.pc ≡ pc) × (instr_at image pc ≡ Ok place.instr)
    × ((next : ℕ) × (goes_to pc (transfer_of pc place.instr) shown ≡ Some next) × Leads image next places notes after)
Leads image pc [] (shown ∷ notes) after = ⊥
Leads image pc (place ∷ places) [] after = ⊥

-- a thread's steps with these notes, from a step on
abbrev pub events_from : ℕ → ℕ → List Note → List Event
events_from thread step [] = []
events_from thread step (shown ∷ notes) = record { thread = thread; at = step; note = shown } ∷ events_from thread (step + 1) notes

-- an exit or the end of the thread, after which it has no step
abbrev pub is_last : Note → Bool
is_last (note.Called (call.Exit code)) = true
is_last (note.Called call.EndThread) = true
is_last other = false

abbrev pub records_by : ℕ → List CallRec → List CallRec
records_by thread records = filter (λ r. nat_eq r.tid thread) records

-- a spawn that made a thread
abbrev pub makes : ℕ → Call → Bool
makes thread (call.Spawn entry (Some child)) = nat_eq child thread
makes thread other = false

-- the first spawn that made a thread
abbrev pub maker_of : Log → ℕ → Option CallRec
maker_of log thread = find (λ r. makes thread r.call) log.calls

-- Thread 0 begins at the image's entry, every other thread at the entry of its first spawn.
abbrev pub BeginsAt : Layout → Log → ℕ → ℕ → Type 0
BeginsAt image log zero start = start ≡ image.entry
BeginsAt image log (suc before) start = (r : CallRec) × (maker_of log (suc before) ≡ Some r) × (r.call ≡ call.Spawn start (Some (suc before)))

-- the places and notes of a thread's counted steps: their branches, jumps and calls are all that the log has of the thread
pub record ThreadWalk (image : Layout) (log : Log) (thread : ℕ) (places : List Place) (notes : List Note) : Type 0 where
  pub start : ℕ
  pub after : ℕ
  pub begins : BeginsAt image log thread start
  pub leads : Leads image start places notes after
  pub steps : length places ≡ (logged log thread).steps
  pub path : path_of thread (events_from thread 0 notes) ≡ (logged log thread).path
  pub calls : records_of (events_from thread 0 notes) ≡ records_by thread log.calls
  pub ends : AllPairs (λ earlier later. is_last earlier ≡ false) notes

-- ---- a fault

-- a jump to a target that is no multiple of four, or that only a register tells
abbrev pub may_misalign : Transfer → Bool
may_misalign (transfer.Direct target) = not (is_aligned target)
may_misalign transfer.Indirect = true
may_misalign (transfer.Branch target) = not (is_aligned target)
may_misalign other = false

-- whether what is at an address may fault so
abbrev pub may_fault : Cause → ℕ → Result Instr Cause → Bool
may_fault cause.FetchFault pc (Err cause.FetchFault) = true
may_fault cause.Illegal pc (Err cause.Illegal) = true
may_fault cause.Breakpoint pc (Ok instr.Ebreak) = true
may_fault cause.Misaligned pc (Ok instruction) = may_misalign (transfer_of pc instruction)
may_fault cause.LoadFault pc (Ok (instr.Load op rd rs1 offset)) = true
may_fault cause.StoreFault pc (Ok (instr.Store op rs1 rs2 offset)) = true
may_fault cause.AmoFault pc (Ok (instr.LoadReserved rd rs1 aq rl)) = true
may_fault cause.AmoFault pc (Ok (instr.StoreConditional rd rs1 rs2 aq rl)) = true
may_fault cause.AmoFault pc (Ok (instr.Amo op rd rs1 rs2 aq rl)) = true
may_fault fault pc fetched = false

-- A thread that has neither ended nor exited faults at the place after its last.
pub record FaultsAt (image : Layout) (log : Log) (thread : ℕ) (fault : Cause) (places : List Place) (notes : List Note) (at : FaultPlace) : Type 0 where
  pub walk : ThreadWalk image log thread places notes
  pub live : All (λ shown. is_last shown ≡ false) notes
  pub pc : at.pc ≡ walk.after
  pub fits : may_fault fault at.pc (instr_at image at.pc) ≡ true
  pub instr : at.instr ≡ result_ok (instr_at image at.pc)

abbrev pub FaultFits : Layout → Log → Walk → End → Option FaultPlace → Type 0
FaultFits image log walk (end.Faulted thread fault) (Some at) =
    (thread < length log.threads) × FaultsAt image log thread fault (places_of walk thread) (notes_of walk thread) at
FaultFits image log walk (end.Faulted thread fault) None = ⊥
FaultFits image log walk (end.Exited thread code) at = at ≡ None
FaultFits image log walk end.AllDone at = at ≡ None
FaultFits image log walk end.Cut at = at ≡ None

-- ---- the whole

-- the walk of a log
pub record IsWalk (image : Layout) (log : Log) (walk : Walk) : Type 0 where
  pub places : length walk.places ≡ length log.threads
  pub notes : length walk.notes ≡ length log.threads
  pub each : (thread : ℕ) → thread < length log.threads → ThreadWalk image log thread (places_of walk thread) (notes_of walk thread)
  pub callers : All (λ r. r.tid < length log.threads) log.calls
  pub fault : FaultFits image log walk log.end walk.fault

-- the log's paths fit the image
abbrev pub PathsFit : Layout → Log → Type 0
PathsFit image log = (walk : Walk) × IsWalk image log walk
