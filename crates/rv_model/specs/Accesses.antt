-- The accesses of a walk: the counted steps that read or write memory.
use Rattle.std.specs.Prelude.{ℕ, ◌+◌, Bool, true, false, List, [], ◌∷◌, ◌++◌, if◌then◌else◌}
use Rattle.rv32_decode.specs.declared.instr.Instr.{Instr}
use Rattle.rv32_decode.specs.declared.instr.Instr.TheVariants as instr
use Rattle.odr_log.specs.declared.log.Call.TheVariants as call
use Rattle.odr_log.specs.declared.log.Pos.{Pos}
use Rattle.rv_model.specs.declared.state.Note.{Note}
use Rattle.rv_model.specs.declared.state.Note.TheVariants as note
use Rattle.rv_model.specs.declared.walk.Place.{Place}
use Rattle.rv_model.specs.Walk.{Walk}

-- a call that read or wrote at least one byte of memory
abbrev pub moves_bytes : Note → Bool
moves_bytes (note.Called (call.Write (byte ∷ bytes))) = true
moves_bytes (note.Called (call.Read want (byte ∷ bytes))) = true
moves_bytes other = false

-- a load, a store, LR, SC, AMO, or a call that moved bytes
abbrev pub is_access : Instr → Note → Bool
is_access (instr.Load op rd rs1 offset) shown = true
is_access (instr.Store op rs1 rs2 offset) shown = true
is_access (instr.LoadReserved rd rs1 aq rl) shown = true
is_access (instr.StoreConditional rd rs1 rs2 aq rl) shown = true
is_access (instr.Amo op rd rs1 rs2 aq rl) shown = true
is_access instr.Ecall shown = moves_bytes shown
is_access other shown = false

-- the accesses of a thread from a step on
abbrev pub accesses_from : ℕ → ℕ → List Place → List Note → List Pos
accesses_from thread step (place ∷ places) (shown ∷ notes) =
    if is_access place.instr shown then record { thread = thread; step = step } ∷ accesses_from thread (step + 1) places notes
    else accesses_from thread (step + 1) places notes
accesses_from thread step places notes = []

-- the accesses of all threads from one on
abbrev pub accesses_by : ℕ → List (List Place) → List (List Note) → List Pos
accesses_by thread (places ∷ more) (notes ∷ others) = accesses_from thread 0 places notes ++ accesses_by (thread + 1) more others
accesses_by thread places notes = []

-- the accesses of a walk, thread after thread
abbrev pub accesses_of : Walk → List Pos
accesses_of walk = accesses_by 0 walk.places walk.notes
