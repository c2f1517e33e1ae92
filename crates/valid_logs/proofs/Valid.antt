-- What valid logs have.
use Rattle.std.specs.Prelude.{◌≡◌, ℕ, ◌<◌, ◌≤◌, ◌^◌, All, Contains, length}
use Rattle.std.proofs.Common.{sym, ap, subst, refl, inl, inr, arith}
use Rattle.std.proofs.lemmas.Bool.{cases_lt}
use Rattle.std.proofs.lemmas.List.{get_or_past}
use Rattle.std.proofs.lemmas.List.Elements.{All-contains}
use Rattle.std.proofs.lemmas.List.Sums.{get_or-le-sum_by}
use Rattle.odr_limits.specs.declared.TheConstants.{MOST_STEPS}
use Rattle.elf_image.specs.Layout.{Layout}
use Rattle.rv32_decode.specs.declared.instr.Instr.{Instr}
use Rattle.rv32_decode.specs.declared.instr.Instr.TheVariants as instr
use Rattle.rv32_decode.specs.declared.instr.LoadOp.{LoadOp}
use Rattle.rv32_decode.specs.declared.instr.LoadOp.TheVariants as load_op
use Rattle.rv32_decode.specs.declared.instr.StoreOp.{StoreOp}
use Rattle.rv32_decode.specs.declared.instr.StoreOp.TheVariants as store_op
use Rattle.odr_log.specs.Grammar.{IsCall, IsRecord, IsValid, steps_of}
use Rattle.odr_log.specs.Tape.{read_by}
use Rattle.odr_log.specs.declared.log.Call.{Call}
use Rattle.odr_log.specs.declared.log.Call.TheVariants as call
use Rattle.odr_log.specs.declared.log.CallRec.{CallRec}
use Rattle.odr_log.specs.declared.log.Log.{Log}
use Rattle.odr_log.specs.declared.log.Pos.{Pos}
use Rattle.odr_log.specs.declared.log.ThreadLog.{ThreadLog}
use Rattle.rv_model.specs.declared.state.Note.{Note}
use Rattle.rv_model.specs.declared.state.Note.TheVariants as note
use Rattle.rv_model.specs.Run.{logged, nothing_logged}
use Rattle.rv_model.specs.Values.{load_size, store_size}
use Rattle.rv_model.specs.Walk.{IsWalk, Walk}
use Rattle.guided_walk.specs.Told.{noted, told}
use Rattle.guided_walk.proofs.Facts.{place_called}
use Rattle.guided_walk.proofs.NeedsOrder.{among_contains}
use Rattle.thread_terms.specs.Steps.{read_size, write_size}
use Rattle.path_exec.specs.Paths.{instr_of_step}
use Rattle.valid_logs.specs.Laws.{ValidAccessesAreShort, ValidLogsHaveFewSteps, ValidLogsReadBytes}

bytes_of : (made : Call) → IsCall made → All (λ (byte : ℕ). byte < 2 ^ 8) (read_by made)
bytes_of (call.Read want bytes) is = is.1.1
bytes_of (call.Exit code) is = λ i d less. absurd (omega (arith, less))
bytes_of call.EndThread is = λ i d less. absurd (omega (arith, less))
bytes_of (call.Spawn entry child) is = λ i d less. absurd (omega (arith, less))
bytes_of (call.Join target ok) is = λ i d less. absurd (omega (arith, less))
bytes_of (call.Lock mutex ok) is = λ i d less. absurd (omega (arith, less))
bytes_of (call.Unlock mutex ok) is = λ i d less. absurd (omega (arith, less))
bytes_of (call.TryLock mutex got) is = λ i d less. absurd (omega (arith, less))
bytes_of (call.Write bytes) is = λ i d less. absurd (omega (arith, less))
bytes_of call.SelfId is = λ i d less. absurd (omega (arith, less))
bytes_of call.Yield is = λ i d less. absurd (omega (arith, less))
bytes_of call.WriteBad is = λ i d less. absurd (omega (arith, less))
bytes_of call.ReadBad is = λ i d less. absurd (omega (arith, less))
bytes_of (call.Unknown number) is = λ i d less. absurd (omega (arith, less))

record_of : (log : Log) (r : CallRec) → IsValid log → Contains log.calls r → IsRecord (length log.threads) r
record_of log r valid has = All-contains (IsRecord (length log.threads)) log.calls r valid.grammar.calls has

pub reads_bytes : ValidLogsReadBytes
reads_bytes log valid r has = bytes_of r.call (record_of log r valid has).call

-- ---- steps

few_steps_of : (log : Log) (thread : ℕ) → (logged log thread).steps ≤ steps_of log
few_steps_of log thread = elim (cases_lt thread (length log.threads)) [
  | inl within ↦ get_or-le-sum_by (λ (t : ThreadLog). t.steps) log.threads thread nothing_logged within
  | inr past ↦ let none : (logged log thread).steps ≡ 0 = ap (λ (t : ThreadLog). t.steps) (get_or_past log.threads thread nothing_logged past) in omega (arith, none)
]

most : MOST_STEPS ≤ 250000
most = omega arith

pub few_steps : ValidLogsHaveFewSteps
few_steps log valid p counted = let few = few_steps_of log p.thread in let all = valid.steps in let limit = most in
    below p.step (logged log p.thread).steps (steps_of log) MOST_STEPS counted few all limit where
      below : (step steps sum most : ℕ) → step < steps → steps ≤ sum → sum ≤ most → most ≤ 250000 → step < 2 ^ 18
      below step steps sum most a b c d = omega (arith, a, b, c, d)

-- ---- bytes of accesses

-- what a step is recorded to have called, if anything, is a valid call
abbrev HasValidCall : Note → Type 0
HasValidCall shown = (made : Call) → shown ≡ note.Called made → IsCall made

load_few : (op : LoadOp) → load_size op < 2 ^ 16
load_few load_op.Lb = omega arith
load_few load_op.Lh = omega arith
load_few load_op.Lw = omega arith
load_few load_op.Lbu = omega arith
load_few load_op.Lhu = omega arith

store_few : (op : StoreOp) → store_size op < 2 ^ 16
store_few store_op.Sb = omega arith
store_few store_op.Sh = omega arith
store_few store_op.Sw = omega arith

call_reads_few : (made : Call) → IsCall made → read_size instr.Ecall (note.Called made) < 2 ^ 16
call_reads_few (call.Exit code) is = omega arith
call_reads_few call.EndThread is = omega arith
call_reads_few (call.Spawn entry child) is = omega arith
call_reads_few (call.Join target ok) is = omega arith
call_reads_few (call.Lock mutex ok) is = omega arith
call_reads_few (call.Unlock mutex ok) is = omega arith
call_reads_few (call.TryLock mutex got) is = omega arith
call_reads_few (call.Write bytes) is = is.0
call_reads_few (call.Read want bytes) is = omega arith
call_reads_few call.SelfId is = omega arith
call_reads_few call.Yield is = omega arith
call_reads_few call.WriteBad is = omega arith
call_reads_few call.ReadBad is = omega arith
call_reads_few (call.Unknown number) is = omega arith

ecall_reads_few : (shown : Note) → HasValidCall shown → read_size instr.Ecall shown < 2 ^ 16
ecall_reads_few note.Nothing valid = omega arith
ecall_reads_few (note.Branch taken) valid = omega arith
ecall_reads_few (note.Jump target) valid = omega arith
ecall_reads_few (note.Faulted cause) valid = omega arith
ecall_reads_few (note.Called made) valid = call_reads_few made (valid made refl)

reads_few : (instruction : Instr) (shown : Note) → HasValidCall shown → read_size instruction shown < 2 ^ 16
reads_few (instr.Lui rd imm) shown valid = omega arith
reads_few (instr.Auipc rd imm) shown valid = omega arith
reads_few (instr.Jal rd offset) shown valid = omega arith
reads_few (instr.Jalr rd rs1 offset) shown valid = omega arith
reads_few (instr.Branch op rs1 rs2 offset) shown valid = omega arith
reads_few (instr.Load op rd rs1 offset) shown valid = load_few op
reads_few (instr.Store op rs1 rs2 offset) shown valid = omega arith
reads_few (instr.Imm op rd rs1 imm) shown valid = omega arith
reads_few (instr.Op op rd rs1 rs2) shown valid = omega arith
reads_few (instr.Fence rd rs1 imm) shown valid = omega arith
reads_few instr.Ecall shown valid = ecall_reads_few shown valid
reads_few instr.Ebreak shown valid = omega arith
reads_few (instr.LoadReserved rd rs1 aq rl) shown valid = omega arith
reads_few (instr.StoreConditional rd rs1 rs2 aq rl) shown valid = omega arith
reads_few (instr.Amo op rd rs1 rs2 aq rl) shown valid = omega arith

call_writes_few : (made : Call) → IsCall made → write_size instr.Ecall (note.Called made) < 2 ^ 16
call_writes_few (call.Exit code) is = omega arith
call_writes_few call.EndThread is = omega arith
call_writes_few (call.Spawn entry child) is = omega arith
call_writes_few (call.Join target ok) is = omega arith
call_writes_few (call.Lock mutex ok) is = omega arith
call_writes_few (call.Unlock mutex ok) is = omega arith
call_writes_few (call.TryLock mutex got) is = omega arith
call_writes_few (call.Write bytes) is = omega arith
call_writes_few (call.Read want bytes) is = is.1.0
call_writes_few call.SelfId is = omega arith
call_writes_few call.Yield is = omega arith
call_writes_few call.WriteBad is = omega arith
call_writes_few call.ReadBad is = omega arith
call_writes_few (call.Unknown number) is = omega arith

ecall_writes_few : (shown : Note) → HasValidCall shown → write_size instr.Ecall shown < 2 ^ 16
ecall_writes_few note.Nothing valid = omega arith
ecall_writes_few (note.Branch taken) valid = omega arith
ecall_writes_few (note.Jump target) valid = omega arith
ecall_writes_few (note.Faulted cause) valid = omega arith
ecall_writes_few (note.Called made) valid = call_writes_few made (valid made refl)

writes_few : (instruction : Instr) (shown : Note) → HasValidCall shown → write_size instruction shown < 2 ^ 16
writes_few (instr.Lui rd imm) shown valid = omega arith
writes_few (instr.Auipc rd imm) shown valid = omega arith
writes_few (instr.Jal rd offset) shown valid = omega arith
writes_few (instr.Jalr rd rs1 offset) shown valid = omega arith
writes_few (instr.Branch op rs1 rs2 offset) shown valid = omega arith
writes_few (instr.Load op rd rs1 offset) shown valid = omega arith
writes_few (instr.Store op rs1 rs2 offset) shown valid = store_few op
writes_few (instr.Imm op rd rs1 imm) shown valid = omega arith
writes_few (instr.Op op rd rs1 rs2) shown valid = omega arith
writes_few (instr.Fence rd rs1 imm) shown valid = omega arith
writes_few instr.Ecall shown valid = ecall_writes_few shown valid
writes_few instr.Ebreak shown valid = omega arith
writes_few (instr.LoadReserved rd rs1 aq rl) shown valid = omega arith
writes_few (instr.StoreConditional rd rs1 rs2 aq rl) shown valid = omega arith
writes_few (instr.Amo op rd rs1 rs2 aq rl) shown valid = omega arith

call_there : (image : Layout) (log : Log) (walk : Walk) (p : Pos) → IsWalk image log walk → IsValid log → HasValidCall (noted (told log walk) p)
call_there image log walk p is_walk valid made shown =
    (record_of log (record { tid = p.thread; at = p.step; call = made }) valid
    (among_contains log.calls (record { tid = p.thread; at = p.step; call = made }) (place_called image log walk is_walk p made shown))).call

pub short : ValidAccessesAreShort
short image log walk nodes accesses access is_walk valid listed =
    let there : HasValidCall (noted (told log walk) access.pos) = call_there image log walk access.pos is_walk valid in record {
      reads = subst (λ (n : ℕ). n < 2 ^ 16) (sym listed.read_many) (reads_few (instr_of_step walk access.pos) (noted (told log walk) access.pos) there);
      writes = subst (λ (n : ℕ). n < 2 ^ 16) (sym listed.write_many) (writes_few (instr_of_step walk access.pos) (noted (told log walk) access.pos) there);
    }
