-- How many bytes an access reads and writes.
use Rattle.std.specs.Prelude.{◌≡◌, ◌<◌}
use Rattle.std.proofs.Common.{refl, arith}
use Rattle.rv32_decode.specs.declared.instr.Instr.{Instr}
use Rattle.rv32_decode.specs.declared.instr.Instr.TheVariants as instr
use Rattle.odr_log.specs.declared.log.Call.TheVariants as call
use Rattle.rv_model.specs.declared.state.Note.{Note}
use Rattle.rv_model.specs.declared.state.Note.TheVariants as note
use Rattle.thread_terms.specs.Steps.{read_size, write_size}

-- an access that reads bytes and writes some has as many of the one as of the other
pub sizes : (instruction : Instr) (shown : Note) → 0 < read_size instruction shown → 0 < write_size instruction shown
    → read_size instruction shown ≡ write_size instruction shown
sizes (instr.Lui rd imm) shown reads writes = absurd (omega (arith, reads))
sizes (instr.Auipc rd imm) shown reads writes = absurd (omega (arith, reads))
sizes (instr.Jal rd offset) shown reads writes = absurd (omega (arith, reads))
sizes (instr.Jalr rd rs1 offset) shown reads writes = absurd (omega (arith, reads))
sizes (instr.Branch op rs1 rs2 offset) shown reads writes = absurd (omega (arith, reads))
sizes (instr.Load op rd rs1 offset) shown reads writes = absurd (omega (arith, writes))
sizes (instr.Store op rs1 rs2 offset) shown reads writes = absurd (omega (arith, reads))
sizes (instr.Imm op rd rs1 imm) shown reads writes = absurd (omega (arith, reads))
sizes (instr.Op op rd rs1 rs2) shown reads writes = absurd (omega (arith, reads))
sizes (instr.Fence rd rs1 imm) shown reads writes = absurd (omega (arith, reads))
sizes instr.Ebreak shown reads writes = absurd (omega (arith, reads))
sizes (instr.LoadReserved rd rs1 aq rl) shown reads writes = absurd (omega (arith, writes))
sizes (instr.StoreConditional rd rs1 rs2 aq rl) shown reads writes = absurd (omega (arith, reads))
sizes (instr.Amo op rd rs1 rs2 aq rl) shown reads writes = refl
sizes instr.Ecall note.Nothing reads writes = absurd (omega (arith, reads))
sizes instr.Ecall (note.Branch taken) reads writes = absurd (omega (arith, reads))
sizes instr.Ecall (note.Jump target) reads writes = absurd (omega (arith, reads))
sizes instr.Ecall (note.Faulted cause) reads writes = absurd (omega (arith, reads))
sizes instr.Ecall (note.Called (call.Exit code)) reads writes = absurd (omega (arith, reads))
sizes instr.Ecall (note.Called call.EndThread) reads writes = absurd (omega (arith, reads))
sizes instr.Ecall (note.Called (call.Spawn entry child)) reads writes = absurd (omega (arith, reads))
sizes instr.Ecall (note.Called (call.Join target ok)) reads writes = absurd (omega (arith, reads))
sizes instr.Ecall (note.Called (call.Lock mutex ok)) reads writes = absurd (omega (arith, reads))
sizes instr.Ecall (note.Called (call.Unlock mutex ok)) reads writes = absurd (omega (arith, reads))
sizes instr.Ecall (note.Called (call.TryLock mutex got)) reads writes = absurd (omega (arith, reads))
sizes instr.Ecall (note.Called (call.Write bytes)) reads writes = absurd (omega (arith, writes))
sizes instr.Ecall (note.Called (call.Read want bytes)) reads writes = absurd (omega (arith, reads))
sizes instr.Ecall (note.Called call.SelfId) reads writes = absurd (omega (arith, reads))
sizes instr.Ecall (note.Called call.Yield) reads writes = absurd (omega (arith, reads))
sizes instr.Ecall (note.Called call.WriteBad) reads writes = absurd (omega (arith, reads))
sizes instr.Ecall (note.Called call.ReadBad) reads writes = absurd (omega (arith, reads))
sizes instr.Ecall (note.Called (call.Unknown number)) reads writes = absurd (omega (arith, reads))
