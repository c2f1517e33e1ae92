-- What only a store-conditional has: a link, and a guard that asks for it.
use Rattle.std.proofs.Common.{◌≡◌, ℕ, true, false, refl}
use Rattle.std.specs.Prelude.{Option, None}
use Rattle.rv32_decode.specs.declared.instr.Instr.{Instr}
use Rattle.rv32_decode.specs.declared.instr.Instr.TheVariants as instr
use Rattle.odr_log.specs.declared.log.Call.TheVariants as call
use Rattle.odr_log.specs.declared.log.Pos.{Pos}
use Rattle.rv_model.specs.declared.state.Note.{Note}
use Rattle.rv_model.specs.declared.state.Note.TheVariants as note
use Rattle.thread_terms.specs.Steps.{guard_shape, link_of}
use Rattle.path_exec.specs.Paths.{is_conditional}

pub guard_linked : (i : Instr) (shown : Note) (p : Pos) (known : Option ℕ) → guard_shape i shown p known ≡ guard_shape i shown p (link_of i known)
guard_linked (instr.StoreConditional rd rs1 rs2 aq rl) shown p known = refl
guard_linked (instr.LoadReserved rd rs1 aq rl) shown p known = refl
guard_linked (instr.Lui rd imm) shown p known = refl
guard_linked (instr.Auipc rd imm) shown p known = refl
guard_linked (instr.Jal rd offset) shown p known = refl
guard_linked (instr.Jalr rd rs1 offset) shown p known = refl
guard_linked (instr.Branch op rs1 rs2 offset) shown p known = refl
guard_linked (instr.Load op rd rs1 offset) shown p known = refl
guard_linked (instr.Store op rs1 rs2 offset) shown p known = refl
guard_linked (instr.Imm op rd rs1 imm) shown p known = refl
guard_linked (instr.Op op rd rs1 rs2) shown p known = refl
guard_linked (instr.Fence rd rs1 imm) shown p known = refl
guard_linked instr.Ebreak shown p known = refl
guard_linked (instr.Amo op rd rs1 rs2 aq rl) shown p known = refl
guard_linked instr.Ecall (note.Called (call.Exit code)) p known = refl
guard_linked instr.Ecall (note.Called call.EndThread) p known = refl
guard_linked instr.Ecall (note.Called (call.Spawn entry child)) p known = refl
guard_linked instr.Ecall (note.Called (call.Join target ok)) p known = refl
guard_linked instr.Ecall (note.Called (call.Lock mutex ok)) p known = refl
guard_linked instr.Ecall (note.Called (call.Unlock mutex ok)) p known = refl
guard_linked instr.Ecall (note.Called (call.TryLock mutex got)) p known = refl
guard_linked instr.Ecall (note.Called (call.Write bytes)) p known = refl
guard_linked instr.Ecall (note.Called call.WriteBad) p known = refl
guard_linked instr.Ecall (note.Called (call.Read want bytes)) p known = refl
guard_linked instr.Ecall (note.Called call.ReadBad) p known = refl
guard_linked instr.Ecall (note.Called call.SelfId) p known = refl
guard_linked instr.Ecall (note.Called call.Yield) p known = refl
guard_linked instr.Ecall (note.Called (call.Unknown number)) p known = refl
guard_linked instr.Ecall note.Nothing p known = refl
guard_linked instr.Ecall (note.Branch taken) p known = refl
guard_linked instr.Ecall (note.Jump target) p known = refl
guard_linked instr.Ecall (note.Faulted fault) p known = refl

pub linked_by_known : (i : Instr) (known : Option ℕ) → is_conditional i ≡ true → link_of i known ≡ known
linked_by_known (instr.StoreConditional rd rs1 rs2 aq rl) known e = refl
linked_by_known (instr.LoadReserved rd rs1 aq rl) known e = absurd (let h : false ≡ true = e in cc)
linked_by_known (instr.Lui rd imm) known e = absurd (let h : false ≡ true = e in cc)
linked_by_known (instr.Auipc rd imm) known e = absurd (let h : false ≡ true = e in cc)
linked_by_known (instr.Jal rd offset) known e = absurd (let h : false ≡ true = e in cc)
linked_by_known (instr.Jalr rd rs1 offset) known e = absurd (let h : false ≡ true = e in cc)
linked_by_known (instr.Branch op rs1 rs2 offset) known e = absurd (let h : false ≡ true = e in cc)
linked_by_known (instr.Load op rd rs1 offset) known e = absurd (let h : false ≡ true = e in cc)
linked_by_known (instr.Store op rs1 rs2 offset) known e = absurd (let h : false ≡ true = e in cc)
linked_by_known (instr.Imm op rd rs1 imm) known e = absurd (let h : false ≡ true = e in cc)
linked_by_known (instr.Op op rd rs1 rs2) known e = absurd (let h : false ≡ true = e in cc)
linked_by_known (instr.Fence rd rs1 imm) known e = absurd (let h : false ≡ true = e in cc)
linked_by_known instr.Ebreak known e = absurd (let h : false ≡ true = e in cc)
linked_by_known (instr.Amo op rd rs1 rs2 aq rl) known e = absurd (let h : false ≡ true = e in cc)
linked_by_known instr.Ecall known e = absurd (let h : false ≡ true = e in cc)

pub unlinked_by : (i : Instr) (known : Option ℕ) → is_conditional i ≡ false → link_of i known ≡ None
unlinked_by (instr.StoreConditional rd rs1 rs2 aq rl) known e = absurd (let h : true ≡ false = e in cc)
unlinked_by (instr.LoadReserved rd rs1 aq rl) known e = refl
unlinked_by (instr.Lui rd imm) known e = refl
unlinked_by (instr.Auipc rd imm) known e = refl
unlinked_by (instr.Jal rd offset) known e = refl
unlinked_by (instr.Jalr rd rs1 offset) known e = refl
unlinked_by (instr.Branch op rs1 rs2 offset) known e = refl
unlinked_by (instr.Load op rd rs1 offset) known e = refl
unlinked_by (instr.Store op rs1 rs2 offset) known e = refl
unlinked_by (instr.Imm op rd rs1 imm) known e = refl
unlinked_by (instr.Op op rd rs1 rs2) known e = refl
unlinked_by (instr.Fence rd rs1 imm) known e = refl
unlinked_by instr.Ebreak known e = refl
unlinked_by (instr.Amo op rd rs1 rs2 aq rl) known e = refl
unlinked_by instr.Ecall known e = refl
