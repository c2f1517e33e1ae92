-- The guard of an access is 1, 0, or the outcome of a store-conditional that looks back.
use Rattle.std.specs.Prelude.{◌≡◌, ◌⊎◌, ℕ, Option, None, Some}
use Rattle.std.proofs.Common.{refl, inl, inr}
use Rattle.rv32_decode.specs.declared.instr.Instr.{Instr}
use Rattle.rv32_decode.specs.declared.instr.Instr.TheVariants as instr
use Rattle.odr_log.specs.declared.log.Call.TheVariants as call
use Rattle.odr_log.specs.declared.log.Pos.{Pos}
use Rattle.rv_model.specs.declared.state.Note.{Note}
use Rattle.rv_model.specs.declared.state.Note.TheVariants as note
use Rattle.bv_terms.specs.Shapes.{Shape, Const}
use Rattle.thread_terms.specs.Steps.{guard_shape}

abbrev pub GuardIs : Shape → Option ℕ → Type 0
GuardIs shape link = (shape ≡ Const 1 1) ⊎ ((shape ≡ Const 1 0) ⊎ ((lr : ℕ) × (link ≡ Some lr)))

pub guard_is : (instruction : Instr) (shown : Note) (p : Pos) (link : Option ℕ) → GuardIs (guard_shape instruction shown p link) link
guard_is (instr.StoreConditional rd rs1 rs2 aq rl) shown p None = inr (inl refl)
guard_is (instr.StoreConditional rd rs1 rs2 aq rl) shown p (Some lr) = inr (inr (lr, refl))
guard_is (instr.Store op rs1 rs2 offset) shown p link = inl refl
guard_is (instr.Amo op rd rs1 rs2 aq rl) shown p link = inl refl
guard_is (instr.Lui rd imm) shown p link = inr (inl refl)
guard_is (instr.Auipc rd imm) shown p link = inr (inl refl)
guard_is (instr.Jal rd offset) shown p link = inr (inl refl)
guard_is (instr.Jalr rd rs1 offset) shown p link = inr (inl refl)
guard_is (instr.Branch op rs1 rs2 offset) shown p link = inr (inl refl)
guard_is (instr.Load op rd rs1 offset) shown p link = inr (inl refl)
guard_is (instr.Imm op rd rs1 imm) shown p link = inr (inl refl)
guard_is (instr.Op op rd rs1 rs2) shown p link = inr (inl refl)
guard_is (instr.Fence rd rs1 imm) shown p link = inr (inl refl)
guard_is instr.Ebreak shown p link = inr (inl refl)
guard_is (instr.LoadReserved rd rs1 aq rl) shown p link = inr (inl refl)
guard_is instr.Ecall note.Nothing p link = inr (inl refl)
guard_is instr.Ecall (note.Branch taken) p link = inr (inl refl)
guard_is instr.Ecall (note.Jump target) p link = inr (inl refl)
guard_is instr.Ecall (note.Faulted cause) p link = inr (inl refl)
guard_is instr.Ecall (note.Called (call.Exit code)) p link = inr (inl refl)
guard_is instr.Ecall (note.Called call.EndThread) p link = inr (inl refl)
guard_is instr.Ecall (note.Called (call.Spawn entry child)) p link = inr (inl refl)
guard_is instr.Ecall (note.Called (call.Join target ok)) p link = inr (inl refl)
guard_is instr.Ecall (note.Called (call.Lock mutex ok)) p link = inr (inl refl)
guard_is instr.Ecall (note.Called (call.Unlock mutex ok)) p link = inr (inl refl)
guard_is instr.Ecall (note.Called (call.TryLock mutex got)) p link = inr (inl refl)
guard_is instr.Ecall (note.Called (call.Write bytes)) p link = inr (inl refl)
guard_is instr.Ecall (note.Called call.WriteBad) p link = inr (inl refl)
guard_is instr.Ecall (note.Called (call.Read want bytes)) p link = inl refl
guard_is instr.Ecall (note.Called call.ReadBad) p link = inr (inl refl)
guard_is instr.Ecall (note.Called call.SelfId) p link = inr (inl refl)
guard_is instr.Ecall (note.Called call.Yield) p link = inr (inl refl)
guard_is instr.Ecall (note.Called (call.Unknown number)) p link = inr (inl refl)
