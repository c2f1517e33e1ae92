-- What one instruction of one thread does, as a function of what it hears from outside the thread: what its access
-- meets, whether a store-conditional wins, what the calls' shared state replies. A run, a walk along a log and
-- symbolic terms differ only in where they hear it from.
use Rattle.std.specs.Prelude.{ℕ, ◌+◌, ◌*◌, ◌/◌, ◌%◌, ◌^◌, Bool, true, false, ◌&&◌, ◌||◌, List, [], nat_eq, Option, Some, None, unwrap_or, is_some, Result, Ok, Err, if◌then◌else◌}
use Rattle.elf_image.specs.declared.write.Write.{Write}
use Rattle.elf_image.specs.Memory.{writes_of, number_of, bytes_of}
use Rattle.rv32_decode.specs.declared.instr.Instr.{Instr}
use Rattle.rv32_decode.specs.declared.instr.Instr.TheVariants as instr
use Rattle.odr_log.specs.declared.log.Cause.{Cause}
use Rattle.odr_log.specs.declared.log.Cause.TheVariants as cause
use Rattle.odr_log.specs.declared.log.Call.{Call}
use Rattle.odr_log.specs.declared.log.Call.TheVariants as call
use Rattle.rv_model.specs.declared.state.Local.{Local}
use Rattle.rv_model.specs.declared.state.Note.{Note}
use Rattle.rv_model.specs.declared.hearing.Access.{Access}
use Rattle.rv_model.specs.declared.hearing.Reach.{Reach}
use Rattle.rv_model.specs.declared.hearing.Asked.{Asked}
use Rattle.rv_model.specs.declared.hearing.Heard.{Heard}
use Rattle.rv_model.specs.declared.hearing.Outcome.{Outcome}
use Rattle.rv_model.specs.declared.hearing.Outcome.TheVariants.{Faults, Goes}
use Rattle.rv_model.specs.declared.state.Note.TheVariants as note
use Rattle.rv_model.specs.Values.{plus_offset, alu_of, imm_of, taken_of, amo_of, load_size, store_size, extended}
use Rattle.rv_model.specs.Thread.{register, with_register, next_pc, onward, gone_to}
use Rattle.rv_model.specs.Calls.{kind_at, asked_of, record_of, answer_of, number_of_call, first_argument, second_argument, fits_buffer}

-- the bytes that an instruction accesses
abbrev pub no_access : Access
no_access = record { address = 0; count = 0 }

-- the buffer of a write or a read call that is not too long
abbrev pub buffer_of : Local → Access
buffer_of local =
    if (nat_eq (number_of_call local) 8 || nat_eq (number_of_call local) 9) && fits_buffer (second_argument local)
    then record { address = first_argument local; count = second_argument local } else no_access

unfoldable pub access_of : Local → Instr → Access
access_of local (instr.Load op rd rs1 offset) = record { address = plus_offset (register local rs1) offset; count = load_size op }
access_of local (instr.Store op rs1 rs2 offset) = record { address = plus_offset (register local rs1) offset; count = store_size op }
access_of local (instr.LoadReserved rd rs1 aq rl) = record { address = register local rs1; count = 4 }
access_of local (instr.StoreConditional rd rs1 rs2 aq rl) = record { address = register local rs1; count = 4 }
access_of local (instr.Amo op rd rs1 rs2 aq rl) = record { address = register local rs1; count = 4 }
access_of local instr.Ecall = buffer_of local
access_of local (instr.Lui rd imm) = no_access
access_of local (instr.Auipc rd imm) = no_access
access_of local (instr.Jal rd offset) = no_access
access_of local (instr.Jalr rd rs1 offset) = no_access
access_of local (instr.Branch op rs1 rs2 offset) = no_access
access_of local (instr.Imm op rd rs1 imm) = no_access
access_of local (instr.Op op rd rs1 rs2) = no_access
access_of local (instr.Fence rd rs1 imm) = no_access
access_of local instr.Ebreak = no_access

abbrev pub is_aligned : ℕ → Bool
is_aligned address = nat_eq (address % 4) 0

-- a word that LR, SC and AMO may use
abbrev pub may_amo : ℕ → Reach → Bool
may_amo address reach = is_aligned address && (is_some reach.bytes && reach.writable)

abbrev pub word_in : Reach → ℕ
word_in reach = number_of (unwrap_or reach.bytes [])

abbrev pub computes : Local → ℕ → ℕ → Outcome
computes local rd value = Goes (onward (with_register local rd value)) [] note.Nothing

abbrev pub jumps : Local → ℕ → ℕ → Note → Outcome
jumps local rd target shown = if is_aligned target then Goes (gone_to (with_register local rd (next_pc local)) target) [] shown else Faults cause.Misaligned

abbrev pub branches : Local → Bool → ℕ → Outcome
branches local taken target =
    if taken then (if is_aligned target then Goes (gone_to local target) [] (note.Branch true) else Faults cause.Misaligned)
    else Goes (onward local) [] (note.Branch false)

abbrev pub loads : Local → ℕ → (ℕ → ℕ) → Option (List ℕ) → Outcome
loads local rd extend None = Faults cause.LoadFault
loads local rd extend (Some bytes) = computes local rd (extend (number_of bytes))

abbrev pub stores : Local → ℕ → List ℕ → Bool → Outcome
stores local address bytes writable = if writable then Goes (onward local) (writes_of address bytes []) note.Nothing else Faults cause.StoreFault

-- LR, SC and AMO: a fault, or the value of rd with the bytes that are stored
abbrev pub atomically : Local → ℕ → ℕ → Reach → ℕ → List ℕ → Outcome
atomically local rd address reach value bytes =
    if may_amo address reach then Goes (onward (with_register local rd value)) (writes_of address bytes []) note.Nothing else Faults cause.AmoFault

-- the bytes that a read call puts into its buffer
abbrev pub call_writes : ℕ → Call → List Write
call_writes address (call.Read want bytes) = writes_of address bytes []
call_writes address (call.Exit code) = []
call_writes address call.EndThread = []
call_writes address (call.Spawn entry child) = []
call_writes address (call.Join target ok) = []
call_writes address (call.Lock mutex ok) = []
call_writes address (call.Unlock mutex ok) = []
call_writes address (call.TryLock mutex got) = []
call_writes address (call.Write bytes) = []
call_writes address call.WriteBad = []
call_writes address call.ReadBad = []
call_writes address call.SelfId = []
call_writes address call.Yield = []
call_writes address (call.Unknown number) = []

abbrev pub calls_out : Local → ℕ → ℕ → Call → Outcome
calls_out local thread joined made =
    Goes (onward (with_register local 10 (answer_of thread joined made (first_argument local)))) (call_writes (first_argument local) made) (note.Called made)

unfoldable pub act : Local → Instr → Heard → Outcome
act local (instr.Lui rd imm) heard = computes local rd imm
act local (instr.Auipc rd imm) heard = computes local rd ((local.pc + imm) % 2 ^ 32)
act local (instr.Jal rd offset) heard = jumps local rd (plus_offset local.pc offset) note.Nothing
act local (instr.Jalr rd rs1 offset) heard = let target : ℕ = plus_offset (register local rs1) offset / 2 * 2 in jumps local rd target (note.Jump target)
act local (instr.Branch op rs1 rs2 offset) heard = branches local (taken_of op (register local rs1) (register local rs2)) (plus_offset local.pc offset)
act local (instr.Load op rd rs1 offset) heard = loads local rd (extended op) heard.reach.bytes
act local (instr.Store op rs1 rs2 offset) heard = stores local (plus_offset (register local rs1) offset) (bytes_of (store_size op) (register local rs2)) heard.reach.writable
act local (instr.Imm op rd rs1 imm) heard = computes local rd (imm_of op (register local rs1) imm)
act local (instr.Op op rd rs1 rs2) heard = computes local rd (alu_of op (register local rs1) (register local rs2))
act local (instr.Fence rd rs1 imm) heard = Goes (onward local) [] note.Nothing
act local instr.Ecall heard = calls_out local heard.thread heard.joined (record_of (kind_at local heard.reach) heard.reply)
act local instr.Ebreak heard = Faults cause.Breakpoint
act local (instr.LoadReserved rd rs1 aq rl) heard = atomically local rd (register local rs1) heard.reach (word_in heard.reach) []
act local (instr.StoreConditional rd rs1 rs2 aq rl) heard =
    if heard.won then atomically local rd (register local rs1) heard.reach 0 (bytes_of 4 (register local rs2))
    else atomically local rd (register local rs1) heard.reach 1 []
act local (instr.Amo op rd rs1 rs2 aq rl) heard =
    atomically local rd (register local rs1) heard.reach (word_in heard.reach) (bytes_of 4 (amo_of op (word_in heard.reach) (register local rs2)))

-- the same where no instruction could be fetched or decoded
abbrev pub act_at : Local → Result Instr Cause → Heard → Outcome
act_at local (Err fault) heard = Faults fault
act_at local (Ok instruction) heard = act local instruction heard

abbrev pub access_at : Local → Result Instr Cause → Access
access_at local (Err fault) = no_access
access_at local (Ok instruction) = access_of local instruction

-- what a call asks of the shared state, none for another instruction
unfoldable pub asked_by : Local → Instr → Reach → Option Asked
asked_by local instr.Ecall reach = asked_of (kind_at local reach)
asked_by local (instr.Lui rd imm) reach = None
asked_by local (instr.Auipc rd imm) reach = None
asked_by local (instr.Jal rd offset) reach = None
asked_by local (instr.Jalr rd rs1 offset) reach = None
asked_by local (instr.Branch op rs1 rs2 offset) reach = None
asked_by local (instr.Load op rd rs1 offset) reach = None
asked_by local (instr.Store op rs1 rs2 offset) reach = None
asked_by local (instr.Imm op rd rs1 imm) reach = None
asked_by local (instr.Op op rd rs1 rs2) reach = None
asked_by local (instr.Fence rd rs1 imm) reach = None
asked_by local instr.Ebreak reach = None
asked_by local (instr.LoadReserved rd rs1 aq rl) reach = None
asked_by local (instr.StoreConditional rd rs1 rs2 aq rl) reach = None
asked_by local (instr.Amo op rd rs1 rs2 aq rl) reach = None

abbrev pub asked_at : Local → Result Instr Cause → Reach → Option Asked
asked_at local (Err fault) reach = None
asked_at local (Ok instruction) reach = asked_by local instruction reach

-- the address of a store-conditional
unfoldable pub conditional_of : Local → Instr → Option ℕ
conditional_of local (instr.StoreConditional rd rs1 rs2 aq rl) = Some (register local rs1)
conditional_of local (instr.Lui rd imm) = None
conditional_of local (instr.Auipc rd imm) = None
conditional_of local (instr.Jal rd offset) = None
conditional_of local (instr.Jalr rd rs1 offset) = None
conditional_of local (instr.Branch op rs1 rs2 offset) = None
conditional_of local (instr.Load op rd rs1 offset) = None
conditional_of local (instr.Store op rs1 rs2 offset) = None
conditional_of local (instr.Imm op rd rs1 imm) = None
conditional_of local (instr.Op op rd rs1 rs2) = None
conditional_of local (instr.Fence rd rs1 imm) = None
conditional_of local instr.Ecall = None
conditional_of local instr.Ebreak = None
conditional_of local (instr.LoadReserved rd rs1 aq rl) = None
conditional_of local (instr.Amo op rd rs1 rs2 aq rl) = None

abbrev pub conditional_at : Local → Result Instr Cause → Option ℕ
conditional_at local (Err fault) = None
conditional_at local (Ok instruction) = conditional_of local instruction

-- A store-conditional wins where the thread's reservation is its address.
abbrev pub wins : Option ℕ → Option ℕ → Bool
wins None reservation = false
wins (Some address) None = false
wins (Some address) (Some reserved) = nat_eq reserved address

-- the thread's own reservation after an instruction: LR makes one, every SC ends it
unfoldable pub reserving : Local → Instr → Option ℕ → Option ℕ
reserving local (instr.LoadReserved rd rs1 aq rl) reservation = Some (register local rs1)
reserving local (instr.StoreConditional rd rs1 rs2 aq rl) reservation = None
reserving local (instr.Lui rd imm) reservation = reservation
reserving local (instr.Auipc rd imm) reservation = reservation
reserving local (instr.Jal rd offset) reservation = reservation
reserving local (instr.Jalr rd rs1 offset) reservation = reservation
reserving local (instr.Branch op rs1 rs2 offset) reservation = reservation
reserving local (instr.Load op rd rs1 offset) reservation = reservation
reserving local (instr.Store op rs1 rs2 offset) reservation = reservation
reserving local (instr.Imm op rd rs1 imm) reservation = reservation
reserving local (instr.Op op rd rs1 rs2) reservation = reservation
reserving local (instr.Fence rd rs1 imm) reservation = reservation
reserving local instr.Ecall reservation = reservation
reserving local instr.Ebreak reservation = reservation
reserving local (instr.Amo op rd rs1 rs2 aq rl) reservation = reservation

abbrev pub reserving_at : Local → Result Instr Cause → Option ℕ → Option ℕ
reserving_at local (Err fault) reservation = reservation
reserving_at local (Ok instruction) reservation = reserving local instruction reservation

-- an instruction that neither accesses memory nor calls
abbrev pub IsAlone : Instr → Type 0
IsAlone (instr.Load op rd rs1 offset) = ⊥
IsAlone (instr.Store op rs1 rs2 offset) = ⊥
IsAlone (instr.LoadReserved rd rs1 aq rl) = ⊥
IsAlone (instr.StoreConditional rd rs1 rs2 aq rl) = ⊥
IsAlone (instr.Amo op rd rs1 rs2 aq rl) = ⊥
IsAlone instr.Ecall = ⊥
IsAlone other = Unit {0}

-- an instruction of the extension A
abbrev pub IsAtomic : Instr → Type 0
IsAtomic (instr.LoadReserved rd rs1 aq rl) = Unit {0}
IsAtomic (instr.StoreConditional rd rs1 rs2 aq rl) = Unit {0}
IsAtomic (instr.Amo op rd rs1 rs2 aq rl) = Unit {0}
IsAtomic other = ⊥

-- Whether an instruction uses the bytes that its access meets: a load, LR and AMO at a word that may be theirs, and a
-- write call that is not too long.
unfoldable pub reads_by : Local → Instr → Bool
reads_by local (instr.Load op rd rs1 offset) = true
reads_by local (instr.LoadReserved rd rs1 aq rl) = is_aligned (register local rs1)
reads_by local (instr.Amo op rd rs1 rs2 aq rl) = is_aligned (register local rs1)
reads_by local instr.Ecall = nat_eq (number_of_call local) 8 && fits_buffer (second_argument local)
reads_by local (instr.Lui rd imm) = false
reads_by local (instr.Auipc rd imm) = false
reads_by local (instr.Jal rd offset) = false
reads_by local (instr.Jalr rd rs1 offset) = false
reads_by local (instr.Branch op rs1 rs2 offset) = false
reads_by local (instr.Store op rs1 rs2 offset) = false
reads_by local (instr.Imm op rd rs1 imm) = false
reads_by local (instr.Op op rd rs1 rs2) = false
reads_by local (instr.Fence rd rs1 imm) = false
reads_by local instr.Ebreak = false
reads_by local (instr.StoreConditional rd rs1 rs2 aq rl) = false

abbrev pub reads_at : Local → Result Instr Cause → Bool
reads_at local (Err fault) = false
reads_at local (Ok instruction) = reads_by local instruction
