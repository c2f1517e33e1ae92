-- The operands of instructions. What an instruction with a name becomes is found once the names are known.
use Rattle.std.specs.Prelude.{ℕ, ◌*◌, ℤ, pos, negsuc, neg_ℤ, nat_abs, int_le, int_lt, int_rem, Bool, ◌&&◌, List, length, drop, Option, Some, None, if◌then◌else◌}
use Rattle.std.specs.Ordering.{int_eq}
use Rattle.rv32_decode.specs.declared.instr.BranchOp.{BranchOp}
use Rattle.rv32_decode.specs.declared.instr.LoadOp.{LoadOp}
use Rattle.rv32_decode.specs.declared.instr.StoreOp.{StoreOp}
use Rattle.rv32_decode.specs.declared.instr.AluOp.{AluOp}
use Rattle.rv32_decode.specs.declared.instr.ImmOp.{ImmOp}
use Rattle.rv32_decode.specs.declared.instr.ImmOp.TheVariants.{Addi}
use Rattle.rv32_decode.specs.declared.instr.Instr.{Instr}
use Rattle.rv32_decode.specs.declared.instr.Instr.TheVariants as instr
use Rattle.rv32_decode.specs.Valid.{is_shift}
use Rattle.rv32_asm.specs.declared.mnemonic.Mnemonic.{Mnemonic}
use Rattle.rv32_asm.specs.declared.mnemonic.Mnemonic.TheVariants as mnemonic
use Rattle.rv32_asm.specs.declared.mnemonic.Atomic.{Atomic}
use Rattle.rv32_asm.specs.declared.mnemonic.Atomic.TheVariants as atomic
use Rattle.rv32_asm.specs.Names.{mnemonic_of, atomic_of, atomic_name_of, bits_of}
use Rattle.rv32_asm.specs.Numbers.{number_of}
use Rattle.rv32_asm.specs.Reading.{◌>>=◌, word_at, mark_at, is_name, register_at, number_at, name_at}

-- An instruction as it stands in a text: whole, or with a name for the place that it goes to or whose address it
-- loads.
pub data Code : Type 0 where
  Whole : Instr → Code
  JumpTo : ℕ → List ℕ → Code
  BranchTo : BranchOp → ℕ → ℕ → List ℕ → Code
  AddressOf : ℕ → List ℕ → Code

-- a jump's or branch's target: so many bytes on, or a name
pub data Target : Type 0 where
  Offset : ℤ → Target
  Name : List ℕ → Target

-- an even offset from -reach to reach - 2
abbrev pub reaches : ℕ → ℤ → Bool
reaches reach z = int_le (neg_ℤ (pos reach)) z && int_lt z (pos reach) && int_eq (int_rem z (pos 2)) (pos 0)

abbrev pub jump_reach : ℕ
jump_reach = 1048576

abbrev pub branch_reach : ℕ
branch_reach = 4096

unfoldable pub target_at : ℕ → List ℕ → Option (Target × List ℕ)
target_at reach bytes = do
  word ← word_at bytes
  if is_name word.0 then Some (Name word.0, word.1) else do
    number ← number_of word.0
    if reaches reach number then Some (Offset number, word.1) else None

-- ---- operands behind a comma

abbrev pub comma : ℕ
comma = 44

unfoldable pub next_register_at : List ℕ → Option (ℕ × List ℕ)
next_register_at bytes = mark_at comma bytes >>= register_at

unfoldable pub next_number_at : ℤ → ℤ → List ℕ → Option (ℤ × List ℕ)
next_number_at low high bytes = mark_at comma bytes >>= number_at low high

unfoldable pub next_unsigned_at : ℕ → List ℕ → Option (ℕ × List ℕ)
next_unsigned_at most bytes = do
  number ← next_number_at (pos 0) (pos most) bytes
  Some (nat_abs number.0, number.1)

unfoldable pub next_target_at : ℕ → List ℕ → Option (Target × List ℕ)
next_target_at reach bytes = mark_at comma bytes >>= target_at reach

-- ---- several operands

unfoldable pub two_registers_at : List ℕ → Option ((ℕ × ℕ) × List ℕ)
two_registers_at bytes = do
  first ← register_at bytes
  second ← next_register_at first.1
  Some ((first.0, second.0), second.1)

-- a register in parentheses
unfoldable pub base_at : List ℕ → Option (ℕ × List ℕ)
base_at bytes = do
  opened ← mark_at 40 bytes
  base ← register_at opened
  closed ← mark_at 41 base.1
  Some (base.0, closed)

unfoldable pub next_base_at : List ℕ → Option (ℕ × List ℕ)
next_base_at bytes = mark_at comma bytes >>= base_at

-- a register, then an offset of twelve bits and a base
unfoldable pub indexed_at : List ℕ → Option ((ℕ × ℤ × ℕ) × List ℕ)
indexed_at bytes = do
  register ← register_at bytes
  offset ← next_number_at (negsuc 2047) (pos 2047) register.1
  base ← base_at offset.1
  Some ((register.0, offset.0, base.0), base.1)

-- a register, and a number that stands for the upper 20 bits
unfoldable pub upper_at : List ℕ → Option ((ℕ × ℕ) × List ℕ)
upper_at bytes = do
  rd ← register_at bytes
  number ← next_unsigned_at 1048575 rd.1
  Some ((rd.0, number.0 * 4096), number.1)

-- ---- the operands of each instruction

unfoldable pub lui_at : List ℕ → Option (Code × List ℕ)
lui_at bytes = do
  x ← upper_at bytes
  Some (Whole (instr.Lui (x.0).0 (x.0).1), x.1)

unfoldable pub auipc_at : List ℕ → Option (Code × List ℕ)
auipc_at bytes = do
  x ← upper_at bytes
  Some (Whole (instr.Auipc (x.0).0 (x.0).1), x.1)

abbrev pub jump_of : ℕ → Target → Code
jump_of rd (Offset offset) = Whole (instr.Jal rd offset)
jump_of rd (Name name) = JumpTo rd name

unfoldable pub jal_at : List ℕ → Option (Code × List ℕ)
jal_at bytes = do
  rd ← register_at bytes
  target ← next_target_at jump_reach rd.1
  Some (jump_of rd.0 target.0, target.1)

unfoldable pub jalr_at : List ℕ → Option (Code × List ℕ)
jalr_at bytes = do
  x ← indexed_at bytes
  Some (Whole (instr.Jalr (x.0).0 (x.0).2 (x.0).1), x.1)

abbrev pub branch_of : BranchOp → ℕ → ℕ → Target → Code
branch_of op rs1 rs2 (Offset offset) = Whole (instr.Branch op rs1 rs2 offset)
branch_of op rs1 rs2 (Name name) = BranchTo op rs1 rs2 name

unfoldable pub branch_at : BranchOp → List ℕ → Option (Code × List ℕ)
branch_at op bytes = do
  registers ← two_registers_at bytes
  target ← next_target_at branch_reach registers.1
  Some (branch_of op (registers.0).0 (registers.0).1 target.0, target.1)

unfoldable pub load_at : LoadOp → List ℕ → Option (Code × List ℕ)
load_at op bytes = do
  x ← indexed_at bytes
  Some (Whole (instr.Load op (x.0).0 (x.0).2 (x.0).1), x.1)

unfoldable pub store_at : StoreOp → List ℕ → Option (Code × List ℕ)
store_at op bytes = do
  x ← indexed_at bytes
  Some (Whole (instr.Store op (x.0).2 (x.0).0 (x.0).1), x.1)

-- a shift's amount is 0 to 31, another immediate has twelve bits
abbrev pub lowest : ImmOp → ℤ
lowest op = if is_shift op then pos 0 else negsuc 2047

abbrev pub highest : ImmOp → ℤ
highest op = if is_shift op then pos 31 else pos 2047

unfoldable pub immediate_at : ImmOp → List ℕ → Option (Code × List ℕ)
immediate_at op bytes = do
  registers ← two_registers_at bytes
  number ← next_number_at (lowest op) (highest op) registers.1
  Some (Whole (instr.Imm op (registers.0).0 (registers.0).1 number.0), number.1)

unfoldable pub operation_at : AluOp → List ℕ → Option (Code × List ℕ)
operation_at op bytes = do
  registers ← two_registers_at bytes
  rs2 ← next_register_at registers.1
  Some (Whole (instr.Op op (registers.0).0 (registers.0).1 rs2.0), rs2.1)

unfoldable pub fence_at : List ℕ → Option (Code × List ℕ)
fence_at bytes = do
  registers ← two_registers_at bytes
  number ← next_unsigned_at 4095 registers.1
  Some (Whole (instr.Fence (registers.0).0 (registers.0).1 number.0), number.1)

-- `li rd, N` adds N to register 0
unfoldable pub load_immediate_at : List ℕ → Option (Code × List ℕ)
load_immediate_at bytes = do
  rd ← register_at bytes
  number ← next_number_at (negsuc 2047) (pos 2047) rd.1
  Some (Whole (instr.Imm Addi rd.0 0 number.0), number.1)

-- `j name` writes its return address to register 0
unfoldable pub jump_at : List ℕ → Option (Code × List ℕ)
jump_at bytes = do
  name ← name_at bytes
  Some (JumpTo 0 name.0, name.1)

unfoldable pub load_address_at : List ℕ → Option (Code × List ℕ)
load_address_at bytes = do
  rd ← register_at bytes
  after ← mark_at comma rd.1
  name ← name_at after
  Some (AddressOf rd.0 name.0, name.1)

-- the operands behind a mnemonic
unfoldable pub operands_at : Mnemonic → List ℕ → Option (Code × List ℕ)
operands_at mnemonic.Lui bytes = lui_at bytes
operands_at mnemonic.Auipc bytes = auipc_at bytes
operands_at mnemonic.Jal bytes = jal_at bytes
operands_at mnemonic.Jalr bytes = jalr_at bytes
operands_at (mnemonic.Branch op) bytes = branch_at op bytes
operands_at (mnemonic.Load op) bytes = load_at op bytes
operands_at (mnemonic.Store op) bytes = store_at op bytes
operands_at (mnemonic.Immediate op) bytes = immediate_at op bytes
operands_at (mnemonic.Register op) bytes = operation_at op bytes
operands_at mnemonic.Fence bytes = fence_at bytes
operands_at mnemonic.Ecall bytes = Some (Whole instr.Ecall, bytes)
operands_at mnemonic.Ebreak bytes = Some (Whole instr.Ebreak, bytes)
operands_at mnemonic.LoadImmediate bytes = load_immediate_at bytes
operands_at mnemonic.Jump bytes = jump_at bytes
operands_at mnemonic.LoadAddress bytes = load_address_at bytes

unfoldable pub load_reserved_at : Bool → Bool → List ℕ → Option (Code × List ℕ)
load_reserved_at aq rl bytes = do
  rd ← register_at bytes
  base ← next_base_at rd.1
  Some (Whole (instr.LoadReserved rd.0 base.0 aq rl), base.1)

-- a register that is written, one that is stored, and a base
unfoldable pub exchange_at : List ℕ → Option ((ℕ × ℕ × ℕ) × List ℕ)
exchange_at bytes = do
  registers ← two_registers_at bytes
  base ← next_base_at registers.1
  Some (((registers.0).0, (registers.0).1, base.0), base.1)

-- the operands behind an atomic operation with its bits aq and rl
unfoldable pub atomic_operands_at : Atomic → Bool → Bool → List ℕ → Option (Code × List ℕ)
atomic_operands_at atomic.LoadReserved aq rl bytes = load_reserved_at aq rl bytes
atomic_operands_at atomic.StoreConditional aq rl bytes = do
  x ← exchange_at bytes
  Some (Whole (instr.StoreConditional (x.0).0 (x.0).2 (x.0).1 aq rl), x.1)
atomic_operands_at (atomic.Amo op) aq rl bytes = do
  x ← exchange_at bytes
  Some (Whole (instr.Amo op (x.0).0 (x.0).2 (x.0).1 aq rl), x.1)

unfoldable pub atomic_at : List ℕ → List ℕ → Option (Code × List ℕ)
atomic_at word bytes = do
  operation ← atomic_of word
  order ← bits_of (drop (length (atomic_name_of operation)) word)
  atomic_operands_at operation order.0 order.1 bytes

abbrev pub instruction_by : Option Mnemonic → List ℕ → List ℕ → Option (Code × List ℕ)
instruction_by (Some m) word bytes = operands_at m bytes
instruction_by None word bytes = atomic_at word bytes

-- the instruction that begins with this word
unfoldable pub instruction_at : List ℕ → List ℕ → Option (Code × List ℕ)
instruction_at word bytes = instruction_by (mnemonic_of word) word bytes
