-- The names of operations and registers in assembly text (RISC-V unprivileged ISA, "RISC-V Assembly Programmer's
-- Handbook").
use Rattle.std.specs.Prelude.{ℕ, Bool, true, false, List, [], ◌∷◌, codes, Option, Some, None, find, position, bytes_eq, nat_eq, is_some, if◌then◌else◌}
use Rattle.std.specs.List.{starts_with}
use Rattle.rv32_decode.specs.declared.instr.BranchOp.{BranchOp}
use Rattle.rv32_decode.specs.declared.instr.BranchOp.TheVariants as branch
use Rattle.rv32_decode.specs.declared.instr.LoadOp.{LoadOp}
use Rattle.rv32_decode.specs.declared.instr.LoadOp.TheVariants as load
use Rattle.rv32_decode.specs.declared.instr.StoreOp.{StoreOp}
use Rattle.rv32_decode.specs.declared.instr.StoreOp.TheVariants as store
use Rattle.rv32_decode.specs.declared.instr.ImmOp.{ImmOp}
use Rattle.rv32_decode.specs.declared.instr.ImmOp.TheVariants as imm
use Rattle.rv32_decode.specs.declared.instr.AluOp.{AluOp}
use Rattle.rv32_decode.specs.declared.instr.AluOp.TheVariants as alu
use Rattle.rv32_decode.specs.declared.instr.AmoOp.{AmoOp}
use Rattle.rv32_decode.specs.declared.instr.AmoOp.TheVariants as amo
use Rattle.rv32_asm.specs.declared.mnemonic.Mnemonic.{Mnemonic}
use Rattle.rv32_asm.specs.declared.mnemonic.Mnemonic.TheVariants as mnemonic
use Rattle.rv32_asm.specs.declared.mnemonic.Atomic.{Atomic}
use Rattle.rv32_asm.specs.declared.mnemonic.Atomic.TheVariants as atomic

abbrev pub branch_name_of : BranchOp → List ℕ
branch_name_of branch.Beq = codes "beq"
branch_name_of branch.Bne = codes "bne"
branch_name_of branch.Blt = codes "blt"
branch_name_of branch.Bge = codes "bge"
branch_name_of branch.Bltu = codes "bltu"
branch_name_of branch.Bgeu = codes "bgeu"

abbrev pub load_name_of : LoadOp → List ℕ
load_name_of load.Lb = codes "lb"
load_name_of load.Lh = codes "lh"
load_name_of load.Lw = codes "lw"
load_name_of load.Lbu = codes "lbu"
load_name_of load.Lhu = codes "lhu"

abbrev pub store_name_of : StoreOp → List ℕ
store_name_of store.Sb = codes "sb"
store_name_of store.Sh = codes "sh"
store_name_of store.Sw = codes "sw"

abbrev pub immediate_name_of : ImmOp → List ℕ
immediate_name_of imm.Addi = codes "addi"
immediate_name_of imm.Slti = codes "slti"
immediate_name_of imm.Sltiu = codes "sltiu"
immediate_name_of imm.Xori = codes "xori"
immediate_name_of imm.Ori = codes "ori"
immediate_name_of imm.Andi = codes "andi"
immediate_name_of imm.Slli = codes "slli"
immediate_name_of imm.Srli = codes "srli"
immediate_name_of imm.Srai = codes "srai"

abbrev pub register_operation_name_of : AluOp → List ℕ
register_operation_name_of alu.Add = codes "add"
register_operation_name_of alu.Sll = codes "sll"
register_operation_name_of alu.Slt = codes "slt"
register_operation_name_of alu.Sltu = codes "sltu"
register_operation_name_of alu.Xor = codes "xor"
register_operation_name_of alu.Srl = codes "srl"
register_operation_name_of alu.Or = codes "or"
register_operation_name_of alu.And = codes "and"
register_operation_name_of alu.Sub = codes "sub"
register_operation_name_of alu.Sra = codes "sra"
register_operation_name_of alu.Mul = codes "mul"
register_operation_name_of alu.Mulh = codes "mulh"
register_operation_name_of alu.Mulhsu = codes "mulhsu"
register_operation_name_of alu.Mulhu = codes "mulhu"
register_operation_name_of alu.Div = codes "div"
register_operation_name_of alu.Divu = codes "divu"
register_operation_name_of alu.Rem = codes "rem"
register_operation_name_of alu.Remu = codes "remu"

abbrev pub amo_name_of : AmoOp → List ℕ
amo_name_of amo.Swap = codes "amoswap.w"
amo_name_of amo.Add = codes "amoadd.w"
amo_name_of amo.Xor = codes "amoxor.w"
amo_name_of amo.And = codes "amoand.w"
amo_name_of amo.Or = codes "amoor.w"
amo_name_of amo.Min = codes "amomin.w"
amo_name_of amo.Max = codes "amomax.w"
amo_name_of amo.Minu = codes "amominu.w"
amo_name_of amo.Maxu = codes "amomaxu.w"

-- what stands behind an atomic operation's name: its bits aq and rl
abbrev pub order_of : Bool → Bool → List ℕ
order_of false false = []
order_of true false = codes ".aq"
order_of false true = codes ".rl"
order_of true true = codes ".aqrl"

abbrev pub name_of : Mnemonic → List ℕ
name_of mnemonic.Lui = codes "lui"
name_of mnemonic.Auipc = codes "auipc"
name_of mnemonic.Jal = codes "jal"
name_of mnemonic.Jalr = codes "jalr"
name_of (mnemonic.Branch op) = branch_name_of op
name_of (mnemonic.Load op) = load_name_of op
name_of (mnemonic.Store op) = store_name_of op
name_of (mnemonic.Immediate op) = immediate_name_of op
name_of (mnemonic.Register op) = register_operation_name_of op
name_of mnemonic.Fence = codes "fence"
name_of mnemonic.Ecall = codes "ecall"
name_of mnemonic.Ebreak = codes "ebreak"
name_of mnemonic.LoadImmediate = codes "li"
name_of mnemonic.Jump = codes "j"
name_of mnemonic.LoadAddress = codes "la"

-- every mnemonic
abbrev pub mnemonics : List Mnemonic
mnemonics =
    mnemonic.Lui ∷ mnemonic.Auipc ∷ mnemonic.Jal ∷ mnemonic.Jalr ∷
    mnemonic.Branch branch.Beq ∷ mnemonic.Branch branch.Bne ∷ mnemonic.Branch branch.Blt ∷
    mnemonic.Branch branch.Bge ∷ mnemonic.Branch branch.Bltu ∷ mnemonic.Branch branch.Bgeu ∷
    mnemonic.Load load.Lb ∷ mnemonic.Load load.Lh ∷ mnemonic.Load load.Lw ∷ mnemonic.Load load.Lbu ∷ mnemonic.Load load.Lhu ∷
    mnemonic.Store store.Sb ∷ mnemonic.Store store.Sh ∷ mnemonic.Store store.Sw ∷
    mnemonic.Immediate imm.Addi ∷ mnemonic.Immediate imm.Slti ∷ mnemonic.Immediate imm.Sltiu ∷
    mnemonic.Immediate imm.Xori ∷ mnemonic.Immediate imm.Ori ∷ mnemonic.Immediate imm.Andi ∷
    mnemonic.Immediate imm.Slli ∷ mnemonic.Immediate imm.Srli ∷ mnemonic.Immediate imm.Srai ∷
    mnemonic.Register alu.Add ∷ mnemonic.Register alu.Sll ∷ mnemonic.Register alu.Slt ∷ mnemonic.Register alu.Sltu ∷
    mnemonic.Register alu.Xor ∷ mnemonic.Register alu.Srl ∷ mnemonic.Register alu.Or ∷ mnemonic.Register alu.And ∷
    mnemonic.Register alu.Sub ∷ mnemonic.Register alu.Sra ∷
    mnemonic.Register alu.Mul ∷ mnemonic.Register alu.Mulh ∷ mnemonic.Register alu.Mulhsu ∷ mnemonic.Register alu.Mulhu ∷
    mnemonic.Register alu.Div ∷ mnemonic.Register alu.Divu ∷ mnemonic.Register alu.Rem ∷ mnemonic.Register alu.Remu ∷
    mnemonic.Fence ∷ mnemonic.Ecall ∷ mnemonic.Ebreak ∷
    mnemonic.LoadImmediate ∷ mnemonic.Jump ∷ mnemonic.LoadAddress ∷ []

-- the mnemonic that a word is
unfoldable pub mnemonic_of : List ℕ → Option Mnemonic
mnemonic_of word = find (λ m. bytes_eq (name_of m) word) mnemonics

abbrev pub atomic_name_of : Atomic → List ℕ
atomic_name_of atomic.LoadReserved = codes "lr.w"
atomic_name_of atomic.StoreConditional = codes "sc.w"
atomic_name_of (atomic.Amo op) = amo_name_of op

-- every atomic operation
abbrev pub atomics : List Atomic
atomics =
    atomic.LoadReserved ∷ atomic.StoreConditional ∷
    atomic.Amo amo.Swap ∷ atomic.Amo amo.Add ∷ atomic.Amo amo.Xor ∷ atomic.Amo amo.And ∷ atomic.Amo amo.Or ∷
    atomic.Amo amo.Min ∷ atomic.Amo amo.Max ∷ atomic.Amo amo.Minu ∷ atomic.Amo amo.Maxu ∷ []

-- the atomic operation whose name a word begins with; no such name begins another
unfoldable pub atomic_of : List ℕ → Option Atomic
atomic_of word = find (λ a. starts_with nat_eq word (atomic_name_of a)) atomics

-- the bits aq and rl that are written so behind the name
unfoldable pub bits_of : List ℕ → Option (Bool × Bool)
bits_of word =
    if bytes_eq word (order_of false false) then Some (false, false) else
    if bytes_eq word (order_of true false) then Some (true, false) else
    if bytes_eq word (order_of false true) then Some (false, true) else
    if bytes_eq word (order_of true true) then Some (true, true) else
    None

-- the names of registers 0 to 31, in order
abbrev pub numbered_names : List (List ℕ)
numbered_names =
    codes "x0" ∷ codes "x1" ∷ codes "x2" ∷ codes "x3" ∷ codes "x4" ∷ codes "x5" ∷ codes "x6" ∷ codes "x7" ∷
    codes "x8" ∷ codes "x9" ∷ codes "x10" ∷ codes "x11" ∷ codes "x12" ∷ codes "x13" ∷ codes "x14" ∷ codes "x15" ∷
    codes "x16" ∷ codes "x17" ∷ codes "x18" ∷ codes "x19" ∷ codes "x20" ∷ codes "x21" ∷ codes "x22" ∷ codes "x23" ∷
    codes "x24" ∷ codes "x25" ∷ codes "x26" ∷ codes "x27" ∷ codes "x28" ∷ codes "x29" ∷ codes "x30" ∷ codes "x31" ∷ []

abbrev pub calling_names : List (List ℕ)
calling_names =
    codes "zero" ∷ codes "ra" ∷ codes "sp" ∷ codes "gp" ∷ codes "tp" ∷ codes "t0" ∷ codes "t1" ∷ codes "t2" ∷
    codes "s0" ∷ codes "s1" ∷ codes "a0" ∷ codes "a1" ∷ codes "a2" ∷ codes "a3" ∷ codes "a4" ∷ codes "a5" ∷
    codes "a6" ∷ codes "a7" ∷ codes "s2" ∷ codes "s3" ∷ codes "s4" ∷ codes "s5" ∷ codes "s6" ∷ codes "s7" ∷
    codes "s8" ∷ codes "s9" ∷ codes "s10" ∷ codes "s11" ∷ codes "t3" ∷ codes "t4" ∷ codes "t5" ∷ codes "t6" ∷ []

-- the register of a name
unfoldable pub register_of : List ℕ → Option ℕ
register_of word =
    let numbered = position (λ name. bytes_eq name word) numbered_names in
    if is_some numbered then numbered else position (λ name. bytes_eq name word) calling_names
