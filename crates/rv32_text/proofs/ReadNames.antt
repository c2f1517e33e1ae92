-- The words that begin instructions are told apart.
use Rattle.std.proofs.Common.{◌≡◌, ℕ, ◌<◌, Bool, true, false, not, ◌&&◌, ◌||◌, List, ◌++◌, length, drop, Some, None, refl, lit<}
use Rattle.std.specs.Prelude.{codes, bytes_eq, ◌==◌, nat_lt}
use Rattle.std.specs.List.{list_all}
use Rattle.rv32_decode.specs.declared.instr.BranchOp.{BranchOp}
use Rattle.rv32_decode.specs.declared.instr.BranchOp.TheVariants as branch
use Rattle.rv32_decode.specs.declared.instr.LoadOp.{LoadOp}
use Rattle.rv32_decode.specs.declared.instr.LoadOp.TheVariants as load
use Rattle.rv32_decode.specs.declared.instr.StoreOp.{StoreOp}
use Rattle.rv32_decode.specs.declared.instr.StoreOp.TheVariants as store
use Rattle.rv32_decode.specs.declared.instr.ImmOp.{ImmOp}
use Rattle.rv32_decode.specs.declared.instr.ImmOp.TheVariants as imm
use Rattle.rv32_decode.specs.declared.instr.AluOp.{AluOp}
use Rattle.rv32_decode.specs.declared.instr.AluOp.TheVariants as alu
use Rattle.rv32_decode.specs.declared.instr.AmoOp.TheVariants as amo
use Rattle.rv32_asm.specs.declared.mnemonic.Mnemonic.{Mnemonic}
use Rattle.rv32_asm.specs.declared.mnemonic.Mnemonic.TheVariants as mnemonic
use Rattle.rv32_asm.specs.declared.mnemonic.Atomic.{Atomic}
use Rattle.rv32_asm.specs.declared.mnemonic.Atomic.TheVariants as atomic
use Rattle.rv32_asm.specs.Names.{branch_name_of, load_name_of, store_name_of, immediate_name_of, register_operation_name_of, order_of, atomic_name_of, mnemonic_of, atomic_of, bits_of}
use Rattle.rv32_asm.specs.Reading.{is_word}

-- a byte that ends no line and begins no comment
abbrev pub is_plain : ℕ → Bool
is_plain b = nat_lt b 128 && (not (b == 35) && not (b == 10))

-- the words that begin no instruction
abbrev pub is_directive : List ℕ → Bool
is_directive word =
    bytes_eq word (codes ".text") || (bytes_eq word (codes ".data") || (bytes_eq word (codes ".byte") ||
    (bytes_eq word (codes ".word") || bytes_eq word (codes ".zero"))))

-- a word that begins an instruction
pub record Begins (word : List ℕ) : Type 0 where
  pub some : 0 < length word
  pub bytes : list_all is_word word ≡ true
  pub plain : list_all is_plain word ≡ true
  pub undirected : is_directive word ≡ false

-- a mnemonic
pub record IsMnemonic (word : List ℕ) (m : Mnemonic) : Type 0 where
  pub begins : Begins word
  pub named : mnemonic_of word ≡ Some m

-- an atomic operation's name with its bits
pub record IsAtomic (word : List ℕ) (a : Atomic) (aq rl : Bool) : Type 0 where
  pub begins : Begins word
  pub other : mnemonic_of word ≡ None
  pub named : atomic_of word ≡ Some a
  pub bits : bits_of (drop (length (atomic_name_of a)) word) ≡ Some (aq, rl)

pub branch_begins : (op : BranchOp) → IsMnemonic (branch_name_of op) (mnemonic.Branch op)
unfolding mnemonic_of
branch_begins branch.Beq = record { begins = record { some = lit< tt; bytes = refl; plain = refl; undirected = refl }; named = refl }
branch_begins branch.Bne = record { begins = record { some = lit< tt; bytes = refl; plain = refl; undirected = refl }; named = refl }
branch_begins branch.Blt = record { begins = record { some = lit< tt; bytes = refl; plain = refl; undirected = refl }; named = refl }
branch_begins branch.Bge = record { begins = record { some = lit< tt; bytes = refl; plain = refl; undirected = refl }; named = refl }
branch_begins branch.Bltu = record { begins = record { some = lit< tt; bytes = refl; plain = refl; undirected = refl }; named = refl }
branch_begins branch.Bgeu = record { begins = record { some = lit< tt; bytes = refl; plain = refl; undirected = refl }; named = refl }

pub load_begins : (op : LoadOp) → IsMnemonic (load_name_of op) (mnemonic.Load op)
unfolding mnemonic_of
load_begins load.Lb = record { begins = record { some = lit< tt; bytes = refl; plain = refl; undirected = refl }; named = refl }
load_begins load.Lh = record { begins = record { some = lit< tt; bytes = refl; plain = refl; undirected = refl }; named = refl }
load_begins load.Lw = record { begins = record { some = lit< tt; bytes = refl; plain = refl; undirected = refl }; named = refl }
load_begins load.Lbu = record { begins = record { some = lit< tt; bytes = refl; plain = refl; undirected = refl }; named = refl }
load_begins load.Lhu = record { begins = record { some = lit< tt; bytes = refl; plain = refl; undirected = refl }; named = refl }

pub store_begins : (op : StoreOp) → IsMnemonic (store_name_of op) (mnemonic.Store op)
unfolding mnemonic_of
store_begins store.Sb = record { begins = record { some = lit< tt; bytes = refl; plain = refl; undirected = refl }; named = refl }
store_begins store.Sh = record { begins = record { some = lit< tt; bytes = refl; plain = refl; undirected = refl }; named = refl }
store_begins store.Sw = record { begins = record { some = lit< tt; bytes = refl; plain = refl; undirected = refl }; named = refl }

pub immediate_begins : (op : ImmOp) → IsMnemonic (immediate_name_of op) (mnemonic.Immediate op)
unfolding mnemonic_of
immediate_begins imm.Addi = record { begins = record { some = lit< tt; bytes = refl; plain = refl; undirected = refl }; named = refl }
immediate_begins imm.Slti = record { begins = record { some = lit< tt; bytes = refl; plain = refl; undirected = refl }; named = refl }
immediate_begins imm.Sltiu = record { begins = record { some = lit< tt; bytes = refl; plain = refl; undirected = refl }; named = refl }
immediate_begins imm.Xori = record { begins = record { some = lit< tt; bytes = refl; plain = refl; undirected = refl }; named = refl }
immediate_begins imm.Ori = record { begins = record { some = lit< tt; bytes = refl; plain = refl; undirected = refl }; named = refl }
immediate_begins imm.Andi = record { begins = record { some = lit< tt; bytes = refl; plain = refl; undirected = refl }; named = refl }
immediate_begins imm.Slli = record { begins = record { some = lit< tt; bytes = refl; plain = refl; undirected = refl }; named = refl }
immediate_begins imm.Srli = record { begins = record { some = lit< tt; bytes = refl; plain = refl; undirected = refl }; named = refl }
immediate_begins imm.Srai = record { begins = record { some = lit< tt; bytes = refl; plain = refl; undirected = refl }; named = refl }

pub operation_begins : (op : AluOp) → IsMnemonic (register_operation_name_of op) (mnemonic.Register op)
unfolding mnemonic_of
operation_begins alu.Add = record { begins = record { some = lit< tt; bytes = refl; plain = refl; undirected = refl }; named = refl }
operation_begins alu.Sll = record { begins = record { some = lit< tt; bytes = refl; plain = refl; undirected = refl }; named = refl }
operation_begins alu.Slt = record { begins = record { some = lit< tt; bytes = refl; plain = refl; undirected = refl }; named = refl }
operation_begins alu.Sltu = record { begins = record { some = lit< tt; bytes = refl; plain = refl; undirected = refl }; named = refl }
operation_begins alu.Xor = record { begins = record { some = lit< tt; bytes = refl; plain = refl; undirected = refl }; named = refl }
operation_begins alu.Srl = record { begins = record { some = lit< tt; bytes = refl; plain = refl; undirected = refl }; named = refl }
operation_begins alu.Or = record { begins = record { some = lit< tt; bytes = refl; plain = refl; undirected = refl }; named = refl }
operation_begins alu.And = record { begins = record { some = lit< tt; bytes = refl; plain = refl; undirected = refl }; named = refl }
operation_begins alu.Sub = record { begins = record { some = lit< tt; bytes = refl; plain = refl; undirected = refl }; named = refl }
operation_begins alu.Sra = record { begins = record { some = lit< tt; bytes = refl; plain = refl; undirected = refl }; named = refl }
operation_begins alu.Mul = record { begins = record { some = lit< tt; bytes = refl; plain = refl; undirected = refl }; named = refl }
operation_begins alu.Mulh = record { begins = record { some = lit< tt; bytes = refl; plain = refl; undirected = refl }; named = refl }
operation_begins alu.Mulhsu = record { begins = record { some = lit< tt; bytes = refl; plain = refl; undirected = refl }; named = refl }
operation_begins alu.Mulhu = record { begins = record { some = lit< tt; bytes = refl; plain = refl; undirected = refl }; named = refl }
operation_begins alu.Div = record { begins = record { some = lit< tt; bytes = refl; plain = refl; undirected = refl }; named = refl }
operation_begins alu.Divu = record { begins = record { some = lit< tt; bytes = refl; plain = refl; undirected = refl }; named = refl }
operation_begins alu.Rem = record { begins = record { some = lit< tt; bytes = refl; plain = refl; undirected = refl }; named = refl }
operation_begins alu.Remu = record { begins = record { some = lit< tt; bytes = refl; plain = refl; undirected = refl }; named = refl }

pub lui_begins : IsMnemonic (codes "lui") mnemonic.Lui
unfolding mnemonic_of
lui_begins = record { begins = record { some = lit< tt; bytes = refl; plain = refl; undirected = refl }; named = refl }

pub auipc_begins : IsMnemonic (codes "auipc") mnemonic.Auipc
unfolding mnemonic_of
auipc_begins = record { begins = record { some = lit< tt; bytes = refl; plain = refl; undirected = refl }; named = refl }

pub jal_begins : IsMnemonic (codes "jal") mnemonic.Jal
unfolding mnemonic_of
jal_begins = record { begins = record { some = lit< tt; bytes = refl; plain = refl; undirected = refl }; named = refl }

pub jalr_begins : IsMnemonic (codes "jalr") mnemonic.Jalr
unfolding mnemonic_of
jalr_begins = record { begins = record { some = lit< tt; bytes = refl; plain = refl; undirected = refl }; named = refl }

pub fence_begins : IsMnemonic (codes "fence") mnemonic.Fence
unfolding mnemonic_of
fence_begins = record { begins = record { some = lit< tt; bytes = refl; plain = refl; undirected = refl }; named = refl }

pub ecall_begins : IsMnemonic (codes "ecall") mnemonic.Ecall
unfolding mnemonic_of
ecall_begins = record { begins = record { some = lit< tt; bytes = refl; plain = refl; undirected = refl }; named = refl }

pub ebreak_begins : IsMnemonic (codes "ebreak") mnemonic.Ebreak
unfolding mnemonic_of
ebreak_begins = record { begins = record { some = lit< tt; bytes = refl; plain = refl; undirected = refl }; named = refl }

pub atomic_begins : (a : Atomic) (aq rl : Bool) → IsAtomic (atomic_name_of a ++ order_of aq rl) a aq rl
unfolding mnemonic_of atomic_of bits_of
atomic_begins atomic.LoadReserved false false = record { begins = record { some = lit< tt; bytes = refl; plain = refl; undirected = refl }; other = refl; named = refl; bits = refl }
atomic_begins atomic.LoadReserved false true = record { begins = record { some = lit< tt; bytes = refl; plain = refl; undirected = refl }; other = refl; named = refl; bits = refl }
atomic_begins atomic.LoadReserved true false = record { begins = record { some = lit< tt; bytes = refl; plain = refl; undirected = refl }; other = refl; named = refl; bits = refl }
atomic_begins atomic.LoadReserved true true = record { begins = record { some = lit< tt; bytes = refl; plain = refl; undirected = refl }; other = refl; named = refl; bits = refl }
atomic_begins atomic.StoreConditional false false = record { begins = record { some = lit< tt; bytes = refl; plain = refl; undirected = refl }; other = refl; named = refl; bits = refl }
atomic_begins atomic.StoreConditional false true = record { begins = record { some = lit< tt; bytes = refl; plain = refl; undirected = refl }; other = refl; named = refl; bits = refl }
atomic_begins atomic.StoreConditional true false = record { begins = record { some = lit< tt; bytes = refl; plain = refl; undirected = refl }; other = refl; named = refl; bits = refl }
atomic_begins atomic.StoreConditional true true = record { begins = record { some = lit< tt; bytes = refl; plain = refl; undirected = refl }; other = refl; named = refl; bits = refl }
atomic_begins (atomic.Amo amo.Swap) false false = record { begins = record { some = lit< tt; bytes = refl; plain = refl; undirected = refl }; other = refl; named = refl; bits = refl }
atomic_begins (atomic.Amo amo.Swap) false true = record { begins = record { some = lit< tt; bytes = refl; plain = refl; undirected = refl }; other = refl; named = refl; bits = refl }
atomic_begins (atomic.Amo amo.Swap) true false = record { begins = record { some = lit< tt; bytes = refl; plain = refl; undirected = refl }; other = refl; named = refl; bits = refl }
atomic_begins (atomic.Amo amo.Swap) true true = record { begins = record { some = lit< tt; bytes = refl; plain = refl; undirected = refl }; other = refl; named = refl; bits = refl }
atomic_begins (atomic.Amo amo.Add) false false = record { begins = record { some = lit< tt; bytes = refl; plain = refl; undirected = refl }; other = refl; named = refl; bits = refl }
atomic_begins (atomic.Amo amo.Add) false true = record { begins = record { some = lit< tt; bytes = refl; plain = refl; undirected = refl }; other = refl; named = refl; bits = refl }
atomic_begins (atomic.Amo amo.Add) true false = record { begins = record { some = lit< tt; bytes = refl; plain = refl; undirected = refl }; other = refl; named = refl; bits = refl }
atomic_begins (atomic.Amo amo.Add) true true = record { begins = record { some = lit< tt; bytes = refl; plain = refl; undirected = refl }; other = refl; named = refl; bits = refl }
atomic_begins (atomic.Amo amo.Xor) false false = record { begins = record { some = lit< tt; bytes = refl; plain = refl; undirected = refl }; other = refl; named = refl; bits = refl }
atomic_begins (atomic.Amo amo.Xor) false true = record { begins = record { some = lit< tt; bytes = refl; plain = refl; undirected = refl }; other = refl; named = refl; bits = refl }
atomic_begins (atomic.Amo amo.Xor) true false = record { begins = record { some = lit< tt; bytes = refl; plain = refl; undirected = refl }; other = refl; named = refl; bits = refl }
atomic_begins (atomic.Amo amo.Xor) true true = record { begins = record { some = lit< tt; bytes = refl; plain = refl; undirected = refl }; other = refl; named = refl; bits = refl }
atomic_begins (atomic.Amo amo.And) false false = record { begins = record { some = lit< tt; bytes = refl; plain = refl; undirected = refl }; other = refl; named = refl; bits = refl }
atomic_begins (atomic.Amo amo.And) false true = record { begins = record { some = lit< tt; bytes = refl; plain = refl; undirected = refl }; other = refl; named = refl; bits = refl }
atomic_begins (atomic.Amo amo.And) true false = record { begins = record { some = lit< tt; bytes = refl; plain = refl; undirected = refl }; other = refl; named = refl; bits = refl }
atomic_begins (atomic.Amo amo.And) true true = record { begins = record { some = lit< tt; bytes = refl; plain = refl; undirected = refl }; other = refl; named = refl; bits = refl }
atomic_begins (atomic.Amo amo.Or) false false = record { begins = record { some = lit< tt; bytes = refl; plain = refl; undirected = refl }; other = refl; named = refl; bits = refl }
atomic_begins (atomic.Amo amo.Or) false true = record { begins = record { some = lit< tt; bytes = refl; plain = refl; undirected = refl }; other = refl; named = refl; bits = refl }
atomic_begins (atomic.Amo amo.Or) true false = record { begins = record { some = lit< tt; bytes = refl; plain = refl; undirected = refl }; other = refl; named = refl; bits = refl }
atomic_begins (atomic.Amo amo.Or) true true = record { begins = record { some = lit< tt; bytes = refl; plain = refl; undirected = refl }; other = refl; named = refl; bits = refl }
atomic_begins (atomic.Amo amo.Min) false false = record { begins = record { some = lit< tt; bytes = refl; plain = refl; undirected = refl }; other = refl; named = refl; bits = refl }
atomic_begins (atomic.Amo amo.Min) false true = record { begins = record { some = lit< tt; bytes = refl; plain = refl; undirected = refl }; other = refl; named = refl; bits = refl }
atomic_begins (atomic.Amo amo.Min) true false = record { begins = record { some = lit< tt; bytes = refl; plain = refl; undirected = refl }; other = refl; named = refl; bits = refl }
atomic_begins (atomic.Amo amo.Min) true true = record { begins = record { some = lit< tt; bytes = refl; plain = refl; undirected = refl }; other = refl; named = refl; bits = refl }
atomic_begins (atomic.Amo amo.Max) false false = record { begins = record { some = lit< tt; bytes = refl; plain = refl; undirected = refl }; other = refl; named = refl; bits = refl }
atomic_begins (atomic.Amo amo.Max) false true = record { begins = record { some = lit< tt; bytes = refl; plain = refl; undirected = refl }; other = refl; named = refl; bits = refl }
atomic_begins (atomic.Amo amo.Max) true false = record { begins = record { some = lit< tt; bytes = refl; plain = refl; undirected = refl }; other = refl; named = refl; bits = refl }
atomic_begins (atomic.Amo amo.Max) true true = record { begins = record { some = lit< tt; bytes = refl; plain = refl; undirected = refl }; other = refl; named = refl; bits = refl }
atomic_begins (atomic.Amo amo.Minu) false false = record { begins = record { some = lit< tt; bytes = refl; plain = refl; undirected = refl }; other = refl; named = refl; bits = refl }
atomic_begins (atomic.Amo amo.Minu) false true = record { begins = record { some = lit< tt; bytes = refl; plain = refl; undirected = refl }; other = refl; named = refl; bits = refl }
atomic_begins (atomic.Amo amo.Minu) true false = record { begins = record { some = lit< tt; bytes = refl; plain = refl; undirected = refl }; other = refl; named = refl; bits = refl }
atomic_begins (atomic.Amo amo.Minu) true true = record { begins = record { some = lit< tt; bytes = refl; plain = refl; undirected = refl }; other = refl; named = refl; bits = refl }
atomic_begins (atomic.Amo amo.Maxu) false false = record { begins = record { some = lit< tt; bytes = refl; plain = refl; undirected = refl }; other = refl; named = refl; bits = refl }
atomic_begins (atomic.Amo amo.Maxu) false true = record { begins = record { some = lit< tt; bytes = refl; plain = refl; undirected = refl }; other = refl; named = refl; bits = refl }
atomic_begins (atomic.Amo amo.Maxu) true false = record { begins = record { some = lit< tt; bytes = refl; plain = refl; undirected = refl }; other = refl; named = refl; bits = refl }
atomic_begins (atomic.Amo amo.Maxu) true true = record { begins = record { some = lit< tt; bytes = refl; plain = refl; undirected = refl }; other = refl; named = refl; bits = refl }
