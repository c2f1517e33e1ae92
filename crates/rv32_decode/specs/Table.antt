-- The instruction table of RV32I with the extensions M and A (RISC-V unprivileged ISA, "RV32/64G
-- Instruction Set Listings"): a word is the instruction whose row it fits.
use Rattle.std.specs.Prelude.{ℕ, ◌++◌, Bool, nat_eq, if◌then◌else◌, List, [], ◌∷◌, map, Option, Some, None, bit_and}
use Rattle.rv32_decode.specs.Fields.{rd_of, rs1_of, rs2_of, immediate_i, immediate_s, immediate_b, immediate_u, immediate_j, immediate_shift, immediate_fence, aq_of, rl_of}
use Rattle.rv32_decode.specs.declared.instr.BranchOp.{BranchOp}
use Rattle.rv32_decode.specs.declared.instr.BranchOp.TheVariants as branch
use Rattle.rv32_decode.specs.declared.instr.LoadOp.{LoadOp}
use Rattle.rv32_decode.specs.declared.instr.LoadOp.TheVariants as load
use Rattle.rv32_decode.specs.declared.instr.StoreOp.{StoreOp}
use Rattle.rv32_decode.specs.declared.instr.StoreOp.TheVariants as store
use Rattle.rv32_decode.specs.declared.instr.ImmOp.{ImmOp}
use Rattle.rv32_decode.specs.declared.instr.ImmOp.TheVariants as imm
use Rattle.rv32_decode.specs.declared.instr.AluOp.{AluOp}
use Rattle.rv32_decode.specs.declared.instr.AluOp.TheVariants as alu
use Rattle.rv32_decode.specs.declared.instr.AmoOp.{AmoOp}
use Rattle.rv32_decode.specs.declared.instr.AmoOp.TheVariants as amo
use Rattle.rv32_decode.specs.declared.instr.Instr.{Instr}
use Rattle.rv32_decode.specs.declared.instr.Instr.TheVariants.{Lui, Auipc, Jal, Jalr, Branch, Load, Store, Imm, Op, Fence, Ecall, Ebreak, LoadReserved, StoreConditional, Amo}

-- The bits that the mask selects are those of the match, and the other bits hold the fields.
pub record Row : Type 0 where
  pub mask : ℕ
  pub match : ℕ
  pub read : ℕ → Instr

abbrev pub row : ℕ → ℕ → (ℕ → Instr) → Row
row mask match read = record { mask = mask; match = match; read = read }

abbrev pub fits : Row → ℕ → Bool
fits r word = nat_eq (bit_and word r.mask) r.match

-- opcodes 0110111 and 0010111
abbrev pub upper_rows : List Row
upper_rows =
    row 0x0000007f 0x00000037 (λ w. Lui (rd_of w) (immediate_u w)) ∷
    row 0x0000007f 0x00000017 (λ w. Auipc (rd_of w) (immediate_u w)) ∷ []

-- opcodes 1101111 and 1100111
abbrev pub jump_rows : List Row
jump_rows =
    row 0x0000007f 0x0000006f (λ w. Jal (rd_of w) (immediate_j w)) ∷
    row 0x0000707f 0x00000067 (λ w. Jalr (rd_of w) (rs1_of w) (immediate_i w)) ∷ []

-- opcode 1100011, by funct3
abbrev pub branch_row : ℕ × BranchOp → Row
branch_row code = row 0x0000707f code.0 (λ w. Branch code.1 (rs1_of w) (rs2_of w) (immediate_b w))

abbrev pub branches : List (ℕ × BranchOp)
branches =
    (0x00000063, branch.Beq) ∷ (0x00001063, branch.Bne) ∷ (0x00004063, branch.Blt) ∷
    (0x00005063, branch.Bge) ∷ (0x00006063, branch.Bltu) ∷ (0x00007063, branch.Bgeu) ∷ []

-- opcode 0000011, by funct3
abbrev pub load_row : ℕ × LoadOp → Row
load_row code = row 0x0000707f code.0 (λ w. Load code.1 (rd_of w) (rs1_of w) (immediate_i w))

abbrev pub loads : List (ℕ × LoadOp)
loads =
    (0x00000003, load.Lb) ∷ (0x00001003, load.Lh) ∷ (0x00002003, load.Lw) ∷
    (0x00004003, load.Lbu) ∷ (0x00005003, load.Lhu) ∷ []

-- opcode 0100011, by funct3
abbrev pub store_row : ℕ × StoreOp → Row
store_row code = row 0x0000707f code.0 (λ w. Store code.1 (rs1_of w) (rs2_of w) (immediate_s w))

abbrev pub stores : List (ℕ × StoreOp)
stores = (0x00000023, store.Sb) ∷ (0x00001023, store.Sh) ∷ (0x00002023, store.Sw) ∷ []

-- opcode 0010011, by funct3
abbrev pub immediate_row : ℕ × ImmOp → Row
immediate_row code = row 0x0000707f code.0 (λ w. Imm code.1 (rd_of w) (rs1_of w) (immediate_i w))

abbrev pub immediates : List (ℕ × ImmOp)
immediates =
    (0x00000013, imm.Addi) ∷ (0x00002013, imm.Slti) ∷ (0x00003013, imm.Sltiu) ∷
    (0x00004013, imm.Xori) ∷ (0x00006013, imm.Ori) ∷ (0x00007013, imm.Andi) ∷ []

-- opcode 0010011, by funct7 and funct3: the amount stands where rs2 does
abbrev pub shift_row : ℕ × ImmOp → Row
shift_row code = row 0xfe00707f code.0 (λ w. Imm code.1 (rd_of w) (rs1_of w) (immediate_shift w))

abbrev pub shifts : List (ℕ × ImmOp)
shifts = (0x00001013, imm.Slli) ∷ (0x00005013, imm.Srli) ∷ (0x40005013, imm.Srai) ∷ []

-- opcode 0110011, by funct7 and funct3
abbrev pub register_row : ℕ × AluOp → Row
register_row code = row 0xfe00707f code.0 (λ w. Op code.1 (rd_of w) (rs1_of w) (rs2_of w))

abbrev pub register_codes : List (ℕ × AluOp)
register_codes =
    (0x00000033, alu.Add) ∷ (0x00001033, alu.Sll) ∷ (0x00002033, alu.Slt) ∷ (0x00003033, alu.Sltu) ∷
    (0x00004033, alu.Xor) ∷ (0x00005033, alu.Srl) ∷ (0x00006033, alu.Or) ∷ (0x00007033, alu.And) ∷
    (0x40000033, alu.Sub) ∷ (0x40005033, alu.Sra) ∷
    (0x02000033, alu.Mul) ∷ (0x02001033, alu.Mulh) ∷ (0x02002033, alu.Mulhsu) ∷ (0x02003033, alu.Mulhu) ∷
    (0x02004033, alu.Div) ∷ (0x02005033, alu.Divu) ∷ (0x02006033, alu.Rem) ∷ (0x02007033, alu.Remu) ∷ []

-- opcodes 0001111 and 1110011
abbrev pub system_rows : List Row
system_rows =
    row 0x0000707f 0x0000000f (λ w. Fence (rd_of w) (rs1_of w) (immediate_fence w)) ∷
    row 0xffffffff 0x00000073 (λ w. Ecall) ∷
    row 0xffffffff 0x00100073 (λ w. Ebreak) ∷ []

-- opcode 0101111 with funct3 010, by bits 31 to 27
abbrev pub amo_row : ℕ × AmoOp → Row
amo_row code = row 0xf800707f code.0 (λ w. Amo code.1 (rd_of w) (rs1_of w) (rs2_of w) (aq_of w) (rl_of w))

abbrev pub amos : List (ℕ × AmoOp)
amos =
    (0x0800202f, amo.Swap) ∷ (0x0000202f, amo.Add) ∷ (0x2000202f, amo.Xor) ∷
    (0x6000202f, amo.And) ∷ (0x4000202f, amo.Or) ∷ (0x8000202f, amo.Min) ∷
    (0xa000202f, amo.Max) ∷ (0xc000202f, amo.Minu) ∷ (0xe000202f, amo.Maxu) ∷ []

-- of the same opcode: LR.W has no rs2
abbrev pub reservation_rows : List Row
reservation_rows =
    row 0xf9f0707f 0x1000202f (λ w. LoadReserved (rd_of w) (rs1_of w) (aq_of w) (rl_of w)) ∷
    row 0xf800707f 0x1800202f (λ w. StoreConditional (rd_of w) (rs1_of w) (rs2_of w) (aq_of w) (rl_of w)) ∷ []

abbrev pub rows : List Row
rows =
    upper_rows ++ jump_rows ++ map branch_row branches ++ map load_row loads ++ map store_row stores ++
    map immediate_row immediates ++ map shift_row shifts ++ map register_row register_codes ++
    system_rows ++ map amo_row amos ++ reservation_rows

-- the instruction of the first of these rows that the word fits
abbrev pub decode_by : List Row → ℕ → Option Instr
decode_by [] word = None
decode_by (r ∷ rs) word = if fits r word then Some (r.read word) else decode_by rs word

-- the instruction of a word
unfoldable pub decode_of : ℕ → Option Instr
decode_of word = decode_by rows word

-- the operation that stands beside a match
abbrev pub op_at : {O : Type 0} → List (ℕ × O) → ℕ → Option O
op_at [] match = None
op_at (code ∷ codes) match = if nat_eq match code.0 then Some code.1 else op_at codes match
