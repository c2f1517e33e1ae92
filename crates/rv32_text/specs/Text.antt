-- The text of an instruction.
use Rattle.std.specs.Prelude.{ℕ, ◌/◌, List, [], ◌∷◌, ◌++◌, codes, decimal}
use Rattle.std.specs.Fmt.{signed_decimal}
use Rattle.rv32_decode.specs.declared.instr.Instr.{Instr}
use Rattle.rv32_decode.specs.declared.instr.Instr.TheVariants.{Lui, Auipc, Jal, Jalr, Branch, Load, Store, Imm, Op, Fence, Ecall, Ebreak, LoadReserved, StoreConditional, Amo}
use Rattle.rv32_asm.specs.Names.{branch_name_of, load_name_of, store_name_of, immediate_name_of, register_operation_name_of, amo_name_of, order_of}

-- x and the register's number
abbrev pub register : ℕ → List ℕ
register number = codes "x" ++ decimal number

-- the register of an address
abbrev pub base : ℕ → List ℕ
base number = codes "(" ++ (register number ++ codes ")")

abbrev pub separated : List (List ℕ) → List ℕ
separated [] = []
separated (operand ∷ []) = operand
separated (operand ∷ other ∷ others) = operand ++ (codes ", " ++ separated (other ∷ others))

-- a name, and the operands with commas between them
abbrev pub written : List ℕ → List (List ℕ) → List ℕ
written name operands = name ++ (codes " " ++ separated operands)

-- the same of an atomic operation, with what stands behind its name
abbrev pub ordered : List ℕ → List ℕ → List (List ℕ) → List ℕ
ordered name order operands = name ++ (order ++ (codes " " ++ separated operands))

abbrev pub instr_text_of : Instr → List ℕ
instr_text_of (Lui rd imm) = written (codes "lui") (register rd ∷ decimal (imm / 4096) ∷ [])
instr_text_of (Auipc rd imm) = written (codes "auipc") (register rd ∷ decimal (imm / 4096) ∷ [])
instr_text_of (Jal rd offset) = written (codes "jal") (register rd ∷ signed_decimal offset ∷ [])
instr_text_of (Jalr rd rs1 offset) = written (codes "jalr") (register rd ∷ (signed_decimal offset ++ base rs1) ∷ [])
instr_text_of (Branch op rs1 rs2 offset) = written (branch_name_of op) (register rs1 ∷ register rs2 ∷ signed_decimal offset ∷ [])
instr_text_of (Load op rd rs1 offset) = written (load_name_of op) (register rd ∷ (signed_decimal offset ++ base rs1) ∷ [])
instr_text_of (Store op rs1 rs2 offset) = written (store_name_of op) (register rs2 ∷ (signed_decimal offset ++ base rs1) ∷ [])
instr_text_of (Imm op rd rs1 imm) = written (immediate_name_of op) (register rd ∷ register rs1 ∷ signed_decimal imm ∷ [])
instr_text_of (Op op rd rs1 rs2) = written (register_operation_name_of op) (register rd ∷ register rs1 ∷ register rs2 ∷ [])
instr_text_of (Fence rd rs1 imm) = written (codes "fence") (register rd ∷ register rs1 ∷ decimal imm ∷ [])
instr_text_of Ecall = codes "ecall"
instr_text_of Ebreak = codes "ebreak"
instr_text_of (LoadReserved rd rs1 aq rl) = ordered (codes "lr.w") (order_of aq rl) (register rd ∷ base rs1 ∷ [])
instr_text_of (StoreConditional rd rs1 rs2 aq rl) = ordered (codes "sc.w") (order_of aq rl) (register rd ∷ register rs2 ∷ base rs1 ∷ [])
instr_text_of (Amo op rd rs1 rs2 aq rl) = ordered (amo_name_of op) (order_of aq rl) (register rd ∷ register rs2 ∷ base rs1 ∷ [])
