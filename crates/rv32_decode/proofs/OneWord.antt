-- No two words are one instruction.
use Rattle.std.proofs.Common.{◌≡◌, ℕ, zero, suc, ◌+◌, ◌*◌, ◌^◌, ◌<◌, Bool, true, not, nat_eq, ◌&&◌, bit_and, List, [], ◌∷◌, Option, Some, None, refl, ap, sym, ◌∙◌, subst, arith}
use Rattle.std.specs.Prelude.{OnSome, slice_get}
use Rattle.std.proofs.lemmas.Bool.{eqb-true, eq-eqb, and_parts, both_ways, not-true}
use Rattle.std.proofs.lemmas.Bool.Decides.{nat_tests}
use Rattle.std.proofs.lemmas.Int.{ints}
use Rattle.rv32_decode.specs.declared.instr.Instr.{Instr}
use Rattle.rv32_decode.specs.declared.instr.Instr.TheVariants.{Lui, Auipc, Jal, Jalr, Branch, Load, Store, Imm, Op, Fence, Ecall, Ebreak, LoadReserved, StoreConditional, Amo}
use Rattle.rv32_decode.specs.declared.instr.BranchOp.{BranchOp}
use Rattle.rv32_decode.specs.declared.instr.BranchOp.TheVariants as branch
use Rattle.rv32_decode.specs.declared.instr.LoadOp.{LoadOp}
use Rattle.rv32_decode.specs.declared.instr.LoadOp.TheVariants as load
use Rattle.rv32_decode.specs.declared.instr.StoreOp.{StoreOp}
use Rattle.rv32_decode.specs.declared.instr.StoreOp.TheVariants as store
use Rattle.rv32_decode.specs.declared.instr.ImmOp.{ImmOp}
use Rattle.rv32_decode.specs.declared.instr.ImmOp.TheVariants as imm
use Rattle.rv32_decode.specs.declared.instr.AluOp.{AluOp}
use Rattle.rv32_decode.specs.declared.instr.AluOp.TheVariants as alu
use Rattle.rv32_decode.specs.declared.instr.AmoOp.{AmoOp}
use Rattle.rv32_decode.specs.declared.instr.AmoOp.TheVariants as amo
use Rattle.rv32_decode.specs.Fields.{opcode_of, rd_of, funct3_of, rs1_of, rs2_of, funct5_of, funct7_of, aq_of, rl_of, sign_extended, immediate_i, immediate_s, immediate_b, immediate_u, immediate_j, immediate_shift, immediate_fence, bits}
use Rattle.rv32_decode.specs.Table.{Row, row, rows, decode_of, branch_row, branches, load_row, loads, store_row, stores, immediate_row, immediates, shift_row, shifts, register_row, register_codes, amo_row, amos}
use Rattle.rv32_decode.proofs.Rows.{Every, none, one, both, mapped_where, some_is, at_place}
use Rattle.rv32_decode.specs.Laws.{FitsAt, NoTwoWordsAreOneInstruction}
use Rattle.rv32_decode.proofs.Disjoint.{row_is_read, instructions_fit}
use Rattle.rv32_decode.proofs.Masks.{and_opcode, and_funct3, and_funct7, and_funct5, and_reserved, and_word}

-- the six fields of two words agree
record SameFields (a b : ℕ) : Type 0 where
  opcode : opcode_of a ≡ opcode_of b
  rd : rd_of a ≡ rd_of b
  funct3 : funct3_of a ≡ funct3_of b
  rs1 : rs1_of a ≡ rs1_of b
  rs2 : rs2_of a ≡ rs2_of b
  funct7 : funct7_of a ≡ funct7_of b

fields_add_up : (w : ℕ) →
    w < 2 ^ 32 →
    w ≡ opcode_of w + rd_of w * 2 ^ 7 + funct3_of w * 2 ^ 12 + rs1_of w * 2 ^ 15 + rs2_of w * 2 ^ 20 + funct7_of w * 2 ^ 25
fields_add_up w below = omega arith

same_word : (a b : ℕ) → a < 2 ^ 32 → b < 2 ^ 32 → SameFields a b → a ≡ b
same_word a b p q same =
    let x = fields_add_up a p in
    let y = fields_add_up b q in
    let opcode = same.opcode in
    let rd = same.rd in
    let funct3 = same.funct3 in
    let rs1 = same.rs1 in
    let rs2 = same.rs2 in
    let funct7 = same.funct7 in
    cc

same_sign_12 : (m n : ℕ) → m < 2 ^ 12 → n < 2 ^ 12 → sign_extended 12 m ≡ sign_extended 12 n → m ≡ n
same_sign_12 m n p q e = grind (arith, ints, nat_tests)

same_sign_13 : (m n : ℕ) → m < 2 ^ 13 → n < 2 ^ 13 → sign_extended 13 m ≡ sign_extended 13 n → m ≡ n
same_sign_13 m n p q e = grind (arith, ints, nat_tests)

same_sign_21 : (m n : ℕ) → m < 2 ^ 21 → n < 2 ^ 21 → sign_extended 21 m ≡ sign_extended 21 n → m ≡ n
same_sign_21 m n p q e = grind (arith, ints, nat_tests)

-- where the immediates agree, the fields that hold their bits do
same_i : (a b : ℕ) → immediate_i a ≡ immediate_i b → bits 31 20 a ≡ bits 31 20 b
same_i a b e = same_sign_12 (bits 31 20 a) (bits 31 20 b) (omega arith) (omega arith) e

same_s : (a b : ℕ) → immediate_s a ≡ immediate_s b → (rd_of a ≡ rd_of b) × (funct7_of a ≡ funct7_of b)
same_s a b e =
    let sums : bits 31 25 a * 2 ^ 5 + bits 11 7 a ≡ bits 31 25 b * 2 ^ 5 + bits 11 7 b
    = same_sign_12 _ _ (omega arith) (omega arith) e in
    (omega arith, omega arith)

same_b : (a b : ℕ) → immediate_b a ≡ immediate_b b → (rd_of a ≡ rd_of b) × (funct7_of a ≡ funct7_of b)
same_b a b e =
    let sums : bits 31 31 a * 2 ^ 12 + bits 7 7 a * 2 ^ 11 + bits 30 25 a * 2 ^ 5 + bits 11 8 a * 2 ≡ bits 31 31 b * 2 ^ 12 + bits 7 7 b * 2 ^ 11 + bits 30 25 b * 2 ^ 5 + bits 11 8 b * 2
    = same_sign_13 _ _ (omega arith) (omega arith) e in
    (omega arith, omega arith)

same_j : (a b : ℕ) → immediate_j a ≡ immediate_j b → bits 31 12 a ≡ bits 31 12 b
same_j a b e =
    let sums : bits 31 31 a * 2 ^ 20 + bits 19 12 a * 2 ^ 12 + bits 20 20 a * 2 ^ 11 + bits 30 21 a * 2 ≡ bits 31 31 b * 2 ^ 20 + bits 19 12 b * 2 ^ 12 + bits 20 20 b * 2 ^ 11 + bits 30 21 b * 2
    = same_sign_21 _ _ (omega arith) (omega arith) e in
    omega arith

-- no two words with the row's match are read as one instruction
abbrev IsOneWord : Row → Type 0
IsOneWord r = (a b : ℕ) → a < 2 ^ 32 → b < 2 ^ 32 → bit_and a r.mask ≡ bit_and b r.mask → r.read a ≡ r.read b → a ≡ b

upper_word : (a b : ℕ) →
    a < 2 ^ 32 → b < 2 ^ 32 → bit_and a 0x7f ≡ bit_and b 0x7f → rd_of a ≡ rd_of b → bits 31 12 a ≡ bits 31 12 b → a ≡ b
upper_word a b p q masked rd imm =
    let x = and_opcode a in
    let y = and_opcode b in
    same_word a b p q (record { opcode = omega arith; rd = rd; funct3 = omega arith; rs1 = omega arith; rs2 = omega arith; funct7 = omega arith })

i_word : (a b : ℕ) →
    a < 2 ^ 32 → b < 2 ^ 32 → bit_and a 0x707f ≡ bit_and b 0x707f → rd_of a ≡ rd_of b → rs1_of a ≡ rs1_of b →
    bits 31 20 a ≡ bits 31 20 b → a ≡ b
i_word a b p q masked rd rs1 imm =
    let x = and_funct3 a in
    let y = and_funct3 b in
    same_word a b p q (record { opcode = omega arith; rd = rd; funct3 = omega arith; rs1 = rs1; rs2 = omega arith; funct7 = omega arith })

s_word : (a b : ℕ) →
    a < 2 ^ 32 → b < 2 ^ 32 → bit_and a 0x707f ≡ bit_and b 0x707f → rs1_of a ≡ rs1_of b → rs2_of a ≡ rs2_of b →
    (rd_of a ≡ rd_of b) × (funct7_of a ≡ funct7_of b) → a ≡ b
s_word a b p q masked rs1 rs2 imm =
    let x = and_funct3 a in
    let y = and_funct3 b in
    same_word a b p q (record { opcode = omega arith; rd = imm.0; funct3 = omega arith; rs1 = rs1; rs2 = rs2; funct7 = imm.1 })

r_word : (a b : ℕ) →
    a < 2 ^ 32 → b < 2 ^ 32 → bit_and a 0xfe00707f ≡ bit_and b 0xfe00707f → rd_of a ≡ rd_of b → rs1_of a ≡ rs1_of b →
    rs2_of a ≡ rs2_of b → a ≡ b
r_word a b p q masked rd rs1 rs2 =
    let x = and_funct7 a in
    let y = and_funct7 b in
    same_word a b p q (record { opcode = omega arith; rd = rd; funct3 = omega arith; rs1 = rs1; rs2 = rs2; funct7 = omega arith })

-- the bits that order an atomic instruction
same_order : (a b : ℕ) → funct5_of a ≡ funct5_of b → aq_of a ≡ aq_of b → rl_of a ≡ rl_of b → funct7_of a ≡ funct7_of b
same_order a b code aq rl = grind (arith, nat_tests)

atomic_word : (a b : ℕ) →
    a < 2 ^ 32 → b < 2 ^ 32 → bit_and a 0xf800707f ≡ bit_and b 0xf800707f → rd_of a ≡ rd_of b → rs1_of a ≡ rs1_of b →
    rs2_of a ≡ rs2_of b → aq_of a ≡ aq_of b → rl_of a ≡ rl_of b → a ≡ b
atomic_word a b p q masked rd rs1 rs2 aq rl =
    let x = and_funct5 a in
    let y = and_funct5 b in
    same_word a b p q (record { opcode = omega arith; rd = rd; funct3 = omega arith; rs1 = rs1; rs2 = rs2; funct7 = same_order a b (omega arith) aq rl })

reserved_word : (a b : ℕ) →
    a < 2 ^ 32 → b < 2 ^ 32 → bit_and a 0xf9f0707f ≡ bit_and b 0xf9f0707f → rd_of a ≡ rd_of b → rs1_of a ≡ rs1_of b →
    aq_of a ≡ aq_of b → rl_of a ≡ rl_of b → a ≡ b
reserved_word a b p q masked rd rs1 aq rl =
    let x = and_reserved a in
    let y = and_reserved b in
    same_word a b p q (record { opcode = omega arith; rd = rd; funct3 = omega arith; rs1 = rs1; rs2 = omega arith; funct7 = same_order a b (omega arith) aq rl })

whole_word : (a b : ℕ) → a < 2 ^ 32 → b < 2 ^ 32 → bit_and a 0xffffffff ≡ bit_and b 0xffffffff → a ≡ b
whole_word a b p q masked =
    let x = and_word a in
    let y = and_word b in
    omega arith

lui_one : IsOneWord (row 0x7f 0x37 (λ w. Lui (rd_of w) (immediate_u w)))
lui_one a b p q masked same =
    let imm : immediate_u a ≡ immediate_u b = cc in
    upper_word a b p q masked (cc) (omega arith)

auipc_one : IsOneWord (row 0x7f 0x17 (λ w. Auipc (rd_of w) (immediate_u w)))
auipc_one a b p q masked same =
    let imm : immediate_u a ≡ immediate_u b = cc in
    upper_word a b p q masked (cc) (omega arith)

jal_one : IsOneWord (row 0x7f 0x6f (λ w. Jal (rd_of w) (immediate_j w)))
jal_one a b p q masked same = upper_word a b p q masked (cc) (same_j a b (cc))

jalr_one : IsOneWord (row 0x707f 0x67 (λ w. Jalr (rd_of w) (rs1_of w) (immediate_i w)))
jalr_one a b p q masked same = i_word a b p q masked (cc) (cc) (same_i a b (cc))

branch_one : (code : ℕ × BranchOp) → IsOneWord (branch_row code)
branch_one code a b p q masked same = s_word a b p q masked (cc) (cc) (same_b a b (cc))

load_one : (code : ℕ × LoadOp) → IsOneWord (load_row code)
load_one code a b p q masked same = i_word a b p q masked (cc) (cc) (same_i a b (cc))

store_one : (code : ℕ × StoreOp) → IsOneWord (store_row code)
store_one code a b p q masked same = s_word a b p q masked (cc) (cc) (same_s a b (cc))

immediate_one : (code : ℕ × ImmOp) → IsOneWord (immediate_row code)
immediate_one code a b p q masked same = i_word a b p q masked (cc) (cc) (same_i a b (cc))

shift_one : (code : ℕ × ImmOp) → IsOneWord (shift_row code)
shift_one code a b p q masked same =
    let amount : immediate_shift a ≡ immediate_shift b = cc in
    r_word a b p q masked (cc) (cc) (cc)

register_one : (code : ℕ × AluOp) → IsOneWord (register_row code)
register_one code a b p q masked same = r_word a b p q masked (cc) (cc) (cc)

fence_one : IsOneWord (row 0x707f 0x0f (λ w. Fence (rd_of w) (rs1_of w) (immediate_fence w)))
fence_one a b p q masked same = i_word a b p q masked (cc) (cc) (cc)

amo_one : (code : ℕ × AmoOp) → IsOneWord (amo_row code)
amo_one code a b p q masked same = atomic_word a b p q masked (cc) (cc) (cc) (cc) (cc)

reserved_one : IsOneWord (row 0xf9f0707f 0x1000202f (λ w. LoadReserved (rd_of w) (rs1_of w) (aq_of w) (rl_of w)))
reserved_one a b p q masked same = reserved_word a b p q masked (cc) (cc) (cc) (cc)

conditional_one : IsOneWord (row 0xf800707f 0x1800202f (λ w. StoreConditional (rd_of w) (rs1_of w) (rs2_of w) (aq_of w) (rl_of w)))
conditional_one a b p q masked same = atomic_word a b p q masked (cc) (cc) (cc) (cc) (cc)

-- the match of each operation
abbrev branch_match : BranchOp → ℕ
branch_match branch.Beq = 0x00000063
branch_match branch.Bne = 0x00001063
branch_match branch.Blt = 0x00004063
branch_match branch.Bge = 0x00005063
branch_match branch.Bltu = 0x00006063
branch_match branch.Bgeu = 0x00007063

abbrev load_match : LoadOp → ℕ
load_match load.Lb = 0x00000003
load_match load.Lh = 0x00001003
load_match load.Lw = 0x00002003
load_match load.Lbu = 0x00004003
load_match load.Lhu = 0x00005003

abbrev store_match : StoreOp → ℕ
store_match store.Sb = 0x00000023
store_match store.Sh = 0x00001023
store_match store.Sw = 0x00002023

abbrev immediate_match : ImmOp → ℕ
immediate_match imm.Addi = 0x00000013
immediate_match imm.Slti = 0x00002013
immediate_match imm.Sltiu = 0x00003013
immediate_match imm.Xori = 0x00004013
immediate_match imm.Ori = 0x00006013
immediate_match imm.Andi = 0x00007013
immediate_match imm.Slli = 0x00001013
immediate_match imm.Srli = 0x00005013
immediate_match imm.Srai = 0x40005013

abbrev register_match : AluOp → ℕ
register_match alu.Add = 0x00000033
register_match alu.Sll = 0x00001033
register_match alu.Slt = 0x00002033
register_match alu.Sltu = 0x00003033
register_match alu.Xor = 0x00004033
register_match alu.Srl = 0x00005033
register_match alu.Or = 0x00006033
register_match alu.And = 0x00007033
register_match alu.Sub = 0x40000033
register_match alu.Sra = 0x40005033
register_match alu.Mul = 0x02000033
register_match alu.Mulh = 0x02001033
register_match alu.Mulhsu = 0x02002033
register_match alu.Mulhu = 0x02003033
register_match alu.Div = 0x02004033
register_match alu.Divu = 0x02005033
register_match alu.Rem = 0x02006033
register_match alu.Remu = 0x02007033

abbrev amo_match : AmoOp → ℕ
amo_match amo.Swap = 0x0800202f
amo_match amo.Add = 0x0000202f
amo_match amo.Xor = 0x2000202f
amo_match amo.And = 0x6000202f
amo_match amo.Or = 0x4000202f
amo_match amo.Min = 0x8000202f
amo_match amo.Max = 0xa000202f
amo_match amo.Minu = 0xc000202f
amo_match amo.Maxu = 0xe000202f

-- the match of each instruction
abbrev match_of : Instr → ℕ
match_of (Lui rd imm) = 0x00000037
match_of (Auipc rd imm) = 0x00000017
match_of (Jal rd offset) = 0x0000006f
match_of (Jalr rd rs1 offset) = 0x00000067
match_of (Branch op rs1 rs2 offset) = branch_match op
match_of (Load op rd rs1 offset) = load_match op
match_of (Store op rs1 rs2 offset) = store_match op
match_of (Imm op rd rs1 imm) = immediate_match op
match_of (Op op rd rs1 rs2) = register_match op
match_of (Fence rd rs1 imm) = 0x0000000f
match_of Ecall = 0x00000073
match_of Ebreak = 0x00100073
match_of (LoadReserved rd rs1 aq rl) = 0x1000202f
match_of (StoreConditional rd rs1 rs2 aq rl) = 0x1800202f
match_of (Amo op rd rs1 rs2 aq rl) = amo_match op

-- a row that no two words share an instruction of, and whose instructions show its match
record TellsWords (r : Row) : Type 0 where
  words : IsOneWord r
  matches : (word : ℕ) → match_of (r.read word) ≡ r.match

rows_tell : Every TellsWords rows
rows_tell =
    both (both (both (both (both (both (both (both (both (both
    (one (record { words = lui_one; matches = λ w. refl }) (one (record { words = auipc_one; matches = λ w. refl }) none))
    (one (record { words = jal_one; matches = λ w. refl }) (one (record { words = jalr_one; matches = λ w. refl }) none)))
    (mapped_where TellsWords branch_row branch_match (λ code e. record { words = branch_one code; matches = λ w. e }) branches refl))
    (mapped_where TellsWords load_row load_match (λ code e. record { words = load_one code; matches = λ w. e }) loads refl))
    (mapped_where TellsWords store_row store_match (λ code e. record { words = store_one code; matches = λ w. e }) stores refl))
    (mapped_where TellsWords immediate_row immediate_match (λ code e. record { words = immediate_one code; matches = λ w. e }) immediates refl))
    (mapped_where TellsWords shift_row immediate_match (λ code e. record { words = shift_one code; matches = λ w. e }) shifts refl))
    (mapped_where TellsWords register_row register_match (λ code e. record { words = register_one code; matches = λ w. e }) register_codes refl))
    (one (record { words = fence_one; matches = λ w. refl })
    (one (record { words = λ a b p q masked same. whole_word a b p q masked; matches = λ w. refl })
    (one (record { words = λ a b p q masked same. whole_word a b p q masked; matches = λ w. refl }) none))))
    (mapped_where TellsWords amo_row amo_match (λ code e. record { words = amo_one code; matches = λ w. e }) amos refl))
    (one (record { words = reserved_one; matches = λ w. refl }) (one (record { words = conditional_one; matches = λ w. refl }) none))

-- the matches of a table differ
abbrev differs_from : ℕ → List Row → Bool
differs_from m [] = true
differs_from m (r ∷ rs) = not (nat_eq r.match m) && differs_from m rs

abbrev matches_differ : List Row → Bool
matches_differ [] = true
matches_differ (r ∷ rs) = differs_from r.match rs && matches_differ rs

rows_matches_differ : matches_differ rows ≡ true
rows_matches_differ = refl

not_there : (m : ℕ) (rs : List Row) (place : ℕ) (r : Row) →
    differs_from m rs ≡ true → slice_get rs place ≡ Some r → r.match ≡ m → ⊥
not_there m [] place r differ there same = cc
not_there m (q ∷ rs) zero r differ there same =
    let parts = and_parts (not (nat_eq q.match m)) (differs_from m rs) differ in
    both_ways (nat_eq q.match m) (not-true (nat_eq q.match m) parts.0) (eq-eqb q.match m (ap (λ (x : Row). x.match) (some_is q r there) ∙ same))
not_there m (q ∷ rs) (suc place) r differ there same =
    not_there m rs place r (and_parts (not (nat_eq q.match m)) (differs_from m rs) differ).1 there same

-- rows of one match are one row
one_row : (table : List Row) →
    matches_differ table ≡ true → (first second : ℕ) (r q : Row) → slice_get table first ≡ Some r →
    slice_get table second ≡ Some q → r.match ≡ q.match → r ≡ q
one_row [] differ first second r q here there same = cc
one_row (x ∷ xs) differ zero zero r q here there same = sym (some_is x r here) ∙ some_is x q there
one_row (x ∷ xs) differ zero (suc second) r q here there same =
    absurd (not_there x.match xs second q (and_parts (differs_from x.match xs) (matches_differ xs) differ).0 there (sym same ∙ ap (λ (y : Row). y.match) (sym (some_is x r here))))
one_row (x ∷ xs) differ (suc first) zero r q here there same =
    absurd (not_there x.match xs first r (and_parts (differs_from x.match xs) (matches_differ xs) differ).0 here (same ∙ ap (λ (y : Row). y.match) (sym (some_is x q there))))
one_row (x ∷ xs) differ (suc first) (suc second) r q here there same =
    one_row xs (and_parts (differs_from x.match xs) (matches_differ xs) differ).1 first second r q here there same

-- the row that a word fits, and what it reads
record IsReadBy (word : ℕ) (i : Instr) : Type 0 where
  place : ℕ
  the_row : Row
  there : slice_get rows place ≡ Some the_row
  masked : bit_and word the_row.mask ≡ the_row.match
  reads : the_row.read word ≡ i

fits_since : (word : ℕ) (i : Instr) (found : Option Instr) →
    decode_of word ≡ found → found ≡ Some i → OnSome found ((place : ℕ) × FitsAt rows place word) →
    IsReadBy word i
fits_since word i None same is h = cc
fits_since word i (Some j) same is (place, here) = record {
  place = place;
  the_row = here.the_row;
  there = here.there;
  masked = eqb-true (bit_and word here.the_row.mask) here.the_row.match here.fit;
  reads = let e = row_is_read word place here in cc;
}

read_by : (word : ℕ) (i : Instr) → decode_of word ≡ Some i → IsReadBy word i
read_by word i e = fits_since word i (decode_of word) refl e (instructions_fit word)

match_is : (word : ℕ) (i : Instr) (by : IsReadBy word i) → match_of i ≡ by.the_row.match
match_is word i by = sym (ap match_of by.reads) ∙ (at_place TellsWords rows_tell by.place by.the_row by.there).matches word

pub one_word : NoTwoWordsAreOneInstruction
one_word first second i p q here there =
    let a = read_by first i here in
    let b = read_by second i there in
    let same : a.the_row ≡ b.the_row = one_row rows rows_matches_differ a.place b.place a.the_row b.the_row a.there b.there (sym (match_is first i a) ∙ match_is second i b) in
    let masked : bit_and second a.the_row.mask ≡ a.the_row.match =
    let P : Row → Type 0 = λ r. bit_and second r.mask ≡ r.match in subst P (sym same) b.masked in
    let reads : a.the_row.read second ≡ i =
    let P : Row → Type 0 = λ r. r.read second ≡ i in subst P (sym same) b.reads in
    (at_place TellsWords rows_tell a.place a.the_row a.there).words first second p q (a.masked ∙ sym masked) (a.reads ∙ sym reads)
