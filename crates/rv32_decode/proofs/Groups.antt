-- What the table says of the words of one opcode.
use Rattle.std.proofs.Common.{◌≡◌, ℕ, ◌+◌, ◌*◌, ◌^◌, ◌<◌, bit_and, Bool, true, false, nat_eq, ◌&&◌, ◌||◌, List, [], ◌∷◌, ◌++◌, map, Option, Some, None, option_map, refl, ap, sym, ◌∙◌, arith}
use Rattle.std.specs.Prelude.{if◌then◌else◌}
use Rattle.std.proofs.lemmas.Bool.{true≢false, eqb-true, eq-eqb, cond-false, false_from_ne_true, and_parts}
use Rattle.std.proofs.lemmas.Bool.Decides.{nat_tests}
use Rattle.std.proofs.lemmas.Nat.{and_assoc}
use Rattle.rv32_decode.specs.declared.instr.AluOp.{AluOp}
use Rattle.rv32_decode.specs.declared.instr.AmoOp.{AmoOp}
use Rattle.rv32_decode.specs.declared.instr.BranchOp.{BranchOp}
use Rattle.rv32_decode.specs.declared.instr.ImmOp.{ImmOp}
use Rattle.rv32_decode.specs.declared.instr.LoadOp.{LoadOp}
use Rattle.rv32_decode.specs.declared.instr.StoreOp.{StoreOp}
use Rattle.rv32_decode.specs.declared.instr.Instr.{Instr}
use Rattle.rv32_decode.specs.declared.instr.Instr.TheVariants.{Lui, Auipc, Jal, Jalr, Branch, Load, Store, Imm, Op, Fence, Ecall, Ebreak, LoadReserved, StoreConditional, Amo}
use Rattle.rv32_decode.specs.Fields.{opcode_of, rd_of, rs1_of, rs2_of, funct3_of, funct5_of, funct7_of, immediate_i, immediate_s, immediate_b, immediate_u, immediate_j, immediate_shift, immediate_fence, aq_of, rl_of}
use Rattle.rv32_decode.specs.Table.{Row, row, fits, rows, decode_by, decode_of, op_at, branches, loads, stores, immediates, immediate_row, shifts, shift_row, register_codes, amos, amo_row, reservation_rows}
use Rattle.rv32_decode.proofs.Masks.{and_opcode, and_funct3, and_funct7, and_funct5, and_reserved, and_word}

-- whether the mask of a row has the whole opcode
abbrev has_opcode : Row → Bool
has_opcode r = nat_eq (bit_and r.mask 0x7f) 0x7f

abbrev all_have_opcode : List Row → Bool
all_have_opcode [] = true
all_have_opcode (r ∷ rs) = has_opcode r && all_have_opcode rs

-- the rows of one opcode
abbrev rows_of : ℕ → List Row → List Row
rows_of opcode [] = []
rows_of opcode (r ∷ rs) = if nat_eq (bit_and r.match 0x7f) opcode then r ∷ rows_of opcode rs else rows_of opcode rs

-- a word fits only rows of its opcode
fits-opcode : (r : Row) (word : ℕ) → has_opcode r ≡ true → fits r word ≡ true → bit_and r.match 0x7f ≡ opcode_of word
fits-opcode r word whole fit =
    ap (λ (m : ℕ). bit_and m 0x7f) (sym (eqb-true (bit_and word r.mask) r.match fit))
    ∙ and_assoc 0x7f word r.mask
    ∙ ap (bit_and word) (eqb-true (bit_and r.mask 0x7f) 0x7f whole)
    ∙ and_opcode word

other_opcode : (r : Row) (word opcode : ℕ) →
    has_opcode r ≡ true → opcode_of word ≡ opcode → nat_eq (bit_and r.match 0x7f) opcode ≡ false → fits r word ≡ false
other_opcode r word opcode whole same other =
    false_from_ne_true (fits r word) (λ fit.
    let e : nat_eq (bit_and r.match 0x7f) opcode ≡ true = eq-eqb (bit_and r.match 0x7f) opcode (fits-opcode r word whole fit ∙ same) in
    cc (e, other))

kept : (b : Bool) (r : Row) (rs some : List Row) (word : ℕ) →
    (b ≡ false → fits r word ≡ false) → decode_by rs word ≡ decode_by some word → decode_by (r ∷ rs) word ≡ decode_by (if b then r ∷ some else some) word
kept true r rs some word h e = ap (λ (o : Option Instr). if fits r word then Some (r.read word) else o) e
kept false r rs some word h e = cond-false (fits r word) (Some (r.read word)) (decode_by rs word) (h refl) ∙ e

-- only the rows of the word's opcode matter
decode_by-rows_of : (opcode : ℕ) (rs : List Row) (word : ℕ) →
    all_have_opcode rs ≡ true → opcode_of word ≡ opcode → decode_by rs word ≡ decode_by (rows_of opcode rs) word
decode_by-rows_of opcode [] word all same = refl
decode_by-rows_of opcode (r ∷ rs) word all same =
    let parts : (has_opcode r ≡ true) × (all_have_opcode rs ≡ true) = and_parts (has_opcode r) (all_have_opcode rs) all in
    kept (nat_eq (bit_and r.match 0x7f) opcode) r rs (rows_of opcode rs) word
    (other_opcode r word opcode parts.0 same) (decode_by-rows_of opcode rs word parts.1 same)

decode_of-opcode : (opcode word : ℕ) → opcode_of word ≡ opcode → decode_of word ≡ decode_by (rows_of opcode rows) word
unfolding decode_of
decode_of-opcode opcode word same = decode_by-rows_of opcode rows word refl same

-- rows that differ in their match and operation alone
abbrev code_row : {O : Type 0} → ℕ → (ℕ → O → Instr) → ℕ × O → Row
code_row mask make code = row mask code.0 (λ w. make w code.1)

-- are looked up by what the mask selects
decode_by-codes : {O : Type 0} (mask : ℕ) (make : ℕ → O → Instr) (codes : List (ℕ × O)) (word : ℕ) →
    decode_by (map (code_row mask make) codes) word ≡ option_map (make word) (op_at codes (bit_and word mask))
decode_by-codes mask make [] word = refl
decode_by-codes mask make (code ∷ codes) word =
    ap (λ (o : Option Instr). if nat_eq (bit_and word mask) code.0 then Some (make word code.1) else o) (decode_by-codes mask make codes word)
    ∙ elim (nat_eq (bit_and word mask) code.0) as (λ b.
    (if b then Some (make word code.1) else option_map (make word) (op_at codes (bit_and word mask)))
    ≡ option_map (make word) (if b then Some code.1 else op_at codes (bit_and word mask))) [ true ↦ refl | false ↦ refl ]

-- what the masks select at a known opcode
at_funct3 : (word opcode : ℕ) → opcode_of word ≡ opcode → bit_and word 0x707f ≡ funct3_of word * 2 ^ 12 + opcode
at_funct3 word opcode same = and_funct3 word ∙ ap (λ (o : ℕ). funct3_of word * 2 ^ 12 + o) same

at_funct7 : (word opcode : ℕ) → opcode_of word ≡ opcode → bit_and word 0xfe00707f ≡ funct7_of word * 2 ^ 25 + funct3_of word * 2 ^ 12 + opcode
at_funct7 word opcode same = and_funct7 word ∙ ap (λ (o : ℕ). funct7_of word * 2 ^ 25 + funct3_of word * 2 ^ 12 + o) same

-- opcodes with one row
one_row : (word match : ℕ) (i : Instr) → opcode_of word ≡ match →
    (if nat_eq (bit_and word 0x7f) match then Some i else None) ≡ Some i
one_row word match i same = let e = and_opcode word in grind (arith, nat_tests)

pub decode_of-lui : (word : ℕ) → opcode_of word ≡ 0x37 → decode_of word ≡ Some (Lui (rd_of word) (immediate_u word))
decode_of-lui word same = decode_of-opcode 0x37 word same ∙ one_row word 0x37 (Lui (rd_of word) (immediate_u word)) same

pub decode_of-auipc : (word : ℕ) → opcode_of word ≡ 0x17 → decode_of word ≡ Some (Auipc (rd_of word) (immediate_u word))
decode_of-auipc word same = decode_of-opcode 0x17 word same ∙ one_row word 0x17 (Auipc (rd_of word) (immediate_u word)) same

pub decode_of-jal : (word : ℕ) → opcode_of word ≡ 0x6f → decode_of word ≡ Some (Jal (rd_of word) (immediate_j word))
decode_of-jal word same = decode_of-opcode 0x6f word same ∙ one_row word 0x6f (Jal (rd_of word) (immediate_j word)) same

-- opcodes with one row at funct3 0
at_zero : (word opcode : ℕ) (i : Instr) → opcode_of word ≡ opcode →
    (if nat_eq (bit_and word 0x707f) opcode then Some i else None) ≡ (if nat_eq (funct3_of word) 0 then Some i else None)
at_zero word opcode i same = let e = at_funct3 word opcode same in grind (arith, nat_tests)

pub decode_of-jalr : (word : ℕ) → opcode_of word ≡ 0x67 →
    decode_of word ≡ (if nat_eq (funct3_of word) 0 then Some (Jalr (rd_of word) (rs1_of word) (immediate_i word)) else None)
decode_of-jalr word same = decode_of-opcode 0x67 word same ∙ at_zero word 0x67 (Jalr (rd_of word) (rs1_of word) (immediate_i word)) same

pub decode_of-fence : (word : ℕ) → opcode_of word ≡ 0x0f →
    decode_of word ≡ (if nat_eq (funct3_of word) 0 then Some (Fence (rd_of word) (rs1_of word) (immediate_fence word)) else None)
decode_of-fence word same = decode_of-opcode 0x0f word same ∙ at_zero word 0x0f (Fence (rd_of word) (rs1_of word) (immediate_fence word)) same

-- opcodes whose rows differ in funct3
by_funct3 : {O : Type 0} (opcode : ℕ) (make : ℕ → O → Instr) (codes : List (ℕ × O)) (word : ℕ) →
    rows_of opcode rows ≡ map (code_row 0x707f make) codes → opcode_of word ≡ opcode →
    decode_of word ≡ option_map (make word) (op_at codes (funct3_of word * 2 ^ 12 + opcode))
by_funct3 opcode make codes word these same =
    decode_of-opcode opcode word same
    ∙ ap (λ (rs : List Row). decode_by rs word) these
    ∙ decode_by-codes 0x707f make codes word
    ∙ ap (λ (m : ℕ). option_map (make word) (op_at codes m)) (at_funct3 word opcode same)

abbrev branch_at : ℕ → BranchOp → Instr
branch_at word op = Branch op (rs1_of word) (rs2_of word) (immediate_b word)

pub decode_of-branch : (word : ℕ) → opcode_of word ≡ 0x63 →
    decode_of word ≡ option_map (branch_at word) (op_at branches (funct3_of word * 2 ^ 12 + 0x63))
decode_of-branch word same = by_funct3 0x63 branch_at branches word refl same

abbrev load_at : ℕ → LoadOp → Instr
load_at word op = Load op (rd_of word) (rs1_of word) (immediate_i word)

pub decode_of-load : (word : ℕ) → opcode_of word ≡ 0x03 →
    decode_of word ≡ option_map (load_at word) (op_at loads (funct3_of word * 2 ^ 12 + 0x03))
decode_of-load word same = by_funct3 0x03 load_at loads word refl same

abbrev store_at : ℕ → StoreOp → Instr
store_at word op = Store op (rs1_of word) (rs2_of word) (immediate_s word)

pub decode_of-store : (word : ℕ) → opcode_of word ≡ 0x23 →
    decode_of word ≡ option_map (store_at word) (op_at stores (funct3_of word * 2 ^ 12 + 0x23))
decode_of-store word same = by_funct3 0x23 store_at stores word refl same

-- opcode 0110011, by funct7 and funct3
abbrev register_at : ℕ → AluOp → Instr
register_at word op = Op op (rd_of word) (rs1_of word) (rs2_of word)

pub decode_of-register : (word : ℕ) → opcode_of word ≡ 0x33 →
    decode_of word ≡ option_map (register_at word) (op_at register_codes (funct7_of word * 2 ^ 25 + funct3_of word * 2 ^ 12 + 0x33))
decode_of-register word same =
    decode_of-opcode 0x33 word same
    ∙ decode_by-codes 0xfe00707f register_at register_codes word
    ∙ ap (λ (m : ℕ). option_map (register_at word) (op_at register_codes m)) (at_funct7 word 0x33 same)

-- the first of two answers that is there
abbrev pub or_else : Option Instr → Option Instr → Option Instr
or_else None other = other
or_else (Some i) other = Some i

decode_by-append : (rs more : List Row) (word : ℕ) → decode_by (rs ++ more) word ≡ or_else (decode_by rs word) (decode_by more word)
decode_by-append [] more word = refl
decode_by-append (r ∷ rs) more word =
    ap (λ (o : Option Instr). if fits r word then Some (r.read word) else o) (decode_by-append rs more word)
    ∙ elim (fits r word) as (λ b.
    (if b then Some (r.read word) else or_else (decode_by rs word) (decode_by more word))
    ≡ or_else (if b then Some (r.read word) else decode_by rs word) (decode_by more word)) [ true ↦ refl | false ↦ refl ]

-- opcode 0010011: the immediates by funct3, then the shifts by funct7 and funct3
abbrev immediate_at : ℕ → ImmOp → Instr
immediate_at word op = Imm op (rd_of word) (rs1_of word) (immediate_i word)

abbrev shift_at : ℕ → ImmOp → Instr
shift_at word op = Imm op (rd_of word) (rs1_of word) (immediate_shift word)

pub decode_of-immediate : (word : ℕ) → opcode_of word ≡ 0x13 →
    decode_of word ≡ or_else
    (option_map (immediate_at word) (op_at immediates (funct3_of word * 2 ^ 12 + 0x13)))
    (option_map (shift_at word) (op_at shifts (funct7_of word * 2 ^ 25 + funct3_of word * 2 ^ 12 + 0x13)))
decode_of-immediate word same =
    let first : decode_by (map immediate_row immediates) word ≡ option_map (immediate_at word) (op_at immediates (funct3_of word * 2 ^ 12 + 0x13))
    = decode_by-codes 0x707f immediate_at immediates word
    ∙ ap (λ (m : ℕ). option_map (immediate_at word) (op_at immediates m)) (at_funct3 word 0x13 same) in
    let later : decode_by (map shift_row shifts) word ≡ option_map (shift_at word) (op_at shifts (funct7_of word * 2 ^ 25 + funct3_of word * 2 ^ 12 + 0x13))
    = decode_by-codes 0xfe00707f shift_at shifts word
    ∙ ap (λ (m : ℕ). option_map (shift_at word) (op_at shifts m)) (at_funct7 word 0x13 same) in
    decode_of-opcode 0x13 word same
    ∙ decode_by-append (map immediate_row immediates) (map shift_row shifts) word
    ∙ ap (λ (o : Option Instr). or_else o (decode_by (map shift_row shifts) word)) first
    ∙ ap (or_else (option_map (immediate_at word) (op_at immediates (funct3_of word * 2 ^ 12 + 0x13)))) later

-- opcode 1110011: whole words
pub decode_of-system : (word : ℕ) → word < 2 ^ 32 → opcode_of word ≡ 0x73 →
    decode_of word ≡ (if nat_eq word 0x73 then Some Ecall else if nat_eq word 0x100073 then Some Ebreak else None)
decode_of-system word below same =
    let whole : bit_and word 0xffffffff ≡ word = and_word word ∙ omega arith in
    decode_of-opcode 0x73 word same
    ∙ ap (λ (w : ℕ). if nat_eq w 0x73 then Some Ecall else if nat_eq w 0x100073 then Some Ebreak else None) whole

pub decode_of-ecall : decode_of 0x73 ≡ Some Ecall
unfolding decode_of
decode_of-ecall = refl

pub decode_of-ebreak : decode_of 0x100073 ≡ Some Ebreak
unfolding decode_of
decode_of-ebreak = refl

-- opcode 0101111, by bits 31 to 27
abbrev amo_at : ℕ → AmoOp → Instr
amo_at word op = Amo op (rd_of word) (rs1_of word) (rs2_of word) (aq_of word) (rl_of word)

abbrev reserved_at : ℕ → Instr
reserved_at word = LoadReserved (rd_of word) (rs1_of word) (aq_of word) (rl_of word)

abbrev conditional_at : ℕ → Instr
conditional_at word = StoreConditional (rd_of word) (rs1_of word) (rs2_of word) (aq_of word) (rl_of word)

-- the answer for such a word of funct3 010 and this code
abbrev atomic_at : ℕ → ℕ → Option Instr
atomic_at word code =
    or_else (option_map (amo_at word) (op_at amos (code * 2 ^ 27 + 0x202f)))
    (if nat_eq (code * 2 ^ 27 + rs2_of word * 2 ^ 20) (2 * 2 ^ 27) then Some (reserved_at word)
    else if nat_eq code 3 then Some (conditional_at word) else None)

decode_of-atomic : (word : ℕ) → opcode_of word ≡ 0x2f → funct3_of word ≡ 2 → decode_of word ≡ atomic_at word (funct5_of word)
decode_of-atomic word same width =
    let code : bit_and word 0xf800707f ≡ funct5_of word * 2 ^ 27 + 0x202f = and_funct5 word ∙ omega arith in
    let reserved = and_reserved word in
    decode_of-opcode 0x2f word same
    ∙ decode_by-append (map amo_row amos) reservation_rows word
    ∙ ap (λ (o : Option Instr). or_else o (decode_by reservation_rows word)) (decode_by-codes 0xf800707f amo_at amos word)
    ∙ ap (λ (m : ℕ). or_else (option_map (amo_at word) (op_at amos m)) (decode_by reservation_rows word)) code
    ∙ ap (or_else (option_map (amo_at word) (op_at amos (funct5_of word * 2 ^ 27 + 0x202f)))) (grind (arith, nat_tests))

pub decode_of-load_reserved : (word : ℕ) → opcode_of word ≡ 0x2f → funct3_of word ≡ 2 → funct5_of word ≡ 2 →
    decode_of word ≡ (if nat_eq (rs2_of word) 0 then Some (reserved_at word) else None)
decode_of-load_reserved word same width code =
    decode_of-atomic word same width ∙ ap (atomic_at word) code ∙ grind (arith, nat_tests)

pub decode_of-store_conditional : (word : ℕ) → opcode_of word ≡ 0x2f → funct3_of word ≡ 2 → funct5_of word ≡ 3 →
    decode_of word ≡ Some (conditional_at word)
decode_of-store_conditional word same width code =
    decode_of-atomic word same width ∙ ap (atomic_at word) code ∙ grind (arith, nat_tests)

or_else-none : (o : Option Instr) → or_else o None ≡ o
or_else-none None = refl
or_else-none (Some i) = refl

pub decode_of-amo : (word : ℕ) → opcode_of word ≡ 0x2f → funct3_of word ≡ 2 → (funct5_of word ≡ 2 → ⊥) → (funct5_of word ≡ 3 → ⊥) →
    decode_of word ≡ option_map (amo_at word) (op_at amos (funct5_of word * 2 ^ 27 + 0x202f))
decode_of-amo word same width reserved conditional =
    decode_of-atomic word same width
    ∙ ap (or_else (option_map (amo_at word) (op_at amos (funct5_of word * 2 ^ 27 + 0x202f)))) (grind (arith, nat_tests))
    ∙ or_else-none (option_map (amo_at word) (op_at amos (funct5_of word * 2 ^ 27 + 0x202f)))

pub decode_of-other_width : (word : ℕ) → opcode_of word ≡ 0x2f → (funct3_of word ≡ 2 → ⊥) → decode_of word ≡ None
decode_of-other_width word same width =
    let d = decode_of-opcode 0x2f word same in
    let reserved = and_reserved word in
    let others = and_funct5 word in
    grind (arith, nat_tests)

-- the opcodes of the table
abbrev pub is_opcode : ℕ → Bool
is_opcode o =
    nat_eq o 0x37 || nat_eq o 0x17 || nat_eq o 0x6f || nat_eq o 0x67 || nat_eq o 0x63 || nat_eq o 0x03 ||
    nat_eq o 0x23 || nat_eq o 0x13 || nat_eq o 0x33 || nat_eq o 0x0f || nat_eq o 0x73 || nat_eq o 0x2f

abbrev all_are_opcodes : List Row → Bool
all_are_opcodes [] = true
all_are_opcodes (r ∷ rs) = (has_opcode r && is_opcode (bit_and r.match 0x7f)) && all_are_opcodes rs

decode_by-other : (rs : List Row) (word : ℕ) → all_are_opcodes rs ≡ true → is_opcode (opcode_of word) ≡ false → decode_by rs word ≡ None
decode_by-other [] word all other = refl
decode_by-other (r ∷ rs) word all other =
    let parts = and_parts (has_opcode r && is_opcode (bit_and r.match 0x7f)) (all_are_opcodes rs) all in
    let head = and_parts (has_opcode r) (is_opcode (bit_and r.match 0x7f)) parts.0 in
    cond-false (fits r word) (Some (r.read word)) (decode_by rs word)
    (false_from_ne_true (fits r word) (λ fit. true≢false (sym head.1 ∙ ap is_opcode (fits-opcode r word head.0 fit) ∙ other)))
    ∙ decode_by-other rs word parts.1 other

pub decode_of-other : (word : ℕ) → is_opcode (opcode_of word) ≡ false → decode_of word ≡ None
unfolding decode_of
decode_of-other word other = decode_by-other rows word refl other

-- for the functions of each opcode
pub ruleset groups = (decode_of-lui, decode_of-auipc, decode_of-jal, decode_of-jalr, decode_of-fence, decode_of-branch, decode_of-load, decode_of-store, decode_of-register, decode_of-immediate, decode_of-system, decode_of-ecall, decode_of-ebreak, decode_of-load_reserved, decode_of-store_conditional, decode_of-amo, decode_of-other_width, decode_of-other)
