-- The text of each instruction is assembled to it.
use Rattle.std.proofs.Common.{◌≡◌, ℕ, suc, ◌/◌, ◌^◌, ◌<◌, Bool, true, List, [], ◌∷◌, ◌++◌, Some, None, Ok, refl, sym, ap, ◌∙◌, arith, append_assoc, ℤ, pos, negsuc}
use Rattle.std.specs.Prelude.{codes, decimal}
use Rattle.std.specs.List.{list_all}
use Rattle.std.specs.Fmt.{signed_decimal}
use Rattle.std.proofs.lemmas.Bool.Decides.{nat_tests}
use Rattle.rv32_decode.specs.declared.instr.Instr.{Instr}
use Rattle.rv32_decode.specs.declared.instr.Instr.TheVariants.{Lui, Auipc, Jal, Jalr, Branch, Load, Store, Imm, Op, Fence, Ecall, Ebreak, LoadReserved, StoreConditional, Amo}
use Rattle.rv32_decode.specs.declared.instr.BranchOp.{BranchOp}
use Rattle.rv32_decode.specs.declared.instr.LoadOp.{LoadOp}
use Rattle.rv32_decode.specs.declared.instr.StoreOp.{StoreOp}
use Rattle.rv32_decode.specs.declared.instr.ImmOp.{ImmOp}
use Rattle.rv32_decode.specs.declared.instr.AluOp.{AluOp}
use Rattle.rv32_decode.specs.declared.instr.AmoOp.{AmoOp}
use Rattle.rv32_decode.specs.declared.instr.ImmOp.TheVariants as imm
use Rattle.rv32_decode.specs.Valid.{IsValid}
use Rattle.rv32_asm.specs.declared.mnemonic.Mnemonic.{Mnemonic}
use Rattle.rv32_asm.specs.declared.mnemonic.Mnemonic.TheVariants as mnemonic
use Rattle.rv32_asm.specs.declared.mnemonic.Atomic.{Atomic}
use Rattle.rv32_asm.specs.declared.mnemonic.Atomic.TheVariants as atomic
use Rattle.rv32_asm.specs.Names.{branch_name_of, load_name_of, store_name_of, immediate_name_of, register_operation_name_of, order_of, atomic_name_of}
use Rattle.rv32_asm.specs.Numbers.{in_range}
use Rattle.rv32_asm.specs.Reading.{without_blanks, mark_at}
use Rattle.rv32_asm.specs.Operands.{Whole, jump_reach, branch_reach, lowest, highest, lui_at, auipc_at, jal_at, jalr_at, branch_at, load_at, store_at, immediate_at, operation_at, fence_at, operands_at, load_reserved_at, atomic_operands_at}
use Rattle.rv32_asm.specs.Assembly.{assembly_of}
use Rattle.rv32_text.specs.Text.{register, base, instr_text_of}
use Rattle.rv32_text.proofs.ReadWords.{is_decimal, digits_of_decimal, all-append, all-weaker, register_at-space}
use Rattle.rv32_text.proofs.ReadNumbers.{IsSmall, register_at-register}
use Rattle.rv32_text.proofs.ReadOperands.{two_registers, last_register, last_number, last_unsigned, last_target, last_base, indexed, upper, exchange}
use Rattle.rv32_text.proofs.ReadNames.{is_plain, IsMnemonic, branch_begins, load_begins, store_begins, immediate_begins, operation_begins, lui_begins, auipc_begins, jal_begins, jalr_begins, fence_begins, ecall_begins, ebreak_begins, atomic_begins}
use Rattle.rv32_text.proofs.ReadRanges.{twelve_bits, shift_amount, jump_offset, branch_offset, upper_immediate, unsigned_within}
use Rattle.rv32_text.proofs.ReadLines.{mnemonic_statement, atomic_statement, assembled}

abbrev Assembled : Instr → Type 0
Assembled i = assembly_of (instr_text_of i) ≡ Ok (record { code = i ∷ []; data_bytes = [] })

-- ---- bytes that end no line and begin no comment

abbrev Plain : List ℕ → Type 0
Plain bytes = list_all is_plain bytes ≡ true

digit_plain : (b : ℕ) → is_decimal b ≡ true → is_plain b ≡ true
digit_plain b e = grind (arith, nat_tests)

decimal_plain : (n : ℕ) → n < 2 ^ 32 → Plain (decimal n)
decimal_plain n fits = all-weaker is_decimal is_plain digit_plain (decimal n) (digits_of_decimal n (omega arith))

register_plain : (n : ℕ) → n < 32 → Plain (register n)
register_plain n fits = decimal_plain n (omega arith)

signed_plain : (z : ℤ) → IsSmall z → Plain (signed_decimal z)
signed_plain (pos n) fits = decimal_plain n fits
signed_plain (negsuc n) fits = decimal_plain (suc n) fits

base_plain : (n : ℕ) → n < 32 → Plain (base n)
base_plain n fits = all-append is_plain (register n) (41 ∷ []) (register_plain n fits) refl

indexed_plain : (z : ℤ) (n : ℕ) → IsSmall z → n < 32 → Plain (signed_decimal z ++ base n)
indexed_plain z n small fits = all-append is_plain (signed_decimal z) (base n) (signed_plain z small) (base_plain n fits)

-- a register, and what stands behind a comma
then_plain : (n : ℕ) (bytes : List ℕ) → n < 32 → Plain bytes → Plain (register n ++ (44 ∷ 32 ∷ bytes))
then_plain n bytes fits plain = all-append is_plain (register n) (44 ∷ 32 ∷ bytes) (register_plain n fits) plain

-- operands begin with no colon
no_colon : (bytes : List ℕ) → mark_at 58 (32 ∷ 120 ∷ bytes) ≡ None
unfolding mark_at without_blanks
no_colon bytes = refl

nothing : mark_at 58 [] ≡ None
unfolding mark_at without_blanks
nothing = refl

-- a mnemonic and its operands, which begin with a register
with_operands : (word : List ℕ) (m : Mnemonic) (n : ℕ) (rest : List ℕ) (i : Instr) → IsMnemonic word m → Plain (register n ++ rest)
    → operands_at m (32 ∷ (register n ++ rest)) ≡ Some (Whole i, [])
    → assembly_of (word ++ (32 ∷ (register n ++ rest))) ≡ Ok (record { code = i ∷ []; data_bytes = [] })
with_operands word m n rest i is plain read =
    assembled word (32 ∷ (register n ++ rest)) i is.begins refl (no_colon (decimal n ++ rest)) plain
    (mnemonic_statement word (32 ∷ (register n ++ rest)) m (Whole i) is read)

-- the same of an atomic operation
with_order : (a : Atomic) (aq rl : Bool) (n : ℕ) (rest : List ℕ) (i : Instr) → Plain (register n ++ rest)
    → atomic_operands_at a aq rl (32 ∷ (register n ++ rest)) ≡ Some (Whole i, [])
    → assembly_of (atomic_name_of a ++ (order_of aq rl ++ (32 ∷ (register n ++ rest)))) ≡ Ok (record { code = i ∷ []; data_bytes = [] })
with_order a aq rl n rest i plain read =
    let word = atomic_name_of a ++ order_of aq rl in
    let bytes = 32 ∷ (register n ++ rest) in
    let is = atomic_begins a aq rl in
    ap assembly_of (sym (append_assoc (atomic_name_of a) (order_of aq rl) bytes))
    ∙ assembled word bytes i is.begins refl (no_colon (decimal n ++ rest)) plain (atomic_statement word bytes a aq rl (Whole i) is read)

-- ---- each instruction

lui_is : (rd number : ℕ) → IsValid (Lui rd number) → Assembled (Lui rd number)
unfolding operands_at lui_at
lui_is rd number valid =
    let parts = upper_immediate number valid.1 in
    let read = upper rd (number / 4096) valid.0 parts.0 (unsigned_within 1048575 (number / 4096) (omega (arith, parts.0))) in
    with_operands (codes "lui") mnemonic.Lui rd (44 ∷ 32 ∷ decimal (number / 4096)) (Lui rd number) lui_begins
    (then_plain rd (decimal (number / 4096)) valid.0 (decimal_plain (number / 4096) (omega (arith, parts.0))))
    (rw read (ap (λ (n : ℕ). Some (Whole (Lui rd n), [])) parts.1))

auipc_is : (rd number : ℕ) → IsValid (Auipc rd number) → Assembled (Auipc rd number)
unfolding operands_at auipc_at
auipc_is rd number valid =
    let parts = upper_immediate number valid.1 in
    let read = upper rd (number / 4096) valid.0 parts.0 (unsigned_within 1048575 (number / 4096) (omega (arith, parts.0))) in
    with_operands (codes "auipc") mnemonic.Auipc rd (44 ∷ 32 ∷ decimal (number / 4096)) (Auipc rd number) auipc_begins
    (then_plain rd (decimal (number / 4096)) valid.0 (decimal_plain (number / 4096) (omega (arith, parts.0))))
    (rw read (ap (λ (n : ℕ). Some (Whole (Auipc rd n), [])) parts.1))

jal_is : (rd : ℕ) (offset : ℤ) → IsValid (Jal rd offset) → Assembled (Jal rd offset)
unfolding operands_at jal_at
jal_is rd offset valid =
    let fits = jump_offset offset valid.1 in
    let first = register_at-register rd (44 ∷ 32 ∷ signed_decimal offset) valid.0 refl in
    let second = last_target jump_reach offset fits.0 fits.1 in
    with_operands (codes "jal") mnemonic.Jal rd (44 ∷ 32 ∷ signed_decimal offset) (Jal rd offset) jal_begins
    (then_plain rd (signed_decimal offset) valid.0 (signed_plain offset fits.0))
    (rw (register_at-space (register rd ++ (44 ∷ 32 ∷ signed_decimal offset)), first, second) refl)

jalr_is : (rd rs1 : ℕ) (offset : ℤ) → IsValid (Jalr rd rs1 offset) → Assembled (Jalr rd rs1 offset)
unfolding operands_at jalr_at
jalr_is rd rs1 offset valid =
    let fits = twelve_bits offset valid.2 in
    let read = indexed rd rs1 offset valid.0 valid.1 fits.0 fits.1 in
    with_operands (codes "jalr") mnemonic.Jalr rd (44 ∷ 32 ∷ (signed_decimal offset ++ base rs1)) (Jalr rd rs1 offset) jalr_begins
    (then_plain rd (signed_decimal offset ++ base rs1) valid.0 (indexed_plain offset rs1 fits.0 valid.1))
    (rw read refl)

branch_is : (op : BranchOp) (rs1 rs2 : ℕ) (offset : ℤ) → IsValid (Branch op rs1 rs2 offset) → Assembled (Branch op rs1 rs2 offset)
unfolding operands_at branch_at
branch_is op rs1 rs2 offset valid =
    let fits = branch_offset offset valid.2 in
    let first = two_registers rs1 rs2 (44 ∷ 32 ∷ signed_decimal offset) valid.0 valid.1 refl in
    let second = last_target branch_reach offset fits.0 fits.1 in
    with_operands (branch_name_of op) (mnemonic.Branch op) rs1 (44 ∷ 32 ∷ (register rs2 ++ (44 ∷ 32 ∷ signed_decimal offset))) (Branch op rs1 rs2 offset) (branch_begins op)
    (then_plain rs1 (register rs2 ++ (44 ∷ 32 ∷ signed_decimal offset)) valid.0 (then_plain rs2 (signed_decimal offset) valid.1 (signed_plain offset fits.0)))
    (rw (first, second) refl)

load_is : (op : LoadOp) (rd rs1 : ℕ) (offset : ℤ) → IsValid (Load op rd rs1 offset) → Assembled (Load op rd rs1 offset)
unfolding operands_at load_at
load_is op rd rs1 offset valid =
    let fits = twelve_bits offset valid.2 in
    let read = indexed rd rs1 offset valid.0 valid.1 fits.0 fits.1 in
    with_operands (load_name_of op) (mnemonic.Load op) rd (44 ∷ 32 ∷ (signed_decimal offset ++ base rs1)) (Load op rd rs1 offset) (load_begins op)
    (then_plain rd (signed_decimal offset ++ base rs1) valid.0 (indexed_plain offset rs1 fits.0 valid.1))
    (rw read refl)

store_is : (op : StoreOp) (rs1 rs2 : ℕ) (offset : ℤ) → IsValid (Store op rs1 rs2 offset) → Assembled (Store op rs1 rs2 offset)
unfolding operands_at store_at
store_is op rs1 rs2 offset valid =
    let fits = twelve_bits offset valid.2 in
    let read = indexed rs2 rs1 offset valid.1 valid.0 fits.0 fits.1 in
    with_operands (store_name_of op) (mnemonic.Store op) rs2 (44 ∷ 32 ∷ (signed_decimal offset ++ base rs1)) (Store op rs1 rs2 offset) (store_begins op)
    (then_plain rs2 (signed_decimal offset ++ base rs1) valid.1 (indexed_plain offset rs1 fits.0 valid.0))
    (rw read refl)

-- the range of an immediate operation's number
immediate_range : (op : ImmOp) (rd rs1 : ℕ) (z : ℤ) → IsValid (Imm op rd rs1 z) → IsSmall z × (in_range (lowest op) (highest op) z ≡ true)
immediate_range imm.Slli rd rs1 z valid = shift_amount z valid.2
immediate_range imm.Srli rd rs1 z valid = shift_amount z valid.2
immediate_range imm.Srai rd rs1 z valid = shift_amount z valid.2
immediate_range imm.Addi rd rs1 z valid = twelve_bits z valid.2
immediate_range imm.Slti rd rs1 z valid = twelve_bits z valid.2
immediate_range imm.Sltiu rd rs1 z valid = twelve_bits z valid.2
immediate_range imm.Xori rd rs1 z valid = twelve_bits z valid.2
immediate_range imm.Ori rd rs1 z valid = twelve_bits z valid.2
immediate_range imm.Andi rd rs1 z valid = twelve_bits z valid.2

immediate_is : (op : ImmOp) (rd rs1 : ℕ) (z : ℤ) → IsValid (Imm op rd rs1 z) → Assembled (Imm op rd rs1 z)
unfolding operands_at immediate_at
immediate_is op rd rs1 z valid =
    let fits = immediate_range op rd rs1 z valid in
    let first = two_registers rd rs1 (44 ∷ 32 ∷ signed_decimal z) valid.0 valid.1 refl in
    let second = last_number (lowest op) (highest op) z fits.0 fits.1 in
    with_operands (immediate_name_of op) (mnemonic.Immediate op) rd (44 ∷ 32 ∷ (register rs1 ++ (44 ∷ 32 ∷ signed_decimal z))) (Imm op rd rs1 z) (immediate_begins op)
    (then_plain rd (register rs1 ++ (44 ∷ 32 ∷ signed_decimal z)) valid.0 (then_plain rs1 (signed_decimal z) valid.1 (signed_plain z fits.0)))
    (rw (first, second) refl)

operation_is : (op : AluOp) (rd rs1 rs2 : ℕ) → IsValid (Op op rd rs1 rs2) → Assembled (Op op rd rs1 rs2)
unfolding operands_at operation_at
operation_is op rd rs1 rs2 valid =
    let first = two_registers rd rs1 (44 ∷ 32 ∷ register rs2) valid.0 valid.1 refl in
    let second = last_register rs2 valid.2 in
    with_operands (register_operation_name_of op) (mnemonic.Register op) rd (44 ∷ 32 ∷ (register rs1 ++ (44 ∷ 32 ∷ register rs2))) (Op op rd rs1 rs2) (operation_begins op)
    (then_plain rd (register rs1 ++ (44 ∷ 32 ∷ register rs2)) valid.0 (then_plain rs1 (register rs2) valid.1 (register_plain rs2 valid.2)))
    (rw (first, second) refl)

fence_is : (rd rs1 number : ℕ) → IsValid (Fence rd rs1 number) → Assembled (Fence rd rs1 number)
unfolding operands_at fence_at
fence_is rd rs1 number valid =
    let first = two_registers rd rs1 (44 ∷ 32 ∷ decimal number) valid.0 valid.1 refl in
    let second = last_unsigned 4095 number (omega (arith, valid.2)) (unsigned_within 4095 number (omega (arith, valid.2))) in
    with_operands (codes "fence") mnemonic.Fence rd (44 ∷ 32 ∷ (register rs1 ++ (44 ∷ 32 ∷ decimal number))) (Fence rd rs1 number) fence_begins
    (then_plain rd (register rs1 ++ (44 ∷ 32 ∷ decimal number)) valid.0 (then_plain rs1 (decimal number) valid.1 (decimal_plain number (omega (arith, valid.2)))))
    (rw (first, second) refl)

ecall_is : Assembled Ecall
unfolding operands_at
ecall_is = assembled (codes "ecall") [] Ecall ecall_begins.begins refl nothing refl (mnemonic_statement (codes "ecall") [] mnemonic.Ecall (Whole Ecall) ecall_begins refl)

ebreak_is : Assembled Ebreak
unfolding operands_at
ebreak_is = assembled (codes "ebreak") [] Ebreak ebreak_begins.begins refl nothing refl (mnemonic_statement (codes "ebreak") [] mnemonic.Ebreak (Whole Ebreak) ebreak_begins refl)

load_reserved_is : (rd rs1 : ℕ) (aq rl : Bool) → IsValid (LoadReserved rd rs1 aq rl) → Assembled (LoadReserved rd rs1 aq rl)
unfolding atomic_operands_at load_reserved_at
load_reserved_is rd rs1 aq rl valid =
    let first = register_at-register rd (44 ∷ 32 ∷ base rs1) valid.0 refl in
    let second = last_base rs1 valid.1 in
    with_order atomic.LoadReserved aq rl rd (44 ∷ 32 ∷ base rs1) (LoadReserved rd rs1 aq rl) (then_plain rd (base rs1) valid.0 (base_plain rs1 valid.1))
    (rw (register_at-space (register rd ++ (44 ∷ 32 ∷ base rs1)), first, second) refl)

store_conditional_is : (rd rs1 rs2 : ℕ) (aq rl : Bool) → IsValid (StoreConditional rd rs1 rs2 aq rl) → Assembled (StoreConditional rd rs1 rs2 aq rl)
unfolding atomic_operands_at
store_conditional_is rd rs1 rs2 aq rl valid =
    let read = exchange rd rs2 rs1 valid.0 valid.2 valid.1 in
    with_order atomic.StoreConditional aq rl rd (44 ∷ 32 ∷ (register rs2 ++ (44 ∷ 32 ∷ base rs1))) (StoreConditional rd rs1 rs2 aq rl)
    (then_plain rd (register rs2 ++ (44 ∷ 32 ∷ base rs1)) valid.0 (then_plain rs2 (base rs1) valid.2 (base_plain rs1 valid.1)))
    (rw read refl)

amo_is : (op : AmoOp) (rd rs1 rs2 : ℕ) (aq rl : Bool) → IsValid (Amo op rd rs1 rs2 aq rl) → Assembled (Amo op rd rs1 rs2 aq rl)
unfolding atomic_operands_at
amo_is op rd rs1 rs2 aq rl valid =
    let read = exchange rd rs2 rs1 valid.0 valid.2 valid.1 in
    with_order (atomic.Amo op) aq rl rd (44 ∷ 32 ∷ (register rs2 ++ (44 ∷ 32 ∷ base rs1))) (Amo op rd rs1 rs2 aq rl)
    (then_plain rd (register rs2 ++ (44 ∷ 32 ∷ base rs1)) valid.0 (then_plain rs2 (base rs1) valid.2 (base_plain rs1 valid.1)))
    (rw read refl)

pub text_is_assembled : (i : Instr) → IsValid i → assembly_of (instr_text_of i) ≡ Ok (record { code = i ∷ []; data_bytes = [] })
text_is_assembled (Lui rd number) valid = lui_is rd number valid
text_is_assembled (Auipc rd number) valid = auipc_is rd number valid
text_is_assembled (Jal rd offset) valid = jal_is rd offset valid
text_is_assembled (Jalr rd rs1 offset) valid = jalr_is rd rs1 offset valid
text_is_assembled (Branch op rs1 rs2 offset) valid = branch_is op rs1 rs2 offset valid
text_is_assembled (Load op rd rs1 offset) valid = load_is op rd rs1 offset valid
text_is_assembled (Store op rs1 rs2 offset) valid = store_is op rs1 rs2 offset valid
text_is_assembled (Imm op rd rs1 z) valid = immediate_is op rd rs1 z valid
text_is_assembled (Op op rd rs1 rs2) valid = operation_is op rd rs1 rs2 valid
text_is_assembled (Fence rd rs1 number) valid = fence_is rd rs1 number valid
text_is_assembled Ecall valid = ecall_is
text_is_assembled Ebreak valid = ebreak_is
text_is_assembled (LoadReserved rd rs1 aq rl) valid = load_reserved_is rd rs1 aq rl valid
text_is_assembled (StoreConditional rd rs1 rs2 aq rl) valid = store_conditional_is rd rs1 rs2 aq rl valid
text_is_assembled (Amo op rd rs1 rs2 aq rl) valid = amo_is op rd rs1 rs2 aq rl valid
