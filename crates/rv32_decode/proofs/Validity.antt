-- What the table reads is valid.
use Rattle.std.proofs.Common.{◌≡◌, ℕ, ◌^◌, ◌<◌, List, map, Option, Some, sym, subst, arith}
use Rattle.std.specs.Prelude.{IfSome}
use Rattle.std.proofs.lemmas.Bool.{cond_both}
use Rattle.std.proofs.lemmas.Bool.Decides.{nat_tests}
use Rattle.std.proofs.lemmas.Int.{ints}
use Rattle.rv32_decode.specs.declared.instr.Instr.{Instr}
use Rattle.rv32_decode.specs.Fields.{rd_of, rs1_of, rs2_of, immediate_i, immediate_s, immediate_b, immediate_u, immediate_j, immediate_shift, immediate_fence}
use Rattle.rv32_decode.specs.Table.{Row, fits, rows, decode_by, decode_of, branches, loads, stores, immediates, shifts, register_codes, amos, upper_rows, jump_rows, branch_row, load_row, store_row, immediate_row, shift_row, register_row, system_rows, amo_row, reservation_rows}
use Rattle.rv32_decode.specs.Valid.{IsValid, IsUpperImmediate, FitsTwelveBits, IsBranchOffset, IsJumpOffset, IsShiftAmount}
use Rattle.rv32_decode.proofs.Rows.{Every, none, one, both, mapped}

rd : (word : ℕ) → rd_of word < 32
rd word = omega arith

rs1 : (word : ℕ) → rs1_of word < 32
rs1 word = omega arith

rs2 : (word : ℕ) → rs2_of word < 32
rs2 word = omega arith

fence : (word : ℕ) → immediate_fence word < 2 ^ 12
fence word = omega arith

upper : (word : ℕ) → IsUpperImmediate (immediate_u word)
upper word = record { below = omega arith; low_zeros = omega arith }

twelve_i : (word : ℕ) → FitsTwelveBits (immediate_i word)
twelve_i word = record { above = grind (arith, ints, nat_tests); below = grind (arith, ints, nat_tests) }

twelve_s : (word : ℕ) → FitsTwelveBits (immediate_s word)
twelve_s word = record { above = grind (arith, ints, nat_tests); below = grind (arith, ints, nat_tests) }

branch : (word : ℕ) → IsBranchOffset (immediate_b word)
branch word = record { above = grind (arith, ints, nat_tests); below = grind (arith, ints, nat_tests); even = grind (arith, ints, nat_tests) }

jump : (word : ℕ) → IsJumpOffset (immediate_j word)
jump word = record { above = grind (arith, ints, nat_tests); below = grind (arith, ints, nat_tests); even = grind (arith, ints, nat_tests) }

amount : (word : ℕ) → IsShiftAmount (immediate_shift word)
amount word = record { above = omega (arith, ints); below = omega (arith, ints) }

-- the row reads valid instructions alone
abbrev ReadsValid : Row → Type 0
ReadsValid r = (word : ℕ) → IsValid (r.read word)

upper_valid : Every ReadsValid upper_rows
upper_valid = one (λ w. (rd w, upper w)) (one (λ w. (rd w, upper w)) none)

jump_valid : Every ReadsValid jump_rows
jump_valid = one (λ w. (rd w, jump w)) (one (λ w. (rd w, rs1 w, twelve_i w)) none)

immediate_valid : Every ReadsValid (map immediate_row immediates)
immediate_valid =
    let each : (w : ℕ) → (rd_of w < 32) × (rs1_of w < 32) × FitsTwelveBits (immediate_i w) = λ w. (rd w, rs1 w, twelve_i w) in
    one each (one each (one each (one each (one each (one each none)))))

shift_valid : Every ReadsValid (map shift_row shifts)
shift_valid =
    let each : (w : ℕ) → (rd_of w < 32) × (rs1_of w < 32) × IsShiftAmount (immediate_shift w) = λ w. (rd w, rs1 w, amount w) in
    one each (one each (one each none))

system_valid : Every ReadsValid system_rows
system_valid = one (λ w. (rd w, rs1 w, fence w)) (one (λ w. tt) (one (λ w. tt) none))

reservation_valid : Every ReadsValid reservation_rows
reservation_valid = one (λ w. (rd w, rs1 w)) (one (λ w. (rd w, rs1 w, rs2 w)) none)

rows_valid : Every ReadsValid rows
rows_valid =
    both (both (both (both (both (both (both (both (both (both upper_valid jump_valid)
    (mapped ReadsValid branch_row (λ code w. (rs1 w, rs2 w, branch w)) branches))
    (mapped ReadsValid load_row (λ code w. (rd w, rs1 w, twelve_i w)) loads))
    (mapped ReadsValid store_row (λ code w. (rs1 w, rs2 w, twelve_s w)) stores))
    immediate_valid) shift_valid)
    (mapped ReadsValid register_row (λ code w. (rd w, rs1 w, rs2 w)) register_codes))
    system_valid)
    (mapped ReadsValid amo_row (λ code w. (rd w, rs1 w, rs2 w)) amos))
    reservation_valid

decode_by-valid : {rs : List Row} → Every ReadsValid rs → (word : ℕ) → IfSome (decode_by rs word) IsValid
decode_by-valid none word = tt
decode_by-valid (one {r} {rs} each rest) word =
    cond_both (fits r word) (Some (r.read word)) (decode_by rs word) (λ (o : Option Instr). IfSome o IsValid) (λ fit. each word) (λ other. decode_by-valid rest word)

-- what a word decodes to is valid
pub decode_of-valid : (word : ℕ) → IfSome (decode_of word) IsValid
unfolding decode_of
decode_of-valid word = decode_by-valid rows_valid word

-- what gives the table's answer gives a valid one
pub valid_since : (found : Option Instr) (word : ℕ) → found ≡ decode_of word → IfSome found IsValid
valid_since found word same = subst (λ (o : Option Instr). IfSome o IsValid) (sym same) (decode_of-valid word)
