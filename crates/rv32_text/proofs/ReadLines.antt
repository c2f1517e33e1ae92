-- A line of one instruction is assembled to that instruction.
use Rattle.std.proofs.Common.{◌≡◌, ℕ, Bool, true, false, not, cond, ◌&&◌, ◌||◌, eqb, List, [], ◌∷◌, ◌++◌, length, take, Option, Some, None, Ok, refl, ap, ◌∙◌, arith}
use Rattle.std.specs.Prelude.{codes, bytes_eq, ◌==◌, nat_lt}
use Rattle.std.specs.List.{prefix_len, list_all}
use Rattle.std.proofs.lemmas.Bool.{and_parts, ne_eqb}
use Rattle.std.proofs.Math.Seq.{take-length}
use Rattle.rv32_decode.specs.declared.instr.Instr.{Instr}
use Rattle.rv32_asm.specs.declared.mnemonic.Mnemonic.{Mnemonic}
use Rattle.rv32_asm.specs.declared.mnemonic.Atomic.{Atomic}
use Rattle.rv32_asm.specs.Reading.{◌>>=◌, is_word, is_name, is_over, without_blanks, word_at, mark_at, name_at}
use Rattle.rv32_asm.specs.Operands.{Code, Whole, operands_at, atomic_operands_at, atomic_at, instruction_at}
use Rattle.rv32_asm.specs.Statement.{Instruction, instruction_of, statement_by, statement_of}
use Rattle.rv32_asm.specs.Line.{label_at, is_ascii, before_comment, line_of, before_first_line, lines_of}
use Rattle.rv32_asm.specs.Draft.{after_line, after_lines, draft_of}
use Rattle.rv32_asm.specs.Assembly.{resolved, entry_code, assembly_of}
use Rattle.rv32_text.proofs.ReadWords.{ends_word, skip-plain, word-plain, all-append, all-weaker}
use Rattle.rv32_text.proofs.ReadNumbers.{word_at-any}
use Rattle.rv32_text.proofs.ReadNames.{is_plain, is_directive, Begins, IsMnemonic, IsAtomic}

or_false : (a b : Bool) → (a || b) ≡ false → (a ≡ false) × (b ≡ false)
or_false true b e = cc
or_false false b e = (refl, e)

-- a word that is no directive begins an instruction
undirected : (word bytes : List ℕ) → is_directive word ≡ false → statement_by word bytes ≡ instruction_of word bytes
unfolding statement_by
undirected word bytes none =
    let text = or_false (bytes_eq word (codes ".text")) _ none in
    let data_part = or_false (bytes_eq word (codes ".data")) _ text.1 in
    let byte = or_false (bytes_eq word (codes ".byte")) _ data_part.1 in
    let number = or_false (bytes_eq word (codes ".word")) _ byte.1 in
    rw (text.0, data_part.0, byte.0, number.0, number.1) refl

pub mnemonic_statement : (word bytes : List ℕ) (m : Mnemonic) (code : Code) → IsMnemonic word m → operands_at m bytes ≡ Some (code, [])
    → statement_by word bytes ≡ Some (Instruction code)
unfolding instruction_of instruction_at without_blanks
mnemonic_statement word bytes m code is read = undirected word bytes is.begins.undirected ∙ rw (is.named, read) refl

pub atomic_statement : (word bytes : List ℕ) (a : Atomic) (aq rl : Bool) (code : Code) → IsAtomic word a aq rl → atomic_operands_at a aq rl bytes ≡ Some (code, [])
    → statement_by word bytes ≡ Some (Instruction code)
unfolding instruction_of instruction_at atomic_at without_blanks
atomic_statement word bytes a aq rl code is read = undirected word bytes is.begins.undirected ∙ rw (is.other, is.named, is.bits, read) refl

-- ---- plain texts

plain_parts : (b : ℕ) → is_plain b ≡ true → (nat_lt b 128 ≡ true) × ((b == 35) ≡ false) × ((b == 10) ≡ false)
plain_parts b e =
    let first = and_parts (nat_lt b 128) (not (b == 35) && not (b == 10)) e in
    let second = and_parts (not (b == 35)) (not (b == 10)) first.1 in
    (first.0, not_true (b == 35) second.0, not_true (b == 10) second.1)
  where
    not_true : (t : Bool) → not t ≡ true → t ≡ false
    not_true true n = cc
    not_true false n = refl

plain_ascii : (text : List ℕ) → list_all is_plain text ≡ true → is_ascii text ≡ true
plain_ascii text all = all-weaker is_plain (λ b. nat_lt b 128) (λ b e. (plain_parts b e).0) text all

plain_len : (text : List ℕ) → list_all is_plain text ≡ true → prefix_len (λ b. not (b == 35)) text ≡ length text
plain_len [] all = refl
plain_len (b ∷ text) all =
    let parts = and_parts (is_plain b) (list_all is_plain text) all in
    let other = (plain_parts b parts.0).1 in
    let more = plain_len text parts.1 in
    rw other (omega (arith, more))

plain_uncommented : (text : List ℕ) → list_all is_plain text ≡ true → before_comment text ≡ text
plain_uncommented text all = ap (λ n. take n text) (plain_len text all) ∙ take-length text

plain_line : (b : ℕ) (text : List ℕ) → list_all is_plain (b ∷ text) ≡ true → lines_of (b ∷ text) ≡ (b ∷ text) ∷ []
plain_line b [] all =
    let parts = and_parts (is_plain b) true all in
    let other = (plain_parts b parts.0).2 in
    rw other refl
plain_line b (c ∷ text) all =
    let parts = and_parts (is_plain b) (list_all is_plain (c ∷ text)) all in
    let other = (plain_parts b parts.0).2 in
    step other (plain_line c text parts.1)
  where
    first : (b == 10) ≡ false → lines_of (b ∷ c ∷ text) ≡ before_first_line b (lines_of (c ∷ text))
    first other = rw other refl

    step : (b == 10) ≡ false → lines_of (c ∷ text) ≡ (c ∷ text) ∷ [] → lines_of (b ∷ c ∷ text) ≡ (b ∷ c ∷ text) ∷ []
    step other more = first other ∙ ap (before_first_line b) more

-- ---- one line

-- what follows a label's name
abbrev after_name : Option (List ℕ × List ℕ) → Option (List ℕ × List ℕ)
after_name read = do
  name ← read
  rest ← mark_at 58 name.1
  Some (name.0, rest)

no_label : (word bytes : List ℕ) → word_at (word ++ bytes) ≡ Some (word, bytes) → mark_at 58 bytes ≡ None → label_at (word ++ bytes) ≡ None
unfolding label_at name_at
no_label word bytes front none = rw front (pick (is_name word))
  where
    pick : (named : Bool) → after_name (cond named (Some (word, bytes)) None) ≡ None
    pick true = rw none refl
    pick false = refl

not_over : (word bytes : List ℕ) → Begins word → is_over (word ++ bytes) ≡ false
not_over [] bytes begins = absurd (let some = begins.some in omega arith)
not_over (b ∷ word) bytes begins =
    let parts = and_parts (is_word b) (list_all is_word word) begins.bytes in
    ap (λ (rest : List ℕ). eqb (length rest) 0) (skip-plain b (word ++ bytes) (word-plain b parts.0))
    ∙ ne_eqb (length (b ∷ (word ++ bytes))) 0 (λ e. absurd (omega arith))

line_is : (word bytes : List ℕ) (code : Code) → Begins word → ends_word bytes ≡ true → mark_at 58 bytes ≡ None → list_all is_plain bytes ≡ true
    → statement_by word bytes ≡ Some (Instruction code) → line_of (word ++ bytes) ≡ record { label = None; statement = Some (Instruction code) }
unfolding line_of statement_of
line_is word bytes code begins ends no_colon plain stated =
    let all = all-append is_plain word bytes begins.plain plain in
    let ascii = plain_ascii (word ++ bytes) all in
    let uncommented = plain_uncommented (word ++ bytes) all in
    let front = word_at-any word bytes begins.some begins.bytes ends in
    let over = not_over word bytes begins in
    let unlabelled = no_label word bytes front no_colon in
    rw (ascii, uncommented, unlabelled, over, front, stated) refl

one_instruction : (text : List ℕ) (i : Instr) → lines_of text ≡ text ∷ [] → line_of text ≡ record { label = None; statement = Some (Instruction (Whole i)) }
    → assembly_of text ≡ Ok (record { code = i ∷ []; data_bytes = [] })
unfolding assembly_of draft_of after_lines after_line entry_code resolved
one_instruction text i split read = rw (split, read) refl

-- a line that is a word of an instruction and its operands
pub assembled : (word bytes : List ℕ) (i : Instr) → Begins word → ends_word bytes ≡ true → mark_at 58 bytes ≡ None → list_all is_plain bytes ≡ true
    → statement_by word bytes ≡ Some (Instruction (Whole i)) → assembly_of (word ++ bytes) ≡ Ok (record { code = i ∷ []; data_bytes = [] })
assembled [] bytes i begins ends no_colon plain stated = absurd (let some = begins.some in omega arith)
assembled (b ∷ word) bytes i begins ends no_colon plain stated =
    one_instruction ((b ∷ word) ++ bytes) i (plain_line b (word ++ bytes) (all-append is_plain (b ∷ word) bytes begins.plain plain))
    (line_is (b ∷ word) bytes (Whole i) begins ends no_colon plain stated)
