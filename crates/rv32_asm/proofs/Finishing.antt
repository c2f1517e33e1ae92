-- From the draft of a text to its program.
use Rattle.std.proofs.Common.{◌≡◌, ◌≢◌, ℕ, ◌+◌, ◌*◌, true, false, ◌||◌, eqb, ltb, List, [], ◌∷◌, length, Result, Ok, Err, refl, sym, ap, ◌∙◌, arith, length-append}
use Rattle.std.specs.Prelude.{flat_map}
use Rattle.std.proofs.lemmas.Bool.Decides.{nat_tests}
use Rattle.rv32_decode.specs.declared.instr.Instr.{Instr}
use Rattle.rv32_asm.specs.declared.fault.AsmFault.{AsmFault}
use Rattle.rv32_asm.specs.declared.fault.AsmFault.TheVariants as fault
use Rattle.rv32_asm.specs.Draft.{Stored, Draft, draft_of}
use Rattle.rv32_asm.specs.Assembly.{◌>>=◌, Stops, entries_code, program_of, finished, assembly_of}
use Rattle.rv32_asm.specs.File.{word, AreWordsOf, AppendsCode, IsRefused}

pub assembled : (text : List ℕ) (d : Draft) (code : List Instr) → d ≡ draft_of text → entries_code d.labels d.entries ≡ Ok code
    → assembly_of text ≡ program_of d.lines code d.stored
unfolding assembly_of
assembled text d code drafted given = ap finished (sym drafted) ∙ ap (λ (r : Result (List Instr) AsmFault). r >>= λ c. program_of d.lines c d.stored) given

pub at_fault : (text : List ℕ) (d : Draft) (f : AsmFault) → d ≡ draft_of text → entries_code d.labels d.entries ≡ Err f → assembly_of text ≡ Err f
unfolding assembly_of
at_fault text d f drafted given = ap finished (sym drafted) ∙ ap (λ (r : Result (List Instr) AsmFault). r >>= λ c. program_of d.lines c d.stored) given

four_bytes : (w : ℕ) → length (word w) ≡ 4
four_bytes w = refl

length-words : (code : List Instr) (words : List ℕ) → AreWordsOf code words → length (flat_map word words) ≡ 4 * length code
length-words [] [] are = refl
length-words [] (w ∷ words) are = absurd are
length-words (i ∷ code) [] are = absurd are
length-words (i ∷ code) (w ∷ words) are =
    let rest = length-words code words are.2 in omega (arith, length-append (word w) (flat_map word words), four_bytes w, rest)

-- each instruction has four bytes
pub length-code : (code : List Instr) (text : List ℕ) → AppendsCode code [] text → length text ≡ 4 * length code
length-code code text made = ap length made.bytes ∙ length-words code made.words made.are_words

pub no_instruction : (lines : ℕ) (code : List Instr) (stored : Stored) (text : List ℕ) → AppendsCode code [] text → length text ≡ 0
    → program_of lines code stored ≡ Err (fault.BadLine (lines + 1))
no_instruction lines code stored text made none =
    let len = length-code code text made in
    let empty : eqb (length code) 0 ≡ true = grind (arith, nat_tests) in
    rw empty refl

pub too_large : (lines : ℕ) (code : List Instr) (stored : Stored) (text : List ℕ) → AppendsCode code [] text → length text ≢ 0
    → (ltb 65536 (length text) || ltb 65536 stored.len) ≡ true → program_of lines code stored ≡ Err fault.TooLarge
too_large lines code stored text made some large =
    let len = length-code code text made in
    let there : eqb (length code) 0 ≡ false = grind (arith, nat_tests) in
    rw (there, ← len, large) refl

pub in_limits : (lines : ℕ) (code : List Instr) (stored : Stored) (text : List ℕ) → AppendsCode code [] text → length text ≢ 0
    → (ltb 65536 (length text) || ltb 65536 stored.len) ≡ false → program_of lines code stored ≡ Ok (record { code = code; data_bytes = stored.bytes })
in_limits lines code stored text made some small =
    let len = length-code code text made in
    let there : eqb (length code) 0 ≡ false = grind (arith, nat_tests) in
    rw (there, ← len, small) refl

-- the fault of an entry is the text's
pub refused : (text : List ℕ) (d : Draft) (f : AsmFault) → d ≡ draft_of text → Stops f (entries_code d.labels d.entries) → IsRefused text f
refused text d (fault.BadLine line) drafted given = at_fault text d (fault.BadLine line) drafted given
refused text d (fault.UnknownName line) drafted given = at_fault text d (fault.UnknownName line) drafted given
refused text d fault.TooLarge drafted given = at_fault text d fault.TooLarge drafted given
refused text d fault.Memory drafted given = tt
