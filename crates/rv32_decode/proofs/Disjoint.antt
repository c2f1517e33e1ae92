-- No word fits two rows of the table.
use Rattle.std.proofs.Common.{◌≡◌, ℕ, zero, suc, Bool, true, not, nat_eq, ◌&&◌, bit_and, List, [], ◌∷◌, Option, Some, None, refl, ap, sym, ◌∙◌, subst}
use Rattle.std.specs.Prelude.{IsTrue, OnSome}
use Rattle.std.proofs.lemmas.Bool.{eqb-true, eq-eqb, and_parts, not-true, both_ways, false_from_ne_true, cond-true, cond-false, cond_both}
use Rattle.std.proofs.lemmas.Nat.{and_assoc, and_comm}
use Rattle.rv32_decode.specs.declared.instr.Instr.{Instr}
use Rattle.rv32_decode.specs.Laws.{FitsAt, AtMostOneRowFits, RowThatFitsIsRead, InstructionsFitRows}
use Rattle.rv32_decode.specs.Table.{Row, fits, rows, decode_by, decode_of}
use Rattle.rv32_decode.proofs.Rows.{some_is}

-- the two matches differ in a bit that both masks select
abbrev pub differ : Row → Row → Bool
differ a b = not (nat_eq (bit_and a.match b.mask) (bit_and b.match a.mask))

abbrev pub differs_from_all : Row → List Row → Bool
differs_from_all a [] = true
differs_from_all a (b ∷ bs) = differ a b && differs_from_all a bs

abbrev pub all_differ : List Row → Bool
all_differ [] = true
all_differ (a ∷ bs) = differs_from_all a bs && all_differ bs

-- what fits both has both matches at the bits that both masks select
both_fit : (a b : Row) (word : ℕ) → IsTrue (fits a word) → IsTrue (fits b word) → bit_and a.match b.mask ≡ bit_and b.match a.mask
both_fit a b word first second =
    ap (λ (m : ℕ). bit_and m b.mask) (sym (eqb-true (bit_and word a.mask) a.match first))
    ∙ and_assoc b.mask word a.mask
    ∙ ap (bit_and word) (and_comm a.mask b.mask)
    ∙ sym (and_assoc a.mask word b.mask)
    ∙ ap (λ (m : ℕ). bit_and m a.mask) (eqb-true (bit_and word b.mask) b.match second)

apart : (a b : Row) (word : ℕ) → differ a b ≡ true → IsTrue (fits a word) → IsTrue (fits b word) → ⊥
apart a b word other first second =
    both_ways (nat_eq (bit_and a.match b.mask) (bit_and b.match a.mask))
    (not-true (nat_eq (bit_and a.match b.mask) (bit_and b.match a.mask)) other)
    (eq-eqb (bit_and a.match b.mask) (bit_and b.match a.mask) (both_fit a b word first second))

-- the row that stands at a place of a table and fits
fit_here : (a : Row) (rs : List Row) (word : ℕ) → FitsAt (a ∷ rs) zero word → IsTrue (fits a word)
fit_here a rs word here = let P : Row → Type 0 = λ r. IsTrue (fits r word) in subst P (sym (some_is a here.the_row here.there)) here.fit

abbrev fit_later : (a : Row) (rs : List Row) (place word : ℕ) → FitsAt (a ∷ rs) (suc place) word → FitsAt rs place word
fit_later a rs place word here = record { the_row = here.the_row; there = here.there; fit = here.fit }

none_fits : (a : Row) (rs : List Row) (place word : ℕ) → differs_from_all a rs ≡ true → IsTrue (fits a word) → FitsAt rs place word → ⊥
none_fits a [] place word other first here = let e = here.there in cc
none_fits a (b ∷ rs) zero word other first here =
    apart a b word (and_parts (differ a b) (differs_from_all a rs) other).0 first (fit_here b rs word here)
none_fits a (b ∷ rs) (suc place) word other first here =
    none_fits a rs place word (and_parts (differ a b) (differs_from_all a rs) other).1 first (fit_later b rs place word here)

one_place : (table : List Row) → all_differ table ≡ true → (word first second : ℕ) → FitsAt table first word → FitsAt table second word → first ≡ second
one_place [] all word first second here there = let e = here.there in cc
one_place (a ∷ rs) all word zero zero here there = refl
one_place (a ∷ rs) all word zero (suc second) here there =
    absurd (none_fits a rs second word (and_parts (differs_from_all a rs) (all_differ rs) all).0 (fit_here a rs word here) (fit_later a rs second word there))
one_place (a ∷ rs) all word (suc first) zero here there =
    absurd (none_fits a rs first word (and_parts (differs_from_all a rs) (all_differ rs) all).0 (fit_here a rs word there) (fit_later a rs first word here))
one_place (a ∷ rs) all word (suc first) (suc second) here there =
    ap suc (one_place rs (and_parts (differs_from_all a rs) (all_differ rs) all).1 word first second (fit_later a rs first word here) (fit_later a rs second word there))

read_here : (table : List Row) → all_differ table ≡ true → (word place : ℕ) (here : FitsAt table place word) → decode_by table word ≡ Some (here.the_row.read word)
read_here [] all word place here = let e = here.there in cc
read_here (a ∷ rs) all word zero here =
    cond-true (fits a word) (Some (a.read word)) (decode_by rs word) (fit_here a rs word here)
    ∙ ap (λ (r : Row). Some (r.read word)) (some_is a here.the_row here.there)
read_here (a ∷ rs) all word (suc place) here =
    let parts = and_parts (differs_from_all a rs) (all_differ rs) all in
    cond-false (fits a word) (Some (a.read word)) (decode_by rs word)
    (false_from_ne_true (fits a word) (λ first. none_fits a rs place word parts.0 first (fit_later a rs place word here)))
    ∙ read_here rs parts.1 word place (fit_later a rs place word here)

-- where something was found at a place, it stands one place later behind another row
later : (a : Row) (rs : List Row) (word : ℕ) → (place : ℕ) × FitsAt rs place word → (place : ℕ) × FitsAt (a ∷ rs) place word
later a rs word (place, here) = (suc place, record { the_row = here.the_row; there = here.there; fit = here.fit })

abbrev Found : List Row → ℕ → Option Instr → Type 0
Found table word found = OnSome found ((place : ℕ) × FitsAt table place word)

found_later : (a : Row) (rs : List Row) (word : ℕ) (found : Option Instr) → Found rs word found → Found (a ∷ rs) word found
found_later a rs word None h = tt
found_later a rs word (Some i) h = later a rs word h

each_fits : (table : List Row) (word : ℕ) → Found table word (decode_by table word)
each_fits [] word = tt
each_fits (a ∷ rs) word =
    cond_both (fits a word) (Some (a.read word)) (decode_by rs word) (Found (a ∷ rs) word)
    (λ fit. (zero, record { the_row = a; there = refl; fit = fit }))
    (λ other. found_later a rs word (decode_by rs word) (each_fits rs word))

table_differs : all_differ rows ≡ true
table_differs = refl

pub at_most_one : AtMostOneRowFits
at_most_one = one_place rows table_differs

pub row_is_read : RowThatFitsIsRead
unfolding decode_of
row_is_read = read_here rows table_differs

pub instructions_fit : InstructionsFitRows
unfolding decode_of
instructions_fit = each_fits rows
