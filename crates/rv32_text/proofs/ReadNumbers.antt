-- Numbers and registers of a written line are read again.
use Rattle.std.proofs.Common.{◌≡◌, ℕ, zero, suc, ◌+◌, ◌*◌, ◌/◌, ◌%◌, ◌^◌, ◌<◌, ◌≤◌, Bool, true, false, ◌&&◌, eqb, ltb, List, [], ◌∷◌, ◌++◌, length, take, Option, Some, None, refl, sym, ap, ◌∙◌, arith, append_assoc, append-nil, ℤ, pos, negsuc}
use Rattle.std.specs.Prelude.{codes, decimal, bytes_eq, unwrap_or}
use Rattle.std.specs.List.{list_all}
use Rattle.std.specs.Char.{digit_value}
use Rattle.std.proofs.lemmas.Bool.{and_parts, lt-ltb, eqb-true, eqb-false, ne_eqb}
use Rattle.std.proofs.lemmas.Bool.Decides.{nat_tests}
use Rattle.std.proofs.lemmas.Fmt.{decimal_by_steps, decimal_nonempty}
use Rattle.std.specs.Fmt.{signed_decimal, digits}
use Rattle.rv32_asm.specs.Numbers.{magnitude_from, magnitude_of, number_of, in_range}
use Rattle.rv32_asm.specs.Names.{register_of}
use Rattle.rv32_asm.specs.Reading.{is_word, word_at, register_at, number_at}
use Rattle.rv32_text.specs.Text.{register}
use Rattle.rv32_text.proofs.ReadWords.{ends_word, word_at-word, is_decimal, digits_of_decimal, words_of_digits}

pub word_at-any : (word rest : List ℕ) → 0 < length word → list_all is_word word ≡ true → ends_word rest ≡ true → word_at (word ++ rest) ≡ Some (word, rest)
word_at-any [] rest some all ends = absurd (omega arith)
word_at-any (b ∷ word) rest some all ends = word_at-word b word rest all ends

-- ---- magnitudes

value_of_digit : (d : ℕ) → d < 10 → digit_value (48 + d) ≡ d
value_of_digit d small = grind (arith, nat_tests)

-- a digit more
digit_more : (n d : ℕ) (tail : List ℕ) → d < 10 → n * 10 + d < 2 ^ 32 → magnitude_from 10 n ((48 + d) ∷ tail) ≡ magnitude_from 10 (n * 10 + d) tail
digit_more n d tail small fits =
    let value = value_of_digit d small in
    let below : ltb d 10 ≡ true = lt-ltb d 10 small in
    let in_word : ltb (n * 10 + d) (2 ^ 32) ≡ true = lt-ltb (n * 10 + d) (2 ^ 32) fits in
    rw (value, below, in_word) refl

abbrev Reads : ℕ → List ℕ → Type 0
Reads n ds = n < 2 ^ 32 → (tail : List ℕ) → magnitude_from 10 0 (ds ++ tail) ≡ magnitude_from 10 n tail

reads_one : (n : ℕ) → n < 10 → Reads n ((48 + n) ∷ [])
reads_one n small fits tail = let same : 0 * 10 + n ≡ n = omega arith in digit_more 0 n tail small (omega arith) ∙ ap (λ m. magnitude_from 10 m tail) same

reads_more : (n : ℕ) (ds : List ℕ) → 10 ≤ n → Reads (n / 10) ds → Reads n (ds ++ ((48 + n % 10) ∷ []))
reads_more n ds big front fits tail =
    let last : n % 10 < 10 = omega arith in
    let same : n / 10 * 10 + n % 10 ≡ n = omega arith in
    ap (magnitude_from 10 0) (append_assoc ds ((48 + n % 10) ∷ []) tail)
    ∙ front (omega arith) ((48 + n % 10) ∷ tail) ∙ digit_more (n / 10) (n % 10) tail last (omega arith) ∙ ap (λ m. magnitude_from 10 m tail) same

magnitude-decimal : (n : ℕ) → n < 2 ^ 32 → magnitude_of 10 (decimal n) ≡ Some n
magnitude-decimal n fits =
    let wide : n < 2 ^ 64 = omega arith in
    let some : eqb (length (decimal n)) 0 ≡ false = ne_eqb (length (decimal n)) 0 (λ e. let there = decimal_nonempty n wide in absurd (omega arith)) in
    rw some (ap (magnitude_from 10 0) (sym (append-nil (decimal n))) ∙ decimal_by_steps Reads reads_one reads_more n wide fits [])

-- ---- numbers

and-false : (x : Bool) → (x && false) ≡ false
and-false true = refl
and-false false = refl

-- digits don't begin as a hexadecimal or negative number does
not_hexadecimal : (ds : List ℕ) → list_all is_decimal ds ≡ true → bytes_eq (take 2 ds) (codes "0x") ≡ false
not_hexadecimal [] all = refl
not_hexadecimal (a ∷ []) all = and-false (eqb a 48)
not_hexadecimal (a ∷ b ∷ ds) all =
    let parts = and_parts (is_decimal a) (list_all is_decimal (b ∷ ds)) all in
    let second = and_parts (is_decimal b) (list_all is_decimal ds) parts.1 in
    let other : eqb b 120 ≡ false = grind (arith, nat_tests, second.0) in
    rw other (and-false (eqb a 48))

not_negative : (ds : List ℕ) → list_all is_decimal ds ≡ true → bytes_eq (take 1 ds) (codes "-") ≡ false
not_negative [] all = refl
not_negative (a ∷ ds) all =
    let parts = and_parts (is_decimal a) (list_all is_decimal ds) all in
    let other : eqb a 45 ≡ false = grind (arith, nat_tests, parts.0) in
    rw other refl

-- a number that a word of 32 bits holds, signed or not
abbrev pub IsSmall : ℤ → Type 0
IsSmall (pos n) = n < 2 ^ 32
IsSmall (negsuc n) = suc n < 2 ^ 32

pub number_of-decimal : (n : ℕ) → n < 2 ^ 32 → number_of (decimal n) ≡ Some (pos n)
unfolding number_of
number_of-decimal n fits =
    let all = digits_of_decimal n (omega arith) in
    let plain = not_hexadecimal (decimal n) all in
    let positive = not_negative (decimal n) all in
    let value = magnitude-decimal n fits in
    rw (plain, positive, value) refl

pub number_of-signed : (z : ℤ) → IsSmall z → number_of (signed_decimal z) ≡ Some z
unfolding number_of
number_of-signed (pos n) fits = number_of-decimal n fits
number_of-signed (negsuc n) fits = let value = magnitude-decimal (suc n) fits in rw value refl

pub signed_word : (z : ℤ) → IsSmall z → list_all is_word (signed_decimal z) ≡ true
signed_word (pos n) fits = words_of_digits (decimal n) (digits_of_decimal n (omega arith))
signed_word (negsuc n) fits = words_of_digits (decimal (suc n)) (digits_of_decimal (suc n) (omega arith))

pub signed_some : (z : ℤ) → IsSmall z → 0 < length (signed_decimal z)
signed_some (pos n) fits = decimal_nonempty n (omega arith)
signed_some (negsuc n) fits = omega arith

pub number_at-signed : (low high z : ℤ) (rest : List ℕ) → IsSmall z → in_range low high z ≡ true → ends_word rest ≡ true
    → number_at low high (signed_decimal z ++ rest) ≡ Some (z, rest)
unfolding number_at
number_at-signed low high z rest fits within ends =
    let word = word_at-any (signed_decimal z) rest (signed_some z fits) (signed_word z fits) ends in
    let value = number_of-signed z fits in
    rw (word, value, within) refl

-- ---- registers

abbrev all_below : (ℕ → Bool) → ℕ → Bool
all_below p zero = true
all_below p (suc n) = p n && all_below p n

below_all : (p : ℕ → Bool) (k n : ℕ) → all_below p k ≡ true → n < k → p n ≡ true
below_all p zero n all lt = absurd (omega arith)
below_all p (suc k) n all lt =
    let parts = and_parts (p k) (all_below p k) all in
    pick (eqb n k) refl parts.0 (λ lower. below_all p k n parts.1 lower)
  where
    pick : (here : Bool) → eqb n k ≡ here → p k ≡ true → (n < k → p n ≡ true) → p n ≡ true
    pick true e last later = ap p (eqb-true n k e) ∙ last
    pick false e last later = later (let other : n ≡ k → ⊥ = eqb-false n k e in omega arith)

-- whether the register of the name is the number
abbrev names_itself : ℕ → Bool
names_itself n = eqb (unwrap_or (register_of (register n)) 32) n

all_named : all_below names_itself 32 ≡ true
unfolding register_of digits
all_named = refl

the_register : (r : Option ℕ) (n : ℕ) → n < 32 → eqb (unwrap_or r 32) n ≡ true → r ≡ Some n
the_register None n lt e = let same = eqb-true 32 n e in absurd (omega arith)
the_register (Some m) n lt e = ap Some (eqb-true m n e)

register_of-register : (n : ℕ) → n < 32 → register_of (register n) ≡ Some n
register_of-register n lt = the_register (register_of (register n)) n lt (below_all names_itself 32 n all_named lt)

register_word : (n : ℕ) → n < 32 → list_all is_word (register n) ≡ true
register_word n lt = words_of_digits (decimal n) (digits_of_decimal n (omega arith))

pub register_at-register : (n : ℕ) (rest : List ℕ) → n < 32 → ends_word rest ≡ true → register_at (register n ++ rest) ≡ Some (n, rest)
unfolding register_at
register_at-register n rest lt ends =
    let word = word_at-any (register n) rest (omega arith) (register_word n lt) ends in
    let value = register_of-register n lt in
    rw (word, value) refl
