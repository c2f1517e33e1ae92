-- Words, marks and numbers of a written line are read again.
use Rattle.std.proofs.Common.{◌≡◌, ℕ, suc, ◌+◌, ◌%◌, ◌^◌, ◌<◌, Bool, true, false, not, ◌&&◌, ◌||◌, eqb, leb, List, [], ◌∷◌, ◌++◌, length, take, drop, Some, refl, ap, ◌∙◌, arith, ℤ}
use Rattle.std.specs.Prelude.{decimal}
use Rattle.std.specs.List.{prefix_len, list_all}
use Rattle.std.proofs.lemmas.Bool.Decides.{nat_tests}
use Rattle.std.proofs.lemmas.Bool.{and_parts, eq-eqb, ne_eqb}
use Rattle.std.proofs.lemmas.Fmt.{decimal_by_steps}
use Rattle.rv32_asm.specs.Reading.{is_blank, is_mark, is_word, without_blanks, word_front, word_at, mark_front, mark_at, register_at, number_at}

-- what follows a word ends it
abbrev pub ends_word : List ℕ → Bool
ends_word [] = true
ends_word (b ∷ bytes) = not (is_word b)

one_more : (n : ℕ) → 1 + n ≡ suc n
one_more n = omega arith

prefix-ends : (rest : List ℕ) → ends_word rest ≡ true → prefix_len is_word rest ≡ 0
prefix-ends [] ends = refl
prefix-ends (b ∷ rest) ends = rw (not-true (is_word b) ends) refl
  where
    not-true : (t : Bool) → not t ≡ true → t ≡ false
    not-true true e = cc
    not-true false e = refl

-- a word is as long as its bytes
prefix-word : (word rest : List ℕ) → list_all is_word word ≡ true → ends_word rest ≡ true → prefix_len is_word (word ++ rest) ≡ length word
prefix-word [] rest all ends = prefix-ends rest ends
prefix-word (b ∷ word) rest all ends =
    let parts = and_parts (is_word b) (list_all is_word word) all in
    let more = prefix-word word rest parts.1 ends in
    rw parts.0 (omega (arith, more))

take-front : (word rest : List ℕ) → take (length word) (word ++ rest) ≡ word
take-front [] rest = refl
take-front (b ∷ word) rest = ap (λ (w : List ℕ). b ∷ w) (take-front word rest)

drop-front : (word rest : List ℕ) → drop (length word) (word ++ rest) ≡ rest
drop-front [] rest = refl
drop-front (b ∷ word) rest = drop-front word rest

-- a byte of a word isn't blank
pub word-plain : (b : ℕ) → is_word b ≡ true → is_blank b ≡ false
word-plain b e = pick (is_blank b) (is_mark b) e
  where
    pick : (blank mark : Bool) → not (blank || mark) ≡ true → blank ≡ false
    pick true mark e = cc
    pick false mark e = refl

pub skip-plain : (b : ℕ) (bytes : List ℕ) → is_blank b ≡ false → without_blanks (b ∷ bytes) ≡ b ∷ bytes
unfolding without_blanks
skip-plain b bytes e = rw e refl

pub skip-space : (bytes : List ℕ) → without_blanks (32 ∷ bytes) ≡ without_blanks bytes
unfolding without_blanks
skip-space bytes = ap (λ n. drop n (32 ∷ bytes)) (one_more (prefix_len is_blank bytes))

front : (bytes : List ℕ) (n : ℕ) → prefix_len is_word bytes ≡ n → eqb n 0 ≡ false → word_front bytes ≡ Some (take n bytes, drop n bytes)
front bytes n e some = rw (e, some) refl

-- the word in front
pub word_at-word : (b : ℕ) (word rest : List ℕ) → list_all is_word (b ∷ word) ≡ true → ends_word rest ≡ true → word_at ((b ∷ word) ++ rest) ≡ Some (b ∷ word, rest)
unfolding word_at
word_at-word b word rest all ends =
    let parts = and_parts (is_word b) (list_all is_word word) all in
    let len : prefix_len is_word ((b ∷ word) ++ rest) ≡ length (b ∷ word) = prefix-word (b ∷ word) rest all ends in
    let some : eqb (length (b ∷ word)) 0 ≡ false = ne_eqb (length (b ∷ word)) 0 (λ e. absurd (omega arith)) in
    ap word_front (skip-plain b (word ++ rest) (word-plain b parts.0)) ∙ front ((b ∷ word) ++ rest) (length (b ∷ word)) len some
    ∙ rw (take-front (b ∷ word) rest, drop-front (b ∷ word) rest) refl

pub word_at-space : (bytes : List ℕ) → word_at (32 ∷ bytes) ≡ word_at bytes
unfolding word_at
word_at-space bytes = ap word_front (skip-space bytes)

-- a mark in front
pub mark_at-mark : (mark : ℕ) (rest : List ℕ) → is_blank mark ≡ false → mark_at mark (mark ∷ rest) ≡ Some rest
unfolding mark_at
mark_at-mark mark rest plain = ap (mark_front mark) (skip-plain mark rest plain) ∙ rw (eq-eqb mark mark refl) refl

pub register_at-space : (bytes : List ℕ) → register_at (32 ∷ bytes) ≡ register_at bytes
unfolding register_at
register_at-space bytes = rw (word_at-space bytes) refl

pub number_at-space : (low high : ℤ) (bytes : List ℕ) → number_at low high (32 ∷ bytes) ≡ number_at low high bytes
unfolding number_at
number_at-space low high bytes = rw (word_at-space bytes) refl

-- ---- decimal numbers

-- bytes that are digits
abbrev pub is_decimal : ℕ → Bool
is_decimal b = leb 48 b && leb b 57

digit-word : (b : ℕ) → is_decimal b ≡ true → is_word b ≡ true
digit-word b e = grind (arith, nat_tests)

pub all-append : (p : ℕ → Bool) (xs ys : List ℕ) → list_all p xs ≡ true → list_all p ys ≡ true → list_all p (xs ++ ys) ≡ true
all-append p [] ys x y = y
all-append p (b ∷ xs) ys x y =
    let parts = and_parts (p b) (list_all p xs) x in
    let more = all-append p xs ys parts.1 y in
    rw (parts.0, more) refl

pub all-weaker : (p q : ℕ → Bool) → ((b : ℕ) → p b ≡ true → q b ≡ true) → (xs : List ℕ) → list_all p xs ≡ true → list_all q xs ≡ true
all-weaker p q w [] all = refl
all-weaker p q w (b ∷ xs) all =
    let parts = and_parts (p b) (list_all p xs) all in
    let here = w b parts.0 in
    let more = all-weaker p q w xs parts.1 in
    rw (here, more) refl

digit_is : (n : ℕ) → n < 10 → is_decimal (48 + n) ≡ true
digit_is n small = grind (arith, nat_tests)

rem_below : (n : ℕ) → n % 10 < 10
rem_below n = omega arith

pub digits_of_decimal : (n : ℕ) → n < 2 ^ 64 → list_all is_decimal (decimal n) ≡ true
digits_of_decimal = decimal_by_steps (λ n ds. list_all is_decimal ds ≡ true)
    (λ n small. rw (digit_is n small) refl)
    (λ n ds big all. all-append is_decimal ds ((48 + n % 10) ∷ []) all (rw (digit_is (n % 10) (rem_below n)) refl))

pub words_of_digits : (ds : List ℕ) → list_all is_decimal ds ≡ true → list_all is_word ds ≡ true
words_of_digits ds all = all-weaker is_decimal is_word digit-word ds all
