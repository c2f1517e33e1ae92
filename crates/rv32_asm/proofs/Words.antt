-- Words that only blanks separate, one after the other.
use Rattle.std.proofs.Common.{◌≡◌, ℕ, suc, ◌+◌, ◌<◌, Bool, true, false, cond, not, List, [], ◌∷◌, ◌++◌, length, take, drop, Option, Some, None, refl, sym, ap, ◌∙◌, arith, append_assoc, ◌≢◌, ◌≤◌, length-drop}
use Rattle.std.specs.List.{prefix_len}
use Rattle.rv32_asm.specs.Reading.{◌>>=◌, is_blank, without_blanks}
use Rattle.rv32_asm.specs.Statement.{begins_word, onto_first, words_of, number_bytes, sized_number_of, numbers_bytes}
use Rattle.rv32_asm.specs.declared.stored.NumberSize.{NumberSize}

abbrev pub is_plain : ℕ → Bool
is_plain b = not (is_blank b)

one_more : (n : ℕ) → 1 + n ≡ suc n
one_more n = omega arith

words_of-blank : (b : ℕ) (bytes : List ℕ) → is_blank b ≡ true → words_of (b ∷ bytes) ≡ words_of bytes
words_of-blank b bytes e = rw e refl

words_of-plain : (b : ℕ) (bytes : List ℕ) → is_blank b ≡ false
    → words_of (b ∷ bytes) ≡ cond (begins_word bytes) (onto_first b (words_of bytes)) ((b ∷ []) ∷ words_of bytes)
words_of-plain b bytes e = rw e refl

-- the blanks in front
abbrev pub blanks : List ℕ → ℕ
blanks bytes = prefix_len is_blank bytes

blanks-blank : (b : ℕ) (bytes : List ℕ) → is_blank b ≡ true → blanks (b ∷ bytes) ≡ suc (blanks bytes)
blanks-blank b bytes e = rw e (one_more (blanks bytes))

blanks-plain : (b : ℕ) (bytes : List ℕ) → is_blank b ≡ false → blanks (b ∷ bytes) ≡ 0
blanks-plain b bytes e = rw e refl

pub words_of-skip : (bytes : List ℕ) → words_of bytes ≡ words_of (drop (blanks bytes) bytes)
words_of-skip [] = refl
words_of-skip (b ∷ bytes) = pick (is_blank b) refl (words_of-skip bytes)
  where
    pick : (blank : Bool) → is_blank b ≡ blank → words_of bytes ≡ words_of (drop (blanks bytes) bytes)
        → words_of (b ∷ bytes) ≡ words_of (drop (blanks (b ∷ bytes)) (b ∷ bytes))
    pick true e later = words_of-blank b bytes e ∙ later ∙ ap (λ n. words_of (drop n (b ∷ bytes))) (sym (blanks-blank b bytes e))
    pick false e later = ap (λ n. words_of (drop n (b ∷ bytes))) (sym (blanks-plain b bytes e))

-- the word in front
abbrev pub plains : List ℕ → ℕ
plains bytes = prefix_len is_plain bytes

plains-blank : (b : ℕ) (bytes : List ℕ) → is_blank b ≡ true → plains (b ∷ bytes) ≡ 0
plains-blank b bytes e = rw e refl

plains-plain : (b : ℕ) (bytes : List ℕ) → is_blank b ≡ false → plains (b ∷ bytes) ≡ suc (plains bytes)
plains-plain b bytes e = rw e (one_more (plains bytes))

-- where no word follows the blanks, there is none
pub words_of-none : (bytes : List ℕ) → plains (drop (blanks bytes) bytes) ≡ 0 → words_of bytes ≡ []
words_of-none [] none = refl
words_of-none (b ∷ bytes) none = pick (is_blank b) refl (words_of-none bytes)
  where
    pick : (blank : Bool) → is_blank b ≡ blank → (plains (drop (blanks bytes) bytes) ≡ 0 → words_of bytes ≡ []) → words_of (b ∷ bytes) ≡ []
    pick true e later = words_of-blank b bytes e ∙ later (ap (λ n. plains (drop n (b ∷ bytes))) (sym (blanks-blank b bytes e)) ∙ none)
    pick false e later =
        let found : suc (plains bytes) ≡ 0 = sym (plains-plain b bytes e) ∙ ap (λ n. plains (drop n (b ∷ bytes))) (sym (blanks-plain b bytes e)) ∙ none in
        absurd (omega arith)

-- a word in front is the first, and the others follow it
pub words_of-first : (bytes : List ℕ) → 0 < plains bytes → words_of bytes ≡ take (plains bytes) bytes ∷ words_of (drop (plains bytes) bytes)
words_of-first [] some = absurd (omega arith)
words_of-first (b ∷ bytes) some = pick (is_blank b) refl (words_of-first bytes)
  where
    first : (c : ℕ) (more : List ℕ) (blank : Bool) → is_blank c ≡ blank → is_blank b ≡ false
        → (0 < plains (c ∷ more) → words_of (c ∷ more) ≡ take (plains (c ∷ more)) (c ∷ more) ∷ words_of (drop (plains (c ∷ more)) (c ∷ more)))
        → words_of (b ∷ c ∷ more) ≡ take (suc (plains (c ∷ more))) (b ∷ c ∷ more) ∷ words_of (drop (suc (plains (c ∷ more))) (b ∷ c ∷ more))
    first c more true blank e later =
        words_of-plain b (c ∷ more) e ∙ ap (λ t. cond (not t) (onto_first b (words_of (c ∷ more))) ((b ∷ []) ∷ words_of (c ∷ more))) blank
        ∙ ap (λ n. (b ∷ take n (c ∷ more)) ∷ words_of (drop n (c ∷ more))) (sym (plains-blank c more blank))
    first c more false plain e later =
        let there : 0 < plains (c ∷ more) = rw (plains-plain c more plain) (omega arith) in
        words_of-plain b (c ∷ more) e ∙ ap (λ t. cond (not t) (onto_first b (words_of (c ∷ more))) ((b ∷ []) ∷ words_of (c ∷ more))) plain
        ∙ ap (onto_first b) (later there)

    whole : (rest : List ℕ) → is_blank b ≡ false
        → (0 < plains rest → words_of rest ≡ take (plains rest) rest ∷ words_of (drop (plains rest) rest))
        → words_of (b ∷ rest) ≡ take (suc (plains rest)) (b ∷ rest) ∷ words_of (drop (suc (plains rest)) (b ∷ rest))
    whole [] e later = words_of-plain b [] e
    whole (c ∷ more) e later = first c more (is_blank c) refl e later

    pick : (blank : Bool) → is_blank b ≡ blank
        → (0 < plains bytes → words_of bytes ≡ take (plains bytes) bytes ∷ words_of (drop (plains bytes) bytes))
        → words_of (b ∷ bytes) ≡ take (plains (b ∷ bytes)) (b ∷ bytes) ∷ words_of (drop (plains (b ∷ bytes)) (b ∷ bytes))
    pick true e later = let none : plains (b ∷ bytes) ≡ 0 = plains-blank b bytes e in absurd (omega (arith, none, some))
    pick false e later = whole bytes e later ∙ ap (λ n. take n (b ∷ bytes) ∷ words_of (drop n (b ∷ bytes))) (sym (plains-plain b bytes e))

pub next_none : (bytes rest : List ℕ) (n : ℕ) → rest ≡ without_blanks bytes → n ≡ plains rest → n ≡ 0 → words_of bytes ≡ []
unfolding without_blanks
next_none bytes rest n r e none = words_of-none bytes (ap plains (sym r) ∙ sym e ∙ none)

pub next_first : (bytes rest : List ℕ) (n : ℕ) → rest ≡ without_blanks bytes → n ≡ plains rest → n ≢ 0 → words_of bytes ≡ take n rest ∷ words_of (drop n rest)
unfolding without_blanks
next_first bytes rest n r e some =
    let there : 0 < plains rest = omega arith in
    words_of-skip bytes ∙ ap words_of (sym r) ∙ words_of-first rest there ∙ ap (λ k. take k rest ∷ words_of (drop k rest)) (sym e)

pub next_shorter : (bytes rest : List ℕ) (n : ℕ) → rest ≡ without_blanks bytes → n ≤ length rest → n ≢ 0 → length (drop n rest) < length bytes
unfolding without_blanks
next_shorter bytes rest n r within some = omega (arith, length-drop n rest, length-drop (blanks bytes) bytes, ap length r)

-- ---- the bytes of numbers

abbrev pub with_front : List ℕ → Option (List ℕ) → Option (List ℕ)
with_front front read = read >>= λ bytes. Some (front ++ bytes)

pub with_front-with_front : (first second : List ℕ) (read : Option (List ℕ)) → with_front first (with_front second read) ≡ with_front (first ++ second) read
with_front-with_front first second (Some bytes) = ap Some (sym (append_assoc first second bytes))
with_front-with_front first second None = refl

pub with_front-none : (read : Option (List ℕ)) → with_front [] read ≡ read
with_front-none (Some bytes) = refl
with_front-none None = refl

-- a number more
pub numbers_bytes-more : (size : NumberSize) (word : List ℕ) (words : List (List ℕ)) (number : _) → Some number ≡ sized_number_of size word
    → numbers_bytes size (word ∷ words) ≡ with_front (number_bytes size number) (numbers_bytes size words)
numbers_bytes-more size word words number e = rw (← e) refl

pub numbers_bytes-bad : (size : NumberSize) (word : List ℕ) (words : List (List ℕ)) → None ≡ sized_number_of size word
    → numbers_bytes size (word ∷ words) ≡ None
numbers_bytes-bad size word words e = rw (← e) refl
