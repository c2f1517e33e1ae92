-- Laws of the lines of a schedule's text: each line has one line feed, at its end, and says one run.
use Rattle.std.proofs.Common.{◌≡◌, ◌≢◌, ℕ, ◌^◌, ◌<◌, List, [], ◌∷◌, ◌++◌, refl, ap, ap₂, ◌∙◌, sym, lit<, arith, append_assoc}
use Rattle.std.specs.Fmt.{decimal}
use Rattle.std.specs.Str.Parse.{AllDigits}
use Rattle.std.proofs.lemmas.Fmt.{decimal_is_IsNumeral, decimal_injective}
use Rattle.std.proofs.lemmas.Str.Parse.{digit_from_value}
use Rattle.sched_text.specs.declared.run.Run.{Run}
use Rattle.sched_text.specs.Text.{line_of}
use Rattle.sched_text.specs.RunLaws.{run}

-- the byte does not occur
abbrev pub IsFreeOf : ℕ → List ℕ → Type 0
IsFreeOf byte [] = Unit {0}
IsFreeOf byte (b ∷ bytes) = (b ≢ byte) × IsFreeOf byte bytes

-- what stands before the first such byte, and what stands after it
pub one_split : (byte : ℕ) (a b x y : List ℕ) → IsFreeOf byte a → IsFreeOf byte b → a ++ byte ∷ x ≡ b ++ byte ∷ y → (a ≡ b) × (x ≡ y)
one_split byte [] [] x y free_a free_b e = (refl, cc e)
one_split byte [] (d ∷ b) x y free_a free_b e = absurd (free_b.0 (cc e))
one_split byte (c ∷ a) [] x y free_a free_b e = absurd (free_a.0 (cc e))
one_split byte (c ∷ a) (d ∷ b) x y free_a free_b e =
    let rest = one_split byte a b x y free_a.1 free_b.1 (cc e) in
    (ap₂ (λ (h : ℕ) (t : List ℕ). h ∷ t) (cc e) rest.0, rest.1)

-- a list with such a byte is not free of it
pub not_free : (byte : ℕ) (bytes a x : List ℕ) → IsFreeOf byte bytes → bytes ≡ a ++ byte ∷ x → ⊥
not_free byte [] [] x free e = cc
not_free byte [] (c ∷ a) x free e = cc
not_free byte (b ∷ bytes) [] x free e = free.0 (cc e)
not_free byte (b ∷ bytes) (c ∷ a) x free e = not_free byte bytes a x free.1 (cc e)

digits_free : (byte : ℕ) (digits : List ℕ) → byte < 48 → AllDigits 10 digits → IsFreeOf byte digits
digits_free byte [] below all = tt
digits_free byte (digit ∷ digits) below all =
    let range = digit_from_value digit all.0 in
    ((λ same. omega arith), digits_free byte digits below all.1)

-- a number's text has neither a space nor a line feed
pub decimal_free : (byte n : ℕ) → byte < 48 → n < 2 ^ 64 → IsFreeOf byte (decimal n)
decimal_free byte n below fits = digits_free byte (decimal n) below (decimal_is_IsNumeral n fits).0.1

-- numbers that a line can hold
pub record FitsLine (run : Run) : Type 0 where
  pub thread : run.thread < 2 ^ 64
  pub count : run.count < 2 ^ 64

-- a line and what follows it, by its two separators
pub line_parts : (run : Run) (x : List ℕ) → line_of run ++ x ≡ decimal run.thread ++ 32 ∷ (decimal run.count ++ 10 ∷ x)
line_parts run x =
    append_assoc (decimal run.thread) (32 ∷ (decimal run.count ++ 10 ∷ [])) x
    ∙ ap (λ (l : List ℕ). decimal run.thread ++ 32 ∷ l) (append_assoc (decimal run.count) (10 ∷ []) x)

-- a line says one run, and ends where it ends
pub one_line : (r q : Run) (x y : List ℕ) → FitsLine r → FitsLine q → line_of r ++ x ≡ line_of q ++ y → (r ≡ q) × (x ≡ y)
one_line r q x y fits_r fits_q e =
    let first = one_split 32 (decimal r.thread) (decimal q.thread) _ _ (decimal_free 32 r.thread (lit< tt) fits_r.thread) (decimal_free 32 q.thread (lit< tt) fits_q.thread) (sym (line_parts r x) ∙ e ∙ line_parts q y) in
    let second = one_split 10 (decimal r.count) (decimal q.count) x y (decimal_free 10 r.count (lit< tt) fits_r.count) (decimal_free 10 q.count (lit< tt) fits_q.count) first.1 in
    let same_thread = decimal_injective r.thread q.thread fits_r.thread fits_q.thread first.0 in
    let same_count = decimal_injective r.count q.count fits_r.count fits_q.count second.0 in
    (ap₂ run same_thread same_count, second.1)
