-- Lines of a text, one after the other.
use Rattle.std.proofs.Common.{◌≡◌, ℕ, zero, suc, ◌+◌, ◌<◌, Bool, true, false, not, List, [], ◌∷◌, length, take, drop, refl, sym, ap, ◌∙◌, arith, ◌-◌, length-drop}
use Rattle.std.specs.Prelude.{◌==◌}
use Rattle.std.proofs.lemmas.List.{take_all}
use Rattle.std.specs.List.{prefix_len}
use Rattle.rv32_asm.specs.Line.{before_first_line, lines_of}

-- the bytes of the first line
abbrev pub line_len : List ℕ → ℕ
line_len text = prefix_len (λ b. not (b == 10)) text

one_more : (n : ℕ) → 1 + n ≡ suc n
one_more n = omega arith

line_len-feed : (b : ℕ) (text : List ℕ) → (b == 10) ≡ true → line_len (b ∷ text) ≡ 0
line_len-feed b text e = rw e refl

line_len-more : (b : ℕ) (text : List ℕ) → (b == 10) ≡ false → line_len (b ∷ text) ≡ suc (line_len text)
line_len-more b text e = rw e (one_more (line_len text))

lines_of-feed : (b : ℕ) (text : List ℕ) → (b == 10) ≡ true → lines_of (b ∷ text) ≡ [] ∷ lines_of text
lines_of-feed b text e = rw e refl

lines_of-more : (b : ℕ) (text : List ℕ) → (b == 10) ≡ false → lines_of (b ∷ text) ≡ before_first_line b (lines_of text)
lines_of-more b text e = rw e refl

-- the first line and the lines after it
abbrev pub split_at_feed : ℕ → List ℕ → List (List ℕ)
split_at_feed len text = take len text ∷ lines_of (drop (suc len) text)

pub lines_of-first : (text : List ℕ) → 0 < length text → lines_of text ≡ split_at_feed (line_len text) text
lines_of-first [] some = absurd (omega arith)
lines_of-first (b ∷ text) some = pick (b == 10) refl (lines_of-first text)
  where
    longer : (rest : List ℕ) → (b == 10) ≡ false → (0 < length rest → lines_of rest ≡ split_at_feed (line_len rest) rest)
        → lines_of (b ∷ rest) ≡ split_at_feed (suc (line_len rest)) (b ∷ rest)
    longer [] e later = lines_of-more b [] e
    longer (c ∷ more) e later = lines_of-more b (c ∷ more) e ∙ ap (before_first_line b) (later (omega arith))

    pick : (feed : Bool) → (b == 10) ≡ feed → (0 < length text → lines_of text ≡ split_at_feed (line_len text) text)
        → lines_of (b ∷ text) ≡ split_at_feed (line_len (b ∷ text)) (b ∷ text)
    pick true e later = lines_of-feed b text e ∙ ap (λ n. split_at_feed n (b ∷ text)) (sym (line_len-feed b text e))
    pick false e later = longer text e later ∙ ap (λ n. split_at_feed n (b ∷ text)) (sym (line_len-more b text e))

drop-suc : (n : ℕ) (xs : List ℕ) → drop (suc n) xs ≡ drop 1 (drop n xs)
drop-suc zero xs = refl
drop-suc (suc n) [] = refl
drop-suc (suc n) (x ∷ xs) = drop-suc n xs

-- what stands behind the line feed, where there is one
pub first_and_rest : (text line rest : List ℕ) (len : ℕ) → 0 < length text → len ≡ line_len text → line ≡ take len text → rest ≡ drop len text
    → lines_of text ≡ line ∷ lines_of (drop 1 rest)
first_and_rest text line rest len some l front back =
    lines_of-first text some ∙ ap (λ n. split_at_feed n text) (sym l)
    ∙ ap (λ (r : List ℕ). take len text ∷ lines_of r) (drop-suc len text ∙ ap (drop 1) (sym back)) ∙ ap (λ (w : List ℕ). w ∷ lines_of (drop 1 rest)) (sym front)

pub first_and_none : (text line rest : List ℕ) (len : ℕ) → 0 < length text → len ≡ line_len text → line ≡ take len text → rest ≡ drop len text
    → length rest < 1 → lines_of text ≡ line ∷ lines_of rest
first_and_none text line [] len some l front back none = first_and_rest text line [] len some l front back
first_and_none text line (x ∷ rest) len some l front back none = absurd (omega arith)

pub behind_feed : (rest : List ℕ) → take (length rest - 1) (drop 1 rest) ≡ drop 1 rest
behind_feed rest = take_all (length rest - 1) (drop 1 rest) (omega (arith, length-drop 1 rest))
