-- Laws of the text of literals and lines: a literal, and the literals of a line, have one text.
use Rattle.std.proofs.Common.{◌≡◌, ◌≢◌, ℕ, suc, zero, ◌+◌, ◌^◌, ◌<◌, ◌≤◌, Bool, true, false, List, [], ◌∷◌, ◌++◌, length, Option, Some, None, refl, ap, ap₂, ◌∙◌, sym, subst, lit<, arith, append_assoc, append-nil}
use Rattle.std.specs.Fmt.{decimal}
use Rattle.std.specs.List.{AllByRecursion, flat_map}
use Rattle.std.specs.Str.Parse.{AllDigits}
use Rattle.std.proofs.lemmas.Fmt.{decimal_is_IsNumeral, decimal_injective, decimal_nonempty}
use Rattle.std.proofs.lemmas.Str.Parse.{digit_from_value}
use Rattle.sched_text.specs.FirstBadLaws.{free_append}
use Rattle.sched_text.specs.LineLaws.{IsFreeOf, one_split, not_free}
use Rattle.cert_text.specs.declared.cert.CertLit.{CertLit}
use Rattle.cert_text.specs.declared.cert.CertLit.TheVariants.{Before, Var}
use Rattle.cert_text.specs.Text.{place_text, literal_text, spaced, words_of}
use Rattle.cert_text.specs.Grammar.{AreSteps, IsLit, IsAfter, MayStand, AreRising, IsFullLine}

-- the byte is no digit
abbrev pub IsNoDigit : ℕ → Type 0
IsNoDigit byte = 48 ≤ byte → byte ≤ 57 → ⊥

digits_free : (byte : ℕ) (digits : List ℕ) → IsNoDigit byte → AllDigits 10 digits → IsFreeOf byte digits
digits_free byte [] out all = tt
digits_free byte (digit ∷ digits) out all =
    let range = digit_from_value digit all.0 in
    ((λ same. out (omega arith) (omega arith)), digits_free byte digits out all.1)

-- a number's text has digits alone
pub number_free : (byte n : ℕ) → IsNoDigit byte → n < 2 ^ 64 → IsFreeOf byte (decimal n)
number_free byte n out fits = digits_free byte (decimal n) out (decimal_is_IsNumeral n fits).0.1

pub not_empty : (byte : ℕ) (a x : List ℕ) → a ++ byte ∷ x ≡ [] → ⊥
not_empty byte [] x e = cc
not_empty byte (c ∷ a) x e = cc

place_free : (byte t i : ℕ) → IsNoDigit byte → byte ≢ 46 → t < 2 ^ 64 → i < 2 ^ 64 → IsFreeOf byte (place_text t i)
place_free byte t i out other few_t few_i =
    free_append byte (decimal t) (46 ∷ decimal i) (number_free byte t out few_t) ((λ same. other (sym same)), number_free byte i out few_i)

-- a place is parted by its full stop
pub one_place : (t i u j : ℕ) → t < 2 ^ 64 → i < 2 ^ 64 → u < 2 ^ 64 → j < 2 ^ 64 → place_text t i ≡ place_text u j → (t ≡ u) × (i ≡ j)
one_place t i u j few_t few_i few_u few_j e =
    let parts = one_split 46 (decimal t) (decimal u) (decimal i) (decimal j) (number_free 46 t (λ low high. omega arith) few_t) (number_free 46 u (λ low high. omega arith) few_u) e in
    (decimal_injective t u few_t few_u parts.0, decimal_injective i j few_i few_j parts.1)

-- the fields of two steps, with room for their text
pub record Fits (t i u j : ℕ) : Type 0 where
  pub few_t : t < 2 ^ 64
  pub few_i : i < 2 ^ 64
  pub few_u : u < 2 ^ 64
  pub few_j : j < 2 ^ 64

pub fits : (t i u j : ℕ) → AreSteps t i u j → Fits t i u j
fits t i u j are = record {
  few_t = let b = are.first_thread in omega arith;
  few_i = let b = are.first_step in omega arith;
  few_u = let b = are.second_thread in omega arith;
  few_j = let b = are.second_step in omega arith;
}

-- a text that begins with a number begins with a digit
begins_digit : (byte n : ℕ) (x y : List ℕ) → IsNoDigit byte → n < 2 ^ 64 → decimal n ++ x ≡ byte ∷ y → ⊥
begins_digit byte n x y out few e = begins (decimal n) (decimal_nonempty n few) (number_free byte n out few) e
  where
    begins : (a : List ℕ) → 0 < length a → IsFreeOf byte a → a ++ x ≡ byte ∷ y → ⊥
    begins [] some free same = omega arith
    begins (c ∷ a) some free same = free.0 (cc same)

pub no_variable : (byte t i u j : ℕ) (y : List ℕ) → IsNoDigit byte → AreSteps t i u j → literal_text (Before t i u j) ≡ byte ∷ y → ⊥
no_variable byte t i u j y out are e =
    begins_digit byte t (46 ∷ (decimal i ++ 60 ∷ place_text u j)) y out (fits t i u j are).few_t (sym (append_assoc (decimal t) (46 ∷ decimal i) (60 ∷ place_text u j)) ∙ e)

-- two steps are parted by `<`
pub one_pair : (t i : ℕ) (a b x : List ℕ) → t < 2 ^ 64 → i < 2 ^ 64 → IsFreeOf 60 a → a ++ 60 ∷ b ≡ place_text t i ++ 60 ∷ x → (a ≡ place_text t i) × (b ≡ x)
one_pair t i a b x few_t few_i free e = one_split 60 a (place_text t i) b x free (place_free 60 t i (λ low high. omega arith) (λ same. omega arith) few_t few_i) e

one_before : (t i u j v k w l : ℕ) → AreSteps t i u j → AreSteps v k w l → literal_text (Before t i u j) ≡ literal_text (Before v k w l) → Before t i u j ≡ Before v k w l
one_before t i u j v k w l are also e =
    let f = fits t i u j are in
    let g = fits v k w l also in
    let pair = one_pair v k (place_text t i) (place_text u j) (place_text w l) g.few_t g.few_i (place_free 60 t i (λ low high. omega arith) (λ same. omega arith) f.few_t f.few_i) e in
    let first = one_place t i v k f.few_t f.few_i g.few_t g.few_i pair.0 in
    let second = one_place u j w l f.few_u f.few_j g.few_u g.few_j pair.1 in
    ap₂ (λ (a b : ℕ). Before a b u j) first.0 first.1 ∙ ap₂ (λ (a b : ℕ). Before v k a b) second.0 second.1

-- a literal has one text
pub one_literal : (l m : CertLit) → IsLit l → IsLit m → literal_text l ≡ literal_text m → l ≡ m
one_literal (Before t i u j) (Before v k w l) is_l is_m e = one_before t i u j v k w l is_l is_m e
one_literal (Before t i u j) (Var n true) is_l is_m e = absurd (no_variable 120 t i u j _ (λ low high. omega arith) is_l e)
one_literal (Before t i u j) (Var n false) is_l is_m e = absurd (no_variable 45 t i u j _ (λ low high. omega arith) is_l e)
one_literal (Var n true) (Before t i u j) is_l is_m e = absurd (no_variable 120 t i u j _ (λ low high. omega arith) is_m (sym e))
one_literal (Var n false) (Before t i u j) is_l is_m e = absurd (no_variable 45 t i u j _ (λ low high. omega arith) is_m (sym e))
one_literal (Var m true) (Var n true) is_l is_m e =
    ap (λ (k : ℕ). Var k true) (decimal_injective m n (let b = is_l.1 in omega arith) (let b = is_m.1 in omega arith) (cc e))
one_literal (Var m true) (Var n false) is_l is_m e = cc
one_literal (Var m false) (Var n true) is_l is_m e = cc
one_literal (Var m false) (Var n false) is_l is_m e =
    ap (λ (k : ℕ). Var k false) (decimal_injective m n (let b = is_l.1 in omega arith) (let b = is_m.1 in omega arith) (cc e))

-- a literal has neither a space nor a line feed, and some bytes
pub literal_free : (byte : ℕ) (l : CertLit) → byte < 45 → IsLit l → IsFreeOf byte (literal_text l)
literal_free byte (Before t i u j) low is =
    let f = fits t i u j is in
    free_append byte (place_text t i) (60 ∷ place_text u j) (place_free byte t i (λ l h. omega arith) (λ same. omega arith) f.few_t f.few_i)
    ((λ same. omega arith), place_free byte u j (λ l h. omega arith) (λ same. omega arith) f.few_u f.few_j)
literal_free byte (Var n true) low is = ((λ same. omega arith), number_free byte n (λ l h. omega arith) (let b = is.1 in omega arith))
literal_free byte (Var n false) low is = ((λ same. omega arith), ((λ same. omega arith), number_free byte n (λ l h. omega arith) (let b = is.1 in omega arith)))

pub literal_not_empty : (l : CertLit) (x : List ℕ) → literal_text l ++ x ≡ [] → ⊥
literal_not_empty (Before t i u j) x e = not_empty 60 (place_text t i) (place_text u j ++ x) (sym (append_assoc (place_text t i) (60 ∷ place_text u j) x) ∙ e)
literal_not_empty (Var n true) x e = cc
literal_not_empty (Var n false) x e = cc

pub words_not_empty : (line : List CertLit) → line ≢ [] → words_of line ≡ [] → ⊥
words_not_empty [] full e = full refl
words_not_empty (l ∷ ls) full e = literal_not_empty l (flat_map spaced ls) e

-- a line has no line feed
spaced_free : (ls : List CertLit) → AllByRecursion IsLit ls → IsFreeOf 10 (flat_map spaced ls)
spaced_free [] all = tt
spaced_free (l ∷ ls) all = ((λ same. omega arith), free_append 10 (literal_text l) (flat_map spaced ls) (literal_free 10 l (lit< tt) all.0) (spaced_free ls all.1))

pub words_free : (ls : List CertLit) → AllByRecursion IsLit ls → IsFreeOf 10 (words_of ls)
words_free [] all = tt
words_free (l ∷ ls) all = free_append 10 (literal_text l) (flat_map spaced ls) (literal_free 10 l (lit< tt) all.0) (spaced_free ls all.1)

-- only one literal has no space behind it
pub alone : (l : CertLit) (a x : List ℕ) → IsLit l → literal_text l ++ [] ≡ a ++ 32 ∷ x → ⊥
alone l a x is e = not_free 32 (literal_text l) a x (literal_free 32 l (lit< tt) is) (sym (append-nil (literal_text l)) ∙ e)

-- the literals of a line have one text
pub one_words : (ls ms : List CertLit) → AllByRecursion IsLit ls → AllByRecursion IsLit ms → words_of ls ≡ words_of ms → ls ≡ ms
one_words [] [] all_l all_m e = refl
one_words [] (m ∷ ms) all_l all_m e = absurd (literal_not_empty m (flat_map spaced ms) (sym e))
one_words (l ∷ ls) [] all_l all_m e = absurd (literal_not_empty l (flat_map spaced ls) e)
one_words (l ∷ []) (m ∷ []) all_l all_m e =
    ap (λ (k : CertLit). k ∷ []) (one_literal l m all_l.0 all_m.0 (sym (append-nil (literal_text l)) ∙ e ∙ append-nil (literal_text m)))
one_words (l ∷ []) (m ∷ n ∷ ms) all_l all_m e = absurd (alone l (literal_text m) (words_of (n ∷ ms)) all_l.0 e)
one_words (l ∷ k ∷ ls) (m ∷ []) all_l all_m e = absurd (alone m (literal_text l) (words_of (k ∷ ls)) all_m.0 (sym e))
one_words (l ∷ k ∷ ls) (m ∷ n ∷ ms) all_l all_m e =
    let parts = one_split 32 (literal_text l) (literal_text m) (words_of (k ∷ ls)) (words_of (n ∷ ms)) (literal_free 32 l (lit< tt) all_l.0) (literal_free 32 m (lit< tt) all_m.0) e in
    ap₂ (λ (h : CertLit) (t : List CertLit). h ∷ t) (one_literal l m all_l.0 all_m.0 parts.0) (one_words (k ∷ ls) (n ∷ ms) all_l.1 all_m.1 parts.1)

pub rising_lits : (last : Option CertLit) (ls : List CertLit) → AreRising last ls → AllByRecursion IsLit ls
rising_lits last [] rising = tt
rising_lits last (l ∷ ls) rising = (rising.0.is, rising_lits (Some l) ls rising.1)

pub line_free : (line : List CertLit) → IsFullLine line → IsFreeOf 10 (words_of line)
line_free line is = words_free line (rising_lits None line is.rising)
