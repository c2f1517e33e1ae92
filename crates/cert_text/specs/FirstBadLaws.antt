-- Laws of the lines of a certificate's text: a certificate has one text, whose lines are all good, and no bytes
-- have two first bad lines.
use Rattle.std.proofs.Common.{◌≡◌, ◌≢◌, ◌⊎◌, ℕ, suc, zero, ◌+◌, ◌-◌, ◌<◌, ◌≤◌, Bool, true, false, cond, eqb, List, [], ◌∷◌, ◌++◌, length, take, map, Option, None, refl, ap, ap₂, ◌∙◌, sym, subst, lit<, arith, append_assoc, append-nil, inl, inr}
use Rattle.std.proofs.lemmas.Bool.{ne_eqb, cases_order}
use Rattle.std.proofs.lemmas.List.Folds.{flat_map-map}
use Rattle.std.specs.List.{AllByRecursion, flat_map}
use Rattle.sched_text.specs.FirstBad.{first_lines}
use Rattle.sched_text.specs.FirstBadLaws.{first_lines-zero, first_lines-line}
use Rattle.sched_text.specs.LineLaws.{IsFreeOf, one_split}
use Rattle.cert_text.specs.declared.cert.Cert.{Cert}
use Rattle.cert_text.specs.declared.cert.CertLit.{CertLit}
use Rattle.cert_text.specs.FirstBad.{IsCertText, AreGood, IsFirstBad}
use Rattle.cert_text.specs.Grammar.{IsLit, IsFullLine, AreLines, IsTextOf}
use Rattle.cert_text.specs.Text.{words_of, line_of, mark_of, cert_text}
use Rattle.cert_text.specs.TextLaws.{not_empty, words_free, one_words, rising_lits}

-- ---- lines, each without its line feed

abbrev pub ended : List ℕ → List ℕ
ended line = line ++ 10 ∷ []

abbrev pub text_of : List (List ℕ) → List ℕ
text_of lines = flat_map ended lines

abbrev pub AreFree : List (List ℕ) → Type 0
AreFree lines = AllByRecursion (IsFreeOf 10) lines

pub text_of-line : (line : List ℕ) (lines : List (List ℕ)) (x : List ℕ) → text_of (line ∷ lines) ++ x ≡ line ++ 10 ∷ (text_of lines ++ x)
text_of-line line lines x = append_assoc (ended line) (text_of lines) x ∙ append_assoc line (10 ∷ []) (text_of lines ++ x)

text_of-first : (line : List ℕ) (lines : List (List ℕ)) → text_of (line ∷ lines) ≡ line ++ 10 ∷ text_of lines
text_of-first line lines = append_assoc line (10 ∷ []) (text_of lines)

-- so many lines go first
pub first_lines-all : (lines : List (List ℕ)) (k : ℕ) (x : List ℕ) → AreFree lines → first_lines (length lines + k) (text_of lines ++ x) ≡ text_of lines ++ first_lines k x
first_lines-all [] k x free = let e : 0 + k ≡ k = omega arith in ap (λ (n : ℕ). first_lines n x) e
first_lines-all (line ∷ lines) k x free =
    let next : length (line ∷ lines) + k ≡ suc (length lines + k) = omega arith in
    ap (λ (n : ℕ). first_lines n (text_of (line ∷ lines) ++ x)) next
    ∙ ap (λ (l : List ℕ). first_lines (suc (length lines + k)) l) (text_of-line line lines x)
    ∙ first_lines-line (length lines + k) line (text_of lines ++ x) free.0
    ∙ ap (λ (l : List ℕ). line ++ 10 ∷ l) (first_lines-all lines k x free.1)
    ∙ sym (text_of-line line lines (first_lines k x))

-- no more lines than there are
pub first_lines-within : (lines : List (List ℕ)) (n : ℕ) (x : List ℕ) → n ≤ length lines → AreFree lines → first_lines n (text_of lines ++ x) ≡ text_of (take n lines)
first_lines-within lines zero x within free = first_lines-zero (text_of lines ++ x)
first_lines-within [] (suc n) x within free = absurd (omega arith)
first_lines-within (line ∷ lines) (suc n) x within free =
    ap (λ (l : List ℕ). first_lines (suc n) l) (text_of-line line lines x)
    ∙ first_lines-line n line (text_of lines ++ x) free.0
    ∙ ap (λ (l : List ℕ). line ++ 10 ∷ l) (first_lines-within lines n x (omega arith) free.1)
    ∙ sym (text_of-first line (take n lines))

no_lines : (line : List ℕ) (lines : List (List ℕ)) → text_of (line ∷ lines) ≡ [] → ⊥
no_lines line lines e = not_empty 10 line (text_of lines) (sym (text_of-first line lines) ∙ e)

-- lines have one text
pub one_lines : (a b : List (List ℕ)) → AreFree a → AreFree b → text_of a ≡ text_of b → a ≡ b
one_lines [] [] free_a free_b e = refl
one_lines [] (v ∷ b) free_a free_b e = absurd (no_lines v b (sym e))
one_lines (w ∷ a) [] free_a free_b e = absurd (no_lines w a e)
one_lines (w ∷ a) (v ∷ b) free_a free_b e =
    let parts = one_split 10 w v (text_of a) (text_of b) free_a.0 free_b.0 (sym (text_of-first w a) ∙ e ∙ text_of-first v b) in
    ap₂ (λ (h : List ℕ) (t : List (List ℕ)). h ∷ t) parts.0 (one_lines a b free_a.1 free_b.1 parts.1)

-- one more line is there, and the rest begins with it
pub record NextLine (lines longer : List (List ℕ)) (rest : List ℕ) : Type 0 where
  pub next : List ℕ
  pub more : List (List ℕ)
  pub joined : longer ≡ lines ++ next ∷ more
  pub left : List ℕ
  pub text : rest ≡ next ++ 10 ∷ left

-- the rest is empty where there is no line in it
no_first_line : (rest : List ℕ) → first_lines 1 rest ≡ [] → rest ≡ []
no_first_line [] e = refl
no_first_line (byte ∷ rest) e = cc

-- bytes begin with their first line
first_line : (line rest : List ℕ) → IsFreeOf 10 line → first_lines 1 rest ≡ ended line → (left : List ℕ) × (rest ≡ line ++ 10 ∷ left)
first_line [] [] free e = cc
first_line [] (byte ∷ rest) free e = (rest, ap (λ (b : ℕ). b ∷ rest) (cc e))
first_line (b ∷ line) [] free e = cc
first_line (b ∷ line) (byte ∷ rest) free e =
    let same : byte ≡ b = cc e in
    let text : first_lines (cond (eqb byte 10) 0 1) rest ≡ ended line = cc e in
    let one : cond (eqb byte 10) 0 1 ≡ 1 = rw (ne_eqb byte 10 (λ ten. free.0 (sym same ∙ ten))) refl in
    let found = first_line line rest free.1 (ap (λ (n : ℕ). first_lines n rest) (sym one) ∙ text) in
    (found.0, ap₂ (λ (h : ℕ) (t : List ℕ). h ∷ t) same found.1)

-- lines of which the first are these, and the next is that of the rest
pub same_lines : (lines longer : List (List ℕ)) (rest : List ℕ) → AreFree lines → AreFree longer → first_lines (length lines + 1) (text_of longer) ≡ text_of lines ++ first_lines 1 rest
    → ((longer ≡ lines) × (rest ≡ [])) ⊎ NextLine lines longer rest
same_lines [] [] rest free free_longer e = inl (refl, no_first_line rest (sym e))
same_lines [] (line ∷ longer) rest free free_longer e =
    let one = ap (first_lines 1) (text_of-first line longer) ∙ first_lines-line 0 line (text_of longer) free_longer.0 ∙ ap (λ (l : List ℕ). line ++ 10 ∷ l) (first_lines-zero (text_of longer)) in
    let first = first_line line rest free_longer.0 (sym e ∙ one) in
    inr (record { next = line; more = longer; joined = refl; left = first.0; text = first.1 })
same_lines (line ∷ lines) [] rest free free_longer e = absurd (not_empty 10 line (text_of lines ++ first_lines 1 rest) (sym (text_of-line line lines (first_lines 1 rest)) ∙ sym e))
same_lines (line ∷ lines) (other ∷ longer) rest free free_longer e =
    let next : length (line ∷ lines) + 1 ≡ suc (length lines + 1) = omega arith in
    let first = sym (first_lines-line (length lines + 1) other (text_of longer) free_longer.0) ∙ ap (first_lines (suc (length lines + 1))) (sym (text_of-first other longer))
    ∙ ap (λ (n : ℕ). first_lines n (text_of (other ∷ longer))) (sym next) ∙ e ∙ text_of-line line lines (first_lines 1 rest) in
    let parts = one_split 10 other line (first_lines (length lines + 1) (text_of longer)) (text_of lines ++ first_lines 1 rest) free_longer.0 free.0 first in
    elim (same_lines lines longer rest free.1 free_longer.1 parts.1) [
      | inl same ↦ inl (ap₂ (λ (h : List ℕ) (t : List (List ℕ)). h ∷ t) parts.0 same.0, same.1)
      | inr more ↦ inr (record { next = more.next; more = more.more; joined = ap₂ (λ (h : List ℕ) (t : List (List ℕ)). h ∷ t) parts.0 more.joined; left = more.left; text = more.text })
    ]

-- ---- the lines of a certificate

abbrev pub lines_of : Bool → List (List CertLit) → List (List ℕ)
lines_of whole lines = mark_of whole ∷ map words_of lines

abbrev pub lines_in : Cert → List (List ℕ)
lines_in cert = lines_of cert.whole cert.lines

pub cert_text-lines : (cert : Cert) → cert_text cert ≡ text_of (lines_in cert)
cert_text-lines cert =
    ap (λ (l : List ℕ). mark_of cert.whole ++ 10 ∷ l) (sym (flat_map-map ended words_of cert.lines))
    ∙ sym (text_of-first (mark_of cert.whole) (map words_of cert.lines))

-- a line of a certificate, which may be empty
abbrev pub IsLineOrEmpty : List CertLit → Type 0
IsLineOrEmpty line = IsFullLine line ⊎ (line ≡ [])

each_full : (lines : List (List CertLit)) → AllByRecursion IsFullLine lines → AllByRecursion IsLineOrEmpty lines
each_full [] all = tt
each_full (line ∷ lines) all = (inl all.0, each_full lines all.1)

each_whole : (full : List (List CertLit)) → AllByRecursion IsFullLine full → AllByRecursion IsLineOrEmpty (full ++ [] ∷ [])
each_whole [] all = (inr refl, tt)
each_whole (line ∷ full) all = (inl all.0, each_whole full all.1)

pub each : (whole : Bool) (lines : List (List CertLit)) → AreLines whole lines → AllByRecursion IsLineOrEmpty lines
each false lines are = each_full lines are
each true lines are = subst (AllByRecursion IsLineOrEmpty) (sym are.2) (each_whole are.0 are.1)

line_lits : (line : List CertLit) → IsLineOrEmpty line → AllByRecursion IsLit line
line_lits line is = elim is [ inl full ↦ rising_lits None line full.rising | inr empty ↦ subst (AllByRecursion IsLit) (sym empty) tt ]

free_words : (lines : List (List CertLit)) → AllByRecursion IsLineOrEmpty lines → AreFree (map words_of lines)
free_words [] all = tt
free_words (line ∷ lines) all = (words_free line (line_lits line all.0), free_words lines all.1)

mark_free : (whole : Bool) → IsFreeOf 10 (mark_of whole)
mark_free true = ((λ same. omega arith), ((λ same. omega arith), ((λ same. omega arith), ((λ same. omega arith), ((λ same. omega arith), tt)))))
mark_free false = ((λ same. omega arith), ((λ same. omega arith), ((λ same. omega arith), ((λ same. omega arith), tt))))

pub lines_free : (whole : Bool) (lines : List (List CertLit)) → AllByRecursion IsLineOrEmpty lines → AreFree (lines_of whole lines)
lines_free whole lines all = (mark_free whole, free_words lines all)

pub one_mark : (a b : Bool) → mark_of a ≡ mark_of b → a ≡ b
one_mark true true e = refl
one_mark true false e = cc
one_mark false true e = cc
one_mark false false e = refl

one_list : (a b : List (List CertLit)) → AllByRecursion IsLineOrEmpty a → AllByRecursion IsLineOrEmpty b → map words_of a ≡ map words_of b → a ≡ b
one_list [] [] all_a all_b e = refl
one_list [] (m ∷ b) all_a all_b e = cc
one_list (l ∷ a) [] all_a all_b e = cc
one_list (l ∷ a) (m ∷ b) all_a all_b e =
    ap₂ (λ (h : List CertLit) (t : List (List CertLit)). h ∷ t) (one_words l m (line_lits l all_a.0) (line_lits m all_b.0) (cc e)) (one_list a b all_a.1 all_b.1 (cc e))

-- the parts of one list of lines
pub record SameParts (v w : Bool) (a b : List (List ℕ)) : Type 0 where
  pub whole : v ≡ w
  pub lines : a ≡ b

pub same_parts : (v w : Bool) (a b : List (List ℕ)) → mark_of v ∷ a ≡ mark_of w ∷ b → SameParts v w a b
same_parts v w a b e = record { whole = one_mark v w (cc e); lines = cc e }

abbrev pub cert_of : Bool → List (List CertLit) → Cert
cert_of whole lines = record { whole = whole; lines = lines }

-- bytes are the text of one certificate
pub one_cert : (c d : Cert) (bytes : List ℕ) → IsTextOf c bytes → IsTextOf d bytes → c ≡ d
one_cert c d bytes is_c is_d = ap₂ cert_of parts.whole (one_list c.lines d.lines each_c each_d parts.lines)
  where
    each_c : AllByRecursion IsLineOrEmpty c.lines
    each_c = each c.whole c.lines is_c.lines

    each_d : AllByRecursion IsLineOrEmpty d.lines
    each_d = each d.whole d.lines is_d.lines

    parts : SameParts c.whole d.whole (map words_of c.lines) (map words_of d.lines)
    parts = same_parts c.whole d.whole _ _ (one_lines (lines_in c) (lines_in d) (lines_free c.whole c.lines each_c) (lines_free d.whole d.lines each_d)
        (sym (cert_text-lines c) ∙ sym is_c.text ∙ is_d.text ∙ cert_text-lines d))

-- the text of a certificate has no bad line
pub no_bad_line : (bytes : List ℕ) (cert : Cert) (line : ℕ) → IsFirstBad bytes line → IsTextOf cert bytes → ⊥
no_bad_line bytes cert line first is = first.bad (record { text = bytes; is = (cert, is); lines = refl })

-- there is one first bad line
pub one_bad_line : (bytes : List ℕ) (m n : ℕ) → IsFirstBad bytes m → IsFirstBad bytes n → m ≡ n
one_bad_line bytes m n first second = elim (cases_order m n) [
  | inl same ↦ same
  | inr other ↦ elim other [
    | inl below ↦ absurd (first.bad (second.before m below))
    | inr above ↦ absurd (second.bad (first.before n above))
  ]
]
