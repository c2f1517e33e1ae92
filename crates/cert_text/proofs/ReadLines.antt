-- What has been read of a certificate's text, line by line.
use Rattle.std.proofs.Common.{◌≡◌, ◌≢◌, ◌⊎◌, ℕ, suc, zero, ◌+◌, ◌-◌, ◌<◌, ◌≤◌, Bool, true, false, not, eqb, List, [], ◌∷◌, ◌++◌, length, take, map, Option, None, refl, ap, ◌∙◌, sym, subst, lit<, arith, append_assoc, append-nil, inl, inr, length-append}
use Rattle.std.proofs.lemmas.Bool.{eqb-true}
use Rattle.std.specs.List.{AllByRecursion}
use Rattle.sched_text.specs.FirstBad.{first_lines}
use Rattle.sched_text.specs.LineLaws.{one_split}
use Rattle.cert_text.specs.declared.cert.Cert.{Cert}
use Rattle.cert_text.specs.declared.cert.CertLit.{CertLit}
use Rattle.cert_text.specs.FirstBad.{IsCertText, AreGood, IsFirstBad}
use Rattle.cert_text.specs.FirstBadLaws.{text_of, AreFree, text_of-line, first_lines-all, first_lines-within, NextLine, same_lines, lines_of, lines_in, cert_text-lines, IsLineOrEmpty, each, lines_free, SameParts, same_parts, cert_of}
use Rattle.cert_text.specs.Grammar.{IsFullLine, AreLines, IsTextOf}
use Rattle.cert_text.specs.Reading.{begins_full}
use Rattle.cert_text.specs.Text.{words_of, mark_of, cert_text}
use Rattle.cert_text.specs.TextLaws.{not_empty, words_not_empty, words_free, rising_lits}

-- these lines are read, and the rest begins at this line
pub record IsRead (bytes : List ℕ) (whole : Bool) (lines : List (List CertLit)) (line : ℕ) (rest : List ℕ) : Type 0 where
  pub full : AllByRecursion IsFullLine lines
  pub text : bytes ≡ text_of (lines_of whole lines) ++ rest
  pub line_is : line ≡ length lines + 2

pub nothing_read : (bytes rest : List ℕ) (whole : Bool) → bytes ≡ mark_of whole ++ 10 ∷ rest → IsRead bytes whole [] 2 rest
nothing_read bytes rest whole e = record { full = tt; text = e ∙ sym (text_of-line (mark_of whole) [] rest); line_is = refl }

-- one more line
text_of-more : (lines : List (List ℕ)) (line x : List ℕ) → text_of lines ++ (line ++ 10 ∷ x) ≡ text_of (lines ++ line ∷ []) ++ x
text_of-more [] line x = sym (text_of-line line [] x)
text_of-more (first ∷ lines) line x =
    text_of-line first lines (line ++ 10 ∷ x) ∙ ap (λ (l : List ℕ). first ++ 10 ∷ l) (text_of-more lines line x)
    ∙ sym (text_of-line first (lines ++ line ∷ []) x)

map_more : (lines : List (List CertLit)) (l : List CertLit) → map words_of (lines ++ l ∷ []) ≡ map words_of lines ++ words_of l ∷ []
map_more [] l = refl
map_more (first ∷ lines) l = ap (λ (t : List (List ℕ)). words_of first ∷ t) (map_more lines l)

lines_more : (whole : Bool) (lines : List (List CertLit)) (l : List CertLit) (x : List ℕ) → text_of (lines_of whole lines) ++ (words_of l ++ 10 ∷ x) ≡ text_of (lines_of whole (lines ++ l ∷ [])) ++ x
lines_more whole lines l x =
    text_of-more (lines_of whole lines) (words_of l) x
    ∙ ap (λ (t : List (List ℕ)). text_of (mark_of whole ∷ t) ++ x) (sym (map_more lines l))

full_more : (lines : List (List CertLit)) (l : List CertLit) → AllByRecursion IsFullLine lines → IsFullLine l → AllByRecursion IsFullLine (lines ++ l ∷ [])
full_more [] l all full = (full, tt)
full_more (first ∷ lines) l all full = (all.0, full_more lines l all.1 full)

pub line_read : (bytes : List ℕ) (whole : Bool) (lines : List (List CertLit)) (line : ℕ) (rest after : List ℕ) (l : List CertLit) → IsRead bytes whole lines line rest → IsFullLine l
    → rest ≡ words_of l ++ 10 ∷ after → IsRead bytes whole (lines ++ l ∷ []) (line + 1) after
line_read bytes whole lines line rest after l read full e = record {
  full = full_more lines l read.full full;
  text = read.text ∙ ap (λ (b : List ℕ). text_of (lines_of whole lines) ++ b) e ∙ lines_more whole lines l after;
  line_is = let i = read.line_is in omega (arith, length-append lines (l ∷ []));
}

pub line_shortens : (rest after : List ℕ) (l : List CertLit) → rest ≡ words_of l ++ 10 ∷ after → length after + 1 ≤ length rest
line_shortens rest after l e = let whole = ap length e in omega (arith, length-append (words_of l) (10 ∷ after))

-- ---- the end of a text

same_text : (cert : Cert) (bytes : List ℕ) → AreLines cert.whole cert.lines → bytes ≡ text_of (lines_in cert) → IsTextOf cert bytes
same_text cert bytes are e = record { lines = are; text = e ∙ sym (cert_text-lines cert) }

pub part_read : (bytes : List ℕ) (lines : List (List CertLit)) (line : ℕ) → IsRead bytes false lines line [] → IsTextOf (cert_of false lines) bytes
part_read bytes lines line read = same_text (cert_of false lines) bytes read.full (read.text ∙ append-nil (text_of (lines_of false lines)))

pub whole_read : (bytes : List ℕ) (lines : List (List CertLit)) (line : ℕ) → IsRead bytes true lines line (10 ∷ []) → IsTextOf (cert_of true (lines ++ [] ∷ [])) bytes
whole_read bytes lines line read =
    same_text (cert_of true (lines ++ [] ∷ [])) bytes (lines, read.full, refl)
    (read.text ∙ lines_more true lines [] [] ∙ append-nil (text_of (lines_of true (lines ++ [] ∷ []))))

-- ---- the first bad line

-- some certificate begins with these lines
record IsFront (lines : List (List ℕ)) : Type 0 where
  text : List ℕ
  is : IsCertText text
  rest : List ℕ
  parts : text ≡ text_of lines ++ rest

front_of_cert : (cert : Cert) → AreLines cert.whole cert.lines → IsFront (lines_in cert)
front_of_cert cert are = record {
  text = cert_text cert;
  is = (cert, record { lines = are; text = refl });
  rest = [];
  parts = cert_text-lines cert ∙ sym (append-nil (text_of (lines_in cert)));
}

front_of_lines : (whole : Bool) (lines : List (List CertLit)) → AllByRecursion IsFullLine lines → IsFront (lines_of whole lines)
front_of_lines false lines full = front_of_cert (cert_of false lines) full
front_of_lines true lines full = record {
  text = cert_text cert;
  is = (cert, record { lines = (lines, full, refl); text = refl });
  rest = 10 ∷ [];
  parts = cert_text-lines cert ∙ sym (append-nil (text_of (lines_in cert))) ∙ sym (lines_more true lines [] []);
}
  where
    cert : Cert
    cert = cert_of true (lines ++ [] ∷ [])

-- no certificate goes on with the lines as the rest does
abbrev NoneGoesOn : List (List ℕ) → List ℕ → Type 0
NoneGoesOn lines rest = (cert : Cert) → AreLines cert.whole cert.lines → ((lines_in cert ≡ lines) × (rest ≡ [])) ⊎ NextLine lines (lines_in cert) rest → ⊥

bad_line : (bytes : List ℕ) (lines : List (List ℕ)) (line : ℕ) (rest : List ℕ) → AreFree lines → bytes ≡ text_of lines ++ rest → IsFront lines → line ≡ length lines + 1 → NoneGoesOn lines rest → IsFirstBad bytes line
bad_line bytes lines line rest free e front counted none = record {
  bad = λ good. bad good.text good.is.0 good.is.1 good.lines;
  before = λ n below. before n (omega arith);
}
  where
    before : (n : ℕ) → n ≤ length lines → AreGood n bytes
    before n within = record {
      text = front.text;
      is = front.is;
      lines = ap (first_lines n) front.parts ∙ first_lines-within lines n front.rest within free ∙ sym (first_lines-within lines n rest within free) ∙ ap (first_lines n) (sym e);
    }

    bad : (text : List ℕ) (cert : Cert) → IsTextOf cert text → first_lines line text ≡ first_lines line bytes → ⊥
    bad text cert is same =
        let there = ap (first_lines (length lines + 1)) (sym (cert_text-lines cert) ∙ sym is.text) ∙ ap (λ (n : ℕ). first_lines n text) (sym counted) ∙ same
        ∙ ap (λ (n : ℕ). first_lines n bytes) counted ∙ ap (first_lines (length lines + 1)) e ∙ first_lines-all lines 1 rest free in
        none cert is.lines (same_lines lines (lines_in cert) rest free (lines_free cert.whole cert.lines (each cert.whole cert.lines is.lines)) there)

-- a line among lines
record LineIn (P : List CertLit → Type 0) (line : List ℕ) : Type 0 where
  literals : List CertLit
  holds : P literals
  text : words_of literals ≡ line

line_in : (P : List CertLit → Type 0) (lines : List (List CertLit)) (before : List (List ℕ)) (line : List ℕ) (more : List (List ℕ)) → AllByRecursion P lines → map words_of lines ≡ before ++ line ∷ more → LineIn P line
line_in P [] [] line more all e = cc
line_in P [] (w ∷ before) line more all e = cc
line_in P (l ∷ lines) [] line more all e = record { literals = l; holds = all.0; text = cc e }
line_in P (l ∷ lines) (w ∷ before) line more all e = line_in P lines before line more all.1 (cc e)

no_empty_line : (lines : List (List CertLit)) (before more : List (List ℕ)) → AllByRecursion IsFullLine lines → map words_of lines ≡ before ++ [] ∷ more → ⊥
no_empty_line lines before more all e =
    let found = line_in IsFullLine lines before [] more all e in
    words_not_empty found.literals found.holds.full found.text

-- the lines behind the mark
parts_of : (cert : Cert) (whole : Bool) (lines : List (List CertLit)) (rest : List ℕ) (next : NextLine (lines_of whole lines) (lines_in cert) rest)
    → SameParts cert.whole whole (map words_of cert.lines) (map words_of lines ++ next.next ∷ next.more)
parts_of cert whole lines rest next = same_parts cert.whole whole (map words_of cert.lines) (map words_of lines ++ next.next ∷ next.more) next.joined

lines_as : (whole : Bool) (cert : Cert) → AreLines cert.whole cert.lines → cert.whole ≡ whole → AreLines whole cert.lines
lines_as whole cert are same = subst (λ w. AreLines w cert.lines) same are

length_map : (lines : List (List CertLit)) → length (map words_of lines) ≡ length lines
length_map [] = refl
length_map (l ∷ lines) = ap suc (length_map lines)

bad_read : (bytes : List ℕ) (whole : Bool) (lines : List (List CertLit)) (line : ℕ) (rest : List ℕ) → IsRead bytes whole lines line rest → NoneGoesOn (lines_of whole lines) rest → IsFirstBad bytes line
bad_read bytes whole lines line rest read none =
    bad_line bytes (lines_of whole lines) line rest (lines_free whole lines (each false lines read.full)) read.text (front_of_lines whole lines read.full)
    (let i = read.line_is in omega (arith, length_map lines)) none

not_begun : (rest left : List ℕ) → begins_full rest ≡ true → rest ≡ 10 ∷ left → ⊥
not_begun rest left begins e = let no : begins_full (10 ∷ left) ≡ true = subst (λ r. begins_full r ≡ true) e begins in cc

nothing_begun : (rest : List ℕ) → begins_full rest ≡ true → rest ≡ [] → ⊥
nothing_begun rest begins e = let no : begins_full [] ≡ true = subst (λ r. begins_full r ≡ true) e begins in cc

-- where no line goes on with what is read, the next one is the first bad one
pub bad_next : (bytes : List ℕ) (whole : Bool) (lines : List (List CertLit)) (line : ℕ) (rest : List ℕ) → IsRead bytes whole lines line rest → begins_full rest ≡ true
    → ((l : List CertLit) (after : List ℕ) → IsFullLine l → rest ≡ words_of l ++ 10 ∷ after → ⊥) → IsFirstBad bytes line
bad_next bytes whole lines line rest read begins none = bad_read bytes whole lines line rest read none_on
  where
    next_line : (cert : Cert) → AreLines cert.whole cert.lines → NextLine (lines_of whole lines) (lines_in cert) rest → ⊥
    next_line cert are next =
        let found = line_in IsLineOrEmpty cert.lines (map words_of lines) next.next next.more (each cert.whole cert.lines are) (parts_of cert whole lines rest next).lines in
        let text = next.text ∙ ap (λ (b : List ℕ). b ++ 10 ∷ next.left) (sym found.text) in
        elim found.holds [
          | inl full ↦ none found.literals next.left full text
          | inr empty ↦ not_begun rest next.left begins (text ∙ ap (λ (ls : List CertLit). words_of ls ++ 10 ∷ next.left) empty)
        ]

    none_on : NoneGoesOn (lines_of whole lines) rest
    none_on cert are goes = elim goes [ inl ends ↦ nothing_begun rest begins ends.1 | inr next ↦ next_line cert are next ]

-- a whole text without its empty line ends too early
pub bad_end : (bytes : List ℕ) (lines : List (List CertLit)) (line : ℕ) → IsRead bytes true lines line [] → IsFirstBad bytes line
bad_end bytes lines line read = bad_read bytes true lines line [] read none_on
  where
    ended : (cert : Cert) → AreLines cert.whole cert.lines → lines_in cert ≡ lines_of true lines → ⊥
    ended cert are same =
        let parts = same_parts cert.whole true (map words_of cert.lines) (map words_of lines) same in
        let whole = lines_as true cert are parts.whole in
        no_empty_line lines (map words_of whole.0) [] read.full (sym parts.lines ∙ ap (map words_of) whole.2 ∙ map_more whole.0 [])

    none_on : NoneGoesOn (lines_of true lines) []
    none_on cert are goes = elim goes [ inl ends ↦ ended cert are ends.0 | inr next ↦ not_empty 10 next.next next.left (sym next.text) ]

-- an empty line in a part
pub bad_empty : (bytes : List ℕ) (lines : List (List CertLit)) (line : ℕ) (after : List ℕ) → IsRead bytes false lines line (10 ∷ after) → IsFirstBad bytes line
bad_empty bytes lines line after read = bad_read bytes false lines line (10 ∷ after) read none_on
  where
    next_line : (cert : Cert) → AreLines cert.whole cert.lines → NextLine (lines_of false lines) (lines_in cert) (10 ∷ after) → ⊥
    next_line cert are next =
        let parts = parts_of cert false lines (10 ∷ after) next in
        let found = line_in IsFullLine cert.lines (map words_of lines) next.next next.more (lines_as false cert are parts.whole) parts.lines in
        let free = words_free found.literals (rising_lits None found.literals found.holds.rising) in
        let split = one_split 10 [] (words_of found.literals) after next.left tt free (next.text ∙ ap (λ (b : List ℕ). b ++ 10 ∷ next.left) (sym found.text)) in
        words_not_empty found.literals found.holds.full (sym split.0)

    none_on : NoneGoesOn (lines_of false lines) (10 ∷ after)
    none_on cert are goes = elim goes [ inl ends ↦ no_rest after ends.1 | inr next ↦ next_line cert are next ]
      where
        no_rest : (x : List ℕ) → 10 ∷ x ≡ [] → ⊥
        no_rest x e = cc

-- something after the empty line of a whole text
no_line : (a : List (List ℕ)) (b : List ℕ) (more : List (List ℕ)) → [] ≡ a ++ b ∷ more → ⊥
no_line [] b more e = cc
no_line (w ∷ a) b more e = cc

record Before (xs a : List (List ℕ)) (b : List ℕ) : Type 0 where
  more : List (List ℕ)
  joined : xs ≡ a ++ b ∷ more

before_last : (xs : List (List ℕ)) (y : List ℕ) (a : List (List ℕ)) (b c : List ℕ) (more : List (List ℕ)) → xs ++ y ∷ [] ≡ a ++ b ∷ c ∷ more → Before xs a b
before_last [] y [] b c more e = cc
before_last [] y (w ∷ a) b c more e = absurd (no_line a b (c ∷ more) (cc e))
before_last (x ∷ xs) y [] b c more e = record { more = xs; joined = ap (λ (h : List ℕ). h ∷ xs) (cc e) }
before_last (x ∷ xs) y (w ∷ a) b c more e =
    let rest = before_last xs y a b c more (cc e) in
    let same : x ≡ w = cc e in
    record { more = rest.more; joined = ap (λ (h : List ℕ). h ∷ xs) same ∙ ap (λ (t : List (List ℕ)). w ∷ t) rest.joined }

pub bad_after : (bytes : List ℕ) (lines : List (List CertLit)) (line : ℕ) (after : List ℕ) → IsRead bytes true lines line (10 ∷ after) → after ≢ [] → IsFirstBad bytes (line + 1)
bad_after bytes lines line after read some =
    bad_line bytes (lines_of true longer) (line + 1) after (lines_free true longer (each true longer (lines, read.full, refl))) (read.text ∙ lines_more true lines [] after)
    (front_of_cert (cert_of true longer) (lines, read.full, refl)) counted none_on
  where
    longer : List (List CertLit)
    longer = lines ++ [] ∷ []

    counted : line + 1 ≡ length (lines_of true longer) + 1
    counted = let i = read.line_is in omega (arith, length_map longer, length-append lines ([] ∷ []))

    next_line : (cert : Cert) → AreLines cert.whole cert.lines → NextLine (lines_of true longer) (lines_in cert) after → ⊥
    next_line cert are next =
        let parts = parts_of cert true longer after next in
        let whole = lines_as true cert are parts.whole in
        let joined = sym (map_more whole.0 []) ∙ ap (map words_of) (sym whole.2) ∙ parts.lines ∙ ap (λ (t : List (List ℕ)). t ++ next.next ∷ next.more) (map_more lines [])
        ∙ append_assoc (map words_of lines) ([] ∷ []) (next.next ∷ next.more) in
        let front = before_last (map words_of whole.0) [] (map words_of lines) [] next.next next.more joined in
        no_empty_line whole.0 (map words_of lines) front.more whole.1 front.joined

    none_on : NoneGoesOn (lines_of true longer) after
    none_on cert are goes = elim goes [ inl ends ↦ some ends.1 | inr next ↦ next_line cert are next ]

-- a text without its mark
pub bad_mark : (bytes : List ℕ) → ((whole : Bool) (after : List ℕ) → bytes ≡ mark_of whole ++ 10 ∷ after → ⊥) → IsFirstBad bytes 1
bad_mark bytes none = bad_line bytes [] 1 bytes tt refl front refl none_on
  where
    front : IsFront []
    front = record { text = cert_text (cert_of false []); is = (cert_of false [], record { lines = tt; text = refl }); rest = cert_text (cert_of false []); parts = refl }

    marked : (cert : Cert) (next : NextLine [] (lines_in cert) bytes) → bytes ≡ mark_of cert.whole ++ 10 ∷ next.left
    marked cert next = let same : next.next ≡ mark_of cert.whole = cc next.joined in next.text ∙ ap (λ (b : List ℕ). b ++ 10 ∷ next.left) same

    none_on : NoneGoesOn [] bytes
    none_on cert are goes = elim goes [ inl ends ↦ no_mark cert ends.0 | inr next ↦ none cert.whole next.left (marked cert next) ]
      where
        no_mark : (c : Cert) → lines_in c ≡ [] → ⊥
        no_mark c e = cc

-- ---- how the reader ends

-- what is left is an empty line and what follows it
empty_first : (rest : List ℕ) → begins_full rest ≡ false → length rest ≢ 0 → (after : List ℕ) × (rest ≡ 10 ∷ after)
empty_first [] ends some = absurd (some refl)
empty_first (byte ∷ rest) ends some = (rest, ap (λ (b : ℕ). b ∷ rest) (feed (eqb byte 10) refl ends))
  where
    feed : (same : Bool) → eqb byte 10 ≡ same → not same ≡ false → byte ≡ 10
    feed true same e = eqb-true byte 10 same
    feed false other e = cc

no_more : (rest : List ℕ) → length rest ≡ 0 → rest ≡ []
no_more [] e = refl
no_more (byte ∷ rest) e = absurd (omega arith)

read_as : (bytes : List ℕ) (v w : Bool) (lines : List (List CertLit)) (line : ℕ) (rest left : List ℕ) → v ≡ w → rest ≡ left → IsRead bytes v lines line rest → IsRead bytes w lines line left
read_as bytes v w lines line rest left mark same read =
    subst (λ r. IsRead bytes w lines line r) same (subst (λ b. IsRead bytes b lines line rest) mark read)

pub part_ends : (bytes : List ℕ) (whole : Bool) (lines : List (List CertLit)) (line : ℕ) (rest : List ℕ) → IsRead bytes whole lines line rest → whole ≡ false → length rest ≡ 0
    → IsTextOf (cert_of whole lines) bytes
part_ends bytes whole lines line rest read part none =
    subst (λ w. IsTextOf (cert_of w lines) bytes) (sym part) (part_read bytes lines line (read_as bytes whole false lines line rest [] part (no_more rest none) read))

pub whole_ends : (bytes : List ℕ) (whole : Bool) (lines longer : List (List CertLit)) (line : ℕ) (rest : List ℕ) (last : List CertLit) → IsRead bytes whole lines line rest → begins_full rest ≡ false
    → whole ≡ true → length rest ≢ 0 → length rest ≤ 1 → last ≡ [] → longer ≡ lines ++ last ∷ [] → IsTextOf (cert_of whole longer) bytes
whole_ends bytes whole lines longer line rest last read ends marked some one empty joined =
    subst (λ w. IsTextOf (cert_of w longer) bytes) (sym marked) (subst (λ ls. IsTextOf (cert_of true ls) bytes) (sym (joined ∙ ap (λ (l : List CertLit). lines ++ l ∷ []) empty)) there)
  where
    found : (after : List ℕ) × (rest ≡ 10 ∷ after)
    found = empty_first rest ends some

    alone : rest ≡ 10 ∷ []
    alone = found.1 ∙ ap (λ (l : List ℕ). 10 ∷ l) (no_more found.0 (let counted = ap length found.1 in omega arith))

    there : IsTextOf (cert_of true (lines ++ [] ∷ [])) bytes
    there = whole_read bytes lines line (read_as bytes whole true lines line rest (10 ∷ []) marked alone read)

pub bad_finish : (bytes : List ℕ) (whole : Bool) (lines : List (List CertLit)) (line : ℕ) (rest : List ℕ) → IsRead bytes whole lines line rest → begins_full rest ≡ false
    → ((whole ≡ false) × (length rest ≢ 0)) ⊎ ((whole ≡ true) × (length rest ≡ 0)) → IsFirstBad bytes line
bad_finish bytes whole lines line rest read ends how = elim how [ inl part ↦ in_part part.0 part.1 | inr missing ↦ bad_end bytes lines line (read_as bytes whole true lines line rest [] missing.0 (no_more rest missing.1) read) ]
  where
    in_part : whole ≡ false → length rest ≢ 0 → IsFirstBad bytes line
    in_part mark some =
        let found = empty_first rest ends some in
        bad_empty bytes lines line found.0 (read_as bytes whole false lines line rest (10 ∷ found.0) mark found.1 read)

pub bad_more : (bytes : List ℕ) (whole : Bool) (lines : List (List CertLit)) (line : ℕ) (rest : List ℕ) → IsRead bytes whole lines line rest → begins_full rest ≡ false
    → whole ≡ true → 1 < length rest → IsFirstBad bytes (line + 1)
bad_more bytes whole lines line rest read ends marked many = bad_after bytes lines line found.0 (read_as bytes whole true lines line rest (10 ∷ found.0) marked found.1 read) some
  where
    found : (after : List ℕ) × (rest ≡ 10 ∷ after)
    found = empty_first rest ends (λ none. omega arith)

    some : found.0 ≢ []
    some empty = let counted = ap length (found.1 ∙ ap (λ (l : List ℕ). 10 ∷ l) empty) in omega arith
