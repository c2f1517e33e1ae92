-- What has been read of a line, literal by literal.
use Rattle.std.proofs.Common.{◌≡◌, ◌≢◌, ℕ, suc, zero, ◌+◌, ◌^◌, ◌<◌, List, [], ◌∷◌, ◌++◌, length, Option, Some, None, refl, ap, ap₂, ◌∙◌, sym, subst, lit<, arith, append_assoc, append-nil}
use Rattle.std.specs.List.{AllByRecursion, flat_map}
use Rattle.sched_text.specs.LineLaws.{IsFreeOf, one_split, not_free}
use Rattle.cert_text.specs.declared.cert.CertLit.{CertLit}
use Rattle.cert_text.specs.Text.{literal_text, spaced, words_of}
use Rattle.cert_text.specs.Grammar.{IsLit, MayStand, AreRising, IsFullLine}
use Rattle.cert_text.specs.TextLaws.{alone, literal_free, one_literal, rising_lits}

-- the last literal, or what comes before literals
abbrev pub last_of : Option CertLit → List CertLit → Option CertLit
last_of before [] = before
last_of before (l ∷ ls) = last_of (Some l) ls

pub last_of-append : (before : Option CertLit) (ls : List CertLit) (l : CertLit) → last_of before (ls ++ l ∷ []) ≡ Some l
last_of-append before [] l = refl
last_of-append before (k ∷ ls) l = last_of-append (Some k) ls l

pub rising_append : (before : Option CertLit) (ls : List CertLit) (l : CertLit) → AreRising before ls → MayStand (last_of before ls) l → AreRising before (ls ++ l ∷ [])
rising_append before [] l rising may = (may, tt)
rising_append before (k ∷ ls) l rising may = (rising.0, rising_append (Some k) ls l rising.1 may)

rising_back : (before : Option CertLit) (ls : List CertLit) (m : CertLit) (ms : List CertLit) → AreRising before (ls ++ m ∷ ms) → MayStand (last_of before ls) m
rising_back before [] m ms rising = rising.0
rising_back before (k ∷ ls) m ms rising = rising_back (Some k) ls m ms rising.1

-- literals, each with a space behind it
abbrev pub front_of : List CertLit → List ℕ
front_of [] = []
front_of (l ∷ ls) = literal_text l ++ 32 ∷ front_of ls

front_append : (l : CertLit) (ls : List CertLit) (x : List ℕ) → front_of (l ∷ ls) ++ x ≡ literal_text l ++ 32 ∷ (front_of ls ++ x)
front_append l ls x = append_assoc (literal_text l) (32 ∷ front_of ls) x

pub front-more : (ls : List CertLit) (l : CertLit) (x : List ℕ) → front_of ls ++ (literal_text l ++ 32 ∷ x) ≡ front_of (ls ++ l ∷ []) ++ x
front-more [] l x = sym (front_append l [] x)
front-more (k ∷ ls) l x =
    front_append k ls (literal_text l ++ 32 ∷ x) ∙ ap (λ (b : List ℕ). literal_text k ++ 32 ∷ b) (front-more ls l x)
    ∙ sym (front_append k (ls ++ l ∷ []) x)

-- one more literal ends the line
pub words-more : (ls : List CertLit) (l : CertLit) → front_of ls ++ literal_text l ≡ words_of (ls ++ l ∷ [])
words-more [] l = sym (append-nil (literal_text l))
words-more (k ∷ []) l =
    front_append k [] (literal_text l) ∙ ap (λ (b : List ℕ). literal_text k ++ 32 ∷ b) (words-more [] l)
words-more (k ∷ j ∷ ls) l =
    front_append k (j ∷ ls) (literal_text l) ∙ ap (λ (b : List ℕ). literal_text k ++ 32 ∷ b) (words-more (j ∷ ls) l)

-- a line that begins so goes on with some literals
pub record GoesOn (ls longer : List CertLit) (x : List ℕ) : Type 0 where
  pub next : CertLit
  pub more : List CertLit
  pub joined : longer ≡ ls ++ next ∷ more
  pub text : x ≡ words_of (next ∷ more)

goes_on : (ls longer : List CertLit) (x : List ℕ) → AllByRecursion IsLit ls → AllByRecursion IsLit longer → longer ≢ [] → words_of longer ≡ front_of ls ++ x → GoesOn ls longer x
goes_on ls [] x all all_longer full e = absurd (full refl)
goes_on [] (m ∷ ms) x all all_longer full e = record { next = m; more = ms; joined = refl; text = sym e }
goes_on (l ∷ ls) (m ∷ []) x all all_longer full e = absurd (alone m (literal_text l) (front_of ls ++ x) all_longer.0 (e ∙ front_append l ls x))
goes_on (l ∷ ls) (m ∷ n ∷ ms) x all all_longer full e =
    let parts = one_split 32 (literal_text m) (literal_text l) (words_of (n ∷ ms)) (front_of ls ++ x) (literal_free 32 m (lit< tt) all_longer.0) (literal_free 32 l (lit< tt) all.0) (e ∙ front_append l ls x) in
    let rest = goes_on ls (n ∷ ms) x all.1 all_longer.1 (λ same. cc) parts.1 in
    let same : m ≡ l = one_literal m l all_longer.0 all.0 parts.0 in
    record { next = rest.next; more = rest.more; joined = ap₂ (λ (h : CertLit) (t : List CertLit). h ∷ t) same rest.joined; text = rest.text }

-- the line begins with these literals, of which this is the last
pub record IsBegun (words : List ℕ) (line : List CertLit) (last : Option CertLit) (rest : List ℕ) : Type 0 where
  pub rising : AreRising None line
  pub last_is : last ≡ last_of None line
  pub text : words ≡ front_of line ++ rest

pub nothing_begun : (words : List ℕ) → IsBegun words [] None words
nothing_begun words = record { rising = tt; last_is = refl; text = refl }

may_after : (words rest : List ℕ) (line : List CertLit) (last : Option CertLit) (l : CertLit) → IsBegun words line last rest → MayStand last l → MayStand (last_of None line) l
may_after words rest line last l begun may = let P : Option CertLit → Type 0 = λ o. MayStand o l in subst P begun.last_is may

pub one_more : (words rest word after : List ℕ) (line : List CertLit) (last : Option CertLit) (l : CertLit) → IsBegun words line last rest → rest ≡ word ++ 32 ∷ after
    → MayStand last l → word ≡ literal_text l → IsBegun words (line ++ l ∷ []) (Some l) after
one_more words rest word after line last l begun split may text = record {
  rising = rising_append None line l begun.rising (may_after words rest line last l begun may);
  last_is = sym (last_of-append None line l);
  text = begun.text ∙ ap (λ (b : List ℕ). front_of line ++ b) (split ∙ ap (λ (b : List ℕ). b ++ 32 ∷ after) text) ∙ front-more line l after;
}

not_nil : (line : List CertLit) (l : CertLit) → line ++ l ∷ [] ≢ []
not_nil [] l = λ same. cc
not_nil (k ∷ line) l = λ same. cc

pub last_one : (words rest : List ℕ) (line : List CertLit) (last : Option CertLit) (l : CertLit) → IsBegun words line last rest → MayStand last l → rest ≡ literal_text l
    → IsFullLine (line ++ l ∷ []) × (words ≡ words_of (line ++ l ∷ []))
last_one words rest line last l begun may text = (
  record { full = not_nil line l; rising = rising_append None line l begun.rising (may_after words rest line last l begun may) },
  begun.text ∙ ap (λ (b : List ℕ). front_of line ++ b) text ∙ words-more line l,
)

-- what a line goes on with may stand behind the last literal
record NextOne (line longer : List CertLit) (last : Option CertLit) (rest : List ℕ) : Type 0 where
  on : GoesOn line longer rest
  may : MayStand last on.next

next_one : (words rest : List ℕ) (line longer : List CertLit) (last : Option CertLit) → IsBegun words line last rest → IsFullLine longer → words ≡ words_of longer
    → NextOne line longer last rest
next_one words rest line longer last begun is e = record { on = goes; may = subst P (sym begun.last_is) (rising_back None line goes.next goes.more (subst (AreRising None) goes.joined is.rising)) }
  where
    goes : GoesOn line longer rest
    goes = goes_on line longer rest (rising_lits None line begun.rising) (rising_lits None longer is.rising) is.full (sym e ∙ begun.text)

    P : Option CertLit → Type 0
    P o = MayStand o goes.next

-- where no literal is the next word, there is no such line
pub no_word : (words rest word after : List ℕ) (line longer : List CertLit) (last : Option CertLit) → IsBegun words line last rest → rest ≡ word ++ 32 ∷ after → IsFreeOf 32 word
    → ((l : CertLit) → MayStand last l → word ≡ literal_text l → ⊥) → IsFullLine longer → words ≡ words_of longer → ⊥
no_word words rest word after line longer last begun split free none is e = pick found.on.next found.on.more found.may (sym split ∙ found.on.text)
  where
    found : NextOne line longer last rest
    found = next_one words rest line longer last begun is e

    pick : (l : CertLit) (more : List CertLit) → MayStand last l → word ++ 32 ∷ after ≡ words_of (l ∷ more) → ⊥
    pick l [] may text = alone l word after may.is (sym text)
    pick l (m ∷ more) may text = none l may (one_split 32 word (literal_text l) after (words_of (m ∷ more)) free (literal_free 32 l (lit< tt) may.is) text).0

pub no_last_word : (words rest : List ℕ) (line longer : List CertLit) (last : Option CertLit) → IsBegun words line last rest → IsFreeOf 32 rest
    → ((l : CertLit) → MayStand last l → rest ≡ literal_text l → ⊥) → IsFullLine longer → words ≡ words_of longer → ⊥
no_last_word words rest line longer last begun free none is e = pick found.on.next found.on.more found.may found.on.text
  where
    found : NextOne line longer last rest
    found = next_one words rest line longer last begun is e

    pick : (l : CertLit) (more : List CertLit) → MayStand last l → rest ≡ words_of (l ∷ more) → ⊥
    pick l [] may text = none l may (text ∙ append-nil (literal_text l))
    pick l (m ∷ more) may text = not_free 32 rest (literal_text l) (words_of (m ∷ more)) free text
