-- What the parts of a word say.
use Rattle.std.proofs.Common.{◌≡◌, ◌≢◌, ℕ, ◌^◌, ◌<◌, ◌≤◌, Bool, true, false, List, [], ◌∷◌, ◌++◌, Option, Some, None, refl, ap, ◌∙◌, sym, arith}
use Rattle.std.specs.Fmt.{decimal}
use Rattle.std.specs.Option.{IfNone}
use Rattle.sched_text.specs.LineLaws.{IsFreeOf, one_split, not_free}
use Rattle.cert_text.specs.declared.cert.CertLit.{CertLit}
use Rattle.cert_text.specs.declared.cert.CertLit.TheVariants.{Before, Var}
use Rattle.cert_text.specs.Text.{place_text, literal_text}
use Rattle.cert_text.specs.Grammar.{AreSteps, IsLit}
use Rattle.cert_text.specs.TextLaws.{number_free, one_pair, fits, no_variable}

-- a fact that holds anyway
pub none_from : {X : Type 0} (o : Option X) (P : Type 0) → P → IfNone o P
none_from None P p = p
none_from (Some x) P p = tt

pub from_none : {X : Type 0} (o : Option X) (P : Type 0) → o ≡ None → IfNone o P → P
from_none None P e holds = holds
from_none (Some x) P e holds = cc

-- the fields of a place, as its full stop parts it
pub place_fields : (t i : ℕ) (text a b : List ℕ) → t < 256 → text ≡ a ++ 46 ∷ b → IsFreeOf 46 a → text ≡ place_text t i → (a ≡ decimal t) × (b ≡ decimal i)
place_fields t i text a b few split free e =
    one_split 46 a (decimal t) b (decimal i) free (number_free 46 t (λ low high. omega arith) (omega arith)) (sym split ∙ e)

pub no_place : (t i : ℕ) (text : List ℕ) → IsFreeOf 46 text → text ≡ place_text t i → ⊥
no_place t i text free e = not_free 46 text (decimal t) (decimal i) free e

-- the places of two steps, as `<` parts them
pub pair_fields : (t i u j : ℕ) (word a b : List ℕ) → AreSteps t i u j → word ≡ a ++ 60 ∷ b → IsFreeOf 60 a → word ≡ literal_text (Before t i u j) → (a ≡ place_text t i) × (b ≡ place_text u j)
pair_fields t i u j word a b are split free e =
    let f = fits t i u j are in
    one_pair t i a b (place_text u j) f.few_t f.few_i free (sym split ∙ e)

pub no_pair : (t i u j : ℕ) (word : List ℕ) → IsFreeOf 60 word → word ≡ literal_text (Before t i u j) → ⊥
no_pair t i u j word free e = not_free 60 word (place_text t i) (place_text u j) free e

-- the text of a variable's number
pub record IsNumber (text : List ℕ) : Type 0 where
  pub number : ℕ
  pub some : 0 < number
  pub few : number ≤ 2 ^ 63
  pub is : text ≡ decimal number

first_same : (a b : ℕ) (x y : List ℕ) → a ∷ x ≡ b ∷ y → a ≡ b
first_same a b x y e = cc e

rest_same : (a b : ℕ) (x y : List ℕ) → a ∷ x ≡ b ∷ y → x ≡ y
rest_same a b x y e = cc e

differ : ◌≡◌ {A = ℕ} 120 45 → ⊥
differ e = omega arith

-- a word behind `x` is a variable, one behind `-x` its opposite, and any other is a pair of steps
pub positive_only : (l : CertLit) (word text : List ℕ) → IsLit l → word ≡ 120 ∷ text → word ≡ literal_text l → IsNumber text
positive_only (Before t i u j) word text is split e = absurd (no_variable 120 t i u j text (λ low high. omega arith) is (sym e ∙ split))
positive_only (Var n true) word text is split e = record { number = n; some = is.0; few = is.1; is = rest_same 120 120 text (decimal n) (sym split ∙ e) }
positive_only (Var n false) word text is split e = absurd (differ (first_same 120 45 text (120 ∷ decimal n) (sym split ∙ e)))

pub negative_only : (l : CertLit) (word text : List ℕ) → IsLit l → word ≡ 45 ∷ 120 ∷ text → word ≡ literal_text l → IsNumber text
negative_only (Before t i u j) word text is split e = absurd (no_variable 45 t i u j (120 ∷ text) (λ low high. omega arith) is (sym e ∙ split))
negative_only (Var n true) word text is split e = absurd (differ (sym (first_same 45 120 (120 ∷ text) (decimal n) (sym split ∙ e))))
negative_only (Var n false) word text is split e = record {
  number = n;
  some = is.0;
  few = is.1;
  is = rest_same 120 120 text (decimal n) (rest_same 45 45 (120 ∷ text) (120 ∷ decimal n) (sym split ∙ e));
}

pub before_only : (l : CertLit) (word : List ℕ) → IsLit l → ((number : List ℕ) → word ≢ 120 ∷ number) → ((number : List ℕ) → word ≢ 45 ∷ 120 ∷ number)
    → ((t i u j : ℕ) → IsLit (Before t i u j) → word ≡ literal_text (Before t i u j) → ⊥) → word ≡ literal_text l → ⊥
before_only (Before t i u j) word is no_x no_minus none e = none t i u j is e
before_only (Var n true) word is no_x no_minus none e = no_x (decimal n) e
before_only (Var n false) word is no_x no_minus none e = no_minus (decimal n) e
