-- The certificates that have a text.
use Rattle.std.specs.Prelude.{◌≡◌, ◌≢◌, ℕ, ◌<◌, ◌≤◌, ◌^◌, Bool, true, false, IsTrue, List, [], ◌∷◌, ◌++◌, Option, Some, None}
use Rattle.std.specs.List.{AllByRecursion}
use Rattle.cert_text.specs.declared.cert.Cert.{Cert}
use Rattle.cert_text.specs.declared.cert.CertLit.{CertLit}
use Rattle.cert_text.specs.declared.cert.CertLit.TheVariants.{Before, Var}
use Rattle.cert_text.specs.Order.{stands_before}
use Rattle.cert_text.specs.Text.{cert_text}

-- steps of different threads
pub record AreSteps (t i u j : ℕ) : Type 0 where
  pub first_thread : t < 256
  pub first_step : i < 2 ^ 32
  pub second_thread : u < 256
  pub second_step : j < 2 ^ 32
  pub differ : t ≢ u

-- a literal that a line may have: of steps of different threads, or of a variable from 1 to 2^63
abbrev pub IsLit : CertLit → Type 0
IsLit (Before t i u j) = AreSteps t i u j
IsLit (Var number positive) = (0 < number) × (number ≤ 2 ^ 63)

-- there is no last literal, or it stands before this one
abbrev pub IsAfter : Option CertLit → CertLit → Type 0
IsAfter None literal = Unit {0}
IsAfter (Some last) literal = IsTrue (stands_before last literal)

-- the literal may stand after the last one
pub record MayStand (last : Option CertLit) (literal : CertLit) : Type 0 where
  pub is : IsLit literal
  pub after : IsAfter last literal

-- each literal may stand after the one before it
abbrev pub AreRising : Option CertLit → List CertLit → Type 0
AreRising last [] = Unit {0}
AreRising last (literal ∷ literals) = MayStand last literal × AreRising (Some literal) literals

-- a line that has literals; within it they rise strictly
pub record IsFullLine (line : List CertLit) : Type 0 where
  pub full : line ≢ []
  pub rising : AreRising None line

-- the lines of a part have literals; those of a whole certificate too, but for one empty line at the end
abbrev pub AreLines : Bool → List (List CertLit) → Type 0
AreLines false lines = AllByRecursion IsFullLine lines
AreLines true lines = (full : List (List CertLit)) × AllByRecursion IsFullLine full × (lines ≡ full ++ [] ∷ [])

-- the bytes are the text of the certificate, which the grammar has
pub record IsTextOf (cert : Cert) (bytes : List ℕ) : Type 0 where
  pub lines : AreLines cert.whole cert.lines
  pub text : bytes ≡ cert_text cert
