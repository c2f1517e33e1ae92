-- The text of a certificate.
use Rattle.std.specs.Prelude.{ℕ, Bool, true, false, List, [], ◌∷◌, ◌++◌, decimal, codes}
use Rattle.std.specs.List.{flat_map}
use Rattle.cert_text.specs.declared.cert.Cert.{Cert}
use Rattle.cert_text.specs.declared.cert.CertLit.{CertLit}
use Rattle.cert_text.specs.declared.cert.CertLit.TheVariants.{Before, Var}

-- a step of a thread: the thread, a full stop and the step, both numbers decimal
abbrev pub place_text : ℕ → ℕ → List ℕ
place_text thread step = decimal thread ++ 46 ∷ decimal step

-- a literal: two steps with `<` between them, or a variable's number behind `x`, or behind `-x` for its opposite
abbrev pub literal_text : CertLit → List ℕ
literal_text (Before t i u j) = place_text t i ++ 60 ∷ place_text u j
literal_text (Var number true) = 120 ∷ decimal number
literal_text (Var number false) = 45 ∷ 120 ∷ decimal number

-- a literal after a space
abbrev pub spaced : CertLit → List ℕ
spaced literal = 32 ∷ literal_text literal

-- literals with one space between them
abbrev pub words_of : List CertLit → List ℕ
words_of [] = []
words_of (literal ∷ literals) = literal_text literal ++ flat_map spaced literals

-- a line: its literals and a line feed
abbrev pub line_of : List CertLit → List ℕ
line_of literals = words_of literals ++ 10 ∷ []

abbrev pub mark_of : Bool → List ℕ
mark_of true = codes "whole"
mark_of false = codes "part"

-- the one text of a certificate: a line with the mark, and its lines
abbrev pub cert_text : Cert → List ℕ
cert_text cert = mark_of cert.whole ++ 10 ∷ flat_map line_of cert.lines
