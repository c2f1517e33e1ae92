-- Which line of a text is the first outside the grammar of certificates.
use Rattle.std.specs.Prelude.{◌≡◌, ℕ, ◌<◌, List}
use Rattle.sched_text.specs.FirstBad.{first_lines}
use Rattle.cert_text.specs.declared.cert.Cert.{Cert}
use Rattle.cert_text.specs.declared.fault.CertFault.{CertFault}
use Rattle.cert_text.specs.declared.fault.CertFault.TheVariants.{Bad, Memory}
use Rattle.cert_text.specs.Grammar.{IsTextOf}

-- the bytes are the text of some certificate
abbrev pub IsCertText : List ℕ → Type 0
IsCertText bytes = (cert : Cert) × IsTextOf cert bytes

-- so many lines of the bytes, from the first on, are those of the text of some certificate
pub record AreGood (n : ℕ) (bytes : List ℕ) : Type 0 where
  pub text : List ℕ
  pub is : IsCertText text
  pub lines : first_lines n text ≡ first_lines n bytes

-- No certificate has the lines up to this one, counted from 1, and one has those up to any earlier line. Where
-- the text ends too early, this is the line that is missing.
pub record IsFirstBad (bytes : List ℕ) (line : ℕ) : Type 0 where
  pub bad : ¬ AreGood line bytes
  pub before : (n : ℕ) → n < line → AreGood n bytes

-- when the reader gives a fault: `Bad` with the first bad line; want of memory is tied to nothing
abbrev pub IsCause : List ℕ → CertFault → Type 0
IsCause bytes (Bad line) = IsFirstBad bytes line
IsCause bytes Memory = Unit {0}
