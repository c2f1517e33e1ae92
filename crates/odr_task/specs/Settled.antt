-- What a call leaves outside of what its command came to.
use Rattle.std.specs.Prelude.{◌≡◌, ◌≢◌, ◌⊎◌, ℕ, List, Option, Some, None, Result, IfOk, IfErr, is_some}
use Rattle.std.specs.Option.{IsSomeAnd}
use Rattle.std.specs.Io.KnownBytes.{append_known}
use Rattle.odr_io.specs.Outside.{Held, Rose}
use Rattle.odr_io.specs.Written.{AppendsPrefix}
use Rattle.odr_task.specs.declared.done.NamedFile.{NamedFile}
use Rattle.odr_task.specs.declared.done.Done.{Done}
use Rattle.odr_task.specs.declared.refusal.Stop.{Stop}
use Rattle.odr_task.specs.declared.refusal.Stop.TheVariants as stop
use Rattle.odr_task.specs.Verdict.{Verdict, status_of, err_text, out_text, memory_line, device_line}
use Rattle.odr_task.specs.Refusals.{verdict_of}
use Rattle.odr_task.specs.Done.{verdict_in, file_in, HasSaved, KeepsBut}

-- a status that ends a call early
abbrev pub IsCut : ℕ → Type 0
IsCut status = (status ≡ 1) ⊎ (status ≡ 6)

-- a line that may go to err: want of memory, a fault, or the verdict's
abbrev pub IsLine : Option Verdict → List ℕ → Type 0
IsLine verdict text = (text ≡ memory_line) ⊎ ((text ≡ device_line) ⊎ IsSomeAnd verdict (λ v. text ≡ err_text v))

-- ---- reports

-- the whole line of a verdict, with its status
pub record Reported (status : ℕ) (before after : Option (List ℕ)) (verdict : Verdict) : Type 0 where
  pub status_is : status ≡ status_of verdict
  pub err_is : after ≡ append_known before (err_text verdict)

-- a front of one line that may go to err
pub record PartOfLine (verdict : Option Verdict) (before after : Option (List ℕ)) : Type 0 where
  pub line : List ℕ
  pub is_line : IsLine verdict line
  pub part : AppendsPrefix before after line

-- ---- calls

-- The verdict came out: its file was saved, and exactly its lines were printed.
pub record Shown (file : Option NamedFile) (status : ℕ) (before after : Option Held) (ob oa eb ea : Option (List ℕ)) (verdict : Verdict) : Type 0 where
  pub status_is : status ≡ status_of verdict
  pub saved : HasSaved before after file
  pub out_is : oa ≡ append_known ob (out_text verdict)
  pub err_is : ea ≡ append_known eb (err_text verdict)

-- What a call leaves: of the files (`before`, `after`), of out (`ob`, `oa`) and of err (`eb`, `ea`), with the counts of
-- faults of the three before and after it (`f`, `p`, `q`). `KeptFiles` and `KeptOut` say that a store and a sink weren't touched.
pub record Settled (prepared : Result Done Stop) (KeptFiles KeptOut : Type 0) (status : ℕ) (before after : Option Held) (f f' : ℕ)
    (ob oa : Option (List ℕ)) (p p' : ℕ) (eb ea : Option (List ℕ)) (q q' : ℕ) : Type 0 where
  -- every status but 1 and 6 is that of the verdict, which came out, and nothing failed
  pub shown : status ≢ 1 → status ≢ 6 → IsSomeAnd (verdict_in prepared) (Shown (file_in prepared) status before after ob oa eb ea)
  pub steady : status ≢ 1 → status ≢ 6 → (f' ≡ f) × (p' ≡ p) × (q' ≡ q)
  -- 6 comes only where a count of faults rose, and with its line unless that failed
  pub device : IfOk prepared (λ _. status ≡ 6 → Rose f f' ⊎ (Rose p p' ⊎ Rose q q'))
  pub device_line : status ≡ 6 → (ea ≡ append_known eb device_line) ⊎ Rose q q'
  -- a call that was cut short printed fronts
  pub out_part : (oa ≡ ob) ⊎ IsSomeAnd (verdict_in prepared) (λ v. AppendsPrefix ob oa (out_text v))
  pub err_part : IsCut status → PartOfLine (verdict_in prepared) eb ea
  -- only the verdict's file may change, by a whole text unless the store failed, and before out is written
  pub others : KeepsBut before after (file_in prepared)
  pub told : is_some after ≡ is_some before
  pub saved_first : KeptOut ⊎ HasSaved before after (file_in prepared)
  pub whole : (Rose f f' → ⊥) → (after ≡ before) ⊎ HasSaved before after (file_in prepared)
  -- what was stopped changes nothing
  pub stopped : IfErr prepared (λ given. KeptFiles × KeptOut × (status ≡ 6 → (given ≡ stop.Device) ⊎ Rose q q'))
