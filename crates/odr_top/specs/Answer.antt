-- What a call of the program promises, from the words, the outside before it and the outside after it.
use Rattle.std.specs.Prelude.{◌≡◌, ◌≢◌, ◌⊎◌, ℕ, List, Option, Some, None, Result, Ok, Err}
use Rattle.std.specs.Io.KnownBytes.{append_known}
use Rattle.odr_io.specs.Outside.{Held, Holds, KeepsOthers}
use Rattle.odr_io.specs.Written.{AppendsPrefix}
use Rattle.odr_words.specs.declared.job.Job.{Job}
use Rattle.odr_task.specs.declared.done.Done.{Done}
use Rattle.odr_task.specs.declared.refusal.Stop.{Stop}
use Rattle.odr_task.specs.declared.refusal.Stop.TheVariants as stop
use Rattle.odr_task.specs.Verdict.{Verdict, IsEnd, status_of, out_text, err_text, saved_text, memory_line, device_line}
use Rattle.odr_task.specs.Files.{Reads}
use Rattle.odr_task.specs.Done.{Prepared}
use Rattle.odr_top.specs.Owes.{OwesWords, saved_name, LoadsNothing}

-- ---- files

-- All names but that of the saved file hold what they held.
abbrev pub KeepsName : Option Held → Option Held → Option (List ℕ) → Type 0
KeepsName before after None = after ≡ before
KeepsName before after (Some name) = KeepsOthers before after name

abbrev pub KeepsInputs : Option Held → Option Held → Option Job → Type 0
KeepsInputs before after words = KeepsName before after (saved_name words)

-- A verdict's text is under the job's name. A verdict without a text leaves every file as it was.
abbrev pub LeavesText : Option Held → Option Held → Option (List ℕ) → Option (List ℕ) → Type 0
LeavesText before after name None = after ≡ before
LeavesText before after None (Some text) = ⊥
LeavesText before after (Some name) (Some text) = Holds after name text

abbrev pub Leaves : Option Held → Option Held → Option Job → Verdict → Type 0
Leaves before after words verdict = LeavesText before after (saved_name words) (saved_text verdict)

-- ---- a call that came to an end

-- It had a verdict that it owes, left that verdict's file and no other, and printed that verdict's lines and no others.
pub record Concluded (before after : Option Held) (words : Option Job) (status : ℕ) (out_before out_after err_before err_after : Option (List ℕ)) : Type 0 where
  pub verdict : Verdict
  pub status_is : status ≡ status_of verdict
  pub owed : OwesWords before words verdict
  pub leaves : Leaves before after words verdict
  pub out_is : out_after ≡ append_known out_before (out_text verdict)
  pub err_is : err_after ≡ append_known err_before (err_text verdict)

-- ---- a call that was cut short

-- a verdict of status 0 that the words owe, to which the work came at its end
pub record Finishes (told : Option Held) (words : Option Job) (verdict : Verdict) : Type 0 where
  pub status : status_of verdict ≡ 0
  pub ends : IsEnd verdict
  pub owed : OwesWords told words verdict

abbrev pub MayFinish : Option Held → Option Job → Type 0
MayFinish told words = (verdict : Verdict) × Finishes told words verdict

-- the file of such a verdict was saved
abbrev pub HasSavedWhole : Option Held → Option Held → Option Job → Type 0
HasSavedWhole before after words = (verdict : Verdict) × Finishes before words verdict × Leaves before after words verdict

-- a front of what such a verdict prints
abbrev pub PartOfOut : Option Held → Option Job → Option (List ℕ) → Option (List ℕ) → Type 0
PartOfOut told words out_before out_after = (verdict : Verdict) × Finishes told words verdict × AppendsPrefix out_before out_after (out_text verdict)

-- a line that may go to err: want of memory, a fault, or what is owed
abbrev pub IsErrLine : Option Held → Option Job → List ℕ → Type 0
IsErrLine told words text =
    (text ≡ memory_line) ⊎ ((text ≡ device_line) ⊎ ((verdict : Verdict) × (text ≡ err_text verdict) × OwesWords told words verdict))

-- A call that was cut short printed nothing to out or a front of what is owed, and a front of one line to err.
pub record CutShort (told : Option Held) (words : Option Job) (out_before out_after err_before err_after : Option (List ℕ)) : Type 0 where
  pub out_is : (out_after ≡ out_before) ⊎ PartOfOut told words out_before out_after
  pub line : List ℕ
  pub is_line : IsErrLine told words line
  pub err_is : AppendsPrefix err_before err_after line

-- ---- the work, which changes nothing

-- it stopped, and not by a fault
abbrev pub StopsEarly : Result Done Stop → Type 0
StopsEarly (Ok done) = ⊥
StopsEarly (Err given) = given ≢ stop.Device

-- What the work before anything is left outside comes to. `KeptFiles` says that the store wasn't touched.
pub record Worked (words : Option Job) (result : Result Done Stop) (KeptFiles : Type 0) (before after : Option Held) (f f' : ℕ) : Type 0 where
  pub reads : Reads (Prepared (OwesWords before words) (saved_name words)) (OwesWords before words) result before after f f'
  pub early : LoadsNothing words → StopsEarly result × KeptFiles
