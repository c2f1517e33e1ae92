-- What a recording owes.
use Rattle.std.specs.Prelude.{◌≡◌, ℕ, List, [], ◌∷◌, ◌++◌, length, codes, decimal, Option, Some, None}
use Rattle.std.specs.Io.KnownBytes.{append_known}
use Rattle.odr_io.specs.Outside.{Held, Holds}
use Rattle.elf_image.specs.Layout.{Layout}
use Rattle.elf_image.specs.Checks.{IsImage}
use Rattle.odr_log.specs.declared.log.Cause.{Cause}
use Rattle.odr_log.specs.declared.log.Cause.TheVariants as cause
use Rattle.odr_log.specs.declared.log.End.{End}
use Rattle.odr_log.specs.declared.log.End.TheVariants as end
use Rattle.odr_log.specs.declared.log.Log.{Log}
use Rattle.odr_log.specs.Grammar.{log_bytes, steps_of}
use Rattle.odr_words.specs.declared.job.Job.{Job}
use Rattle.odr_words.specs.declared.job.Job.TheVariants as job
use Rattle.recorder.specs.Seeded.{seeded, log_of_run}
use Rattle.odr_task.specs.Verdict.{Verdict, Ended}
use Rattle.odr_task.specs.Files.{Finds, FromFile}
use Rattle.odr_top.specs.Inputs.{IsProgram, NoProgram, FromInput}

-- ---- its line

abbrev pub cause_name : Cause → List ℕ
cause_name cause.FetchFault = codes "FetchFault"
cause_name cause.Illegal = codes "Illegal"
cause_name cause.Misaligned = codes "Misaligned"
cause_name cause.LoadFault = codes "LoadFault"
cause_name cause.StoreFault = codes "StoreFault"
cause_name cause.AmoFault = codes "AmoFault"
cause_name cause.Breakpoint = codes "Breakpoint"

abbrev pub end_text : End → List ℕ
end_text (end.Exited tid code) = codes "exit " ++ decimal tid ++ codes " " ++ decimal code
end_text (end.Faulted tid fault) = codes "fault " ++ decimal tid ++ codes " " ++ cause_name fault
end_text end.AllDone = codes "done"
end_text end.Cut = codes "cut"

-- the steps of all threads, the calls, and how the run ended
abbrev pub record_line : Log → List ℕ
record_line log =
    codes "steps " ++ decimal (steps_of log) ++ codes ", calls " ++ decimal (length log.calls) ++ codes ", end " ++ end_text log.end ++ 10 ∷ []

-- ---- the command

-- this is the log of the run, whose bytes are saved
abbrev pub recorded : Log → Verdict
recorded log = Ended 0 (record_line log) (Some (log_bytes log))

abbrev pub record_owes : Option Held → List ℕ → ℕ → ℕ → Option (List ℕ) → Verdict → Type 0
record_owes told elf seed limit input verdict =
    FromFile IsProgram NoProgram told elf (λ image v. FromInput told input (λ tape w. w ≡ recorded (log_of_run image tape (seeded image tape seed limit))) v) verdict

-- where there is a name, the input was found under it; else it is empty
abbrev pub InputIs : Option Held → Option (List ℕ) → List ℕ → Type 0
InputIs told None tape = tape ≡ []
InputIs told (Some name) tape = Finds told name (Some tape)

-- an image and an input were found, and this is the log of the seeded run
pub record IsRecorded (told : Option Held) (elf : List ℕ) (input : Option (List ℕ)) (seed limit : ℕ) (log : Log) : Type 0 where
  pub program : List ℕ
  pub program_held : Finds told elf (Some program)
  pub image : Layout
  pub is_image : IsImage program image
  pub tape : List ℕ
  pub input_is : InputIs told input tape
  pub log_is : log ≡ log_of_run image tape (seeded image tape seed limit)

-- A run was recorded: the file holds the log's bytes, and its line was printed.
pub record SavedLog (before after : Option Held) (elf name : List ℕ) (seed limit : ℕ) (input : Option (List ℕ)) (out_before out_after : Option (List ℕ)) : Type 0 where
  pub log : Log
  pub recorded : IsRecorded before elf input seed limit log
  pub saved : Holds after name (log_bytes log)
  pub printed : out_after ≡ append_known out_before (record_line log)

abbrev pub Recorded : Option Held → Option Held → Option Job → Option (List ℕ) → Option (List ℕ) → Type 0
Recorded before after words out_before out_after =
    (elf log : List ℕ) (seed limit : ℕ) (input : Option (List ℕ)) → words ≡ Some (job.Record elf log seed limit input)
    → SavedLog before after elf log seed limit input out_before out_after
