-- What a replay owes.
use Rattle.std.specs.Prelude.{◌≡◌, ℕ, List, Option, Some, None}
use Rattle.std.specs.Io.KnownBytes.{append_known}
use Rattle.odr_io.specs.Outside.{Held}
use Rattle.odr_log.specs.declared.log.Log.{Log}
use Rattle.odr_log.specs.Tape.{output_of}
use Rattle.odr_words.specs.declared.job.Job.{Job}
use Rattle.odr_words.specs.declared.job.Job.TheVariants as job
use Rattle.rv_model.specs.Run.{first_diff}
use Rattle.sched_text.specs.Text.{IsTextOf}
use Rattle.odr_task.specs.Verdict.{Verdict, Refused, Ended}
use Rattle.odr_task.specs.Refusals.{differs}
use Rattle.odr_task.specs.Files.{Finds, FromFile}
use Rattle.odr_top.specs.Inputs.{IsScheduleFile, NoScheduleFile, FromRun}
use Rattle.odr_top.specs.Explained.{IsExplained}

-- the schedule has the log, and the guest wrote this
abbrev pub replayed : List ℕ → Verdict
replayed output = Ended 0 output None

abbrev pub by_replay : Log → Option ℕ → Verdict
by_replay log None = replayed (output_of log)
by_replay log (Some place) = Refused (differs place)

abbrev pub replay_owes : Option Held → List ℕ → List ℕ → List ℕ → Verdict → Type 0
replay_owes told elf log sched verdict =
    FromRun told elf log (λ image l v. FromFile IsScheduleFile NoScheduleFile told sched (λ s w. w ≡ by_replay l (first_diff image l s)) v) verdict

-- the text of a schedule was found, an image and a log that the schedule has, whose output this is
pub record IsReplayed (told : Option Held) (elf log sched : List ℕ) (output : List ℕ) : Type 0 where
  pub schedule : List ℕ
  pub text : List ℕ
  pub text_held : Finds told sched (Some text)
  pub is_text : IsTextOf schedule text
  pub explained : IsExplained told elf log schedule
  pub output_is : output ≡ output_of explained.meaning

-- A schedule was replayed: exactly the guest's output was written.
pub record WroteOutput (before : Option Held) (elf log sched : List ℕ) (out_before out_after : Option (List ℕ)) : Type 0 where
  pub output : List ℕ
  pub replayed : IsReplayed before elf log sched output
  pub printed : out_after ≡ append_known out_before output

abbrev pub Replayed : Option Held → Option Job → Option (List ℕ) → Option (List ℕ) → Type 0
Replayed before words out_before out_after =
    (elf log sched : List ℕ) → words ≡ Some (job.Replay elf log sched) → WroteOutput before elf log sched out_before out_after
