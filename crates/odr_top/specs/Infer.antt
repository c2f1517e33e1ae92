-- What an inference owes.
use Rattle.std.specs.Prelude.{◌≡◌, ℕ, ◌+◌, List, [], ◌∷◌, ◌++◌, length, nat_eq, replicate, codes, decimal, Option, Some, None, if◌then◌else◌}
use Rattle.std.specs.Io.KnownBytes.{append_known}
use Rattle.odr_io.specs.Outside.{Held, Holds}
use Rattle.elf_image.specs.Layout.{Layout}
use Rattle.odr_log.specs.declared.log.Log.{Log}
use Rattle.odr_log.specs.declared.log.End.{End}
use Rattle.odr_log.specs.declared.log.End.TheVariants as end
use Rattle.odr_log.specs.Grammar.{steps_of}
use Rattle.odr_words.specs.declared.job.Job.{Job}
use Rattle.odr_words.specs.declared.job.Job.TheVariants as job
use Rattle.rv_model.specs.Run.{first_diff}
use Rattle.sched_text.specs.Text.{schedule_text}
use Rattle.odr_task.specs.Verdict.{Verdict, Refused, Ended}
use Rattle.odr_task.specs.Refusals.{differs, not_built}
use Rattle.odr_top.specs.Inputs.{FromRun}
use Rattle.odr_top.specs.Explained.{IsExplained}

abbrev pub run_line : ℕ → List ℕ
run_line steps = codes "run, " ++ decimal steps ++ codes " steps" ++ 10 ∷ []

-- this schedule has the log: its text is saved
abbrev pub inferred : List ℕ → Verdict
inferred schedule = Ended 0 (run_line (length schedule)) (Some (schedule_text schedule))

-- ---- a log of one thread

-- a fault takes a step that no thread counts
abbrev pub fault_steps : End → ℕ
fault_steps (end.Faulted tid cause) = 1
fault_steps (end.Exited tid code) = 0
fault_steps end.AllDone = 0
fault_steps end.Cut = 0

-- a log of one thread has one schedule
abbrev pub only_schedule : Log → List ℕ
only_schedule log = replicate (steps_of log + fault_steps log.end) 0

abbrev pub by_difference : List ℕ → Option ℕ → Verdict
by_difference schedule None = inferred schedule
by_difference schedule (Some place) = Refused (differs place)

abbrev pub inference : Layout → Log → Verdict
inference image log =
    if nat_eq (length log.threads) 1 then by_difference (only_schedule log) (first_diff image log (only_schedule log)) else Refused not_built

-- ---- the command

abbrev pub infer_owes : Option Held → List ℕ → List ℕ → Verdict → Type 0
infer_owes told elf log verdict = FromRun told elf log (λ image l v. v ≡ inference image l) verdict

-- A schedule was found that has the log: the file holds the schedule's text, and its line was printed.
pub record FoundRun (before after : Option Held) (elf log out : List ℕ) (out_before out_after : Option (List ℕ)) : Type 0 where
  pub schedule : List ℕ
  pub explained : IsExplained before elf log schedule
  pub saved : Holds after out (schedule_text schedule)
  pub printed : out_after ≡ append_known out_before (run_line (length schedule))

abbrev pub InferredRun : Option Held → Option Held → Option Job → Option (List ℕ) → Option (List ℕ) → Type 0
InferredRun before after words out_before out_after =
    (elf log out : List ℕ) (steps : ℕ) → words ≡ Some (job.Infer elf log out steps) → FoundRun before after elf log out out_before out_after
