-- What each job owes, and the file that it may save: one line for each command.
use Rattle.std.specs.Prelude.{◌≡◌, ℕ, List, Option, Some, None, map, string_bytes, String, Result, Ok, Err}
use Rattle.std.specs.declared.alloc.Global.{Global}
use Rattle.odr_io.specs.Outside.{Held}
use Rattle.odr_words.specs.declared.fault.WordsFault.{WordsFault}
use Rattle.odr_words.specs.declared.fault.WordsFault.TheVariants as fault
use Rattle.odr_words.specs.declared.job.Job.{Job}
use Rattle.odr_words.specs.declared.job.Job.TheVariants as job
use Rattle.odr_words.specs.Jobs.{job_of, IsWithinLimits}
use Rattle.odr_task.specs.Verdict.{Verdict, Refused}
use Rattle.odr_task.specs.Refusals.{bad_words, not_built}
use Rattle.odr_top.specs.Record.{record_owes}
use Rattle.odr_top.specs.Infer.{infer_owes}
use Rattle.odr_top.specs.Replay.{replay_owes}
use Rattle.odr_top.specs.Asm.{asm_owes}

-- ---- jobs

-- the verdicts that a job may come to, as far as the store tells what it holds
abbrev pub Owes : Option Held → Job → Verdict → Type 0
Owes told (job.Record elf log seed limit input) verdict = record_owes told elf seed limit input verdict
Owes told (job.Infer elf log out steps) verdict = infer_owes told elf log verdict
Owes told (job.Check elf log cert) verdict = verdict ≡ Refused not_built
Owes told (job.Replay elf log sched) verdict = replay_owes told elf log sched verdict
Owes told (job.Debug elf log sched) verdict = verdict ≡ Refused not_built
Owes told (job.Asm text elf) verdict = asm_owes told text verdict
Owes told (job.Demo number) verdict = verdict ≡ Refused not_built

-- the file that a job saves
abbrev pub saves : Job → Option (List ℕ)
saves (job.Record elf log seed limit input) = Some log
saves (job.Infer elf log out steps) = Some out
saves (job.Check elf log cert) = None
saves (job.Replay elf log sched) = None
saves (job.Debug elf log sched) = None
saves (job.Asm text elf) = Some elf
saves (job.Demo number) = None

abbrev pub IsNotBuilt : Job → Type 0
IsNotBuilt (job.Check elf log cert) = Unit {0}
IsNotBuilt (job.Debug elf log sched) = Unit {0}
IsNotBuilt (job.Demo number) = Unit {0}
IsNotBuilt other = ⊥

-- ---- words

-- the job of the words of a command line
abbrev pub job_in : List (String Global) → Option Job
job_in words = job_of (map string_bytes words)

abbrev pub OwesWords : Option Held → Option Job → Verdict → Type 0
OwesWords told None verdict = verdict ≡ Refused bad_words
OwesWords told (Some j) verdict = Owes told j verdict

-- the file that the words' job saves
abbrev pub saved_name : Option Job → Option (List ℕ)
saved_name None = None
saved_name (Some j) = saves j

-- words that are refused before anything is loaded
abbrev pub LoadsNothing : Option Job → Type 0
LoadsNothing None = Unit {0}
LoadsNothing (Some j) = IsNotBuilt j

-- the words were read as this job, as none, or not for want of memory
abbrev pub IsReading : Option Job → Result Job WordsFault → Type 0
IsReading words (Ok j) = (words ≡ Some j) × IsWithinLimits j
IsReading words (Err fault.Bad) = words ≡ None
IsReading words (Err fault.Memory) = Unit {0}
