-- Which words are which job.
use Rattle.std.specs.Prelude.{◌-◌, ◌^◌, ◌≤◌, ◌&&◌, Bool, List, [], ◌∷◌, map, codes, bytes_eq, Option, Some, None, option_map, option_and_then, if◌then◌else◌}
use Rattle.std.specs.Map.{lookup}
use Rattle.odr_limits.specs.declared.TheConstants.{MOST_STEPS}
use Rattle.odr_words.specs.Limits.{default_seed, default_steps, default_lines, most_lines, most_demo}
use Rattle.odr_words.specs.Arguments.{Text, Options, Arguments, word_of, arguments_of, value_of, are_known, are_distinct}
use Rattle.odr_words.specs.Numbers.{number_in, number_or}
use Rattle.odr_words.specs.declared.command.Command.{Command}
use Rattle.odr_words.specs.declared.command.Command.TheVariants as command
use Rattle.odr_words.specs.declared.job.Job.{Job}
use Rattle.odr_words.specs.declared.job.Job.TheVariants as job

infixl 10 ◌>>=◌
abbrev pub ◌>>=◌ : {A B : Type 0} → Option A → (A → Option B) → Option B
found >>= next = option_and_then next found

-- ---- the commands

-- the words that name them
abbrev pub commands : List (Text × Command)
commands = (codes "record", command.Record) ∷ (codes "infer", command.Infer)
    ∷ (codes "check", command.Check) ∷ (codes "replay", command.Replay)
    ∷ (codes "debug", command.Debug) ∷ (codes "asm", command.Asm) ∷ (codes "demo", command.Demo) ∷ []

abbrev pub command_of : Text → Option Command
command_of word = lookup (bytes_eq word) commands

-- the names of the options that a command takes
abbrev pub options_of : Command → List Text
options_of command.Record = codes "seed" ∷ codes "limit" ∷ codes "input" ∷ []
options_of command.Infer = codes "steps" ∷ []
options_of other = []

-- ---- the jobs

-- the job of a command with positional words and the values of options by their names, each number
-- within its limits
abbrev pub job_with : Command → List Text → (Text → Option Text) → Option Job
job_with command.Record (elf ∷ log ∷ []) value = do
  seed ← number_or default_seed 0 (2 ^ 64 - 1) (value (codes "seed"))
  limit ← number_or default_steps 1 MOST_STEPS (value (codes "limit"))
  Some (job.Record elf log seed limit (value (codes "input")))
job_with command.Infer (elf ∷ log ∷ out ∷ []) value = do
  steps ← number_or default_lines 1 most_lines (value (codes "steps"))
  Some (job.Infer elf log out steps)
job_with command.Check (elf ∷ log ∷ cert ∷ []) value = Some (job.Check elf log cert)
job_with command.Replay (elf ∷ log ∷ sched ∷ []) value = Some (job.Replay elf log sched)
job_with command.Debug (elf ∷ log ∷ sched ∷ []) value = Some (job.Debug elf log sched)
job_with command.Asm (text ∷ elf ∷ []) value = Some (job.Asm text elf)
job_with command.Demo (number ∷ []) value = option_map job.Demo (number_in 0 most_demo number)
job_with other positionals value = None

-- the options are the command's, each at most once
abbrev pub takes : Command → Options → Bool
takes command options = are_known (options_of command) options && are_distinct options

-- the job of a command's arguments
abbrev pub job_given : Command → Arguments → Option Job
job_given command given =
    if takes command given.options
    then job_with command given.positionals (λ name. value_of name given.options) else None

-- the job of the words of a command line: the command, and what follows it
abbrev pub job_of : List Text → Option Job
job_of [] = None
job_of (first ∷ words) = do
  command ← command_of first
  given ← arguments_of (map word_of words)
  job_given command given

-- the numbers of a job are at most their limits
abbrev pub IsWithinLimits : Job → Type 0
IsWithinLimits (job.Record elf log seed limit input) = limit ≤ MOST_STEPS
IsWithinLimits (job.Infer elf log out steps) = steps ≤ most_lines
IsWithinLimits (job.Demo number) = number ≤ most_demo
IsWithinLimits (job.Check elf log cert) = Unit {0}
IsWithinLimits (job.Replay elf log sched) = Unit {0}
IsWithinLimits (job.Debug elf log sched) = Unit {0}
IsWithinLimits (job.Asm text elf) = Unit {0}
