-- The reasons of refusals: the status and the line of each.
use Rattle.std.specs.Prelude.{ℕ, List, [], ◌∷◌, ◌++◌, codes, decimal, Option, Some, None}
use Rattle.odr_io.specs.declared.fail.SaveFail.{SaveFail}
use Rattle.odr_io.specs.declared.fail.SaveFail.TheVariants as fail
use Rattle.odr_task.specs.declared.refusal.Refusal.{Refusal}
use Rattle.odr_task.specs.declared.refusal.Refusal.TheVariants as refusal
use Rattle.odr_task.specs.declared.refusal.Stop.{Stop}
use Rattle.odr_task.specs.declared.refusal.Stop.TheVariants as stop
use Rattle.odr_task.specs.Verdict.{Reason, Verdict, Refused}

-- a status, and a line of the program's
abbrev pub because : ℕ → List ℕ → Reason
because status text = record { status = status; line = codes "odr: " ++ text ++ 10 ∷ [] }

-- the words are no job
abbrev pub bad_words : Reason
bad_words = because 2 (codes "bad words")

-- a program's file fails the check of this name first
abbrev pub bad_elf : List ℕ → Reason
bad_elf check = because 3 (codes "elf: " ++ check)

-- bytes stop to be a log at this offset
abbrev pub bad_log : ℕ → Reason
bad_log offset = because 4 (codes "log: bad at " ++ decimal offset)

abbrev pub log_too_large : Reason
log_too_large = because 4 (codes "log: too large")

-- the first line of a text that is at fault, counted from 1
abbrev pub bad_line : ℕ → Reason
bad_line number = because 5 (codes "text: line " ++ decimal number)

abbrev pub unknown_name : ℕ → Reason
unknown_name number = because 5 (codes "text: unknown name, line " ++ decimal number)

abbrev pub text_too_large : Reason
text_too_large = because 5 (codes "text: too large")

abbrev pub input_too_large : Reason
input_too_large = because 5 (codes "input: too large")

-- the schedule differs from the log first at this place
abbrev pub differs : ℕ → Reason
differs place = because 9 (codes "differs at " ++ decimal place)

-- a command, or a log, that this program does not take
abbrev pub not_built : Reason
not_built = because 12 (codes "not built")

-- nothing is held under this name
abbrev pub no_file : List ℕ → Reason
no_file name = because 14 (codes "no file: " ++ name)

abbrev pub reason_of : Refusal → Reason
reason_of refusal.BadWords = bad_words
reason_of (refusal.BadElf check) = bad_elf check.now
reason_of (refusal.BadLog offset) = bad_log offset
reason_of refusal.LogTooLarge = log_too_large
reason_of (refusal.BadLine number) = bad_line number
reason_of (refusal.UnknownName number) = unknown_name number
reason_of refusal.TextTooLarge = text_too_large
reason_of refusal.InputTooLarge = input_too_large
reason_of (refusal.Differs place) = differs place
reason_of refusal.NotBuilt = not_built
reason_of (refusal.NoFile name) = no_file name.now

-- the verdict of a command that stopped, none where something outside stopped it
abbrev pub verdict_of : Stop → Option Verdict
verdict_of (stop.Refused given) = Some (Refused (reason_of given))
verdict_of stop.Device = None
verdict_of stop.Memory = None

-- what a failed save or a failed write stops
abbrev pub stop_of : SaveFail → Stop
stop_of fail.Failed = stop.Device
stop_of fail.Memory = stop.Memory
