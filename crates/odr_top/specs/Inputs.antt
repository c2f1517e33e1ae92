-- What the files that a command loads give, and why they are refused.
use Rattle.std.specs.Prelude.{◌≡◌, ◌⊎◌, ℕ, ◌<◌, ◌≤◌, List, [], length, codes, Option, Some, None}
use Rattle.odr_io.specs.Outside.{Held}
use Rattle.elf_image.specs.declared.fault.Check.{Check}
use Rattle.elf_image.specs.declared.fault.Check.TheVariants as check
use Rattle.elf_image.specs.Layout.{Layout}
use Rattle.elf_image.specs.Checks.{IsImage, first_check}
use Rattle.odr_log.specs.declared.log.Log.{Log}
use Rattle.odr_log.specs.Grammar.{IsLog}
use Rattle.odr_log.specs.Faults.{FitsFile, IsTooLarge, FirstBad}
use Rattle.rv32_asm.specs.declared.fault.AsmFault.{AsmFault}
use Rattle.rv32_asm.specs.declared.fault.AsmFault.TheVariants as asm
use Rattle.rv32_asm.specs.File.{AsmFile, IsRefused}
use Rattle.sched_text.specs.Text.{IsTextOf}
use Rattle.sched_text.specs.FirstBad.{IsFirstBad}
use Rattle.odr_task.specs.Verdict.{Verdict, Reason, Refused}
use Rattle.odr_task.specs.Refusals.{bad_elf, bad_log, log_too_large, bad_line, unknown_name, text_too_large, input_too_large}
use Rattle.odr_task.specs.Files.{Gives, Refuses, FromFile}
use Rattle.odr_limits.specs.declared.TheConstants.{MOST_LOG_BYTES, MOST_PROGRAM_BYTES, MOST_TEXT_BYTES}

-- ---- a program

abbrev pub check_name : Check → List ℕ
check_name check.Short = codes "Short"
check_name check.Magic = codes "Magic"
check_name check.Class = codes "Class"
check_name check.Kind = codes "Kind"
check_name check.Machine = codes "Machine"
check_name check.Compressed = codes "Compressed"
check_name check.Headers = codes "Headers"
check_name check.Dynamic = codes "Dynamic"
check_name check.NoLoad = codes "NoLoad"
check_name check.TooManyLoads = codes "TooManyLoads"
check_name check.Range = codes "Range"
check_name check.WritableCode = codes "WritableCode"
check_name check.Overlap = codes "Overlap"
check_name check.TooLarge = codes "TooLarge"
check_name check.EntryOutside = codes "EntryOutside"

pub record IsProgram (file : List ℕ) (image : Layout) : Type 0 where
  pub within : length file ≤ MOST_PROGRAM_BYTES
  pub is_image : IsImage file image

-- a file above its limit is refused as one that is too large
abbrev pub NoProgram : List ℕ → Verdict → Type 0
NoProgram file verdict =
    ((MOST_PROGRAM_BYTES < length file) × (verdict ≡ Refused (bad_elf (check_name check.TooLarge))))
    ⊎ ((failed : Check) × (length file ≤ MOST_PROGRAM_BYTES) × (first_check file ≡ Some failed) × (verdict ≡ Refused (bad_elf (check_name failed))))

-- ---- a log

pub record IsRecording (file : List ℕ) (log : Log) : Type 0 where
  pub within : FitsFile file
  pub is_log : IsLog file log

abbrev pub NoRecording : List ℕ → Verdict → Type 0
NoRecording file verdict =
    (IsTooLarge file × (verdict ≡ Refused log_too_large))
    ⊎ ((offset : ℕ) × FitsFile file × FirstBad file offset × (verdict ≡ Refused (bad_log offset)))

-- ---- a schedule

pub record IsScheduleFile (text schedule : List ℕ) : Type 0 where
  pub within : length text ≤ MOST_LOG_BYTES
  pub is_text : IsTextOf schedule text

abbrev pub NoScheduleFile : List ℕ → Verdict → Type 0
NoScheduleFile text verdict =
    ((MOST_LOG_BYTES < length text) × (verdict ≡ Refused text_too_large))
    ⊎ ((number : ℕ) × (length text ≤ MOST_LOG_BYTES) × IsFirstBad text number × (verdict ≡ Refused (bad_line number)))

-- ---- an input, byte by byte

pub record IsInput (file tape : List ℕ) : Type 0 where
  pub within : length file ≤ MOST_TEXT_BYTES
  pub same : tape ≡ file

abbrev pub NoInput : List ℕ → Verdict → Type 0
NoInput file verdict = (MOST_TEXT_BYTES < length file) × (verdict ≡ Refused input_too_large)

-- ---- an assembly text

pub record IsSource (text file : List ℕ) : Type 0 where
  pub within : length text ≤ MOST_TEXT_BYTES
  pub is_file : AsmFile text file

-- the reason of a fault in a text, none for want of memory
abbrev pub fault_reason : AsmFault → Option Reason
fault_reason (asm.BadLine number) = Some (bad_line number)
fault_reason (asm.UnknownName number) = Some (unknown_name number)
fault_reason asm.TooLarge = Some text_too_large
fault_reason asm.Memory = None

-- a fault of a text, for this reason
pub record HasFault (text : List ℕ) (reason : Reason) : Type 0 where
  pub fault : AsmFault
  pub is_fault : IsRefused text fault
  pub says : fault_reason fault ≡ Some reason

abbrev pub NoSource : List ℕ → Verdict → Type 0
NoSource text verdict =
    ((MOST_TEXT_BYTES < length text) × (verdict ≡ Refused text_too_large))
    ⊎ ((reason : Reason) × (length text ≤ MOST_TEXT_BYTES) × HasFault text reason × (verdict ≡ Refused reason))

-- ---- files of several commands

-- without a file the input is empty
abbrev pub FromInput : Option Held → Option (List ℕ) → (List ℕ → Verdict → Type 0) → Verdict → Type 0
FromInput told None Next verdict = Next [] verdict
FromInput told (Some name) Next verdict = FromFile IsInput NoInput told name Next verdict

-- a program and then a log
abbrev pub FromRun : Option Held → List ℕ → List ℕ → (Layout → Log → Verdict → Type 0) → Verdict → Type 0
FromRun told elf log Next verdict =
    FromFile IsProgram NoProgram told elf (λ image v. FromFile IsRecording NoRecording told log (λ l w. Next image l w) v) verdict

pub record GivesRun (told : Option Held) (elf log : List ℕ) (image : Layout) (l : Log) : Type 0 where
  pub program : Gives IsProgram told elf image
  pub recording : Gives IsRecording told log l

abbrev pub RefusesRun : Option Held → List ℕ → List ℕ → Verdict → Type 0
RefusesRun told elf log verdict =
    Refuses NoProgram told elf verdict ⊎ ((image : Layout) × Gives IsProgram told elf image × Refuses NoRecording told log verdict)

-- the input that is named, if one is
abbrev pub GivesTape : Option Held → Option (List ℕ) → List ℕ → Type 0
GivesTape told None tape = tape ≡ []
GivesTape told (Some name) tape = Gives IsInput told name tape

abbrev pub RefusesTape : Option Held → Option (List ℕ) → Verdict → Type 0
RefusesTape told None verdict = ⊥
RefusesTape told (Some name) verdict = Refuses NoInput told name verdict
