-- Which line of a text is the first outside the grammar of schedules.
use Rattle.std.specs.Prelude.{ℕ, zero, suc, ◌<◌, ◌==◌, if◌then◌else◌, List, [], ◌∷◌}
use Rattle.sched_text.specs.declared.fault.SchedFault.{SchedFault}
use Rattle.sched_text.specs.declared.fault.SchedFault.TheVariants.{Bad, Memory}
use Rattle.sched_text.specs.Text.{IsTextOf}

-- so many lines of the bytes, from the first on, each with its line feed; all bytes where they are no more
abbrev pub first_lines : ℕ → List ℕ → List ℕ
first_lines n [] = []
first_lines zero (byte ∷ bytes) = []
first_lines (suc n) (byte ∷ bytes) = byte ∷ first_lines (if byte == 10 then n else suc n) bytes

-- the bytes are the text of some schedule
abbrev pub IsScheduleText : List ℕ → Type 0
IsScheduleText bytes = (steps : List ℕ) × IsTextOf steps bytes

-- The lines up to this one, counted from 1, are the text of no schedule, and those up to any earlier line are.
pub record IsFirstBad (bytes : List ℕ) (line : ℕ) : Type 0 where
  pub bad : ¬ IsScheduleText (first_lines line bytes)
  pub before : (n : ℕ) → n < line → IsScheduleText (first_lines n bytes)

-- when the reader gives a fault: `Bad` with the first bad line; want of memory is tied to nothing
abbrev pub IsCause : List ℕ → SchedFault → Type 0
IsCause bytes (Bad line) = IsFirstBad bytes line
IsCause bytes Memory = Unit {0}
