-- What is wrong with bytes that are no valid log, and where.
use Rattle.std.specs.Prelude.{◌≡◌, ◌≢◌, ℕ, ◌+◌, ◌<◌, ◌≤◌, List, [], ◌++◌, length, take, Result, Ok, Err, ◌⊎◌}
use Rattle.odr_limits.specs.declared.TheConstants.{MOST_LOG_BYTES, MOST_STEPS}
use Rattle.odr_log.specs.declared.fault.LogFault.{LogFault}
use Rattle.odr_log.specs.declared.fault.LogFault.TheVariants as fault
use Rattle.odr_log.specs.declared.log.Log.{Log}
use Rattle.odr_log.specs.Grammar.{log_bytes, steps_of, IsInGrammar}

-- some log has these bytes
abbrev pub IsSomeLog : List ℕ → Type 0
IsSomeLog bytes = (log : Log) × IsInGrammar log × (bytes ≡ log_bytes log)

-- some log begins with these bytes
abbrev pub BeginsLog : List ℕ → Type 0
BeginsLog front = (log : Log) × (rest : List ℕ) × IsInGrammar log × (log_bytes log ≡ front ++ rest)

-- p is the least place such that no log begins with the first p + 1 bytes
pub record IsFirstWrong (bytes : List ℕ) (p : ℕ) : Type 0 where
  pub within : p < length bytes
  pub before : (q : ℕ) → q < p → BeginsLog (take (q + 1) bytes)
  pub wrong : ¬ BeginsLog (take (p + 1) bytes)

-- p is the length, and the bytes are a proper prefix of a log
pub record IsCutOff (bytes : List ℕ) (p : ℕ) : Type 0 where
  pub at_end : p ≡ length bytes
  pub log : Log
  pub rest : List ℕ
  pub grammar : IsInGrammar log
  pub goes_on : log_bytes log ≡ bytes ++ rest
  pub more : rest ≢ []

-- the place where the bytes stop to be a log
abbrev pub FirstBad : List ℕ → ℕ → Type 0
FirstBad bytes p = IsFirstWrong bytes p ⊎ IsCutOff bytes p

-- as many bytes as a log file may have
abbrev pub FitsFile : List ℕ → Type 0
FitsFile bytes = length bytes ≤ MOST_LOG_BYTES

-- too many bytes, or a log of too many steps
abbrev pub IsTooLarge : List ℕ → Type 0
IsTooLarge bytes = (MOST_LOG_BYTES < length bytes) ⊎ ((log : Log) × IsInGrammar log × (bytes ≡ log_bytes log) × (MOST_STEPS < steps_of log))

-- memory ran out, or P
abbrev pub UnlessMemory : {T : Type 0} → Result T LogFault → Type 0 → Type 0
UnlessMemory (Ok x) P = P
UnlessMemory (Err fault.TooLarge) P = P
UnlessMemory (Err (fault.Bad offset)) P = P
UnlessMemory (Err fault.Memory) P = Unit {0}
