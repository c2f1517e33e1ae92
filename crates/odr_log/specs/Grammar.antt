-- The bytes of a log, version 1, and the logs that have bytes.
--
-- Numbers are little-endian. The parts stand one after the other: the mark `ODRL` and the version, the
-- number of threads, the threads, the calls of all threads in their order, the end.
use Rattle.std.specs.Prelude.{◌≡◌, ℕ, ◌<◌, ◌≤◌, ◌^◌, Bool, true, false, List, [], ◌∷◌, ◌++◌, length, Option, Some, None, All, IfSome, codes}
use Rattle.std.specs.List.{flat_map, sum_by}
use Rattle.byteorder.specs.Endian.{little_bytes}
use Rattle.odr_limits.specs.declared.TheConstants.{MOST_STEPS}
use Rattle.odr_log.specs.declared.log.Cause.{Cause}
use Rattle.odr_log.specs.declared.log.Cause.TheVariants as cause
use Rattle.odr_log.specs.declared.log.End.{End}
use Rattle.odr_log.specs.declared.log.End.TheVariants as end
use Rattle.odr_log.specs.declared.log.PathItem.{PathItem}
use Rattle.odr_log.specs.declared.log.PathItem.TheVariants as item
use Rattle.odr_log.specs.declared.log.ThreadLog.{ThreadLog}
use Rattle.odr_log.specs.declared.log.Call.{Call}
use Rattle.odr_log.specs.declared.log.Call.TheVariants as call
use Rattle.odr_log.specs.declared.log.CallRec.{CallRec}
use Rattle.odr_log.specs.declared.log.Log.{Log}

-- ---- the spelling

-- a list: the number of its items in four bytes, and the items
abbrev pub list_bytes : {T : Type 0} → (T → List ℕ) → List T → List ℕ
list_bytes bytes_of items = little_bytes 4 (length items) ++ flat_map bytes_of items

-- a text: the number of its bytes in two bytes, and the bytes
abbrev pub text_bytes : List ℕ → List ℕ
text_bytes bytes = little_bytes 2 (length bytes) ++ bytes

-- yes or no
abbrev pub flag_bytes : Bool → List ℕ
flag_bytes false = 0 ∷ []
flag_bytes true = 1 ∷ []

-- a branch that was not taken, one that was, or the target of a jump
abbrev pub item_bytes : PathItem → List ℕ
item_bytes (item.Branch false) = 0 ∷ []
item_bytes (item.Branch true) = 1 ∷ []
item_bytes (item.Jump target) = 2 ∷ little_bytes 4 target

abbrev pub thread_bytes : ThreadLog → List ℕ
thread_bytes thread = little_bytes 4 thread.steps ++ list_bytes item_bytes thread.path

-- the kind of a call
abbrev pub kind_of : Call → ℕ
kind_of (call.Exit code) = 0x01
kind_of call.EndThread = 0x02
kind_of (call.Spawn entry child) = 0x03
kind_of (call.Join target ok) = 0x04
kind_of (call.Lock mutex ok) = 0x05
kind_of (call.Unlock mutex ok) = 0x06
kind_of (call.TryLock mutex got) = 0x07
kind_of (call.Write bytes) = 0x08
kind_of (call.Read want bytes) = 0x09
kind_of call.SelfId = 0x0a
kind_of call.Yield = 0x0b
kind_of call.WriteBad = 0x0c
kind_of call.ReadBad = 0x0d
kind_of (call.Unknown number) = 0x0e

-- the child of a spawn, or 255 for none
abbrev pub child_of : Option ℕ → ℕ
child_of None = 0xff
child_of (Some child) = child

-- the fields of a call, behind its kind
abbrev pub fields_of : Call → List ℕ
fields_of (call.Exit code) = little_bytes 4 code
fields_of call.EndThread = []
fields_of (call.Spawn entry child) = little_bytes 4 entry ++ child_of child ∷ []
fields_of (call.Join target ok) = little_bytes 4 target ++ flag_bytes ok
fields_of (call.Lock mutex ok) = little_bytes 4 mutex ++ flag_bytes ok
fields_of (call.Unlock mutex ok) = little_bytes 4 mutex ++ flag_bytes ok
fields_of (call.TryLock mutex got) = little_bytes 4 mutex ++ flag_bytes got
fields_of (call.Write bytes) = text_bytes bytes
fields_of (call.Read want bytes) = little_bytes 4 want ++ text_bytes bytes
fields_of call.SelfId = []
fields_of call.Yield = []
fields_of call.WriteBad = []
fields_of call.ReadBad = []
fields_of (call.Unknown number) = little_bytes 4 number

abbrev pub record_bytes : CallRec → List ℕ
record_bytes r = r.tid ∷ (little_bytes 4 r.at ++ kind_of r.call ∷ fields_of r.call)

abbrev pub cause_code : Cause → ℕ
cause_code cause.FetchFault = 1
cause_code cause.Illegal = 2
cause_code cause.Misaligned = 3
cause_code cause.LoadFault = 4
cause_code cause.StoreFault = 5
cause_code cause.AmoFault = 6
cause_code cause.Breakpoint = 7

abbrev pub end_bytes : End → List ℕ
end_bytes end.Cut = 0 ∷ []
end_bytes (end.Exited tid code) = 1 ∷ tid ∷ little_bytes 4 code
end_bytes (end.Faulted tid cause) = 2 ∷ tid ∷ cause_code cause ∷ []
end_bytes end.AllDone = 3 ∷ []

-- the one spelling of a log
unfoldable pub log_bytes : Log → List ℕ
log_bytes log = codes "ODRL" ++ log.version ∷ length log.threads
    ∷ (flat_map thread_bytes log.threads ++ (list_bytes record_bytes log.calls ++ end_bytes log.end))

-- ---- what can be spelled

abbrev pub IsItem : PathItem → Type 0
IsItem (item.Branch taken) = Unit {0}
IsItem (item.Jump target) = target < 2 ^ 32

pub record IsThread (thread : ThreadLog) : Type 0 where
  pub steps : thread.steps < 2 ^ 32
  pub items : length thread.path < 2 ^ 32
  pub each : All IsItem thread.path

-- a text that its length field can tell
abbrev pub IsText : List ℕ → Type 0
IsText bytes = (length bytes < 2 ^ 16) × All (λ byte. byte < 256) bytes

abbrev pub IsCall : Call → Type 0
IsCall (call.Exit code) = code < 2 ^ 32
IsCall call.EndThread = Unit {0}
IsCall (call.Spawn entry child) = (entry < 2 ^ 32) × IfSome child (λ c. c < 255)
IsCall (call.Join target ok) = target < 2 ^ 32
IsCall (call.Lock mutex ok) = mutex < 2 ^ 32
IsCall (call.Unlock mutex ok) = mutex < 2 ^ 32
IsCall (call.TryLock mutex got) = mutex < 2 ^ 32
IsCall (call.Write bytes) = IsText bytes
IsCall (call.Read want bytes) = (want < 2 ^ 32) × IsText bytes
IsCall call.SelfId = Unit {0}
IsCall call.Yield = Unit {0}
IsCall call.WriteBad = Unit {0}
IsCall call.ReadBad = Unit {0}
IsCall (call.Unknown number) = number < 2 ^ 32

-- a call of one of so many threads
pub record IsRecord (threads : ℕ) (r : CallRec) : Type 0 where
  pub tid : r.tid < threads
  pub at : r.at < 2 ^ 32
  pub call : IsCall r.call

-- an end of one of so many threads, or of all
abbrev pub IsEnd : ℕ → End → Type 0
IsEnd threads end.Cut = Unit {0}
IsEnd threads (end.Exited tid code) = (tid < threads) × (code < 2 ^ 32)
IsEnd threads (end.Faulted tid cause) = tid < threads
IsEnd threads end.AllDone = Unit {0}

-- a log of the grammar, of any number of steps
pub record IsInGrammar (log : Log) : Type 0 where
  pub version : log.version ≡ 1
  pub some_thread : 1 ≤ length log.threads
  pub few_threads : length log.threads ≤ 8
  pub threads : All IsThread log.threads
  pub few_calls : length log.calls < 2 ^ 32
  pub calls : All (IsRecord (length log.threads)) log.calls
  pub end : IsEnd (length log.threads) log.end

-- the steps of all threads
abbrev pub steps_of : Log → ℕ
steps_of log = sum_by (λ thread. thread.steps) log.threads

-- a valid log: one of the grammar whose steps are within the limit
pub record IsValid (log : Log) : Type 0 where
  pub grammar : IsInGrammar log
  pub steps : steps_of log ≤ MOST_STEPS

-- the bytes of a valid log
abbrev pub IsLog : List ℕ → Log → Type 0
IsLog bytes log = IsValid log × (bytes ≡ log_bytes log)
