-- Reading a log from left to right. A reader gives a value and the bytes after it, or how many bytes are
-- left where it stops: at the first byte that no log has there, or at the end.
use Rattle.std.specs.Prelude.{◌≡◌, ℕ, zero, suc, ◌-◌, ◌&&◌, ◌==◌, nat_lt, nat_le, Bool, List, [], ◌∷◌, ◌++◌, length, take, drop, Option, Some, None, Result, Ok, Err, if◌then◌else◌, codes}
use Rattle.std.specs.Int.{Width, w16, w32, byte_len, from_le_bytes}
use Rattle.odr_log.specs.declared.log.Cause.{Cause}
use Rattle.odr_log.specs.declared.log.Cause.TheVariants as cause
use Rattle.odr_log.specs.declared.log.End.{End}
use Rattle.odr_log.specs.declared.log.End.TheVariants as end
use Rattle.odr_log.specs.declared.log.PathItem.{PathItem}
use Rattle.odr_log.specs.declared.log.PathItem.TheVariants as item
use Rattle.odr_log.specs.declared.log.ThreadLog.{ThreadLog}
use Rattle.odr_log.specs.declared.log.Call.{Call}
use Rattle.odr_log.specs.declared.log.Call.TheVariants as call
use Rattle.odr_log.specs.declared.log.CallRec.{CallRec}
use Rattle.odr_log.specs.declared.log.Log.{Log}
use Rattle.odr_log.specs.declared.stop.Stop.{Stop}
use Rattle.odr_log.specs.declared.stop.Stop.TheVariants as stop

infixl 10 ◌>>=◌
abbrev pub ◌>>=◌ : {A B : Type 0} → Result A ℕ → (A → Result B ℕ) → Result B ℕ
(Ok x) >>= f = f x
(Err left) >>= f = Err left

-- what is made of the value that was read
abbrev pub mapped : {A B : Type 0} → (A → B) → Result (A × List ℕ) ℕ → Result (B × List ℕ) ℕ
mapped make read = read >>= λ x. Ok (make x.0, x.1)

-- one value and then another
abbrev pub pair_at : {A B : Type 0} → (List ℕ → Result (A × List ℕ) ℕ) → (List ℕ → Result (B × List ℕ) ℕ) → List ℕ → Result ((A × B) × List ℕ) ℕ
pair_at first_at second_at bytes = do
  first ← first_at bytes
  second ← second_at first.1
  Ok ((first.0, second.0), second.1)

-- What a function returned, seen by view, is what reading gives, unless memory ran out.
abbrev pub Stops : {Y : Type 0} → Stop → Result Y ℕ → Type 0
Stops stop.Memory read = Unit {0}
Stops (stop.Bad left) read = read ≡ Err left

abbrev pub Gives : {X Y : Type 0} → (X → Y) → Result X Stop → Result Y ℕ → Type 0
Gives view (Ok x) read = read ≡ Ok (view x)
Gives view (Err e) read = Stops e read

-- ---- fields

-- a byte from low to high
abbrev pub byte_at : ℕ → ℕ → List ℕ → Result (ℕ × List ℕ) ℕ
byte_at low high [] = Err 0
byte_at low high (b ∷ rest) = if nat_le low b && nat_le b high then Ok (b, rest) else Err (length (b ∷ rest))

-- a number
abbrev pub number_at : Width → List ℕ → Result (ℕ × List ℕ) ℕ
number_at w bytes = if nat_lt (length bytes) (byte_len w) then Err 0 else Ok (from_le_bytes w (take (byte_len w) bytes), drop (byte_len w) bytes)

-- so many bytes
abbrev pub bytes_at : ℕ → List ℕ → Result (List ℕ × List ℕ) ℕ
bytes_at n bytes = if nat_lt (length bytes) n then Err 0 else Ok (take n bytes, drop n bytes)

unfoldable pub text_at : List ℕ → Result (List ℕ × List ℕ) ℕ
text_at bytes = do
  n ← number_at w16 bytes
  bytes_at n.0 n.1

unfoldable pub flag_at : List ℕ → Result (Bool × List ℕ) ℕ
flag_at bytes = mapped (λ b. b == 1) (byte_at 0 1 bytes)

-- so many values, one after the other
unfoldable pub list_at : {T : Type 0} → (List ℕ → Result (T × List ℕ) ℕ) → ℕ → List ℕ → Result (List T × List ℕ) ℕ
list_at value_at zero bytes = Ok ([], bytes)
list_at value_at (suc n) bytes = do
  first ← value_at bytes
  others ← list_at value_at n first.1
  Ok (first.0 ∷ others.0, others.1)

-- ---- threads

unfoldable pub item_at : List ℕ → Result (PathItem × List ℕ) ℕ
item_at bytes = do
  kind ← byte_at 0 2 bytes
  if kind.0 == 2 then mapped item.Jump (number_at w32 kind.1) else Ok (item.Branch (kind.0 == 1), kind.1)

unfoldable pub thread_at : List ℕ → Result (ThreadLog × List ℕ) ℕ
thread_at bytes = do
  steps ← number_at w32 bytes
  count ← number_at w32 steps.1
  path ← list_at item_at count.0 count.1
  Ok (record { steps = steps.0; path = path.0 }, path.1)

-- ---- calls

-- a number and a flag
unfoldable pub flagged_at : List ℕ → Result ((ℕ × Bool) × List ℕ) ℕ
flagged_at = pair_at (number_at w32) flag_at

-- a child, which is none where it is 255
unfoldable pub child_at : List ℕ → Result (Option ℕ × List ℕ) ℕ
child_at bytes = mapped (λ b. if b == 255 then None else Some b) (byte_at 0 255 bytes)

-- an entry and a child
unfoldable pub spawned_at : List ℕ → Result ((ℕ × Option ℕ) × List ℕ) ℕ
spawned_at = pair_at (number_at w32) child_at

-- how many bytes were wanted, and those that came
unfoldable pub wanted_at : List ℕ → Result ((ℕ × List ℕ) × List ℕ) ℕ
wanted_at = pair_at (number_at w32) text_at

-- the fields of a call of this kind
unfoldable pub fields_at : ℕ → List ℕ → Result (Call × List ℕ) ℕ
fields_at kind bytes =
    if kind == 0x01 then mapped call.Exit (number_at w32 bytes) else
    if kind == 0x02 then Ok (call.EndThread, bytes) else
    if kind == 0x03 then mapped (λ f. call.Spawn f.0 f.1) (spawned_at bytes) else
    if kind == 0x04 then mapped (λ f. call.Join f.0 f.1) (flagged_at bytes) else
    if kind == 0x05 then mapped (λ f. call.Lock f.0 f.1) (flagged_at bytes) else
    if kind == 0x06 then mapped (λ f. call.Unlock f.0 f.1) (flagged_at bytes) else
    if kind == 0x07 then mapped (λ f. call.TryLock f.0 f.1) (flagged_at bytes) else
    if kind == 0x08 then mapped call.Write (text_at bytes) else
    if kind == 0x09 then mapped (λ f. call.Read f.0 f.1) (wanted_at bytes) else
    if kind == 0x0a then Ok (call.SelfId, bytes) else
    if kind == 0x0b then Ok (call.Yield, bytes) else
    if kind == 0x0c then Ok (call.WriteBad, bytes) else
    if kind == 0x0d then Ok (call.ReadBad, bytes) else
    mapped call.Unknown (number_at w32 bytes)

-- a call of one of so many threads
unfoldable pub record_at : ℕ → List ℕ → Result (CallRec × List ℕ) ℕ
record_at threads bytes = do
  tid ← byte_at 0 (threads - 1) bytes
  at ← number_at w32 tid.1
  kind ← byte_at 0x01 0x0e at.1
  made ← fields_at kind.0 kind.1
  Ok (record { tid = tid.0; at = at.0; call = made.0 }, made.1)

-- ---- the end

abbrev pub cause_of : ℕ → Cause
cause_of code =
    if code == 1 then cause.FetchFault else
    if code == 2 then cause.Illegal else
    if code == 3 then cause.Misaligned else
    if code == 4 then cause.LoadFault else
    if code == 5 then cause.StoreFault else
    if code == 6 then cause.AmoFault else
    cause.Breakpoint

unfoldable pub cause_at : List ℕ → Result (Cause × List ℕ) ℕ
cause_at bytes = mapped cause_of (byte_at 1 7 bytes)

-- a thread of so many, and its exit code
unfoldable pub exited_at : ℕ → List ℕ → Result ((ℕ × ℕ) × List ℕ) ℕ
exited_at threads = pair_at (byte_at 0 (threads - 1)) (number_at w32)

-- a thread of so many, and why it faulted
unfoldable pub faulted_at : ℕ → List ℕ → Result ((ℕ × Cause) × List ℕ) ℕ
faulted_at threads = pair_at (byte_at 0 (threads - 1)) cause_at

-- the fields of an end of this kind
unfoldable pub end_fields_at : ℕ → ℕ → List ℕ → Result (End × List ℕ) ℕ
end_fields_at threads kind bytes =
    if kind == 0 then Ok (end.Cut, bytes) else
    if kind == 1 then mapped (λ x. end.Exited x.0 x.1) (exited_at threads bytes) else
    if kind == 2 then mapped (λ x. end.Faulted x.0 x.1) (faulted_at threads bytes) else
    Ok (end.AllDone, bytes)

unfoldable pub end_at : ℕ → List ℕ → Result (End × List ℕ) ℕ
end_at threads bytes = do
  kind ← byte_at 0 3 bytes
  end_fields_at threads kind.0 kind.1

-- ---- the log

-- these bytes
unfoldable pub mark_at : List ℕ → List ℕ → Result (List ℕ) ℕ
mark_at [] bytes = Ok bytes
mark_at (want ∷ mark) bytes = do
  byte ← byte_at want want bytes
  mark_at mark byte.1

-- the calls and the end of a log with these threads
unfoldable pub body_at : List ThreadLog → List ℕ → Result (Log × List ℕ) ℕ
body_at threads bytes = do
  count ← number_at w32 bytes
  calls ← list_at (record_at (length threads)) count.0 count.1
  end ← end_at (length threads) calls.1
  Ok (record { version = 1; threads = threads; calls = calls.0; end = end.0 }, end.1)

unfoldable pub log_at : List ℕ → Result (Log × List ℕ) ℕ
log_at bytes = do
  after ← mark_at (codes "ODRL" ++ 1 ∷ []) bytes
  count ← byte_at 1 8 after
  threads ← list_at thread_at count.0 count.1
  body_at threads.0 threads.1

-- the log of all bytes
unfoldable pub whole_at : List ℕ → Result Log ℕ
whole_at bytes = do
  log ← log_at bytes
  if length log.1 == 0 then Ok log.0 else Err (length log.1)
