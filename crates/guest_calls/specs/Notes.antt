-- A note of a call as the record of that call: the same call, whose bytes are the same.
use Rattle.std.specs.Prelude.{◌<◌, ◌≤◌, ◌^◌, length}
use Rattle.odr_log.specs.declared.log.Call.{Call}
use Rattle.odr_log.specs.declared.log.Call.TheVariants as call
use Rattle.odr_log.specs.Grammar.{IsText}
use Rattle.guest_calls.specs.declared.note.CallNote.{CallNote}
use Rattle.guest_calls.specs.declared.note.CallNote.TheVariants as note

abbrev pub call_of : CallNote → Call
call_of (note.Exit code) = call.Exit code
call_of note.EndThread = call.EndThread
call_of (note.Spawn entry child) = call.Spawn entry child
call_of (note.Join target ok) = call.Join target ok
call_of (note.Lock mutex ok) = call.Lock mutex ok
call_of (note.Unlock mutex ok) = call.Unlock mutex ok
call_of (note.TryLock mutex got) = call.TryLock mutex got
call_of (note.Write bytes) = call.Write bytes
call_of note.WriteBad = call.WriteBad
call_of (note.Read want bytes) = call.Read want bytes
call_of note.ReadBad = call.ReadBad
call_of note.SelfId = call.SelfId
call_of note.Yield = call.Yield
call_of (note.Unknown number) = call.Unknown number

-- at most 256 bytes go through a call
abbrev pub HasFewBytes : Call → Type 0
HasFewBytes (call.Write bytes) = length bytes ≤ 256
HasFewBytes (call.Read want bytes) = length bytes ≤ 256
HasFewBytes other = Unit {0}

-- the numbers and the bytes of a call fit their fields in a log; a child's number is no matter of its note
abbrev pub FitsFields : Call → Type 0
FitsFields (call.Exit code) = code < 2 ^ 32
FitsFields (call.Spawn entry child) = entry < 2 ^ 32
FitsFields (call.Join target ok) = target < 2 ^ 32
FitsFields (call.Lock mutex ok) = mutex < 2 ^ 32
FitsFields (call.Unlock mutex ok) = mutex < 2 ^ 32
FitsFields (call.TryLock mutex got) = mutex < 2 ^ 32
FitsFields (call.Write bytes) = IsText bytes
FitsFields (call.Read want bytes) = (want < 2 ^ 32) × IsText bytes
FitsFields (call.Unknown number) = number < 2 ^ 32
FitsFields other = Unit {0}
