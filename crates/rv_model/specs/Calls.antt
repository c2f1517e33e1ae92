-- The table of guest calls. ECALL takes the call's number in a7 (x17) and its arguments in a0 (x10) and a1 (x11).
-- What the shared state of the calls answers depends on the thread and on what is asked alone; whoever hears the
-- answer from elsewhere, as from a log, steps by the same table.
use Rattle.std.specs.Prelude.{ℕ, ◌-◌, ◌%◌, ◌^◌, Bool, true, false, not, ◌&&◌, List, [], ◌∷◌, ◌++◌, length, replicate, take, drop, nat_eq, nat_lt, nat_le, slice_index_or, slice_set, Option, Some, None, unwrap_or, is_some, is_none, if◌then◌else◌}
use Rattle.odr_log.specs.declared.log.Call.{Call}
use Rattle.odr_log.specs.declared.log.Call.TheVariants as call
use Rattle.rv_model.specs.declared.state.Local.{Local}
use Rattle.rv_model.specs.declared.state.Calls.{Calls}
use Rattle.rv_model.specs.declared.hearing.Reach.{Reach}
use Rattle.rv_model.specs.declared.hearing.Kind.{Kind}
use Rattle.rv_model.specs.declared.hearing.Kind.TheVariants as kind
use Rattle.rv_model.specs.declared.hearing.Asked.{Asked}
use Rattle.rv_model.specs.declared.hearing.Asked.TheVariants as asked
use Rattle.rv_model.specs.declared.hearing.Reply.{Reply}
use Rattle.rv_model.specs.Thread.{register}

-- "-1", the answer to a misused call
abbrev pub minus_one : ℕ
minus_one = 2 ^ 32 - 1

abbrev pub number_of_call : Local → ℕ
number_of_call local = register local 17

abbrev pub first_argument : Local → ℕ
first_argument local = register local 10

abbrev pub second_argument : Local → ℕ
second_argument local = register local 11

-- at most 256 bytes go through a call
abbrev pub fits_buffer : ℕ → Bool
fits_buffer count = nat_le count 256

abbrev pub writing : Option (List ℕ) → Kind
writing None = kind.WriteBad
writing (Some bytes) = kind.Write bytes

-- a call by its number and arguments, and what its buffer meets
abbrev pub kind_by : ℕ → ℕ → ℕ → Reach → Kind
kind_by number a0 a1 reach =
    if nat_eq number 1 then kind.Exit a0 else
    if nat_eq number 2 then kind.EndThread else
    if nat_eq number 3 then kind.Spawn a0 else
    if nat_eq number 4 then kind.Join a0 else
    if nat_eq number 5 then kind.Lock a0 else
    if nat_eq number 6 then kind.Unlock a0 else
    if nat_eq number 7 then kind.TryLock a0 else
    if nat_eq number 8 then (if fits_buffer a1 then writing reach.bytes else kind.WriteBad) else
    if nat_eq number 9 then (if fits_buffer a1 && reach.writable then kind.Read a1 else kind.ReadBad) else
    if nat_eq number 10 then kind.SelfId else
    if nat_eq number 11 then kind.Yield else kind.Unknown number

abbrev pub kind_at : Local → Reach → Kind
kind_at local reach = kind_by (number_of_call local) (first_argument local) (second_argument local) reach

-- what a call asks of the shared state
abbrev pub asked_of : Kind → Option Asked
asked_of (kind.Exit code) = None
asked_of kind.EndThread = None
asked_of (kind.Spawn entry) = Some (asked.Spawn entry)
asked_of (kind.Join target) = Some (asked.Join target)
asked_of (kind.Lock mutex) = Some (asked.Lock mutex)
asked_of (kind.Unlock mutex) = Some (asked.Unlock mutex)
asked_of (kind.TryLock mutex) = Some (asked.TryLock mutex)
asked_of (kind.Write bytes) = None
asked_of kind.WriteBad = None
asked_of (kind.Read want) = Some (asked.Read want)
asked_of kind.ReadBad = None
asked_of kind.SelfId = None
asked_of kind.Yield = None
asked_of (kind.Unknown number) = None

-- the same, read off a record
abbrev pub asked_in : Call → Option Asked
asked_in (call.Exit code) = None
asked_in call.EndThread = None
asked_in (call.Spawn entry child) = Some (asked.Spawn entry)
asked_in (call.Join target ok) = Some (asked.Join target)
asked_in (call.Lock mutex ok) = Some (asked.Lock mutex)
asked_in (call.Unlock mutex ok) = Some (asked.Unlock mutex)
asked_in (call.TryLock mutex got) = Some (asked.TryLock mutex)
asked_in (call.Write bytes) = None
asked_in call.WriteBad = None
asked_in (call.Read want bytes) = Some (asked.Read want)
asked_in call.ReadBad = None
asked_in call.SelfId = None
asked_in call.Yield = None
asked_in (call.Unknown number) = None

abbrev pub no_reply : Reply
no_reply = record { ok = false; child = None; bytes = [] }

abbrev pub says : Bool → Reply
says ok = record no_reply { ok = ok }

-- thread 0 alone, every mutex free, the whole tape
abbrev pub opening_calls : List ℕ → Calls
opening_calls tape = record { ended = None ∷ []; owners = replicate 32 None; tape = tape }

-- the number of threads that were made
abbrev pub made : Calls → ℕ
made calls = length calls.ended

-- the value with which a thread ended, none for one that has not ended or is no thread
abbrev pub end_value : Calls → ℕ → Option ℕ
end_value calls thread = slice_index_or calls.ended thread None

abbrev pub is_mutex : ℕ → Bool
is_mutex mutex = nat_lt mutex 32

abbrev pub owner_of : Calls → ℕ → Option ℕ
owner_of calls mutex = slice_index_or calls.owners mutex None

abbrev pub is_thread : ℕ → Option ℕ → Bool
is_thread thread None = false
is_thread thread (Some owner) = nat_eq owner thread

-- held by a thread other than this one
abbrev pub is_other : ℕ → Option ℕ → Bool
is_other thread None = false
is_other thread (Some owner) = not (nat_eq owner thread)

-- A thread waits for a mutex that another thread holds, and for another thread that has not ended.
abbrev pub waits : Calls → ℕ → Option Asked → Bool
waits calls thread None = false
waits calls thread (Some (asked.Join target)) = not (nat_eq target thread) && (nat_lt target (made calls) && is_none (end_value calls target))
waits calls thread (Some (asked.Lock mutex)) = is_mutex mutex && is_other thread (owner_of calls mutex)
waits calls thread (Some (asked.Spawn entry)) = false
waits calls thread (Some (asked.Unlock mutex)) = false
waits calls thread (Some (asked.TryLock mutex)) = false
waits calls thread (Some (asked.Read want)) = false

-- what a thread is answered that does not wait
abbrev pub reply_to : Calls → ℕ → Option Asked → Reply
reply_to calls thread None = no_reply
reply_to calls thread (Some (asked.Spawn entry)) = record no_reply { child = if nat_eq (entry % 4) 0 && nat_lt (made calls) 8 then Some (made calls) else None }
reply_to calls thread (Some (asked.Join target)) = says (not (nat_eq target thread) && is_some (end_value calls target))
reply_to calls thread (Some (asked.Lock mutex)) = says (is_mutex mutex && is_none (owner_of calls mutex))
reply_to calls thread (Some (asked.Unlock mutex)) = says (is_mutex mutex && is_thread thread (owner_of calls mutex))
reply_to calls thread (Some (asked.TryLock mutex)) = says (is_mutex mutex && is_none (owner_of calls mutex))
reply_to calls thread (Some (asked.Read want)) = record no_reply { bytes = take want calls.tape }

-- the value that a join hands on
abbrev pub join_value : Calls → Option Asked → ℕ
join_value calls None = 0
join_value calls (Some (asked.Join target)) = unwrap_or (end_value calls target) 0
join_value calls (Some (asked.Spawn entry)) = 0
join_value calls (Some (asked.Lock mutex)) = 0
join_value calls (Some (asked.Unlock mutex)) = 0
join_value calls (Some (asked.TryLock mutex)) = 0
join_value calls (Some (asked.Read want)) = 0

-- the record of a call that was answered so
abbrev pub record_of : Kind → Reply → Call
record_of (kind.Exit code) reply = call.Exit code
record_of kind.EndThread reply = call.EndThread
record_of (kind.Spawn entry) reply = call.Spawn entry reply.child
record_of (kind.Join target) reply = call.Join target reply.ok
record_of (kind.Lock mutex) reply = call.Lock mutex reply.ok
record_of (kind.Unlock mutex) reply = call.Unlock mutex reply.ok
record_of (kind.TryLock mutex) reply = call.TryLock mutex reply.ok
record_of (kind.Write bytes) reply = call.Write bytes
record_of kind.WriteBad reply = call.WriteBad
record_of (kind.Read want) reply = call.Read want reply.bytes
record_of kind.ReadBad reply = call.ReadBad
record_of kind.SelfId reply = call.SelfId
record_of kind.Yield reply = call.Yield
record_of (kind.Unknown number) reply = call.Unknown number

abbrev pub zero_if : Bool → ℕ
zero_if ok = if ok then 0 else minus_one

-- a0 after a call: who called, the value that a join hands on, the call, and a0 before it
abbrev pub answer_of : ℕ → ℕ → Call → ℕ → ℕ
answer_of thread joined (call.Exit code) a0 = a0
answer_of thread joined call.EndThread a0 = a0
answer_of thread joined (call.Spawn entry child) a0 = unwrap_or child minus_one
answer_of thread joined (call.Join target ok) a0 = if ok then joined else minus_one
answer_of thread joined (call.Lock mutex ok) a0 = zero_if ok
answer_of thread joined (call.Unlock mutex ok) a0 = zero_if ok
answer_of thread joined (call.TryLock mutex got) a0 = zero_if got
answer_of thread joined (call.Write bytes) a0 = length bytes
answer_of thread joined call.WriteBad a0 = minus_one
answer_of thread joined (call.Read want bytes) a0 = length bytes
answer_of thread joined call.ReadBad a0 = minus_one
answer_of thread joined call.SelfId a0 = thread
answer_of thread joined call.Yield a0 = 0
answer_of thread joined (call.Unknown number) a0 = minus_one

-- the shared state after a call; an ending thread ends with its a0
abbrev pub calls_after : Calls → ℕ → ℕ → Call → Calls
calls_after calls thread a0 (call.Exit code) = calls
calls_after calls thread a0 call.EndThread = record calls { ended = slice_set calls.ended thread (Some a0) }
calls_after calls thread a0 (call.Spawn entry (Some child)) = record calls { ended = calls.ended ++ None ∷ [] }
calls_after calls thread a0 (call.Spawn entry None) = calls
calls_after calls thread a0 (call.Join target ok) = calls
calls_after calls thread a0 (call.Lock mutex true) = record calls { owners = slice_set calls.owners mutex (Some thread) }
calls_after calls thread a0 (call.Lock mutex false) = calls
calls_after calls thread a0 (call.Unlock mutex true) = record calls { owners = slice_set calls.owners mutex None }
calls_after calls thread a0 (call.Unlock mutex false) = calls
calls_after calls thread a0 (call.TryLock mutex true) = record calls { owners = slice_set calls.owners mutex (Some thread) }
calls_after calls thread a0 (call.TryLock mutex false) = calls
calls_after calls thread a0 (call.Write bytes) = calls
calls_after calls thread a0 call.WriteBad = calls
calls_after calls thread a0 (call.Read want bytes) = record calls { tape = drop (length bytes) calls.tape }
calls_after calls thread a0 call.ReadBad = calls
calls_after calls thread a0 call.SelfId = calls
calls_after calls thread a0 call.Yield = calls
calls_after calls thread a0 (call.Unknown number) = calls
