-- The texts of a call are short where those that it hears are.
use Rattle.std.specs.Prelude.{ℕ, ◌<◌, ◌^◌, Bool, true, false, ◌&&◌, cond, List, length, nat_eq, Option, None, Some}
use Rattle.rv_model.specs.declared.hearing.Kind.{Kind}
use Rattle.rv_model.specs.declared.hearing.Kind.TheVariants as kind
use Rattle.rv_model.specs.declared.hearing.Reach.{Reach}
use Rattle.rv_model.specs.declared.hearing.Reply.{Reply}
use Rattle.rv_model.specs.Calls.{fits_buffer, writing, kind_by, record_of}
use Rattle.plain_machine.specs.Short.{IsShort}
use Rattle.plain_machine.specs.Met.{HasCount}

abbrev WritesShort : Kind → Type 0
WritesShort (kind.Write bytes) = length bytes < 2 ^ 32
WritesShort other = Unit {0}

short-cond : (b : Bool) (x y : Kind) → WritesShort x → WritesShort y → WritesShort (cond b x y)
short-cond true x y p q = p
short-cond false x y p q = q

short-writing : (count : ℕ) (writable : Bool) (bytes : Option (List ℕ)) → HasCount count (record { bytes = bytes; writable = writable }) → WritesShort (writing bytes)
short-writing count writable None has = tt
short-writing count writable (Some bytes) has = has.1

short-kind : (number a0 a1 count : ℕ) (reach : Reach) → HasCount count reach → WritesShort (kind_by number a0 a1 reach)
short-kind number a0 a1 count reach has =
    short-cond (nat_eq number 1) (kind.Exit a0) _ tt (short-cond (nat_eq number 2) kind.EndThread _ tt
    (short-cond (nat_eq number 3) (kind.Spawn a0) _ tt (short-cond (nat_eq number 4) (kind.Join a0) _ tt
    (short-cond (nat_eq number 5) (kind.Lock a0) _ tt (short-cond (nat_eq number 6) (kind.Unlock a0) _ tt
    (short-cond (nat_eq number 7) (kind.TryLock a0) _ tt
    (short-cond (nat_eq number 8) (cond (fits_buffer a1) (writing reach.bytes) kind.WriteBad) _
    (short-cond (fits_buffer a1) (writing reach.bytes) kind.WriteBad (short-writing count reach.writable reach.bytes has) tt)
    (short-cond (nat_eq number 9) (cond (fits_buffer a1 && reach.writable) (kind.Read a1) kind.ReadBad) _
    (short-cond (fits_buffer a1 && reach.writable) (kind.Read a1) kind.ReadBad tt tt)
    (short-cond (nat_eq number 10) kind.SelfId _ tt (short-cond (nat_eq number 11) kind.Yield (kind.Unknown number) tt tt))))))))))

short-record : (k : Kind) (reply : Reply) → WritesShort k → length reply.bytes < 2 ^ 32 → IsShort (record_of k reply)
short-record (kind.Exit code) reply w r = tt
short-record kind.EndThread reply w r = tt
short-record (kind.Spawn entry) reply w r = tt
short-record (kind.Join target) reply w r = tt
short-record (kind.Lock mutex) reply w r = tt
short-record (kind.Unlock mutex) reply w r = tt
short-record (kind.TryLock mutex) reply w r = tt
short-record (kind.Write bytes) reply w r = w
short-record kind.WriteBad reply w r = tt
short-record (kind.Read want) reply w r = r
short-record kind.ReadBad reply w r = tt
short-record kind.SelfId reply w r = tt
short-record kind.Yield reply w r = tt
short-record (kind.Unknown number) reply w r = tt

pub short_call : (number a0 a1 count : ℕ) (reach : Reach) (reply : Reply) → HasCount count reach → length reply.bytes < 2 ^ 32
    → IsShort (record_of (kind_by number a0 a1 reach) reply)
short_call number a0 a1 count reach reply has small = short-record (kind_by number a0 a1 reach) reply (short-kind number a0 a1 count reach has) small
