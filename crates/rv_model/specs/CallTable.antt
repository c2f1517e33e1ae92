-- The table of guest calls, a row for each: its arguments, when the caller waits in it, when it is misused, its record,
-- a0 after it, and what else changes. `Calls.antt` cuts the same by what is asked, answered and changed; that a step does
-- what the row says is a law.
use Rattle.std.specs.Prelude.{◌≡◌, ℕ, ◌+◌, ◌%◌, Bool, true, false, not, ◌&&◌, ◌||◌, List, [], ◌∷◌, ◌++◌, length, map, take, drop, nat_eq, nat_lt, nat_le, slice_set, Option, Some, None, unwrap_or, is_none, is_some, if◌then◌else◌}
use Rattle.elf_image.specs.declared.write.Write.{Write}
use Rattle.elf_image.specs.Layout.{Layout}
use Rattle.elf_image.specs.Memory.{writes_of}
use Rattle.odr_log.specs.declared.log.Call.{Call}
use Rattle.odr_log.specs.declared.log.Call.TheVariants as call
use Rattle.rv_model.specs.declared.state.Local.{Local}
use Rattle.rv_model.specs.declared.state.Thread.{Thread}
use Rattle.rv_model.specs.declared.state.Calls.{Calls}
use Rattle.rv_model.specs.declared.state.Core.{Core}
use Rattle.rv_model.specs.declared.state.State.{State}
use Rattle.rv_model.specs.declared.state.Halt.{Halt}
use Rattle.rv_model.specs.declared.state.Halt.TheVariants as halt
use Rattle.rv_model.specs.declared.state.Note.TheVariants as note
use Rattle.rv_model.specs.declared.hearing.Reach.{Reach}
use Rattle.rv_model.specs.Thread.{register, with_register, onward, losing, fresh, spawned_local}
use Rattle.rv_model.specs.Calls.{minus_one, made, end_value, owner_of, is_thread, is_other}
use Rattle.rv_model.specs.Step.{Effect, thread_at, memory_of, reach_at, after_effect, step, is_enabled}

pub record Row : Type 0 where
  pub waits : Bool
  pub made : Call
  pub answer : ℕ
  pub shared : Calls
  pub writes : List Write
  pub child : List Thread
  pub halt : Option Halt

-- a call that is answered so and changes nothing else
abbrev pub answers : Calls → Call → ℕ → Row
answers calls made answer = record { waits = false; made = made; answer = answer; shared = calls; writes = []; child = []; halt = None }

-- a misused call: the answer is "-1"
abbrev pub misused : Calls → Call → Row
misused calls made = answers calls made minus_one

abbrev pub with_owner : Calls → ℕ → Option ℕ → Calls
with_owner calls mutex owner = record calls { owners = slice_set calls.owners mutex owner }

-- exit(code): the machine halts
abbrev pub exit_row : Calls → ℕ → ℕ → Row
exit_row calls thread code = record (answers calls (call.Exit code) code) { halt = Some (halt.Exited thread code) }

-- end(value): the thread has ended with it
abbrev pub end_row : Calls → ℕ → ℕ → Row
end_row calls thread value = record (answers calls call.EndThread value) { shared = record calls { ended = slice_set calls.ended thread (Some value) } }

-- spawn(entry, argument): one more thread, with the caller's gp; at most eight, and from a multiple of four
abbrev pub spawn_row : Calls → ℕ → ℕ → ℕ → Row
spawn_row calls gp entry argument =
    if not (nat_eq (entry % 4) 0) || nat_le 8 (made calls) then misused calls (call.Spawn entry None)
    else record (answers calls (call.Spawn entry (Some (made calls))) (made calls)) {
      shared = record calls { ended = calls.ended ++ None ∷ [] };
      child = fresh (spawned_local (made calls) entry gp argument) ∷ [];
    }

-- join(target): waits for the end of another thread, and answers its value
abbrev pub join_row : Calls → ℕ → ℕ → Row
join_row calls thread target =
    if nat_eq target thread || nat_le (made calls) target then misused calls (call.Join target false)
    else record (answers calls (call.Join target true) (unwrap_or (end_value calls target) 0)) { waits = is_none (end_value calls target) }

-- lock(mutex): waits while another thread holds it, and holds it then
abbrev pub lock_row : Calls → ℕ → ℕ → Row
lock_row calls thread mutex =
    if nat_le 32 mutex || is_thread thread (owner_of calls mutex) then misused calls (call.Lock mutex false)
    else record (answers calls (call.Lock mutex true) 0) { waits = is_other thread (owner_of calls mutex); shared = with_owner calls mutex (Some thread) }

-- unlock(mutex): it is free
abbrev pub unlock_row : Calls → ℕ → ℕ → Row
unlock_row calls thread mutex =
    if nat_le 32 mutex || not (is_thread thread (owner_of calls mutex)) then misused calls (call.Unlock mutex false)
    else record (answers calls (call.Unlock mutex true) 0) { shared = with_owner calls mutex None }

-- trylock(mutex): as lock, but misused where any thread holds it
abbrev pub try_lock_row : Calls → ℕ → ℕ → Row
try_lock_row calls thread mutex =
    if nat_le 32 mutex || is_some (owner_of calls mutex) then misused calls (call.TryLock mutex false)
    else record (answers calls (call.TryLock mutex true) 0) { shared = with_owner calls mutex (Some thread) }

-- write(address, count): at most 256 bytes that may be read go out
abbrev pub write_row : Calls → ℕ → Option (List ℕ) → Row
write_row calls count None = misused calls call.WriteBad
write_row calls count (Some bytes) = if not (nat_le count 256) then misused calls call.WriteBad else answers calls (call.Write bytes) (length bytes)

-- read(address, count): the tape's first bytes, at most 256, go where all of count may be written
abbrev pub read_row : Calls → ℕ → ℕ → Bool → Row
read_row calls address count writable =
    if not (nat_le count 256 && writable) then misused calls call.ReadBad
    else record (answers calls (call.Read count (take count calls.tape)) (length (take count calls.tape))) {
      shared = record calls { tape = drop (length (take count calls.tape)) calls.tape };
      writes = writes_of address (take count calls.tape) [];
    }

-- self(): the caller's number
abbrev pub self_row : Calls → ℕ → Row
self_row calls thread = answers calls call.SelfId thread

-- yield()
abbrev pub yield_row : Calls → Row
yield_row calls = answers calls call.Yield 0

-- any other number is misuse
abbrev pub unknown_row : Calls → ℕ → Row
unknown_row calls number = misused calls (call.Unknown number)

-- the row of the call that a thread makes: its number is in a7 (x17), its arguments in a0 (x10) and a1 (x11), gp is x3
abbrev pub row_of : Calls → ℕ → Local → Reach → Row
row_of calls thread local reach =
    if nat_eq (register local 17) 1 then exit_row calls thread (register local 10) else
    if nat_eq (register local 17) 2 then end_row calls thread (register local 10) else
    if nat_eq (register local 17) 3 then spawn_row calls (register local 3) (register local 10) (register local 11) else
    if nat_eq (register local 17) 4 then join_row calls thread (register local 10) else
    if nat_eq (register local 17) 5 then lock_row calls thread (register local 10) else
    if nat_eq (register local 17) 6 then unlock_row calls thread (register local 10) else
    if nat_eq (register local 17) 7 then try_lock_row calls thread (register local 10) else
    if nat_eq (register local 17) 8 then write_row calls (register local 11) reach.bytes else
    if nat_eq (register local 17) 9 then read_row calls (register local 10) (register local 11) reach.writable else
    if nat_eq (register local 17) 10 then self_row calls thread else
    if nat_eq (register local 17) 11 then yield_row calls else unknown_row calls (register local 17)

-- what a call leaves: its answer in a0, the caller at the next word, and what its row says
abbrev pub called : Core → ℕ → Row → Effect
called core thread row =
    let before : Thread = thread_at core thread in
    let after : Thread = record before { local = onward (with_register before.local 10 row.answer); retired = before.retired + 1 } in
    record {
      core = record {
        threads = slice_set (map (losing row.writes) core.threads) thread after ++ row.child;
        calls = row.shared;
        halt = row.halt;
      };
      writes = row.writes;
      note = note.Called row.made;
    }

-- the row of the call that a thread of a state is at
abbrev pub row_at : Layout → State → ℕ → Row
row_at image state thread = row_of state.core.calls thread (thread_at state.core thread).local (reach_at image (memory_of image state) state.core thread)

-- A thread at a call is enabled where it was made and has not ended, the machine has not halted, and its row doesn't
-- wait; its step then is what the row says.
pub record FollowsRow (image : Layout) (state : State) (thread : ℕ) : Type 0 where
  pub ready : is_enabled image state thread
      ≡ (nat_lt thread (length state.core.threads) && is_none (end_value state.core.calls thread) && is_none state.core.halt && not (row_at image state thread).waits)
  pub acts : is_enabled image state thread ≡ true → step image state thread ≡ after_effect state (called state.core thread (row_at image state thread))
