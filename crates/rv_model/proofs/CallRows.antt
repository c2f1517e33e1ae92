-- A guest call does what its row of the table says: first each call by itself, then the one that a thread makes.
use Rattle.std.specs.Prelude.{◌≡◌, ℕ, ◌+◌, ◌%◌, ◌<◌, ◌≤◌, Bool, true, false, not, ◌&&◌, ◌||◌, cond, List, ◌++◌, length, take, nat_eq, nat_lt, nat_le, Option, Some, None, option_map, unwrap_or, is_none, is_some, Result, Ok, Err, refl}
use Rattle.std.proofs.Common.{sym, ◌∙◌, ap, inl, inr}
use Rattle.std.proofs.lemmas.Bool.{cases_lt, lt-ltb, le-ltb, le-leb, lt-leb, ltb-false, and_parts, not-true, true≢false}
use Rattle.std.proofs.lemmas.List.{get_or_past}
use Rattle.elf_image.specs.Layout.{Layout}
use Rattle.rv32_decode.specs.declared.instr.Instr.{Instr}
use Rattle.rv32_decode.specs.declared.instr.Instr.TheVariants as instr
use Rattle.odr_log.specs.declared.log.Cause.{Cause}
use Rattle.odr_log.specs.declared.log.Call.{Call}
use Rattle.odr_log.specs.declared.log.Call.TheVariants as call
use Rattle.rv_model.specs.declared.state.Local.{Local}
use Rattle.rv_model.specs.declared.state.Calls.{Calls}
use Rattle.rv_model.specs.declared.state.State.{State}
use Rattle.rv_model.specs.declared.state.Stepped.{Stepped}
use Rattle.rv_model.specs.declared.state.Note.TheVariants as note
use Rattle.rv_model.specs.declared.hearing.Reach.{Reach}
use Rattle.rv_model.specs.declared.hearing.Kind.{Kind}
use Rattle.rv_model.specs.declared.hearing.Kind.TheVariants as kind
use Rattle.rv_model.specs.Thread.{register}
use Rattle.rv_model.specs.Calls.{number_of_call, first_argument, second_argument, fits_buffer, writing, kind_at, asked_of, made, end_value, owner_of, is_thread, is_other, is_mutex, waits, reply_to, join_value, record_of, answer_of, calls_after}
use Rattle.rv_model.specs.Instruction.{act, act_at, asked_by, asked_at, conditional_of, conditional_at, wins, reserving, reserving_at, call_writes}
use Rattle.rv_model.specs.Step.{thread_at, memory_of, next_instr, reach_at, applied, child_of, halt_then, after_effect, step, is_enabled}
use Rattle.rv_model.specs.CallTable.{Row, answers, misused, with_owner, exit_row, end_row, spawn_row, join_row, lock_row, unlock_row, try_lock_row, write_row, read_row, self_row, yield_row, unknown_row, row_of, called, row_at, FollowsRow}
use Rattle.rv_model.proofs.Progress.{raw_step, raw_enabled}

-- what a call does, as a row
abbrev acted : Calls → ℕ → Local → Call → ℕ → Row
acted calls thread local c joined = record {
  waits = false;
  made = c;
  answer = answer_of thread joined c (first_argument local);
  shared = calls_after calls thread (first_argument local) c;
  writes = call_writes (first_argument local) c;
  child = child_of local (note.Called c);
  halt = halt_then thread (note.Called c);
}

record Does (calls : Calls) (thread : ℕ) (local : Local) (k : Kind) (row : Row) : Type 0 where
  holds_up : waits calls thread (asked_of k) ≡ row.waits
  acts : row.waits ≡ false → acted calls thread local (record_of k (reply_to calls thread (asked_of k))) (join_value calls (asked_of k)) ≡ row

does-cond : (b : Bool) (calls : Calls) (thread : ℕ) (local : Local) (k other : Kind) (row later : Row) → Does calls thread local k row → Does calls thread local other later
    → Does calls thread local (cond b k other) (cond b row later)
does-cond true calls thread local k other row later does rest = does
does-cond false calls thread local k other row later does rest = rest

le_is : (m n : ℕ) → nat_le m n ≡ not (nat_lt n m)
le_is m n = elim (cases_lt n m) [
  | inl less ↦ lt-leb m n less ∙ sym (ap not (lt-ltb n m less))
  | inr more ↦ le-leb m n more ∙ sym (ap not (le-ltb n m more))
]

-- ---- the rows

does-exit : (calls : Calls) (thread : ℕ) (local : Local) → Does calls thread local (kind.Exit (first_argument local)) (exit_row calls thread (first_argument local))
does-exit calls thread local = record { holds_up = refl; acts = λ go. refl }

does-end : (calls : Calls) (thread : ℕ) (local : Local) → Does calls thread local kind.EndThread (end_row calls thread (first_argument local))
does-end calls thread local = record { holds_up = refl; acts = λ go. refl }

spawned : (aligned few : Bool) (calls : Calls) (thread : ℕ) (local : Local)
    → acted calls thread local (call.Spawn (first_argument local) (cond (aligned && few) (Some (made calls)) None)) 0
    ≡ cond (not aligned || not few) (misused calls (call.Spawn (first_argument local) None))
    (acted calls thread local (call.Spawn (first_argument local) (Some (made calls))) 0)
spawned true true calls thread local = refl
spawned true false calls thread local = refl
spawned false few calls thread local = refl

ready-cond : (b : Bool) (row other : Row) → row.waits ≡ false → other.waits ≡ false → (cond b row other).waits ≡ false
ready-cond true row other go later = go
ready-cond false row other go later = later

does-spawn : (calls : Calls) (thread : ℕ) (local : Local) → Does calls thread local (kind.Spawn (first_argument local)) (spawn_row calls (register local 3) (first_argument local) (second_argument local))
does-spawn calls thread local = record {
  holds_up = sym (ready-cond (not (nat_eq (first_argument local % 4) 0) || nat_le 8 (made calls)) (misused calls (call.Spawn (first_argument local) None)) _ refl refl);
  acts = λ go.
      spawned (nat_eq (first_argument local % 4) 0) (nat_lt (made calls) 8) calls thread local
      ∙ ap (λ (full : Bool). cond (not (nat_eq (first_argument local % 4) 0) || full) (misused calls (call.Spawn (first_argument local) None))
      (acted calls thread local (call.Spawn (first_argument local) (Some (made calls))) 0)) (sym (le_is 8 (made calls)));
}

-- the tests of a join: of itself, of a thread that was made, and the value with which that has ended
abbrev joins_row : Bool → Bool → Option ℕ → Calls → ℕ → Row
joins_row own there value calls target =
    cond (own || not there) (misused calls (call.Join target false)) (record (answers calls (call.Join target true) (unwrap_or value 0)) { waits = is_none value })

joined : (own there : Bool) (value : Option ℕ) (calls : Calls) (thread : ℕ) (local : Local) → (there ≡ false → value ≡ None) → (joins_row own there value calls (first_argument local)).waits ≡ false
    → acted calls thread local (call.Join (first_argument local) (not own && is_some value)) (unwrap_or value 0) ≡ joins_row own there value calls (first_argument local)
joined true there value calls thread local none go = refl
joined false false value calls thread local none go =
    ap (λ (v : Option ℕ). acted calls thread local (call.Join (first_argument local) (is_some v)) (unwrap_or v 0)) (none refl)
joined false true None calls thread local none go = absurd (true≢false go)
joined false true (Some value) calls thread local none go = refl

waits_joined : (own there : Bool) (value : Option ℕ) (calls : Calls) (target : ℕ) → (not own && (there && is_none value)) ≡ (joins_row own there value calls target).waits
waits_joined true there value calls target = refl
waits_joined false false value calls target = refl
waits_joined false true value calls target = refl

join_row-is : (calls : Calls) (thread target : ℕ) → join_row calls thread target ≡ joins_row (nat_eq target thread) (nat_lt target (made calls)) (end_value calls target) calls target
join_row-is calls thread target =
    ap (λ (past : Bool). cond (nat_eq target thread || past) (misused calls (call.Join target false))
    (record (answers calls (call.Join target true) (unwrap_or (end_value calls target) 0)) { waits = is_none (end_value calls target) })) (le_is (made calls) target)

does-by : (calls : Calls) (thread : ℕ) (local : Local) (k : Kind) (row same : Row) → row ≡ same → Does calls thread local k same → Does calls thread local k row
does-by calls thread local k row same e does = record {
  holds_up = does.holds_up ∙ sym (ap (λ (r : Row). r.waits) e);
  acts = λ (go : row.waits ≡ false). does.acts (sym (ap (λ (r : Row). r.waits) e) ∙ go) ∙ sym e;
}

does-join : (calls : Calls) (thread : ℕ) (local : Local) → Does calls thread local (kind.Join (first_argument local)) (join_row calls thread (first_argument local))
does-join calls thread local =
    let target : ℕ = first_argument local in
    let own : Bool = nat_eq target thread in
    let there : Bool = nat_lt target (made calls) in
    does-by calls thread local (kind.Join target) (join_row calls thread target) (joins_row own there (end_value calls target) calls target) (join_row-is calls thread target) (record {
      holds_up = waits_joined own there (end_value calls target) calls target;
      acts = joined own there (end_value calls target) calls thread local (λ (past : there ≡ false). get_or_past calls.ended target None (ltb-false target (made calls) past));
    })

-- the tests of a lock: a mutex, and its owner
abbrev locks_row : Bool → Option ℕ → Calls → ℕ → ℕ → Row
locks_row valid owner calls thread mutex =
    cond (not valid || is_thread thread owner) (misused calls (call.Lock mutex false))
    (record (answers calls (call.Lock mutex true) 0) { waits = is_other thread owner; shared = with_owner calls mutex (Some thread) })

locked : (valid : Bool) (owner : Option ℕ) (calls : Calls) (thread : ℕ) (local : Local) → (locks_row valid owner calls thread (first_argument local)).waits ≡ false
    → acted calls thread local (call.Lock (first_argument local) (valid && is_none owner)) 0 ≡ locks_row valid owner calls thread (first_argument local)
locked false owner calls thread local go = refl
locked true None calls thread local go = refl
locked true (Some owner) calls thread local go = own (nat_eq owner thread) go where
  own : (same : Bool) → (cond same (misused calls (call.Lock (first_argument local) false))
      (record (answers calls (call.Lock (first_argument local) true) 0) { waits = not same; shared = with_owner calls (first_argument local) (Some thread) })).waits ≡ false
      → misused calls (call.Lock (first_argument local) false)
      ≡ cond same (misused calls (call.Lock (first_argument local) false))
      (record (answers calls (call.Lock (first_argument local) true) 0) { waits = not same; shared = with_owner calls (first_argument local) (Some thread) })
  own true go = refl
  own false go = absurd (true≢false go)

waits_locked : (valid : Bool) (owner : Option ℕ) (calls : Calls) (thread mutex : ℕ) → (valid && is_other thread owner) ≡ (locks_row valid owner calls thread mutex).waits
waits_locked false owner calls thread mutex = refl
waits_locked true None calls thread mutex = refl
waits_locked true (Some owner) calls thread mutex = own (nat_eq owner thread) where
  own : (same : Bool)
      → not same
      ≡ (cond same (misused calls (call.Lock mutex false)) (record (answers calls (call.Lock mutex true) 0) { waits = not same; shared = with_owner calls mutex (Some thread) })).waits
  own true = refl
  own false = refl

does-lock : (calls : Calls) (thread : ℕ) (local : Local) → Does calls thread local (kind.Lock (first_argument local)) (lock_row calls thread (first_argument local))
does-lock calls thread local =
    let mutex : ℕ = first_argument local in
    let owner : Option ℕ = owner_of calls mutex in
    does-by calls thread local (kind.Lock mutex) (lock_row calls thread mutex) (locks_row (is_mutex mutex) owner calls thread mutex)
    (ap (λ (above : Bool). cond (above || is_thread thread owner) (misused calls (call.Lock mutex false))
    (record (answers calls (call.Lock mutex true) 0) { waits = is_other thread owner; shared = with_owner calls mutex (Some thread) })) (le_is 32 mutex))
    (record { holds_up = waits_locked (is_mutex mutex) owner calls thread mutex; acts = locked (is_mutex mutex) owner calls thread local })

unlocked : (valid own : Bool) (calls : Calls) (thread : ℕ) (local : Local)
    → acted calls thread local (call.Unlock (first_argument local) (valid && own)) 0
    ≡ cond (not valid || not own) (misused calls (call.Unlock (first_argument local) false))
    (record (answers calls (call.Unlock (first_argument local) true) 0) { shared = with_owner calls (first_argument local) None })
unlocked false own calls thread local = refl
unlocked true false calls thread local = refl
unlocked true true calls thread local = refl

does-unlock : (calls : Calls) (thread : ℕ) (local : Local) → Does calls thread local (kind.Unlock (first_argument local)) (unlock_row calls thread (first_argument local))
does-unlock calls thread local =
    let mutex : ℕ = first_argument local in
    let own : Bool = is_thread thread (owner_of calls mutex) in
    record {
      holds_up = sym (ready-cond (nat_le 32 mutex || not own) (misused calls (call.Unlock mutex false)) _ refl refl);
      acts = λ go.
          unlocked (is_mutex mutex) own calls thread local
          ∙ ap (λ (above : Bool). cond (above || not own) (misused calls (call.Unlock mutex false)) (record (answers calls (call.Unlock mutex true) 0) { shared = with_owner calls mutex None })) (sym (le_is 32 mutex));
    }

taken : (valid : Bool) (owner : Option ℕ) (calls : Calls) (thread : ℕ) (local : Local)
    → acted calls thread local (call.TryLock (first_argument local) (valid && is_none owner)) 0
    ≡ cond (not valid || is_some owner) (misused calls (call.TryLock (first_argument local) false))
    (record (answers calls (call.TryLock (first_argument local) true) 0) { shared = with_owner calls (first_argument local) (Some thread) })
taken false owner calls thread local = refl
taken true None calls thread local = refl
taken true (Some owner) calls thread local = refl

does-try_lock : (calls : Calls) (thread : ℕ) (local : Local) → Does calls thread local (kind.TryLock (first_argument local)) (try_lock_row calls thread (first_argument local))
does-try_lock calls thread local =
    let mutex : ℕ = first_argument local in
    let owner : Option ℕ = owner_of calls mutex in
    record {
      holds_up = sym (ready-cond (nat_le 32 mutex || is_some owner) (misused calls (call.TryLock mutex false)) _ refl refl);
      acts = λ go.
          taken (is_mutex mutex) owner calls thread local
          ∙ ap (λ (above : Bool). cond (above || is_some owner) (misused calls (call.TryLock mutex false)) (record (answers calls (call.TryLock mutex true) 0) { shared = with_owner calls mutex (Some thread) }))
          (sym (le_is 32 mutex));
    }

does-write : (fits : Bool) (bytes : Option (List ℕ)) (calls : Calls) (thread : ℕ) (local : Local) (row : Row)
    → row ≡ unwrap_or (option_map (λ (text : List ℕ). cond (not fits) (misused calls call.WriteBad) (answers calls (call.Write text) (length text))) bytes) (misused calls call.WriteBad)
    → Does calls thread local (cond fits (writing bytes) kind.WriteBad) row
does-write true None calls thread local row e = does-by calls thread local kind.WriteBad row (misused calls call.WriteBad) e (record { holds_up = refl; acts = λ go. refl })
does-write true (Some bytes) calls thread local row e =
    does-by calls thread local (kind.Write bytes) row (answers calls (call.Write bytes) (length bytes)) e (record { holds_up = refl; acts = λ go. refl })
does-write false None calls thread local row e = does-by calls thread local kind.WriteBad row (misused calls call.WriteBad) e (record { holds_up = refl; acts = λ go. refl })
does-write false (Some bytes) calls thread local row e = does-by calls thread local kind.WriteBad row (misused calls call.WriteBad) e (record { holds_up = refl; acts = λ go. refl })

write_row-is : (calls : Calls) (count : ℕ) (bytes : Option (List ℕ))
    → write_row calls count bytes
    ≡ unwrap_or (option_map (λ (text : List ℕ). cond (not (fits_buffer count)) (misused calls call.WriteBad) (answers calls (call.Write text) (length text))) bytes) (misused calls call.WriteBad)
write_row-is calls count None = refl
write_row-is calls count (Some bytes) = refl

does-read : (valid : Bool) (calls : Calls) (thread : ℕ) (local : Local)
    → Does calls thread local (cond valid (kind.Read (second_argument local)) kind.ReadBad)
    (cond (not valid) (misused calls call.ReadBad) (acted calls thread local (call.Read (second_argument local) (take (second_argument local) calls.tape)) 0))
does-read true calls thread local = record { holds_up = refl; acts = λ go. refl }
does-read false calls thread local = record { holds_up = refl; acts = λ go. refl }

-- ---- the call that a thread makes

does-row : (calls : Calls) (thread : ℕ) (local : Local) (reach : Reach) → Does calls thread local (kind_at local reach) (row_of calls thread local reach)
does-row calls thread local reach =
    let number : ℕ = number_of_call local in
    let a0 : ℕ = first_argument local in
    let a1 : ℕ = second_argument local in
    does-cond (nat_eq number 1) calls thread local (kind.Exit a0) _ (exit_row calls thread a0) _ (does-exit calls thread local)
    (does-cond (nat_eq number 2) calls thread local kind.EndThread _ (end_row calls thread a0) _ (does-end calls thread local)
    (does-cond (nat_eq number 3) calls thread local (kind.Spawn a0) _ (spawn_row calls (register local 3) a0 a1) _ (does-spawn calls thread local)
    (does-cond (nat_eq number 4) calls thread local (kind.Join a0) _ (join_row calls thread a0) _ (does-join calls thread local)
    (does-cond (nat_eq number 5) calls thread local (kind.Lock a0) _ (lock_row calls thread a0) _ (does-lock calls thread local)
    (does-cond (nat_eq number 6) calls thread local (kind.Unlock a0) _ (unlock_row calls thread a0) _ (does-unlock calls thread local)
    (does-cond (nat_eq number 7) calls thread local (kind.TryLock a0) _ (try_lock_row calls thread a0) _ (does-try_lock calls thread local)
    (does-cond (nat_eq number 8) calls thread local (cond (fits_buffer a1) (writing reach.bytes) kind.WriteBad) _ (write_row calls a1 reach.bytes) _
    (does-write (fits_buffer a1) reach.bytes calls thread local (write_row calls a1 reach.bytes) (write_row-is calls a1 reach.bytes))
    (does-cond (nat_eq number 9) calls thread local (cond (fits_buffer a1 && reach.writable) (kind.Read a1) kind.ReadBad) _ (read_row calls a0 a1 reach.writable) _
    (does-read (fits_buffer a1 && reach.writable) calls thread local)
    (does-cond (nat_eq number 10) calls thread local kind.SelfId _ (self_row calls thread) _ (record { holds_up = refl; acts = λ go. refl })
    (does-cond (nat_eq number 11) calls thread local kind.Yield (kind.Unknown number) (yield_row calls) (unknown_row calls number)
    (record { holds_up = refl; acts = λ go. refl }) (record { holds_up = refl; acts = λ go. refl })))))))))))

-- ---- a step

abbrev stepped : State → ℕ → Result Instr Cause → Reach → Stepped
stepped state t fetched reach =
    let local : Local = (thread_at state.core t).local in
    let reservation : Option ℕ = (thread_at state.core t).reservation in
    after_effect state (applied state.core t (reserving_at local fetched reservation) (act_at local fetched (record {
      thread = t;
      reach = reach;
      won = wins (conditional_at local fetched) reservation;
      reply = reply_to state.core.calls t (asked_at local fetched reach);
      joined = join_value state.core.calls (asked_at local fetched reach);
    })))

stepped-call : (state : State) (t : ℕ) (reach : Reach)
    → stepped state t (Ok instr.Ecall) reach
    ≡ after_effect state (called state.core t (acted state.core.calls t (thread_at state.core t).local
    (record_of (kind_at (thread_at state.core t).local reach) (reply_to state.core.calls t (asked_of (kind_at (thread_at state.core t).local reach))))
    (join_value state.core.calls (asked_of (kind_at (thread_at state.core t).local reach)))))
unfolding act asked_by conditional_of reserving
stepped-call state t reach = refl

asks-call : (local : Local) (reach : Reach) → asked_at local (Ok instr.Ecall) reach ≡ asked_of (kind_at local reach)
unfolding asked_by
asks-call local reach = refl

pub follows_row : (image : Layout) (state : State) (t : ℕ) → next_instr image state.core t ≡ Ok instr.Ecall → FollowsRow image state t
follows_row image state t call_is =
    let local : Local = (thread_at state.core t).local in
    let reach : Reach = reach_at image (memory_of image state) state.core t in
    let does : Does state.core.calls t local (kind_at local reach) (row_at image state t) = does-row state.core.calls t local reach in
    let holds_up : waits state.core.calls t (asked_at local (next_instr image state.core t) reach) ≡ (row_at image state t).waits =
    ap (λ (f : Result Instr Cause). waits state.core.calls t (asked_at local f reach)) call_is ∙ ap (waits state.core.calls t) (asks-call local reach) ∙ does.holds_up in
    record {
      ready =
          raw_enabled image state t
          ∙ ap (λ (b : Bool). nat_lt t (length state.core.threads) && is_none (end_value state.core.calls t) && is_none state.core.halt && not b) holds_up;
      acts = λ (able : is_enabled image state t ≡ true).
          let free : waits state.core.calls t (asked_at local (next_instr image state.core t) reach) ≡ false =
          not-true _ (and_parts _ _ (sym (raw_enabled image state t) ∙ able)).1 in
          raw_step image state t
          ∙ ap (λ (f : Result Instr Cause). stepped state t f reach) call_is
          ∙ stepped-call state t reach
          ∙ ap (λ (row : Row). after_effect state (called state.core t row)) (does.acts (sym holds_up ∙ free));
    }
