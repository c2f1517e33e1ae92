-- What a step of the model adds to the logs of the threads.
use Rattle.std.specs.Prelude.{◌≡◌, ◌≢◌, ℕ, zero, suc, ◌+◌, ◌<◌, ◌≤◌, ◌^◌, ◌⊎◌, Bool, true, false, cond, List, [], ◌∷◌, ◌++◌, length, map, nat_eq, nat_lt, option_to_list, IfSome, Option, Some, None, refl}
use Rattle.std.proofs.Common.{sym, ◌∙◌, ap, arith, get_or, set, eq-eqb, inl, inr}
use Rattle.std.proofs.lemmas.Bool.{eqb-true, lt-ltb, false_from_ne_true, ltb-true}
use Rattle.std.proofs.lemmas.List.{append-nil, set-get_or, length-set, length-map, length-append}
use Rattle.elf_image.specs.declared.write.Write.{Write}
use Rattle.odr_log.specs.declared.log.ThreadLog.{ThreadLog}
use Rattle.odr_log.specs.declared.log.PathItem.{PathItem}
use Rattle.odr_log.specs.declared.log.Call.TheVariants as call
use Rattle.odr_log.specs.Grammar.{IsCall}
use Rattle.rv_model.specs.declared.state.Local.{Local}
use Rattle.rv_model.specs.declared.state.Thread.{Thread}
use Rattle.rv_model.specs.declared.state.Core.{Core}
use Rattle.rv_model.specs.declared.state.Halt.{Halt}
use Rattle.rv_model.specs.declared.state.Halt.TheVariants as halt
use Rattle.rv_model.specs.declared.state.Note.{Note}
use Rattle.rv_model.specs.declared.state.Note.TheVariants as note
use Rattle.rv_model.specs.declared.state.Event.{Event}
use Rattle.rv_model.specs.declared.hearing.Outcome.{Outcome}
use Rattle.rv_model.specs.declared.hearing.Outcome.TheVariants.{Faults, Goes}
use Rattle.rv_model.specs.Thread.{losing, no_thread}
use Rattle.rv_model.specs.declared.state.State.{State}
use Rattle.elf_image.specs.Layout.{Layout}
use Rattle.rv_model.specs.Step.{thread_at, applied, child_of, halt_then, effect, step}
use Rattle.rv_model.specs.Run.{nothing_logged, item_of, cons_some, path_of, record_in, thread_logs}
use Rattle.rv_model.proofs.LogParts.{path_of-append, length-thread_logs, thread_logs-at}
use Rattle.rv_model.proofs.Progress.{gone_retires}
use Rattle.recorder.specs.Added.{gone_on, with_step, with_threads, logs_after}

-- no thread that was not made did anything
pub record Unborn (count : ℕ) (happened : List Event) : Type 0 where
  pub nothing : (u : ℕ) → count ≤ u → path_of u happened ≡ []

-- the thread that halted the machine is there
abbrev pub HaltWithin : ℕ → Option Halt → Type 0
HaltWithin n None = Unit {0}
HaltWithin n (Some (halt.Exited thread code)) = (thread < n) × (code < 2 ^ 32)
HaltWithin n (Some (halt.Faulted thread fault)) = thread < n

-- one event more in a path

pub as_list : {A : Type 0} (o : Option A) → cons_some o [] ≡ option_to_list o
as_list None = refl
as_list (Some x) = refl

path_own : (u : ℕ) (happened : List Event) (e : Event) → e.thread ≡ u → path_of u (happened ++ e ∷ []) ≡ path_of u happened ++ option_to_list (item_of e.note)
path_own u happened e own =
    path_of-append u happened (e ∷ [])
    ∙ ap (λ (more : List PathItem). path_of u happened ++ more)
    (ap (λ (b : Bool). cond b (cons_some (item_of e.note) []) []) (eq-eqb e.thread u own) ∙ as_list (item_of e.note))

path_silent_by : (b : Bool) → cond b (cons_some {A = PathItem} None []) [] ≡ []
path_silent_by true = refl
path_silent_by false = refl

path_silent : (u : ℕ) (happened : List Event) (e : Event) → item_of e.note ≡ None → path_of u (happened ++ e ∷ []) ≡ path_of u happened
path_silent u happened e silent =
    path_of-append u happened (e ∷ [])
    ∙ (ap (λ (more : List PathItem). path_of u happened ++ more)
    (ap (λ (o : Option PathItem). cond (nat_eq e.thread u) (cons_some o []) []) silent ∙ path_silent_by (nat_eq e.thread u))
    ∙ append-nil (path_of u happened))

path_other : (u : ℕ) (happened : List Event) (e : Event) → e.thread ≢ u → path_of u (happened ++ e ∷ []) ≡ path_of u happened
path_other u happened e other =
    path_of-append u happened (e ∷ [])
    ∙ (ap (λ (more : List PathItem). path_of u happened ++ more)
    (ap (λ (b : Bool). cond b (cons_some (item_of e.note) []) []) (false_from_ne_true (nat_eq e.thread u) (λ same. other (eqb-true e.thread u same))))
    ∙ append-nil (path_of u happened))

unborn-more : (count more : ℕ) (happened : List Event) (e : Event) → e.thread < count → count ≤ more → Unborn count happened → Unborn more (happened ++ e ∷ [])
unborn-more count more happened e within grows before = record {
  nothing = λ (u : ℕ) (past : more ≤ u).
      path_other u happened e (λ (same : e.thread ≡ u). absurd (omega arith)) ∙ before.nothing u (omega arith);
}

-- the logs of all threads

abbrev log_at : ℕ → ℕ → List Event → ThreadLog
log_at retired number happened = record { steps = retired; path = path_of number happened }

pub logs-length : (threads : List Thread) (happened : List Event) → length (thread_logs 0 threads happened) ≡ length threads
logs-length threads happened = length-thread_logs 0 threads happened

pub logs-at : (threads : List Thread) (happened : List Event) (t : ℕ) (d : ThreadLog) → t < length threads
    → get_or (thread_logs 0 threads happened) t d ≡ log_at (get_or threads t no_thread).retired t happened
logs-at threads happened t d within = thread_logs-at 0 t t threads happened d within (omega arith)

-- the logs of threads that are just made
abbrev born : List Thread → List ThreadLog
born = map (λ child. let made : ThreadLog = record { steps = child.retired; path = [] } in made)

logs-born : (n : ℕ) (children : List Thread) (happened : List Event) → Unborn n happened → thread_logs n children happened ≡ born children
logs-born n [] happened unborn = refl
logs-born n (x ∷ xs) happened unborn =
    ap (λ (path : List PathItem). (let made : ThreadLog = record { steps = x.retired; path = path } in made) ∷ thread_logs (n + 1) xs happened) (unborn.nothing n (omega arith))
    ∙ ap (λ (logs : List ThreadLog). (let made : ThreadLog = record { steps = x.retired; path = [] } in made) ∷ logs)
    (logs-born (n + 1) xs happened (record { nothing = λ (u : ℕ) (past : n + 1 ≤ u). unborn.nothing u (omega arith) }))

logs-beyond : (n : ℕ) (threads children : List Thread) (writes : List Write) (happened : List Event) (e : Event) → e.thread < n → Unborn (n + length threads) (happened ++ e ∷ [])
    → thread_logs n (map (losing writes) threads ++ children) (happened ++ e ∷ []) ≡ thread_logs n threads happened ++ born children
logs-beyond n [] children writes happened e past unborn =
    logs-born n children (happened ++ e ∷ []) (record { nothing = λ (u : ℕ) (over : n ≤ u). unborn.nothing u (omega arith) })
logs-beyond n (x ∷ xs) children writes happened e past unborn =
    ap (λ (path : List PathItem). (let made : ThreadLog = record { steps = x.retired; path = path } in made) ∷ thread_logs (n + 1) (map (losing writes) xs ++ children) (happened ++ e ∷ []))
    (path_other n happened e (λ (same : e.thread ≡ n). absurd (omega arith)))
    ∙ ap (λ (logs : List ThreadLog). log_at x.retired n happened ∷ logs)
    (logs-beyond (n + 1) xs children writes happened e (omega arith) (record { nothing = λ (u : ℕ) (over : n + 1 + length xs ≤ u). unborn.nothing u (omega arith) }))

logs-gone : (n i : ℕ) (threads children : List Thread) (writes : List Write) (after : Thread) (happened : List Event) (e : Event)
    → n + i ≡ e.thread → i < length threads → Unborn (n + length threads) (happened ++ e ∷ [])
    → thread_logs n (set (map (losing writes) threads) i after ++ children) (happened ++ e ∷ [])
    ≡ set (thread_logs n threads happened) i (record { steps = after.retired; path = path_of e.thread happened ++ option_to_list (item_of e.note) }) ++ born children
logs-gone n i [] children writes after happened e at within unborn = absurd (omega arith)
logs-gone n zero (x ∷ xs) children writes after happened e at within unborn =
    let same : e.thread ≡ n = omega arith in
    ap (λ (path : List PathItem). (let made : ThreadLog = record { steps = after.retired; path = path } in made) ∷ thread_logs (n + 1) (map (losing writes) xs ++ children) (happened ++ e ∷ []))
    (path_own n happened e same ∙ ap (λ (k : ℕ). path_of k happened ++ option_to_list (item_of e.note)) (sym same))
    ∙ ap (λ (logs : List ThreadLog). (let made : ThreadLog = record { steps = after.retired; path = path_of e.thread happened ++ option_to_list (item_of e.note) } in made) ∷ logs)
    (logs-beyond (n + 1) xs children writes happened e (omega arith) (record { nothing = λ (u : ℕ) (over : n + 1 + length xs ≤ u). unborn.nothing u (omega arith) }))
logs-gone n (suc i) (x ∷ xs) children writes after happened e at within unborn =
    ap (λ (path : List PathItem). (let made : ThreadLog = record { steps = x.retired; path = path } in made) ∷ thread_logs (n + 1) (set (map (losing writes) xs) i after ++ children) (happened ++ e ∷ []))
    (path_other n happened e (λ (same : e.thread ≡ n). absurd (omega arith)))
    ∙ ap (λ (logs : List ThreadLog). log_at x.retired n happened ∷ logs)
    (logs-gone (n + 1) i xs children writes after happened e (omega arith) (omega arith) (record { nothing = λ (u : ℕ) (over : n + 1 + length xs ≤ u). unborn.nothing u (omega arith) }))

logs-silent : (n : ℕ) (threads : List Thread) (happened : List Event) (e : Event) → item_of e.note ≡ None
    → thread_logs n threads (happened ++ e ∷ []) ≡ thread_logs n threads happened
logs-silent n [] happened e silent = refl
logs-silent n (x ∷ xs) happened e silent =
    ap (λ (path : List PathItem). (let made : ThreadLog = record { steps = x.retired; path = path } in made) ∷ thread_logs (n + 1) xs (happened ++ e ∷ [])) (path_silent n happened e silent)
    ∙ ap (λ (logs : List ThreadLog). log_at x.retired n happened ∷ logs) (logs-silent (n + 1) xs happened e silent)

-- at most one thread is made, and it has retired nothing
abbrev OneAtMost : List Thread → Type 0
OneAtMost children = (children ≡ []) ⊎ ((child : Thread) × (children ≡ child ∷ []) × (child.retired ≡ 0))

one_child : (local : Local) (shown : Note) → OneAtMost (child_of local shown)
one_child local (note.Called (call.Spawn entry (Some child))) = inr (_, refl, refl)
one_child local (note.Called (call.Spawn entry None)) = inl refl
one_child local (note.Called (call.Exit code)) = inl refl
one_child local (note.Called call.EndThread) = inl refl
one_child local (note.Called (call.Join target ok)) = inl refl
one_child local (note.Called (call.Lock mutex ok)) = inl refl
one_child local (note.Called (call.Unlock mutex ok)) = inl refl
one_child local (note.Called (call.TryLock mutex got)) = inl refl
one_child local (note.Called (call.Write bytes)) = inl refl
one_child local (note.Called call.WriteBad) = inl refl
one_child local (note.Called (call.Read want bytes)) = inl refl
one_child local (note.Called call.ReadBad) = inl refl
one_child local (note.Called call.SelfId) = inl refl
one_child local (note.Called call.Yield) = inl refl
one_child local (note.Called (call.Unknown number)) = inl refl
one_child local note.Nothing = inl refl
one_child local (note.Branch taken) = inl refl
one_child local (note.Jump target) = inl refl
one_child local (note.Faulted fault) = inl refl

abbrev grown : Bool → List ThreadLog → List ThreadLog
grown more logs = cond more (logs ++ nothing_logged ∷ []) logs

grown-born : (logs : List ThreadLog) (children : List Thread) (count : ℕ) → OneAtMost children → count ≡ length logs + length children
    → logs ++ born children ≡ with_threads count logs
grown-born logs children count (inl none) counted =
    ap (λ (made : List Thread). logs ++ born made) none ∙ (append-nil logs
    ∙ sym (ap (λ (more : Bool). grown more logs)
    (false_from_ne_true (nat_lt (length logs) count) (λ less. let l : length logs < count = ltb-true (length logs) count less in let k : length children ≡ 0 = ap length none in absurd (omega arith)))))
grown-born logs children count (inr (child, one, fresh)) counted =
    ap (λ (made : List Thread). logs ++ born made) one
    ∙ (ap (λ (retired : ℕ). logs ++ (let made : ThreadLog = record { steps = retired; path = [] } in made) ∷ []) fresh
    ∙ sym (ap (λ (more : Bool). grown more logs)
    (let k : length children ≡ 1 = ap length one in lt-ltb (length logs) count (omega arith))))

halt_then_within : (t n at : ℕ) (shown : Note) → t < n → IfSome (record_in (record { thread = t; at = at; note = shown })) (λ made. IsCall made.call) → HaltWithin n (halt_then t shown)
halt_then_within t n at (note.Called (call.Exit code)) within spelled = (within, spelled)
halt_then_within t n at (note.Called call.EndThread) within spelled = tt
halt_then_within t n at (note.Called (call.Spawn entry child)) within spelled = tt
halt_then_within t n at (note.Called (call.Join target ok)) within spelled = tt
halt_then_within t n at (note.Called (call.Lock mutex ok)) within spelled = tt
halt_then_within t n at (note.Called (call.Unlock mutex ok)) within spelled = tt
halt_then_within t n at (note.Called (call.TryLock mutex got)) within spelled = tt
halt_then_within t n at (note.Called (call.Write bytes)) within spelled = tt
halt_then_within t n at (note.Called call.WriteBad) within spelled = tt
halt_then_within t n at (note.Called (call.Read want bytes)) within spelled = tt
halt_then_within t n at (note.Called call.ReadBad) within spelled = tt
halt_then_within t n at (note.Called call.SelfId) within spelled = tt
halt_then_within t n at (note.Called call.Yield) within spelled = tt
halt_then_within t n at (note.Called (call.Unknown number)) within spelled = tt
halt_then_within t n at note.Nothing within spelled = tt
halt_then_within t n at (note.Branch taken) within spelled = tt
halt_then_within t n at (note.Jump target) within spelled = tt
halt_then_within t n at (note.Faulted fault) within spelled = tt

-- one step

abbrev event_at : ℕ → ℕ → Note → Event
event_at t at shown = record { thread = t; at = at; note = shown }

pub record Adds (before after : Core) (happened : List Event) (t at : ℕ) (shown : Note) : Type 0 where
  pub count : length before.threads ≤ length after.threads
  pub retired : (thread_at after t).retired ≤ (thread_at before t).retired + 1
  pub logs : thread_logs 0 after.threads (happened ++ event_at t at shown ∷ [])
      ≡ logs_after (thread_logs 0 before.threads happened) t (thread_at after t).retired (length after.threads) shown
  pub unborn : Unborn (length after.threads) (happened ++ event_at t at shown ∷ [])
  pub halts : IfSome (record_in (event_at t at shown)) (λ made. IsCall made.call) → HaltWithin (length after.threads) after.halt

-- a fault adds nothing to the logs
fault_logs : (threads : List Thread) (happened : List Event) (t at : ℕ) (shown : Note) → item_of shown ≡ None → t < length threads
    → thread_logs 0 threads (happened ++ event_at t at shown ∷ [])
    ≡ logs_after (thread_logs 0 threads happened) t (get_or threads t no_thread).retired (length threads) shown
fault_logs threads happened t at shown silent within =
    let logs : List ThreadLog = thread_logs 0 threads happened in
    let retired : ℕ = (get_or threads t no_thread).retired in
    let l : length logs ≡ length threads = logs-length threads happened in
    let own : get_or logs t nothing_logged ≡ log_at retired t happened = logs-at threads happened t nothing_logged within in
    let stays : gone_on (get_or logs t nothing_logged) retired shown ≡ get_or logs t nothing_logged =
    ap (λ (x : ThreadLog). gone_on x retired shown) own
    ∙ (ap (λ (o : Option PathItem). (let made : ThreadLog = record { steps = retired; path = path_of t happened ++ option_to_list o } in made)) silent
    ∙ (ap (λ (path : List PathItem). (let made : ThreadLog = record { steps = retired; path = path } in made)) (append-nil (path_of t happened)) ∙ sym own)) in
    let same : with_step logs t retired shown ≡ logs = ap (set logs t) stays ∙ set-get_or logs t nothing_logged in
    logs-silent 0 threads happened (event_at t at shown) silent
    ∙ sym (ap (with_threads (length threads)) same
    ∙ ap (λ (more : Bool). grown more logs)
    (false_from_ne_true (nat_lt (length logs) (length threads)) (λ less. let k : length logs < length threads = ltb-true (length logs) (length threads) less in absurd (omega arith))))

-- what goes on adds its item, its count and its child
gone_logs : (threads children : List Thread) (writes : List Write) (after : Thread) (happened : List Event) (t at count : ℕ) (shown : Note)
    → t < length threads → OneAtMost children → Unborn (length threads) (happened ++ event_at t at shown ∷ []) → count ≡ length threads + length children
    → thread_logs 0 (set (map (losing writes) threads) t after ++ children) (happened ++ event_at t at shown ∷ [])
    ≡ logs_after (thread_logs 0 threads happened) t after.retired count shown
gone_logs threads children writes after happened t at count shown within one unborn counted =
    let logs : List ThreadLog = thread_logs 0 threads happened in
    let own : get_or logs t nothing_logged ≡ log_at (get_or threads t no_thread).retired t happened = logs-at threads happened t nothing_logged within in
    let l : length (with_step logs t after.retired shown) ≡ length threads =
    length-set logs t (gone_on (get_or logs t nothing_logged) after.retired shown) ∙ logs-length threads happened in
    logs-gone 0 t threads children writes after happened (event_at t at shown) (omega arith) within (record { nothing = λ (u : ℕ) (over : 0 + length threads ≤ u). unborn.nothing u (omega arith) })
    ∙ (ap (λ (log : ThreadLog). set logs t (gone_on log after.retired shown) ++ born children) (sym own)
    ∙ grown-born (with_step logs t after.retired shown) children count one (omega (arith, l)))

length-gone : (threads children : List Thread) (writes : List Write) (after : Thread) (t : ℕ) → length (set (map (losing writes) threads) t after ++ children) ≡ length threads + length children
length-gone threads children writes after t =
    length-append (set (map (losing writes) threads) t after) children
    ∙ ap (λ (n : ℕ). n + length children) (length-set (map (losing writes) threads) t after ∙ length-map threads (losing writes))

pub outcome_adds : (core : Core) (t at : ℕ) (reservation : Option ℕ) (o : Outcome) (happened : List Event) → t < length core.threads → Unborn (length core.threads) happened
    → Adds core (applied core t reservation o).core happened t at (applied core t reservation o).note
outcome_adds core t at reservation (Faults fault) happened within unborn = record {
  count = omega arith;
  retired = omega arith;
  logs = fault_logs core.threads happened t at (note.Faulted fault) refl within;
  unborn = unborn-more (length core.threads) (length core.threads) happened (event_at t at (note.Faulted fault)) within (omega arith) unborn;
  halts = λ spelled. within;
}
outcome_adds core t at reservation (Goes local writes shown) happened within unborn =
    let children : List Thread = child_of (thread_at core t).local shown in
    let after : Thread = record { local = local; reservation = reservation; retired = (thread_at core t).retired + 1 } in
    let counted : length (set (map (losing writes) core.threads) t after ++ children) ≡ length core.threads + length children = length-gone core.threads children writes after t in
    let own : (thread_at (applied core t reservation (Goes local writes shown)).core t).retired ≡ (thread_at core t).retired + 1 = gone_retires core t reservation local writes shown within in
    record {
      count = omega (arith, counted);
      retired = omega (arith, own);
      logs =
          gone_logs core.threads children writes after happened t at (length (set (map (losing writes) core.threads) t after ++ children)) shown within
          (one_child (thread_at core t).local shown) (unborn-more (length core.threads) (length core.threads) happened (event_at t at shown) within (omega arith) unborn) counted
          ∙ ap (λ (n : ℕ). logs_after (thread_logs 0 core.threads happened) t n (length (set (map (losing writes) core.threads) t after ++ children)) shown) (sym own);
      unborn = unborn-more (length core.threads) (length (set (map (losing writes) core.threads) t after ++ children)) happened (event_at t at shown) within (omega (arith, counted)) unborn;
      halts = λ spelled. halt_then_within t (length (set (map (losing writes) core.threads) t after ++ children)) at shown (omega (arith, counted)) spelled;
    }

pub step_adds : (image : Layout) (state : State) (t at : ℕ) (happened : List Event) → t < length state.core.threads → Unborn (length state.core.threads) happened
    → Adds state.core (step image state t).state.core happened t at (step image state t).note
unfolding step effect
step_adds image state t at happened within unborn = outcome_adds state.core t at _ _ happened within unborn
