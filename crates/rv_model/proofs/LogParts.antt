-- The parts of the log of a run: paths, records and threads of events that were put together.
use Rattle.std.specs.Prelude.{◌≡◌, ℕ, zero, suc, ◌+◌, ◌<◌, Bool, true, false, cond, List, [], ◌∷◌, ◌++◌, length, nat_eq, slice_get, Option, Some, None, refl}
use Rattle.std.proofs.Common.{◌∙◌, ap, arith, get_or}
use Rattle.odr_log.specs.declared.log.ThreadLog.{ThreadLog}
use Rattle.odr_log.specs.declared.log.PathItem.{PathItem}
use Rattle.rv_model.specs.declared.state.Thread.{Thread}
use Rattle.rv_model.specs.declared.state.State.{State}
use Rattle.rv_model.specs.declared.state.Event.{Event}
use Rattle.rv_model.specs.Thread.{no_thread}
use Rattle.rv_model.specs.Step.{thread_at}
use Rattle.rv_model.specs.Run.{item_of, cons_some, path_of, record_in, records_of, thread_logs, log_of, logged}

pub cons_some-append : {A : Type 0} (o : Option A) (xs ys : List A) → cons_some o (xs ++ ys) ≡ cons_some o xs ++ ys
cons_some-append None xs ys = refl
cons_some-append (Some x) xs ys = refl

path_by-append : (b : Bool) (o : Option PathItem) (xs ys : List PathItem) → cond b (cons_some o (xs ++ ys)) (xs ++ ys) ≡ cond b (cons_some o xs) xs ++ ys
path_by-append true o xs ys = cons_some-append o xs ys
path_by-append false o xs ys = refl

pub path_of-append : (t : ℕ) (xs ys : List Event) → path_of t (xs ++ ys) ≡ path_of t xs ++ path_of t ys
path_of-append t [] ys = refl
path_of-append t (x ∷ xs) ys =
    ap (λ (p : List PathItem). cond (nat_eq x.thread t) (cons_some (item_of x.note) p) p) (path_of-append t xs ys)
    ∙ path_by-append (nat_eq x.thread t) (item_of x.note) (path_of t xs) (path_of t ys)

pub records_of-append : (xs ys : List Event) → records_of (xs ++ ys) ≡ records_of xs ++ records_of ys
records_of-append [] ys = refl
records_of-append (x ∷ xs) ys = ap (cons_some (record_in x)) (records_of-append xs ys) ∙ cons_some-append (record_in x) (records_of xs) (records_of ys)

pub slice_get-middle : {A : Type 0} (xs : List A) (y : A) (ys : List A) → slice_get (xs ++ y ∷ ys) (length xs) ≡ Some y
slice_get-middle [] y ys = refl
slice_get-middle (x ∷ xs) y ys = slice_get-middle xs y ys

pub length-thread_logs : (n : ℕ) (threads : List Thread) (happened : List Event) → length (thread_logs n threads happened) ≡ length threads
length-thread_logs n [] happened = refl
length-thread_logs n (x ∷ xs) happened = ap suc (length-thread_logs (n + 1) xs happened)

pub thread_logs-at : (n i j : ℕ) (threads : List Thread) (happened : List Event) (d : ThreadLog) → i < length threads → n + i ≡ j
    → get_or (thread_logs n threads happened) i d ≡ record { steps = (get_or threads i no_thread).retired; path = path_of j happened }
thread_logs-at n i j [] happened d within e = absurd (omega arith)
thread_logs-at n zero j (x ∷ xs) happened d within e =
    let same : n ≡ j = omega arith in ap (λ (k : ℕ). let made : ThreadLog = record { steps = x.retired; path = path_of k happened } in made) same
thread_logs-at n (suc i) j (x ∷ xs) happened d within e = thread_logs-at (n + 1) i j xs happened d (omega arith) (omega arith)

pub logged-at : (state : State) (happened : List Event) (t : ℕ) → t < length state.core.threads
    → logged (log_of state happened) t ≡ record { steps = (thread_at state.core t).retired; path = path_of t happened }
unfolding log_of
logged-at state happened t within = thread_logs-at 0 t t state.core.threads happened _ within (omega arith)
