-- What each thread does from a state of a run on: its places and notes lead from where it is to where it is in the end, and
-- they are all that the run's events have of it.
use Rattle.std.specs.Prelude.{◌≡◌, ℕ, zero, suc, ◌+◌, Bool, true, false, cond, List, [], ◌∷◌, ◌++◌, Option, Some, None, is_some, refl}
use Rattle.std.specs.List.{find}
use Rattle.std.proofs.Common.{sym, ◌∙◌, ap, subst, get_or, set, eq-eqb}
use Rattle.std.proofs.lemmas.Bool.{ne_eqb}
use Rattle.odr_log.specs.declared.log.Call.TheVariants as call
use Rattle.odr_log.specs.declared.log.CallRec.{CallRec}
use Rattle.rv_model.specs.declared.state.Calls.{Calls}
use Rattle.rv_model.specs.declared.state.Event.{Event}
use Rattle.rv_model.specs.declared.state.Note.{Note}
use Rattle.rv_model.specs.declared.state.Note.TheVariants as note
use Rattle.rv_model.specs.Calls.{end_value}
use Rattle.rv_model.specs.Run.{item_of, cons_some, path_of, record_in}
use Rattle.rv_model.specs.Step.{calls_then}
use Rattle.rv_model.specs.Walk.{events_from, records_by, makes}
use Rattle.guided_walk.proofs.Records.{rec}
use Rattle.logged_walks.proofs.Halts.{event_at}

-- ---- an event among those that follow it

path_same : (u s : ℕ) (n : Note) (later : List Event) → path_of u (event_at u s n ∷ later) ≡ cons_some (item_of n) (path_of u later)
path_same u s n later = ap (λ (b : Bool). cond b (cons_some (item_of n) (path_of u later)) (path_of u later)) (eq-eqb u u refl)

pub path_other : (u t s : ℕ) (n : Note) (later : List Event) → (u ≡ t → ⊥) → path_of u (event_at t s n ∷ later) ≡ path_of u later
path_other u t s n later ne =
    ap (λ (b : Bool). cond b (cons_some (item_of n) (path_of u later)) (path_of u later)) (ne_eqb t u (λ (e : t ≡ u). ne (sym e)))

pub own_path : (u s : ℕ) (n : Note) (notes : List Note) (later : List Event) → path_of u (events_from u (s + 1) notes) ≡ path_of u later
    → path_of u (events_from u s (n ∷ notes)) ≡ path_of u (event_at u s n ∷ later)
own_path u s n notes later e =
    path_same u s n (events_from u (s + 1) notes) ∙ ap (cons_some (item_of n)) e ∙ sym (path_same u s n later)

same_tid : (u : ℕ) (r : CallRec) (later : List CallRec) → r.tid ≡ u → records_by u (r ∷ later) ≡ r ∷ records_by u later
same_tid u r later e = ap (λ (b : Bool). cond b (r ∷ records_by u later) (records_by u later)) (eq-eqb r.tid u e)

other_tid : (u : ℕ) (r : CallRec) (later : List CallRec) → (u ≡ r.tid → ⊥) → records_by u (r ∷ later) ≡ records_by u later
other_tid u r later ne = ap (λ (b : Bool). cond b (r ∷ records_by u later) (records_by u later)) (ne_eqb r.tid u (λ (e : r.tid ≡ u). ne (sym e)))

pub own_records : (u s : ℕ) (n : Note) (mine later : List CallRec) → mine ≡ records_by u later → cons_some (record_in (event_at u s n)) mine ≡ records_by u (cons_some (record_in (event_at u s n)) later)
own_records u s (note.Called made) mine later e = ap (λ (rs : List CallRec). rec u s made ∷ rs) e ∙ sym (same_tid u (rec u s made) later refl)
own_records u s note.Nothing mine later e = e
own_records u s (note.Branch taken) mine later e = e
own_records u s (note.Jump target) mine later e = e
own_records u s (note.Faulted fault) mine later e = e

pub other_records : (u t s : ℕ) (n : Note) (later : List CallRec) → (u ≡ t → ⊥) → records_by u (cons_some (record_in (event_at t s n)) later) ≡ records_by u later
other_records u t s (note.Called made) later ne = other_tid u (rec t s made) later ne
other_records u t s note.Nothing later ne = refl
other_records u t s (note.Branch taken) later ne = refl
other_records u t s (note.Jump target) later ne = refl
other_records u t s (note.Faulted fault) later ne = refl

-- ---- the spawn of a thread

-- the first spawn in these records that made a thread began it at this address
pub record Begun (records : List CallRec) (u start : ℕ) : Type 0 where
  pub spawn : CallRec
  pub first : find (λ r. makes u r.call) records ≡ Some spawn
  pub is : spawn.call ≡ call.Spawn start (Some u)

makes_found : (u : ℕ) (r : CallRec) (later : List CallRec) (b : Bool) → makes u r.call ≡ b → find (λ x. makes u x.call) (r ∷ later) ≡ cond b (Some r) (find (λ x. makes u x.call) later)
makes_found u r later b e = ap (λ (c : Bool). cond c (Some r) (find (λ x. makes u x.call) later)) e

pub begun_now : (u t s entry : ℕ) (n : Note) (later : List CallRec) → n ≡ note.Called (call.Spawn entry (Some u)) → Begun (cons_some (record_in (event_at t s n)) later) u entry
begun_now u t s entry n later is =
    subst (λ (m : Note). Begun (cons_some (record_in (event_at t s m)) later) u entry) (sym is)
    (record { spawn = rec t s (call.Spawn entry (Some u)); first = makes_found u (rec t s (call.Spawn entry (Some u))) later true (eq-eqb u u refl); is = refl })

-- a note that makes no such thread
abbrev pub spawns : ℕ → Note → Bool
spawns u (note.Called made) = makes u made
spawns u other = false

pub begun_later : (u t s start : ℕ) (n : Note) (later : List CallRec) → spawns u n ≡ false → Begun later u start → Begun (cons_some (record_in (event_at t s n)) later) u start
begun_later u t s start (note.Called made) later none begun =
    record { spawn = begun.spawn; first = makes_found u (rec t s made) later false none ∙ begun.first; is = begun.is }
begun_later u t s start note.Nothing later none begun = begun
begun_later u t s start (note.Branch taken) later none begun = begun
begun_later u t s start (note.Jump target) later none begun = begun
begun_later u t s start (note.Faulted fault) later none begun = begun

-- ---- a thread that has ended

push_none : (xs : List (Option ℕ)) (u : ℕ) → get_or (xs ++ None ∷ []) u None ≡ get_or xs u None
push_none [] zero = refl
push_none [] (suc u) = refl
push_none (x ∷ xs) zero = refl
push_none (x ∷ xs) (suc u) = push_none xs u

set_stays : (xs : List (Option ℕ)) (t a u : ℕ) → is_some (get_or xs u None) ≡ true → is_some (get_or (set xs t (Some a)) u None) ≡ true
set_stays [] t a u e = e
set_stays (x ∷ xs) zero a zero e = refl
set_stays (x ∷ xs) zero a (suc u) e = e
set_stays (x ∷ xs) (suc t) a zero e = e
set_stays (x ∷ xs) (suc t) a (suc u) e = set_stays xs t a u e

pub ended_stays : (calls : Calls) (t a : ℕ) (n : Note) (u : ℕ) → is_some (end_value calls u) ≡ true → is_some (end_value (calls_then calls t a n) u) ≡ true
ended_stays calls t a (note.Called call.EndThread) u e = set_stays calls.ended t a u e
ended_stays calls t a (note.Called (call.Spawn entry (Some child))) u e = ap is_some (push_none calls.ended u) ∙ e
ended_stays calls t a (note.Called (call.Spawn entry None)) u e = e
ended_stays calls t a (note.Called (call.Exit code)) u e = e
ended_stays calls t a (note.Called (call.Join target ok)) u e = e
ended_stays calls t a (note.Called (call.Lock mutex true)) u e = e
ended_stays calls t a (note.Called (call.Lock mutex false)) u e = e
ended_stays calls t a (note.Called (call.Unlock mutex true)) u e = e
ended_stays calls t a (note.Called (call.Unlock mutex false)) u e = e
ended_stays calls t a (note.Called (call.TryLock mutex true)) u e = e
ended_stays calls t a (note.Called (call.TryLock mutex false)) u e = e
ended_stays calls t a (note.Called (call.Write bytes)) u e = e
ended_stays calls t a (note.Called call.WriteBad) u e = e
ended_stays calls t a (note.Called (call.Read want bytes)) u e = e
ended_stays calls t a (note.Called call.ReadBad) u e = e
ended_stays calls t a (note.Called call.SelfId) u e = e
ended_stays calls t a (note.Called call.Yield) u e = e
ended_stays calls t a (note.Called (call.Unknown number)) u e = e
ended_stays calls t a note.Nothing u e = e
ended_stays calls t a (note.Branch taken) u e = e
ended_stays calls t a (note.Jump target) u e = e
ended_stays calls t a (note.Faulted fault) u e = e
