-- In a woven schedule each step can stand where it does.
use Rattle.std.specs.Prelude.{◌≡◌, ℕ, zero, suc, ◌%◌, ◌<◌, ◌≤◌, ◌⊎◌, ◌&&◌, Bool, true, false, cond, List, [], ◌∷◌, length, drop, nat_eq, nat_lt, Option, Some, None, option_map, All, refl}
use Rattle.std.proofs.Common.{sym, ◌∙◌, ap, subst, arith, inl, inr, get_or, eq-eqb}
use Rattle.std.proofs.lemmas.Bool.{false≢true}
use Rattle.std.proofs.lemmas.List.{length_push, length-set}
use Rattle.std.proofs.lemmas.Option.{none-some}
use Rattle.elf_image.specs.Layout.{Layout}
use Rattle.odr_log.specs.declared.log.Cause.{Cause}
use Rattle.odr_log.specs.declared.log.Call.{Call}
use Rattle.odr_log.specs.declared.log.Call.TheVariants as call
use Rattle.odr_log.specs.declared.log.CallRec.{CallRec}
use Rattle.odr_log.specs.declared.log.End.{End}
use Rattle.odr_log.specs.declared.log.End.TheVariants as end
use Rattle.odr_log.specs.declared.log.Log.{Log}
use Rattle.odr_log.specs.declared.log.Pos.{Pos}
use Rattle.rv_model.specs.declared.state.Calls.{Calls}
use Rattle.rv_model.specs.declared.walk.FaultPlace.{FaultPlace}
use Rattle.rv_model.specs.declared.state.Note.{Note}
use Rattle.rv_model.specs.declared.state.Note.TheVariants as note
use Rattle.rv_model.specs.declared.hearing.Asked.TheVariants as asked
use Rattle.rv_model.specs.declared.hearing.Reply.{Reply}
use Rattle.rv_model.proofs.SpawnLemmas.{next_child}
use Rattle.rv_model.specs.Calls.{made, end_value, waits, reply_to}
use Rattle.rv_model.specs.Noted.{asked_noted, reply_noted}
use Rattle.rv_model.specs.Step.{calls_then}
use Rattle.rv_model.specs.Walk.{Walk, notes_of, places_of, is_last, BeginsAt, ThreadWalk, FaultFits, IsWalk}
use Rattle.rv_model.specs.CallsFit.{reply_in, Pass, CallsFit}
use Rattle.rv_model.specs.RecordedOrder.{RecordedOrder}
use Rattle.guided_walk.specs.Told.{Told, told, place_of, IsPlace, noted}
use Rattle.guided_walk.specs.Orders.{In, Keeps, Distinct}
use Rattle.guided_walk.specs.Schedules.{count, next_of, places_after}
use Rattle.guided_walk.specs.Flow.{Needs, NeedsThread}
use Rattle.guided_walk.specs.Ordered.{IsExit, ExitLast}
use Rattle.guided_walk.specs.Run.{halts, record_calls, SuitsAt, Suits}
use Rattle.guided_walk.proofs.Along.{Next}
use Rattle.guided_walk.proofs.Table.{Settled, Apart, apart_push}
use Rattle.guided_walk.proofs.Shared.{end_then}
use Rattle.guided_walk.proofs.Walks.{called}
use Rattle.guided_walk.proofs.Records.{rec}
use Rattle.guided_walk.proofs.Facts.{in_log, noted_step, call_counted, place_called, called_noted, last_once}
use Rattle.guided_walk.proofs.Logged.{Built}
use Rattle.guided_walk.proofs.Whole.{FaultHere, place_kind, not_fault}
use Rattle.guided_walk.proofs.CallOrder.{Splits, SplitsOn, NoCall, ACall, splits_on, drop_at}
use Rattle.guided_walk.proofs.NeedsOrder.{MadeBy, made_by, among_contains}

-- ---- threads that were made

grows_then : (calls : Calls) (t a : ℕ) (n : Note) → made calls ≤ made (calls_then calls t a n)
grows_then calls t a (note.Called call.EndThread) = omega (arith, length-set calls.ended t (Some a))
grows_then calls t a (note.Called (call.Spawn entry (Some child))) = omega (arith, length_push calls.ended None)
grows_then calls t a (note.Called (call.Spawn entry None)) = omega arith
grows_then calls t a (note.Called (call.Exit code)) = omega arith
grows_then calls t a (note.Called (call.Join target ok)) = omega arith
grows_then calls t a (note.Called (call.Lock mutex true)) = omega arith
grows_then calls t a (note.Called (call.Lock mutex false)) = omega arith
grows_then calls t a (note.Called (call.Unlock mutex true)) = omega arith
grows_then calls t a (note.Called (call.Unlock mutex false)) = omega arith
grows_then calls t a (note.Called (call.TryLock mutex true)) = omega arith
grows_then calls t a (note.Called (call.TryLock mutex false)) = omega arith
grows_then calls t a (note.Called (call.Write bytes)) = omega arith
grows_then calls t a (note.Called call.WriteBad) = omega arith
grows_then calls t a (note.Called (call.Read want bytes)) = omega arith
grows_then calls t a (note.Called call.ReadBad) = omega arith
grows_then calls t a (note.Called call.SelfId) = omega arith
grows_then calls t a (note.Called call.Yield) = omega arith
grows_then calls t a (note.Called (call.Unknown number)) = omega arith
grows_then calls t a note.Nothing = omega arith
grows_then calls t a (note.Branch taken) = omega arith
grows_then calls t a (note.Jump target) = omega arith
grows_then calls t a (note.Faulted fault) = omega arith

-- What is so of the threads after steps: who took one was made, and so was each thread that a noted spawn made.
pub record Threads (told : Told) (tape : List ℕ) (done : List Pos) : Type 0 where
  pub some : 0 < made (record_calls told tape done)
  pub stepped : (p : Pos) → In p done → p.thread < made (record_calls told tape done)
  pub spawned : (p : Pos) (entry child : ℕ) → In p done → noted told p ≡ note.Called (call.Spawn entry (Some child)) → child < made (record_calls told tape done)
  pub ended : (u : ℕ) → end_value (record_calls told tape done) u ≡ None ⊎ ((p : Pos) × In p done × (p.thread ≡ u) × (noted told p ≡ note.Called call.EndThread))

none_opened : (u : ℕ) → (let o : Option ℕ = get_or (None ∷ []) u None in o) ≡ None
none_opened zero = refl
none_opened (suc u) = refl

pub threads_opening : (told : Told) (tape : List ℕ) → Threads told tape []
threads_opening told tape = record {
  some = omega arith;
  stepped = λ (p : Pos) (i : In p []). absurd i;
  spawned = λ (p : Pos) (entry child : ℕ) (i : In p []) (e : noted told p ≡ note.Called (call.Spawn entry (Some child))). absurd i;
  ended = λ (u : ℕ). inl (none_opened u);
}

next_made : (calls : Calls) (t entry child : ℕ) → reply_to calls t (Some (asked.Spawn entry)) ≡ reply_in (call.Spawn entry (Some child)) → made calls ≡ child
next_made calls t entry child e = next_child (nat_eq (entry % 4) 0 && nat_lt (made calls) 8) (made calls) child (ap (λ (r : Reply). r.child) e)

-- a spawn that is answered as noted makes the thread that it names
spawn_made : (calls : Calls) (t child entry : ℕ) (n : Note) → n ≡ note.Called (call.Spawn entry (Some child)) → made calls ≡ child → child < made (calls_then calls t 0 n)
spawn_made calls t child entry n e is =
    subst (λ (m : Note). child < made (calls_then calls t 0 m)) (sym e) (omega (arith, is, length_push calls.ended None))

end_or_none : (o : Option ℕ) → (o ≡ None) ⊎ ((x : ℕ) × (o ≡ Some x))
end_or_none None = inl refl
end_or_none (Some x) = inr (x, refl)

ended_now : (told : Told) (tape : List ℕ) (done : List Pos) (p : Pos) (u : ℕ) → Threads told tape done
    → end_value (record_calls told tape (p ∷ done)) u ≡ None ⊎ ((q : Pos) × In q (p ∷ done) × (q.thread ≡ u) × (noted told q ≡ note.Called call.EndThread))
ended_now told tape done p u threads = elim (end_or_none (end_value (record_calls told tape (p ∷ done)) u)) [
  | inl none ↦ inl none
  | inr some ↦ elim (end_then (record_calls told tape done) p.thread 0 (noted told p) u some.0 some.1) [
    | inl was ↦ elim (threads.ended u) [
      | inl none ↦ absurd (none-some some.0 (sym none ∙ was))
      | inr older ↦ inr (older.0, inr older.1, older.2, older.3)
    ]
    | inr now ↦ inr (p, inl refl, sym now.1, now.0)
  ]
]

pub threads_on : (told : Told) (tape : List ℕ) (done : List Pos) (p : Pos) → Threads told tape done → SuitsAt told (record_calls told tape done) p → Threads told tape (p ∷ done)
threads_on told tape done p threads suits =
    let calls : Calls = record_calls told tape done in
    let more : made calls ≤ made (record_calls told tape (p ∷ done)) = grows_then calls p.thread 0 (noted told p) in
    record {
      some = omega (arith, threads.some, more);
      stepped = λ (q : Pos) (i : In q (p ∷ done)). elim i [
        | inl e ↦ subst (λ (r : Pos). r.thread < made (record_calls told tape (p ∷ done))) e (omega (arith, suits.exists, more))
        | inr j ↦ omega (arith, threads.stepped q j, more)
      ];
      spawned = λ (q : Pos) (entry child : ℕ) (i : In q (p ∷ done)) (e : noted told q ≡ note.Called (call.Spawn entry (Some child))). elim i [
        | inl same ↦ (let here : noted told p ≡ note.Called (call.Spawn entry (Some child)) = ap (noted told) same ∙ e in
            spawn_made calls p.thread child entry (noted told p) here
            (next_made calls p.thread entry child (subst (λ (n : Note). reply_to calls p.thread (asked_noted n) ≡ reply_noted n) here suits.answered)))
        | inr j ↦ omega (arith, threads.spawned q entry child j e, more)
      ];
      ended = λ (u : ℕ). ended_now told tape done p u threads;
    }

-- ---- what a step that is no call finds

-- a thread's first step stands behind the spawn that made the thread
begun : (image : Layout) (log : Log) (walk : Walk) (u start : ℕ) → BeginsAt image log (suc u) start → (q : Pos) × ((told log walk).maker (suc u) ≡ Some q)
begun image log walk u start begins =
    (place_of begins.0, ap (option_map place_of) begins.1)

by_place : (image : Layout) (log : Log) (walk : Walk) (t : ℕ) (fault : Cause) (o : Option FaultPlace) → FaultFits image log walk (end.Faulted t fault) o
    → (t < length log.threads) × All (λ shown. is_last shown ≡ false) (notes_of walk t)
by_place image log walk t fault (Some at) fits = (fits.0, fits.1.live)
by_place image log walk t fault None fits = absurd fits

-- the thread that faults is one of the log, and has not ended
faults_in : (image : Layout) (log : Log) (walk : Walk) (t : ℕ) (fault : Cause) → IsWalk image log walk → log.end ≡ end.Faulted t fault
    → (t < length log.threads) × All (λ shown. is_last shown ≡ false) (notes_of walk t)
faults_in image log walk t fault is e = by_place image log walk t fault walk.fault (subst (λ (ended : End). FaultFits image log walk ended walk.fault) e is.fault)

place_in_log : (image : Layout) (log : Log) (walk : Walk) → IsWalk image log walk → (p : Pos) → IsPlace (told log walk) p → p.thread < length log.threads
place_in_log image log walk is p place = elim (place_kind log walk p place) [
  | inl within ↦ in_log image log walk is p.thread p.step within
  | inr fault ↦ (faults_in image log walk p.thread fault.fault is fault.ends).0
]

-- no step stands behind the end of its thread
not_ended : (image : Layout) (log : Log) (walk : Walk) → IsWalk image log walk → (p q : Pos) → IsPlace (told log walk) p → q.thread ≡ p.thread → q.step < p.step
    → noted (told log walk) q ≡ note.Called call.EndThread → ⊥
not_ended image log walk is p q place same less e =
    let u : ℕ = p.thread in
    let inside : q.step < length (notes_of walk q.thread) = call_counted log walk q call.EndThread e in
    let within : q.step < length (notes_of walk u) = subst (λ (t : ℕ). q.step < length (notes_of walk t)) same inside in
    let note_is : get_or (notes_of walk u) q.step note.Nothing ≡ note.Called call.EndThread =
    ap (λ (t : ℕ). get_or (notes_of walk t) q.step note.Nothing) (sym same) ∙ sym (noted_step log walk q inside) ∙ e in
    let last : is_last (get_or (notes_of walk u) q.step note.Nothing) ≡ true = ap is_last note_is in
    elim (place_kind log walk p place) [
      | inl counted ↦ last_once (notes_of walk u) (is.each u (in_log image log walk is u p.step counted)).ends q.step p.step less counted last
      | inr fault ↦ false≢true (sym ((faults_in image log walk u fault.fault is fault.ends).1 q.step note.Nothing within) ∙ last)
    ]

-- steps done stand before the next of their thread
built_below : (done : List Pos) → Built done → (q : Pos) → In q done → q.step < count q.thread done
built_below (p ∷ done) built q (inl e) =
    subst (λ (r : Pos). r.step < count r.thread (p ∷ done)) e
    (own_below p done built.0 (nat_eq p.thread p.thread) (eq-eqb p.thread p.thread refl)) where
      own_below : (p : Pos) (done : List Pos) → p.step ≡ count p.thread done → (b : Bool) → b ≡ true → p.step < cond b (suc (count p.thread done)) (count p.thread done)
      own_below p done e true same = omega (arith, e)
      own_below p done e false same = absurd (false≢true same)
built_below (p ∷ done) built q (inr i) = more_below (nat_eq p.thread q.thread) (built_below done built.1 q i) where
  more_below : (b : Bool) → q.step < count q.thread done → q.step < cond b (suc (count q.thread done)) (count q.thread done)
  more_below true less = omega (arith, less)
  more_below false less = less
built_below [] built q i = absurd i

quiet_asks : (n : Note) → called n ≡ None → asked_noted n ≡ None
quiet_asks (note.Called made) e = absurd (none-some made (sym e))
quiet_asks note.Nothing e = refl
quiet_asks (note.Branch taken) e = refl
quiet_asks (note.Jump target) e = refl
quiet_asks (note.Faulted fault) e = refl

quiet_replies : (calls : Calls) (t : ℕ) (n : Note) → called n ≡ None → reply_to calls t (asked_noted n) ≡ reply_noted n
quiet_replies calls t (note.Called made) e = absurd (none-some made (sym e))
quiet_replies calls t note.Nothing e = refl
quiet_replies calls t (note.Branch taken) e = refl
quiet_replies calls t (note.Jump target) e = refl
quiet_replies calls t (note.Faulted fault) e = refl

-- the thread of the next step was made
made_before : (image : Layout) (log : Log) (walk : Walk) (tape : List ℕ) (done : List Pos) (t : ℕ) → IsWalk image log walk → CallsFit log → Threads (told log walk) tape done
    → IsPlace (told log walk) (next_of t done) → ((q : Pos) → Needs (told log walk) q (next_of t done) → In q done) → (k : ℕ) → count t done ≡ k → t < made (record_calls (told log walk) tape done)
made_before image log walk tape done t is fit threads place needs (suc k) e =
    let q : Pos = record { thread = t; step = k } in
    let n : NeedsThread (told log walk) q t (count t done) = subst (NeedsThread (told log walk) q t) (sym e) refl in
    threads.stepped q (needs q (inl n))
made_before image log walk tape done zero is fit threads place needs zero e = threads.some
made_before image log walk tape done (suc u) is fit threads place needs zero e =
    let t : ℕ = suc u in
    let tw : ThreadWalk image log t (places_of walk t) (notes_of walk t) = is.each t (place_in_log image log walk is (next_of t done) place) in
    let q : (q : Pos) × ((told log walk).maker t ≡ Some q) = begun image log walk u tw.start tw.begins in
    let n : NeedsThread (told log walk) q.0 t (count t done) = subst (NeedsThread (told log walk) q.0 t) (sym e) q.1 in
    let m : MadeBy log walk t q.0 = made_by log walk t q.0 q.1 in
    threads.spawned q.0 m.entry t (needs q.0 (inl n))
    (ap (noted (told log walk)) (sym m.place) ∙ called_noted image log walk is m.spawn m.has ∙ ap (λ (c : Call). note.Called c) m.is)

-- ---- each step

suits_quiet : (image : Layout) (log : Log) (walk : Walk) (tape : List ℕ) (done : List Pos) (t : ℕ) → IsWalk image log walk → CallsFit log → Threads (told log walk) tape done → Built done
    → IsPlace (told log walk) (next_of t done) → ((q : Pos) → Needs (told log walk) q (next_of t done) → In q done) → called (noted (told log walk) (next_of t done)) ≡ None
    → SuitsAt (told log walk) (record_calls (told log walk) tape done) (next_of t done)
suits_quiet image log walk tape done t is fit threads built place needs quiet =
    let p : Pos = next_of t done in
    let calls : Calls = record_calls (told log walk) tape done in
    record {
      place = place;
      exists = made_before image log walk tape done t is fit threads place needs (count t done) refl;
      live = elim (threads.ended t) [
        | inl none ↦ none
        | inr older ↦ absurd (not_ended image log walk is p older.0 place older.2
            (subst (λ (u : ℕ). older.0.step < count u done) older.2 (built_below done built older.0 older.1)) older.3)
      ];
      ready = ap (waits calls t) (quiet_asks (noted (told log walk) p) quiet);
      answered = quiet_replies calls t (noted (told log walk) p) quiet;
    }

suits_call : (log : Log) (walk : Walk) (calls : Calls) (p : Pos) (made : Call) (rest : List CallRec) → IsPlace (told log walk) p → noted (told log walk) p ≡ note.Called made
    → Pass calls (rec p.thread p.step made ∷ rest) → SuitsAt (told log walk) calls p
suits_call log walk calls p made rest place shows pass = record {
  place = place;
  exists = pass.0.exists;
  live = pass.0.live;
  ready = ap (λ (n : Note). waits calls p.thread (asked_noted n)) shows ∙ pass.0.ready;
  answered = ap (λ (n : Note). reply_to calls p.thread (asked_noted n)) shows ∙ pass.0.answered ∙ sym (ap reply_noted shows);
}

-- nothing stands behind a fault
abbrev pub FaultLast : Log → Walk → List Pos → Type 0
FaultLast log walk [] = Unit {0}
FaultLast log walk (p ∷ later) = (FaultHere log walk p → later ≡ []) × FaultLast log walk later

-- ---- along the schedule

quiet_then : (calls : Calls) (t : ℕ) (n : Note) → called n ≡ None → calls_then calls t 0 n ≡ calls
quiet_then calls t (note.Called made) e = absurd (none-some made (sym e))
quiet_then calls t note.Nothing e = refl
quiet_then calls t (note.Branch taken) e = refl
quiet_then calls t (note.Jump target) e = refl
quiet_then calls t (note.Faulted fault) e = refl

-- a step behind which nothing stands, where it halts
halt_last : (image : Layout) (log : Log) (walk : Walk) → IsWalk image log walk → (p : Pos) (later : List Pos) → IsPlace (told log walk) p
    → (FaultHere log walk p → later ≡ []) → (IsExit log p → later ≡ []) → (n : Note) → noted (told log walk) p ≡ n → halts n ≡ true → later ≡ []
halt_last image log walk is p later place faults exits (note.Called (call.Exit code)) e h =
    exits (code, among_contains log.calls (rec p.thread p.step (call.Exit code)) (place_called image log walk is p (call.Exit code) e))
halt_last image log walk is p later place faults exits (note.Faulted fault) e h = elim (place_kind log walk p place) [
  | inl within ↦ absurd (not_fault image log walk is p.thread p.step within fault (sym (noted_step log walk p within) ∙ e))
  | inr here ↦ faults here
]
halt_last image log walk is p later place faults exits note.Nothing e h = absurd (false≢true h)
halt_last image log walk is p later place faults exits (note.Branch taken) e h = absurd (false≢true h)
halt_last image log walk is p later place faults exits (note.Jump target) e h = absurd (false≢true h)
halt_last image log walk is p later place faults exits (note.Called call.EndThread) e h = absurd (false≢true h)
halt_last image log walk is p later place faults exits (note.Called (call.Spawn entry child)) e h = absurd (false≢true h)
halt_last image log walk is p later place faults exits (note.Called (call.Join target ok)) e h = absurd (false≢true h)
halt_last image log walk is p later place faults exits (note.Called (call.Lock mutex ok)) e h = absurd (false≢true h)
halt_last image log walk is p later place faults exits (note.Called (call.Unlock mutex ok)) e h = absurd (false≢true h)
halt_last image log walk is p later place faults exits (note.Called (call.TryLock mutex got)) e h = absurd (false≢true h)
halt_last image log walk is p later place faults exits (note.Called (call.Write bytes)) e h = absurd (false≢true h)
halt_last image log walk is p later place faults exits (note.Called call.WriteBad) e h = absurd (false≢true h)
halt_last image log walk is p later place faults exits (note.Called (call.Read want bytes)) e h = absurd (false≢true h)
halt_last image log walk is p later place faults exits (note.Called call.ReadBad) e h = absurd (false≢true h)
halt_last image log walk is p later place faults exits (note.Called call.SelfId) e h = absurd (false≢true h)
halt_last image log walk is p later place faults exits (note.Called call.Yield) e h = absurd (false≢true h)
halt_last image log walk is p later place faults exits (note.Called (call.Unknown number)) e h = absurd (false≢true h)

-- what is known of the steps to come
pub record ToCome (log : Log) (walk : Walk) (done ps : List Pos) : Type 0 where
  pub distinct : Distinct ps
  pub apart : Apart done ps
  pub keeps : Keeps (RecordedOrder log) ps
  pub settled : Settled (told log walk) done ps
  pub only : (p : Pos) → In p ps → IsPlace (told log walk) p
  pub faults : FaultLast log walk ps
  pub exits : ExitLast log ps

to_come_on : (log : Log) (walk : Walk) (done : List Pos) (p : Pos) (later : List Pos) → ToCome log walk done (p ∷ later) → ToCome log walk (p ∷ done) later
to_come_on log walk done p later come = record {
  distinct = come.distinct.1;
  apart = apart_push done p later come.distinct come.apart;
  keeps = come.keeps.1;
  settled = come.settled.1;
  only = λ (q : Pos) (i : In q later). come.only q (inr i);
  faults = come.faults.1;
  exits = come.exits.1;
}

-- one step, with the rest handed in
suits_step : (image : Layout) (log : Log) (walk : Walk) (tape : List ℕ) (done : List Pos) (t : ℕ) (later : List Pos) (n : ℕ) → IsWalk image log walk → CallsFit log
    → Threads (told log walk) tape done → Built done → ToCome log walk done (next_of t done ∷ later) → Pass (record_calls (told log walk) tape done) (drop n log.calls)
    → SplitsOn log walk done (next_of t done) later n
    → ((m : ℕ) → SuitsAt (told log walk) (record_calls (told log walk) tape done) (next_of t done) → Splits log (Next t done) later m
    → Pass (record_calls (told log walk) tape (Next t done)) (drop m log.calls) → Suits (told log walk) tape (Next t done) later)
    → Suits (told log walk) tape done (next_of t done ∷ later)
suits_step image log walk tape done t later n is fit threads built come pass (NoCall quiet s) again =
    let p : Pos = next_of t done in
    let calls : Calls = record_calls (told log walk) tape done in
    let place : IsPlace (told log walk) p = come.only p (inl refl) in
    let suits : SuitsAt (told log walk) calls p = suits_quiet image log walk tape done t is fit threads built place come.settled.0 quiet in (
      suits,
      λ (e : halts (noted (told log walk) p) ≡ true). halt_last image log walk is p later place come.faults.0 come.exits.0 (noted (told log walk) p) refl e,
      again n suits s (subst (λ (c : Calls). Pass c (drop n log.calls)) (sym (quiet_then calls t (noted (told log walk) p) quiet)) pass),
    )
suits_step image log walk tape done t later n is fit threads built come pass (ACall {made = made} shows at s) again =
    let p : Pos = next_of t done in
    let calls : Calls = record_calls (told log walk) tape done in
    let place : IsPlace (told log walk) p = come.only p (inl refl) in
    let here : Pass calls (rec p.thread p.step made ∷ drop (suc n) log.calls) = subst (Pass calls) (drop_at log.calls n (rec p.thread p.step made) at) pass in
    let suits : SuitsAt (told log walk) calls p = suits_call log walk calls p made (drop (suc n) log.calls) place shows here in (
      suits,
      λ (e : halts (noted (told log walk) p) ≡ true). halt_last image log walk is p later place come.faults.0 come.exits.0 (noted (told log walk) p) refl e,
      again (suc n) suits s (subst (λ (m : Note). Pass (calls_then calls t 0 m) (drop (suc n) log.calls)) (sym shows) here.1),
    )

pub suits_along : (image : Layout) (log : Log) (walk : Walk) (tape : List ℕ) (done : List Pos) (schedule : List ℕ) (n : ℕ) → IsWalk image log walk → CallsFit log
    → Threads (told log walk) tape done → Built done → ToCome log walk done (places_after done schedule) → Splits log done (places_after done schedule) n
    → Pass (record_calls (told log walk) tape done) (drop n log.calls) → Suits (told log walk) tape done (places_after done schedule)
suits_along image log walk tape done [] n is fit threads built come splits pass = tt
suits_along image log walk tape done (t ∷ schedule) n is fit threads built come splits pass =
    let p : Pos = next_of t done in
    let later : List Pos = places_after (Next t done) schedule in
    suits_step image log walk tape done t later n is fit threads built come pass (splits_on image log walk is fit done p later n come.apart come.keeps splits)
    (λ (m : ℕ) (suits : SuitsAt (told log walk) (record_calls (told log walk) tape done) p) (s : Splits log (p ∷ done) later m) (rest : Pass (record_calls (told log walk) tape (p ∷ done)) (drop m log.calls)).
    suits_along image log walk tape (Next t done) schedule m is fit (threads_on (told log walk) tape done p threads suits) (refl, built) (to_come_on log walk done p later come) s rest)
