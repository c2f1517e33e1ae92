-- A run whose steps note what the log's walk has, and of all its steps, has the log.
use Rattle.std.specs.Prelude.{◌≡◌, ℕ, zero, suc, ◌+◌, ◌-◌, ◌<◌, ◌≤◌, ◌⊎◌, Bool, true, false, cond, List, [], ◌∷◌, ◌++◌, length, nat_eq, Option, Some, None, is_none, Result, Ok, refl}
use Rattle.std.proofs.Common.{sym, ◌∙◌, ap, subst, arith, inl, inr, get_or, ltb, eqb}
use Rattle.std.proofs.lemmas.Bool.{eqb-true, ltb-true, ltb-false, false≢true}
use Rattle.std.proofs.lemmas.List.{length-append, append-nil, append_assoc}
use Rattle.std.proofs.Math.Seq.{get_or-append_right}
use Rattle.std.proofs.lemmas.Option.{same_Some}
use Rattle.elf_image.specs.declared.write.Write.{Write}
use Rattle.elf_image.specs.Layout.{Layout}
use Rattle.rv32_decode.specs.declared.instr.Instr.{Instr}
use Rattle.odr_log.specs.declared.log.Cause.{Cause}
use Rattle.odr_log.specs.declared.log.CallRec.{CallRec}
use Rattle.odr_log.specs.declared.log.End.{End}
use Rattle.odr_log.specs.declared.log.End.TheVariants as end
use Rattle.odr_log.specs.declared.log.Log.{Log}
use Rattle.odr_log.specs.declared.log.Pos.{Pos}
use Rattle.rv_model.specs.declared.state.Local.{Local}
use Rattle.rv_model.specs.declared.state.Thread.{Thread}
use Rattle.rv_model.specs.declared.state.Note.{Note}
use Rattle.rv_model.specs.declared.state.Note.TheVariants as note
use Rattle.rv_model.specs.declared.state.State.{State}
use Rattle.rv_model.specs.declared.state.Stepped.{Stepped}
use Rattle.rv_model.specs.declared.state.Event.{Event}
use Rattle.rv_model.specs.declared.hearing.Outcome.{Outcome}
use Rattle.rv_model.specs.declared.hearing.Outcome.TheVariants.{Faults, Goes}
use Rattle.rv_model.specs.Calls.{made, first_argument}
use Rattle.rv_model.specs.Noted.{note_in, LeadsOn}
use Rattle.rv_model.specs.Step.{opening, memory_of, instr_at, thread_at, applied, gone, after_effect, step}
use Rattle.rv_model.specs.Run.{event_of, agrees}
use Rattle.rv_model.specs.Walk.{Walk, notes_of, places_of, transfer_of, goes_to, ThreadWalk, IsWalk}
use Rattle.rv_model.specs.CallsFit.{CallsFit}
use Rattle.rv_model.proofs.Progress.{IsQuiet, quiet-act_at}
use Rattle.rv_model.proofs.Difference.{enabled_within, enabled_goes}
use Rattle.rv_model.proofs.Acts.{walks_on_at}
use Rattle.guided_walk.specs.Told.{Told, told, last_fault, IsPlace, noted}
use Rattle.guided_walk.specs.Orders.{In}
use Rattle.guided_walk.specs.Schedules.{count, next_of, places_after, times}
use Rattle.guided_walk.specs.Run.{halts, Agrees}
use Rattle.guided_walk.proofs.Along.{MakesNext, heard_by, outcome_by, reserving_by, step_is}
use Rattle.guided_walk.proofs.Agree.{step_note, halted_step, nothing_after}
use Rattle.guided_walk.proofs.Walks.{pc_from, AtStep, leads_step, shape, fault_shape}
use Rattle.guided_walk.proofs.Records.{rec}
use Rattle.guided_walk.proofs.Facts.{in_log, noted_step}
use Rattle.guided_walk.proofs.Logged.{told_event, events_along}
use Rattle.guided_walk.proofs.Along.{Next}
use Rattle.rv_model.specs.declared.state.Halt.{Halt}
use Rattle.rv_model.specs.declared.state.Halt.TheVariants as halt
use Rattle.rv_model.specs.Run.{final, events, records_of}
use Rattle.rv_model.specs.Step.{halt_then, calls_then}
use Rattle.rv_model.specs.CallsFit.{final_halt}
use Rattle.rv_model.proofs.LogParts.{records_of-append}
use Rattle.guided_walk.specs.Run.{record_calls}
use Rattle.guided_walk.proofs.Shared.{Alike, then_alike}
use Rattle.guided_walk.proofs.LoggedRun.{Follows, follows_gone, LedOn, not_faulted, makes_by}

-- ---- the steps of a whole schedule

-- the steps of a schedule after others, the newest first
abbrev pub all_done : List Pos → List ℕ → List Pos
all_done done [] = done
all_done done (t ∷ schedule) = all_done (next_of t done ∷ done) schedule

count_step : (u t : ℕ) (done : List Pos) (n : ℕ) → (b : Bool) → cond b (suc (count u done)) (count u done) + n ≡ count u done + cond b (suc n) n
count_step u t done n true = omega arith
count_step u t done n false = omega arith

pub count_all : (u : ℕ) (done : List Pos) (schedule : List ℕ) → count u (all_done done schedule) ≡ count u done + times u schedule
count_all u done [] = omega arith
count_all u done (t ∷ schedule) = count_all u (next_of t done ∷ done) schedule ∙ count_step u t done (times u schedule) (nat_eq t u)

-- ---- what is kept beside the threads

-- the calls are those of the records so far, and so is the halt
pub record Keeps (told : Told) (tape : List ℕ) (done : List Pos) (state : State) : Type 0 where
  pub calls : Alike state.core.calls (record_calls told tape done)
  pub halt : state.core.halt ≡ final_halt (records_of (events_along told done))

pub keeps_opening : (image : Layout) (told : Told) (tape : List ℕ) → Keeps told tape [] (opening image tape)
keeps_opening image told tape = record { calls = record { owners = refl; tape = refl; ended = refl }; halt = refl }

final_push : (rs : List CallRec) (r : CallRec) → final_halt (rs ++ r ∷ []) ≡ halt_then r.tid (note.Called r.call)
final_push [] r = refl
final_push (x ∷ []) r = refl
final_push (x ∷ y ∷ rs) r = final_push (y ∷ rs) r

halt_after : (rs : List CallRec) (t at : ℕ) (n : Note) → final_halt rs ≡ None
    → halt_then t n ≡ final_halt (rs ++ records_of ((let e : Event = record { thread = t; at = at; note = n } in e) ∷ []))
halt_after rs t at (note.Called made) e = sym (final_push rs (rec t at made))
halt_after rs t at note.Nothing e = sym e ∙ ap final_halt (sym (append-nil rs))
halt_after rs t at (note.Branch taken) e = sym e ∙ ap final_halt (sym (append-nil rs))
halt_after rs t at (note.Jump target) e = sym e ∙ ap final_halt (sym (append-nil rs))
halt_after rs t at (note.Faulted fault) e = sym e ∙ ap final_halt (sym (append-nil rs))

none_of : (o : Option Halt) → is_none o ≡ true → o ≡ None
none_of None e = refl
none_of (Some x) e = absurd (false≢true e)

pub keeps_gone : (told : Told) (tape : List ℕ) (done : List Pos) (state : State) (t : ℕ) (reservation : Option ℕ) (local : Local) (writes : List Write) (shown : Note)
    → Keeps told tape done state → is_none state.core.halt ≡ true → shown ≡ noted told (next_of t done)
    → Keeps told tape (Next t done) (after_effect state (gone state.core t reservation local writes shown)).state
keeps_gone told tape done state t reservation local writes shown keeps running is = record {
  calls = subst (λ (n : Note). Alike (calls_then state.core.calls t (first_argument (thread_at state.core t).local) shown) (calls_then (record_calls told tape done) t 0 n)) is
      (then_alike state.core.calls (record_calls told tape done) t (first_argument (thread_at state.core t).local) 0 shown keeps.calls);
  halt =
      halt_after (records_of (events_along told done)) t (count t done) shown (sym keeps.halt ∙ none_of state.core.halt running)
      ∙ ap (λ (n : Note). final_halt (records_of (events_along told done) ++ records_of ((let e : Event = record { thread = t; at = count t done; note = n } in e) ∷ []))) is
      ∙ ap final_halt (sym (records_of-append (events_along told done) (told_event told (next_of t done) ∷ [])));
}

-- ---- a step that notes what is told

-- what a place shows is a step of the walk or the fault behind it
pub record FaultHere (log : Log) (walk : Walk) (p : Pos) : Type 0 where
  pub fault : Cause
  pub note : noted (told log walk) p ≡ note.Faulted fault
  pub at : p.step ≡ length (notes_of walk p.thread)
  pub ends : log.end ≡ end.Faulted p.thread fault

last_is : (ended : End) (u j : ℕ) → j < length (last_fault ended u) → (fault : Cause) × (j ≡ 0) × (get_or (last_fault ended u) j note.Nothing ≡ note.Faulted fault) × (ended ≡ end.Faulted u fault)
last_is (end.Exited thread code) u j less = absurd (omega arith)
last_is end.AllDone u j less = absurd (omega arith)
last_is end.Cut u j less = absurd (omega arith)
last_is (end.Faulted thread fault) u j less = by_test (eqb thread u) refl j less where
  by_test : (b : Bool) → eqb thread u ≡ b → (i : ℕ) → i < length (cond b (note.Faulted fault ∷ []) [])
      → (f : Cause) × (i ≡ 0) × (get_or (cond b (note.Faulted fault ∷ []) []) i note.Nothing ≡ note.Faulted f) × (end.Faulted thread fault ≡ end.Faulted u f)
  by_test true e zero h = (fault, refl, refl, ap (λ (v : ℕ). end.Faulted v fault) (eqb-true thread u e))
  by_test true e (suc i) h = absurd (omega arith)
  by_test false e i h = absurd (omega arith)

pub place_kind : (log : Log) (walk : Walk) (p : Pos) → IsPlace (told log walk) p → (p.step < length (notes_of walk p.thread)) ⊎ FaultHere log walk p
place_kind log walk p place = by_test (ltb p.step (length (notes_of walk p.thread))) refl where
  by_test : (b : Bool) → ltb p.step (length (notes_of walk p.thread)) ≡ b → (p.step < length (notes_of walk p.thread)) ⊎ FaultHere log walk p
  by_test true e = inl (ltb-true p.step (length (notes_of walk p.thread)) e)
  by_test false e =
      let past : length (notes_of walk p.thread) ≤ p.step = ltb-false p.step (length (notes_of walk p.thread)) e in
      let j : ℕ = p.step - length (notes_of walk p.thread) in
      let less : j < length (last_fault log.end p.thread) = omega (arith, place, past, length-append (notes_of walk p.thread) (last_fault log.end p.thread)) in
      let it = last_is log.end p.thread j less in
      inr (record {
        fault = it.0;
        note = get_or-append_right (notes_of walk p.thread) (last_fault log.end p.thread) p.step note.Nothing past ∙ it.2;
        at = let z : j ≡ 0 = it.1 in omega (arith, past, z);
        ends = it.3;
      })

instr_same : (r : Result Instr Cause) (a b : Instr) → r ≡ Ok a → r ≡ Ok b → a ≡ b
instr_same r a b p q = cc

-- where a step of the walk leads, by its note
pub led_by : (image : Layout) (log : Log) (walk : Walk) (done : List Pos) (state : State) (t : ℕ) (local : Local) (writes : List Write) (shown : Note)
    → IsWalk image log walk → Follows image log walk done state → t < length state.core.threads
    → LeadsOn (thread_at state.core t).local.pc (instr_at image (thread_at state.core t).local.pc) (Goes local writes shown)
    → count t done < length (notes_of walk t) → shown ≡ noted (told log walk) (next_of t done) → LedOn image log walk done t local shown
led_by image log walk done state t local writes shown is follows there leads within named =
    let k : ℕ = count t done in
    let n : Note = get_or (notes_of walk t) k note.Nothing in
    let same : shown ≡ n = named ∙ noted_step log walk (next_of t done) within in
    let pc : ℕ = (thread_at state.core t).local.pc in
    record {
      within = within;
      note = named;
      pc = λ (w : ThreadWalk image log t (places_of walk t) (notes_of walk t)).
          let one : AtStep image (pc_from (places_of walk t) w.after k) (pc_from (places_of walk t) w.after (suc k)) n =
          leads_step image w.start (places_of walk t) (notes_of walk t) w.after k w.leads within in
          let here : pc ≡ pc_from (places_of walk t) w.after k = (follows.threads t there).1 w in
          let instruction : one.instruction ≡ leads.0 =
          instr_same (instr_at image pc) one.instruction leads.0 (ap (instr_at image) here ∙ one.fetched) leads.1 in
          let goes : goes_to pc (transfer_of pc leads.0) n ≡ Some (pc_from (places_of walk t) w.after (suc k)) =
          ap (λ (a : ℕ). goes_to a (transfer_of a leads.0) n) here
          ∙ ap (λ (i : Instr). goes_to (pc_from (places_of walk t) w.after k) (transfer_of (pc_from (places_of walk t) w.after k) i) n) (sym instruction)
          ∙ one.goes in
          same_Some local.pc (pc_from (places_of walk t) w.after (suc k)) (sym leads.2 ∙ ap (goes_to pc (transfer_of pc leads.0)) same ∙ goes);
    }

-- ---- along the schedule

-- The end of a run whose steps note what is told: it has all steps behind it, or all but the fault that it ended in.
pub data Ends (image : Layout) (log : Log) (walk : Walk) (tape : List ℕ) (all : List Pos) (last : State) : Type 0 where
  Stood : Follows image log walk all last → Keeps (told log walk) tape all last → Ends image log walk tape all last
  Fell : {done : List Pos} {before : State} {t : ℕ} → all ≡ next_of t done ∷ done → FaultHere log walk (next_of t done) → Follows image log walk done before → Keeps (told log walk) tape done before
      → last.core.threads ≡ before.core.threads → last.core.calls ≡ before.core.calls → ((fault : Cause) → log.end ≡ end.Faulted t fault → last.core.halt ≡ Some (halt.Faulted t fault))
      → Ends image log walk tape all last

abbrev pub RunEnds : Layout → Log → Walk → List ℕ → List Pos → State → List ℕ → Type 0
RunEnds image log walk tape done state schedule =
    (events_along (told log walk) done ++ events image state schedule ≡ events_along (told log walk) (all_done done schedule))
    × Ends image log walk tape (all_done done schedule) (final image state schedule)

fault_same : (t : ℕ) (f g : Cause) → end.Faulted t f ≡ end.Faulted t g → f ≡ g
fault_same t f g e = cc

note_fault : (f g : Cause) → note.Faulted f ≡ note.Faulted g → f ≡ g
note_fault f g e = cc

pub not_fault : (image : Layout) (log : Log) (walk : Walk) → IsWalk image log walk → (t k : ℕ) → k < length (notes_of walk t) → (fault : Cause) → get_or (notes_of walk t) k note.Nothing ≡ note.Faulted fault → ⊥
not_fault image log walk is t k within fault e =
    let tw : ThreadWalk image log t (places_of walk t) (notes_of walk t) = is.each t (in_log image log walk is t k within) in
    let pc : ℕ = pc_from (places_of walk t) tw.after k in
    let next : ℕ = pc_from (places_of walk t) tw.after (suc k) in
    let one : AtStep image pc next (get_or (notes_of walk t) k note.Nothing) = leads_step image tw.start (places_of walk t) (notes_of walk t) tw.after k tw.leads within in
    fault_shape (transfer_of pc one.instruction) fault
    (shape pc (transfer_of pc one.instruction) (note.Faulted fault) next (ap (goes_to pc (transfer_of pc one.instruction)) (sym e) ∙ one.goes))

-- the fault, behind which nothing is
run_falls : (image : Layout) (log : Log) (walk : Walk) (tape : List ℕ) (done : List Pos) (state : State) (t : ℕ) (schedule : List ℕ) (fault : Cause)
    → Follows image log walk done state → Keeps (told log walk) tape done state
    → outcome_by image (memory_of image state) state.core.calls t (thread_at state.core t) ≡ Faults fault
    → note.Faulted fault ≡ noted (told log walk) (next_of t done) → FaultHere log walk (next_of t done) → schedule ≡ []
    → RunEnds image log walk tape (Next t done) (step image state t).state schedule
run_falls image log walk tape done state t schedule fault follows keeps same notes here last =
    let falls : step image state t ≡ after_effect state (applied state.core t (reserving_by image (thread_at state.core t)) (Faults fault)) =
    step_is image state t ∙ ap (λ (o : Outcome). after_effect state (applied state.core t (reserving_by image (thread_at state.core t)) o)) same in
    subst (λ (s : List ℕ). RunEnds image log walk tape (Next t done) (step image state t).state s) (sym last) (
      append-nil (events_along (told log walk) (Next t done)),
      Fell {done = done} {before = state} {t = t} refl here follows keeps
          (ap (λ (s : Stepped). s.state.core.threads) falls) (ap (λ (s : Stepped). s.state.core.calls) falls)
          (λ (other : Cause) (e : log.end ≡ end.Faulted t other).
          ap (λ (s : Stepped). s.state.core.halt) falls
          ∙ ap (λ (f : Cause). Some (halt.Faulted t f)) (note_fault fault here.fault (notes ∙ here.note) ∙ fault_same t here.fault other (sym here.ends ∙ e))),
    )

run_on : (image : Layout) (log : Log) (walk : Walk) (tape : List ℕ) (done : List Pos) (state : State) (t : ℕ) (schedule : List ℕ) (o : Outcome)
    → IsWalk image log walk → CallsFit log → Follows image log walk done state → Keeps (told log walk) tape done state → t < length state.core.threads → is_none state.core.halt ≡ true
    → IsPlace (told log walk) (next_of t done)
    → outcome_by image (memory_of image state) state.core.calls t (thread_at state.core t) ≡ o → IsQuiet o
    → LeadsOn (thread_at state.core t).local.pc (instr_at image (thread_at state.core t).local.pc) o
    → note_in o ≡ noted (told log walk) (next_of t done)
    → (is_none (step image state t).state.core.halt ≡ false → schedule ≡ [])
    → (Follows image log walk (Next t done) (step image state t).state → Keeps (told log walk) tape (Next t done) (step image state t).state
    → RunEnds image log walk tape (Next t done) (step image state t).state schedule)
    → RunEnds image log walk tape (Next t done) (step image state t).state schedule
run_on image log walk tape done state t schedule (Faults fault) is fit follows keeps there running place same quiet leads notes nothing again =
    elim (place_kind log walk (next_of t done) place) [
      | inl within ↦ absurd (not_fault image log walk is t (count t done) within fault (sym (noted_step log walk (next_of t done) within) ∙ sym notes))
      | inr here ↦ run_falls image log walk tape done state t schedule fault follows keeps same notes here
          (nothing (halted_step image state t (ap halts (step_note image state t ∙ ap note_in same))))
    ]
run_on image log walk tape done state t schedule (Goes local writes shown) is fit follows keeps there running place same quiet leads notes nothing again =
    elim (place_kind log walk (next_of t done) place) [
      | inl within ↦ (
          let led : LedOn image log walk done t local shown = led_by image log walk done state t local writes shown is follows there leads within notes in
          let makes : MakesNext (length state.core.threads) shown = makes_by image state t local writes shown follows.many same in
          let goes : step image state t ≡ after_effect state (gone state.core t (reserving_by image (thread_at state.core t)) local writes shown) =
          step_is image state t ∙ ap (λ (o : Outcome). after_effect state (applied state.core t (reserving_by image (thread_at state.core t)) o)) same in
          again
          (subst (λ (s : Stepped). Follows image log walk (Next t done) s.state) (sym goes)
          (follows_gone image log walk done state t (reserving_by image (thread_at state.core t)) local writes shown is fit follows there led makes))
          (subst (λ (s : Stepped). Keeps (told log walk) tape (Next t done) s.state) (sym goes)
          (keeps_gone (told log walk) tape done state t (reserving_by image (thread_at state.core t)) local writes shown keeps running notes)))
      | inr here ↦ absurd (not_faulted shown local writes quiet here.fault (notes ∙ here.note))
    ]

pub agrees_ends : (image : Layout) (log : Log) (walk : Walk) (tape : List ℕ) (done : List Pos) (state : State) (schedule : List ℕ)
    → IsWalk image log walk → CallsFit log → Follows image log walk done state → Keeps (told log walk) tape done state
    → ((p : Pos) → In p (places_after done schedule) → IsPlace (told log walk) p)
    → Agrees image (told log walk) state done schedule → RunEnds image log walk tape done state schedule
agrees_ends image log walk tape done state [] is fit follows keeps only agrees = (append-nil (events_along (told log walk) done), Stood follows keeps)
agrees_ends image log walk tape done state (t ∷ schedule) is fit follows keeps only agrees =
    let next : State = (step image state t).state in
    let thread : Thread = thread_at state.core t in
    let there : t < length state.core.threads = enabled_within image state t agrees.0 in
    let rest : RunEnds image log walk tape (Next t done) next schedule =
    run_on image log walk tape done state t schedule (outcome_by image (memory_of image state) state.core.calls t thread) is fit follows keeps there (enabled_goes image state t agrees.0)
    (only (next_of t done) (inl refl)) refl (quiet-act_at thread.local (instr_at image thread.local.pc) (heard_by image (memory_of image state) state.core.calls t thread))
    (walks_on_at image thread.local (heard_by image (memory_of image state) state.core.calls t thread))
    (sym (step_note image state t) ∙ agrees.1)
    (λ (halted : is_none next.core.halt ≡ false). nothing_after image (told log walk) next (Next t done) schedule halted agrees.2)
    (λ (f : Follows image log walk (Next t done) next) (k : Keeps (told log walk) tape (Next t done) next).
    agrees_ends image log walk tape (Next t done) next schedule is fit f k (λ (q : Pos) (i : In q (places_after (Next t done) schedule)). only q (inr i)) agrees.2) in
    let event : event_of image state t ≡ told_event (told log walk) (next_of t done) =
    ap (λ (n : Note). let x : Event = record { thread = t; at = thread.retired; note = n } in x) agrees.1
    ∙ ap (λ (k : ℕ). let x : Event = record { thread = t; at = k; note = noted (told log walk) (next_of t done) } in x) (follows.threads t there).0 in (
      ap (λ (x : Event). events_along (told log walk) done ++ x ∷ events image next schedule) event
          ∙ sym (append_assoc (events_along (told log walk) done) (told_event (told log walk) (next_of t done) ∷ []) (events image next schedule))
          ∙ rest.0,
      rest.1,
    )
