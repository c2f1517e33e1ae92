-- A schedule whose steps can stand where they do runs along a guided walk that fits it; and where its run notes what is
-- recorded, a guided walk fits it.
use Rattle.std.specs.Prelude.{◌≡◌, ℕ, ◌<◌, ◌&&◌, Bool, true, false, not, cond, List, [], ◌∷◌, length, nat_eq, Option, Some, None, is_none, refl}
use Rattle.std.proofs.Common.{sym, ◌∙◌, ap, subst, arith, inl, inr, eq-eqb, eqb-true}
use Rattle.std.proofs.lemmas.Bool.{and_parts, and_from, lt-ltb, false≢true}
use Rattle.elf_image.specs.declared.write.Write.{Write}
use Rattle.elf_image.specs.Layout.{Layout}
use Rattle.elf_image.specs.Memory.{Cells, opening_cells, cells_after, byte_in}
use Rattle.odr_log.specs.declared.log.Cause.TheVariants as cause
use Rattle.odr_log.specs.declared.log.Call.TheVariants as call
use Rattle.odr_log.specs.declared.log.Pos.{Pos}
use Rattle.rv_model.specs.declared.state.Local.{Local}
use Rattle.rv_model.specs.declared.state.Thread.{Thread}
use Rattle.rv_model.specs.declared.state.Calls.{Calls}
use Rattle.rv_model.specs.declared.state.Core.{Core}
use Rattle.rv_model.specs.declared.state.Note.{Note}
use Rattle.rv_model.specs.declared.state.Note.TheVariants as note
use Rattle.rv_model.specs.declared.state.State.{State}
use Rattle.rv_model.specs.declared.state.Stepped.{Stepped}
use Rattle.rv_model.specs.declared.hearing.Asked.{Asked}
use Rattle.rv_model.specs.declared.hearing.Outcome.{Outcome}
use Rattle.rv_model.specs.declared.hearing.Outcome.TheVariants.{Faults, Goes}
use Rattle.rv_model.specs.Thread.{no_thread}
use Rattle.rv_model.specs.Calls.{made, end_value, waits, reply_to}
use Rattle.rv_model.specs.Instruction.{access_at, asked_at, conditional_at, wins}
use Rattle.rv_model.specs.Noted.{note_in, asked_noted, reply_noted}
use Rattle.rv_model.specs.Step.{opening, memory_of, instr_at, reach_of, thread_at, halt_then, applied, after_effect, step, is_enabled}
use Rattle.rv_model.proofs.Progress.{raw_enabled, IsQuiet, quiet-act_at}
use Rattle.rv_model.proofs.Difference.{enabled_within, enabled_goes}
use Rattle.rv_model.proofs.Acts.{asked_act}
use Rattle.guided_walk.specs.Told.{Told, IsPlace, noted}
use Rattle.guided_walk.specs.Guided.{Given, Seen, Visit, Visits, at, instr_of, access_in, conditional_in, visit, IsGuided}
use Rattle.guided_walk.specs.Orders.{In, Distinct}
use Rattle.guided_walk.specs.Schedules.{count, next_of, places_after, places}
use Rattle.guided_walk.specs.Fits.{read_count, conditional_by, byte_address, memory_along, reserved, FitsVisit, FitsAlong, Explained}
use Rattle.guided_walk.specs.Along.{walk_along}
use Rattle.guided_walk.specs.Run.{calls_along, value_of, thread_along, halts, record_calls, SuitsAt, Suits, Agrees}
use Rattle.guided_walk.proofs.Table.{same_pos, Settled, Solves, apart_none, walk_solves}
use Rattle.guided_walk.proofs.Along.{Sound, Inv, GoesOn, MakesNext, heard_by, outcome_by, reserving_by, step_is, inv_opening, inv_step}
use Rattle.guided_walk.proofs.Shared.{along_alike, suits_alike, makes_next}
use Rattle.guided_walk.proofs.Here.{SeenHere, told_here, asked_same, conditional_was, walk_outcome, run_answered, run_outcome}

-- ---- the machine's step by its outcome

applied_note : (core : Core) (t : ℕ) (reservation : Option ℕ) (o : Outcome) → (applied core t reservation o).note ≡ note_in o
applied_note core t reservation (Faults fault) = refl
applied_note core t reservation (Goes local writes shown) = refl

pub step_note : (image : Layout) (state : State) (t : ℕ) → (step image state t).note ≡ note_in (outcome_by image (memory_of image state) state.core.calls t (thread_at state.core t))
step_note image state t =
    ap (λ (s : Stepped). s.note) (step_is image state t)
    ∙ applied_note state.core t (reserving_by image (thread_at state.core t)) (outcome_by image (memory_of image state) state.core.calls t (thread_at state.core t))

halt_none : (t : ℕ) (n : Note) → halts n ≡ false → halt_then t n ≡ None
halt_none t (note.Called (call.Exit code)) e = absurd (false≢true (sym e))
halt_none t (note.Faulted fault) e = refl
halt_none t note.Nothing e = refl
halt_none t (note.Branch taken) e = refl
halt_none t (note.Jump target) e = refl
halt_none t (note.Called call.EndThread) e = refl
halt_none t (note.Called (call.Spawn entry child)) e = refl
halt_none t (note.Called (call.Join target ok)) e = refl
halt_none t (note.Called (call.Lock mutex ok)) e = refl
halt_none t (note.Called (call.Unlock mutex ok)) e = refl
halt_none t (note.Called (call.TryLock mutex got)) e = refl
halt_none t (note.Called (call.Write bytes)) e = refl
halt_none t (note.Called call.WriteBad) e = refl
halt_none t (note.Called (call.Read want bytes)) e = refl
halt_none t (note.Called call.ReadBad) e = refl
halt_none t (note.Called call.SelfId) e = refl
halt_none t (note.Called call.Yield) e = refl
halt_none t (note.Called (call.Unknown number)) e = refl

-- a step that goes on and doesn't exit leaves the machine running
step_goes : (image : Layout) (state : State) (t : ℕ) (local : Local) (writes : List Write) (shown : Note)
    → outcome_by image (memory_of image state) state.core.calls t (thread_at state.core t) ≡ Goes local writes shown → halts shown ≡ false
    → (step image state t).state.core.halt ≡ None
step_goes image state t local writes shown e still =
    ap (λ (s : Stepped). s.state.core.halt) (step_is image state t
    ∙ ap (λ (o : Outcome). after_effect state (applied state.core t (reserving_by image (thread_at state.core t)) o)) e)
    ∙ halt_none t shown still

-- ---- one step

-- what a thread asks that is at this place
abbrev asked_here : Layout → Cells → Thread → Option Asked
asked_here image cells thread = asked_at thread.local (instr_at image thread.local.pc) (reach_of cells (access_at thread.local (instr_at image thread.local.pc)))

enabled_here : (image : Layout) (told : Told) (tape : List ℕ) (v : Visits) (done : List Pos) (state : State) (t : ℕ) (q : Option Asked)
    → Inv image told tape v done state → state.core.halt ≡ None → t < made (calls_along told (value_of v) tape done)
    → end_value (calls_along told (value_of v) tape done) t ≡ None → waits (calls_along told (value_of v) tape done) t q ≡ false
    → asked_here image (memory_along image v done) (thread_along image told v done t) ≡ q
    → is_enabled image state t ≡ true
enabled_here image told tape v done state t q inv running exists live ready asks =
    let there : t < length state.core.threads = omega (arith, exists, inv.many, ap made inv.calls) in
    let asked : asked_here image (memory_of image state) (thread_at state.core t) ≡ q =
    ap (λ (ws : List Write). asked_here image (cells_after (opening_cells image) ws) (thread_at state.core t)) inv.writes
    ∙ ap (asked_here image (memory_along image v done)) (inv.threads t there) ∙ asks in
    let free : waits state.core.calls t (asked_here image (memory_of image state) (thread_at state.core t)) ≡ false =
    ap (waits state.core.calls t) asked ∙ ap (λ (c : Calls). waits c t q) inv.calls ∙ ready in
    let alive : is_none (end_value state.core.calls t) ≡ true = ap (λ (c : Calls). is_none (end_value c t)) inv.calls ∙ ap is_none live in
    raw_enabled image state t
    ∙ and_from _ _ (and_from _ _ (and_from _ _ (lt-ltb t (length state.core.threads) there) alive) (ap is_none running)) (ap not free)

-- an outcome whose note doesn't halt goes on
pub record Goer (o : Outcome) : Type 0 where
  pub local : Local
  pub writes : List Write
  pub shown : Note
  pub is : o ≡ Goes local writes shown

goer : (o : Outcome) → halts (note_in o) ≡ false → Goer o
goer (Faults fault) e = absurd (false≢true (sym e))
goer (Goes local writes shown) e = record { local = local; writes = writes; shown = shown; is = refl }

none_after : (done : List Pos) (schedule : List ℕ) → places_after done schedule ≡ [] → schedule ≡ []
none_after done [] e = refl
none_after done (t ∷ schedule) e = absurd (let h : (next_of t done ∷ places_after (next_of t done ∷ done) schedule) ≡ [] = e in cc)

-- ---- from the walk to the run

pub guided_agrees : (image : Layout) (told : Told) (given : Given) (tape : List ℕ) (v : Visits) (done : List Pos) (state : State) (schedule : List ℕ)
    → Sound told → IsGuided image told given v → Inv image told tape v done state → state.core.halt ≡ None
    → Suits told tape done (places_after done schedule) → FitsAlong image given v done (places_after done schedule) → Agrees image told state done schedule
guided_agrees image told given tape v done state [] sound guided inv running suits fits = tt
guided_agrees image told given tape v done state (t ∷ schedule) sound guided inv running suits fits =
    let p : Pos = next_of t done in
    let calls : Calls = calls_along told (value_of v) tape done in
    let here : SuitsAt told calls p =
    suits_alike told (record_calls told tape done) calls p (along_alike told (λ (q : Pos). 0) (value_of v) tape done) suits.0 in
    let there : t < length state.core.threads = omega (arith, here.exists, inv.many, ap made inv.calls) in
    let solves : at v p ≡ visit image told given v t (count t done) = guided.solves p here.place in
    let shows : note_in (at v p).outcome ≡ noted told p = guided.shows p here.place in
    let outcome : outcome_by image (memory_of image state) state.core.calls t (thread_at state.core t) ≡ (at v p).outcome =
    walk_outcome image told given tape v done state t sound inv there solves shows fits.0 here.answered in
    let seen : Seen = SeenHere image told v done t in
    let asks : asked_here image (memory_along image v done) (thread_along image told v done t) ≡ asked_noted (noted told p) =
    asked_same image told given tape v done t
    ∙ sym (asked_act seen.local (instr_of image seen) (told_here image told given v done t))
    ∙ ap (λ (x : Visit). asked_noted (note_in x.outcome)) (sym solves) ∙ ap asked_noted shows in
    let enabled : is_enabled image state t ≡ true =
    enabled_here image told tape v done state t (asked_noted (noted told p)) inv running here.exists here.live here.ready asks in
    let notes : (step image state t).note ≡ noted told p = step_note image state t ∙ ap note_in outcome ∙ shows in (
      enabled,
      notes,
      on image told given tape v done state t schedule sound guided inv there here suits fits solves outcome shows (halts (noted told p)) refl
          (guided_agrees image told given tape v (p ∷ done) (step image state t).state schedule sound guided),
    ) where
      on : (image : Layout) (told : Told) (given : Given) (tape : List ℕ) (v : Visits) (done : List Pos) (state : State) (t : ℕ) (schedule : List ℕ)
          → Sound told → IsGuided image told given v → Inv image told tape v done state → t < length state.core.threads
          → SuitsAt told (calls_along told (value_of v) tape done) (next_of t done)
          → Suits told tape done (places_after done (t ∷ schedule)) → FitsAlong image given v done (places_after done (t ∷ schedule))
          → at v (next_of t done) ≡ visit image told given v t (count t done)
          → outcome_by image (memory_of image state) state.core.calls t (thread_at state.core t) ≡ (at v (next_of t done)).outcome
          → note_in (at v (next_of t done)).outcome ≡ noted told (next_of t done)
          → (b : Bool) → halts (noted told (next_of t done)) ≡ b
          → (Inv image told tape v (next_of t done ∷ done) (step image state t).state → (step image state t).state.core.halt ≡ None
          → Suits told tape (next_of t done ∷ done) (places_after (next_of t done ∷ done) schedule)
          → FitsAlong image given v (next_of t done ∷ done) (places_after (next_of t done ∷ done) schedule)
          → Agrees image told (step image state t).state (next_of t done ∷ done) schedule)
          → Agrees image told (step image state t).state (next_of t done ∷ done) schedule
      on image told given tape v done state t schedule sound guided inv there here suits fits solves outcome shows true e again =
          let p : Pos = next_of t done in
          let ended : schedule ≡ [] = none_after (p ∷ done) schedule (suits.1 e) in
          subst (λ (s : List ℕ). Agrees image told (step image state t).state (p ∷ done) s) (sym ended) tt
      on image told given tape v done state t schedule sound guided inv there here suits fits solves outcome shows false e again =
          let p : Pos = next_of t done in
          let g : Goer (at v p).outcome = goer (at v p).outcome (ap halts shows ∙ e) in
          let shown_is : g.shown ≡ noted told p = ap note_in (sym g.is) ∙ shows in
          let goes : GoesOn image told v done t g.local g.writes g.shown = record {
            place = here.place;
            seen = ap (λ (x : Visit). x.seen) solves;
            outcome = g.is;
            shows = shown_is;
          } in
          let makes : MakesNext (length state.core.threads) g.shown =
          subst (λ (n : ℕ). MakesNext n g.shown) (sym (inv.many ∙ ap made inv.calls))
          (subst (λ (n : Note). MakesNext (made (calls_along told (value_of v) tape done)) n) (sym shown_is)
          (makes_next (calls_along told (value_of v) tape done) t (noted told p) here.answered)) in
          again
          (inv_step image told tape v done state t g.local g.writes g.shown sound inv there goes makes (outcome ∙ g.is))
          (step_goes image state t g.local g.writes g.shown (outcome ∙ g.is) (ap halts shown_is ∙ e))
          suits.2 fits.1

-- ---- from the run to the walk

-- the state before a step of a run
abbrev pub state_at : Layout → State → List Pos → List ℕ → Pos → Option State
state_at image state done [] p = None
state_at image state done (t ∷ schedule) p =
    cond (nat_eq t p.thread && nat_eq (count t done) p.step) (Some state)
    (state_at image (step image state t).state (next_of t done ∷ done) schedule p)

-- the bytes that a step of a thread met in a state, and whether it would succeed as a store-conditional
abbrev met_in : Layout → Option State → ℕ → ℕ → ℕ
met_in image None t i = 0
met_in image (Some state) t i =
    let thread : Thread = thread_at state.core t in
    byte_in (memory_of image state (byte_address (access_at thread.local (instr_at image thread.local.pc)).address i))

abbrev won_in : Layout → Option State → ℕ → Bool
won_in image None t = false
won_in image (Some state) t =
    let thread : Thread = thread_at state.core t in wins (conditional_at thread.local (instr_at image thread.local.pc)) thread.reservation

-- what a run gives to each of its steps
abbrev pub given_by : Layout → State → List ℕ → Given
given_by image state schedule = record {
  bytes = λ (t step i : ℕ). met_in image (state_at image state [] schedule (record { thread = t; step = step })) t i;
  won = λ (t step : ℕ). won_in image (state_at image state [] schedule (record { thread = t; step = step })) t;
}

state_here : (image : Layout) (state : State) (done : List Pos) (t : ℕ) (schedule : List ℕ) → state_at image state done (t ∷ schedule) (next_of t done) ≡ Some state
state_here image state done t schedule =
    ap (λ (b : Bool). cond b (Some state) (state_at image (step image state t).state (next_of t done ∷ done) schedule (next_of t done)))
    (and_from _ _ (eq-eqb t t refl) (eq-eqb (count t done) (count t done) refl))

not_first : (p q : Pos) → (p ≡ q → ⊥) → (b : Bool) → (nat_eq p.thread q.thread && nat_eq p.step q.step) ≡ b → b ≡ false
not_first p q other true e =
    absurd (other (same_pos p q (sym (eqb-true p.thread q.thread (and_parts _ _ e).0)) (sym (eqb-true p.step q.step (and_parts _ _ e).1))))
not_first p q other false e = refl

state_later : (image : Layout) (state : State) (done : List Pos) (t : ℕ) (schedule : List ℕ) (p : Pos) → (next_of t done ≡ p → ⊥)
    → state_at image state done (t ∷ schedule) p ≡ state_at image (step image state t).state (next_of t done ∷ done) schedule p
state_later image state done t schedule p other =
    ap (λ (b : Bool). cond b (Some state) (state_at image (step image state t).state (next_of t done ∷ done) schedule p))
    (not_first (next_of t done) p other (nat_eq t p.thread && nat_eq (count t done) p.step) refl)

-- the places of the rest are looked up in the rest
abbrev LooksUp : Layout → Given → State → List Pos → List ℕ → Type 0
LooksUp image given state done schedule = (p : Pos) → In p (places_after done schedule)
    → (given.bytes p.thread p.step ≡ met_in image (state_at image state done schedule p) p.thread)
    × (given.won p.thread p.step ≡ won_in image (state_at image state done schedule p) p.thread)

-- what a run gives to a step is what memory and reservations are there
given_fits : (image : Layout) (told : Told) (given : Given) (tape : List ℕ) (v : Visits) (done : List Pos) (state : State) (t : ℕ) (schedule : List ℕ)
    → Inv image told tape v done state → t < length state.core.threads → LooksUp image given state done (t ∷ schedule)
    → (o : Outcome) → FitsVisit image given (memory_along image v done) (reserved image v t done) (next_of t done) (record { seen = SeenHere image told v done t; outcome = o })
given_fits image told given tape v done state t schedule inv there looks o =
    let p : Pos = next_of t done in
    let seen : Seen = SeenHere image told v done t in
    let found : state_at image state done (t ∷ schedule) p ≡ Some state = state_here image state done t schedule in
    let thread : thread_at state.core t ≡ thread_along image told v done t = inv.threads t there in
    record {
      bytes = λ (i : ℕ) (less : i < read_count image (record { seen = seen; outcome = o })).
          ap (λ (f : ℕ → ℕ). f i) (looks p (inl refl)).0
          ∙ ap (λ (s : Option State). met_in image s t i) found
          ∙ ap (λ (x : Thread). byte_in (memory_of image state (byte_address (access_at x.local (instr_at image x.local.pc)).address i))) thread
          ∙ ap (λ (ws : List Write). byte_in (cells_after (opening_cells image) ws (byte_address (access_in image seen).address i))) inv.writes;
      won = λ (a l : ℕ) (e : conditional_by (conditional_in image seen) o ≡ Some a) (linked : seen.link ≡ Some l).
          (looks p (inl refl)).1
          ∙ ap (λ (s : Option State). won_in image s t) found
          ∙ ap (λ (x : Thread). wins (conditional_at x.local (instr_at image x.local.pc)) x.reservation) thread
          ∙ ap (λ (c : Option ℕ). wins c (reserved image v t done)) (conditional_was (conditional_in image seen) o a e);
    }

looks_on : (image : Layout) (given : Given) (state : State) (done : List Pos) (t : ℕ) (schedule : List ℕ) → Distinct (places_after done (t ∷ schedule))
    → LooksUp image given state done (t ∷ schedule) → LooksUp image given (step image state t).state (next_of t done ∷ done) schedule
looks_on image given state done t schedule distinct looks p i =
    let later : state_at image state done (t ∷ schedule) p ≡ state_at image (step image state t).state (next_of t done ∷ done) schedule p =
    state_later image state done t schedule p (λ (e : next_of t done ≡ p). distinct.0 (subst (λ (q : Pos). In q (places_after (next_of t done ∷ done) schedule)) (sym e) i)) in
    let here = looks p (inr i) in
    (here.0 ∙ ap (λ (s : Option State). met_in image s p.thread) later, here.1 ∙ ap (λ (s : Option State). won_in image s p.thread) later)

-- nothing runs after a halt

halt_some : (t : ℕ) (local : Local) (writes : List Write) (n : Note) → IsQuiet (Goes local writes n) → halts n ≡ true → is_none (halt_then t n) ≡ false
halt_some t local writes (note.Called (call.Exit code)) quiet e = refl
halt_some t local writes (note.Faulted fault) quiet e = absurd quiet
halt_some t local writes note.Nothing quiet e = absurd (false≢true e)
halt_some t local writes (note.Branch taken) quiet e = absurd (false≢true e)
halt_some t local writes (note.Jump target) quiet e = absurd (false≢true e)
halt_some t local writes (note.Called call.EndThread) quiet e = absurd (false≢true e)
halt_some t local writes (note.Called (call.Spawn entry child)) quiet e = absurd (false≢true e)
halt_some t local writes (note.Called (call.Join target ok)) quiet e = absurd (false≢true e)
halt_some t local writes (note.Called (call.Lock mutex ok)) quiet e = absurd (false≢true e)
halt_some t local writes (note.Called (call.Unlock mutex ok)) quiet e = absurd (false≢true e)
halt_some t local writes (note.Called (call.TryLock mutex got)) quiet e = absurd (false≢true e)
halt_some t local writes (note.Called (call.Write bytes)) quiet e = absurd (false≢true e)
halt_some t local writes (note.Called call.WriteBad) quiet e = absurd (false≢true e)
halt_some t local writes (note.Called (call.Read want bytes)) quiet e = absurd (false≢true e)
halt_some t local writes (note.Called call.ReadBad) quiet e = absurd (false≢true e)
halt_some t local writes (note.Called call.SelfId) quiet e = absurd (false≢true e)
halt_some t local writes (note.Called call.Yield) quiet e = absurd (false≢true e)
halt_some t local writes (note.Called (call.Unknown number)) quiet e = absurd (false≢true e)

halted_by : (core : Core) (t : ℕ) (reservation : Option ℕ) (o : Outcome) → IsQuiet o → halts (note_in o) ≡ true → is_none (applied core t reservation o).core.halt ≡ false
halted_by core t reservation (Faults fault) quiet e = refl
halted_by core t reservation (Goes local writes shown) quiet e = halt_some t local writes shown quiet e

pub halted_step : (image : Layout) (state : State) (t : ℕ) → halts (step image state t).note ≡ true → is_none (step image state t).state.core.halt ≡ false
halted_step image state t e =
    let thread : Thread = thread_at state.core t in
    let o : Outcome = outcome_by image (memory_of image state) state.core.calls t thread in
    ap (λ (s : Stepped). is_none s.state.core.halt) (step_is image state t)
    ∙ halted_by state.core t (reserving_by image thread) o (quiet-act_at thread.local (instr_at image thread.local.pc) (heard_by image (memory_of image state) state.core.calls t thread))
    (ap halts (sym (step_note image state t)) ∙ e)

pub nothing_after : (image : Layout) (told : Told) (state : State) (done : List Pos) (schedule : List ℕ) → is_none state.core.halt ≡ false
    → Agrees image told state done schedule → schedule ≡ []
nothing_after image told state done [] halted agrees = refl
nothing_after image told state done (t ∷ schedule) halted agrees = absurd (false≢true (sym halted ∙ enabled_goes image state t agrees.0))

-- what a schedule's steps owe
abbrev FitsAndShows : Layout → Told → Given → Visits → List Pos → List Pos → Type 0
FitsAndShows image told given v done later =
    FitsAlong image given v done later × ((p : Pos) → In p later → note_in (at v p).outcome ≡ noted told p)

shows_cons : (told : Told) (v : Visits) (p : Pos) (later : List Pos) → note_in (at v p).outcome ≡ noted told p
    → ((q : Pos) → In q later → note_in (at v q).outcome ≡ noted told q) → (q : Pos) → In q (p ∷ later) → note_in (at v q).outcome ≡ noted told q
shows_cons told v p later here rest q (inl e) = subst (λ (r : Pos). note_in (at v r).outcome ≡ noted told r) e here
shows_cons told v p later here rest q (inr i) = rest q i

-- the rest of a run, where the step goes on; after a halt there is none
agrees_on : (image : Layout) (told : Told) (given : Given) (tape : List ℕ) (v : Visits) (done : List Pos) (state : State) (t : ℕ) (schedule : List ℕ)
    → Sound told → Inv image told tape v done state → t < length state.core.threads → LooksUp image given state done (t ∷ schedule)
    → Distinct (places_after done (t ∷ schedule)) → ((p : Pos) → In p (places_after done (t ∷ schedule)) → IsPlace told p)
    → Solves image told given v (places_after done (t ∷ schedule)) → Agrees image told state done (t ∷ schedule)
    → at v (next_of t done) ≡ visit image told given v t (count t done)
    → (at v (next_of t done)).outcome ≡ outcome_by image (memory_of image state) state.core.calls t (thread_at state.core t)
    → note_in (at v (next_of t done)).outcome ≡ noted told (next_of t done)
    → (b : Bool) → halts (noted told (next_of t done)) ≡ b
    → (Inv image told tape v (next_of t done ∷ done) (step image state t).state → FitsAndShows image told given v (next_of t done ∷ done) (places_after (next_of t done ∷ done) schedule))
    → FitsAndShows image told given v (next_of t done ∷ done) (places_after (next_of t done ∷ done) schedule)
agrees_on image told given tape v done state t schedule sound inv there looks distinct only solves agrees is outcome shows true e again =
    let p : Pos = next_of t done in
    let ended : schedule ≡ [] =
    nothing_after image told (step image state t).state (p ∷ done) schedule (halted_step image state t (ap halts agrees.1 ∙ e)) agrees.2 in
    subst (λ (s : List ℕ). FitsAndShows image told given v (p ∷ done) (places_after (p ∷ done) s)) (sym ended) (tt, λ (q : Pos) (i : In q []). absurd i)
agrees_on image told given tape v done state t schedule sound inv there looks distinct only solves agrees is outcome shows false e again =
    let p : Pos = next_of t done in
    let g : Goer (at v p).outcome = goer (at v p).outcome (ap halts shows ∙ e) in
    let shown_is : g.shown ≡ noted told p = ap note_in (sym g.is) ∙ shows in
    let goes : GoesOn image told v done t g.local g.writes g.shown = record {
      place = only p (inl refl);
      seen = ap (λ (x : Visit). x.seen) is;
      outcome = g.is;
      shows = shown_is;
    } in
    let answered : reply_to (calls_along told (value_of v) tape done) t (asked_noted (noted told p)) ≡ reply_noted (noted told p) =
    run_answered image told tape v done state t inv there (ap note_in (sym outcome) ∙ shows) in
    let makes : MakesNext (length state.core.threads) g.shown =
    subst (λ (n : ℕ). MakesNext n g.shown) (sym (inv.many ∙ ap made inv.calls))
    (subst (λ (n : Note). MakesNext (made (calls_along told (value_of v) tape done)) n) (sym shown_is)
    (makes_next (calls_along told (value_of v) tape done) t (noted told p) answered)) in
    again (inv_step image told tape v done state t g.local g.writes g.shown sound inv there goes makes (sym outcome ∙ g.is))

pub agrees_fits : (image : Layout) (told : Told) (given : Given) (tape : List ℕ) (v : Visits) (done : List Pos) (state : State) (schedule : List ℕ)
    → Sound told → Inv image told tape v done state → LooksUp image given state done schedule → Distinct (places_after done schedule)
    → ((p : Pos) → In p (places_after done schedule) → IsPlace told p) → Solves image told given v (places_after done schedule)
    → Agrees image told state done schedule → FitsAndShows image told given v done (places_after done schedule)
agrees_fits image told given tape v done state [] sound inv looks distinct only solves agrees = (tt, λ (p : Pos) (i : In p []). absurd i)
agrees_fits image told given tape v done state (t ∷ schedule) sound inv looks distinct only solves agrees =
    let p : Pos = next_of t done in
    let there : t < length state.core.threads = enabled_within image state t agrees.0 in
    let o : Outcome = outcome_by image (memory_of image state) state.core.calls t (thread_at state.core t) in
    let notes : note_in o ≡ noted told p = sym (step_note image state t) ∙ agrees.1 in
    let fits : (x : Outcome) → FitsVisit image given (memory_along image v done) (reserved image v t done) p (record { seen = SeenHere image told v done t; outcome = x }) =
    given_fits image told given tape v done state t schedule inv there looks in
    let same : (visit image told given v t (count t done)).outcome ≡ o = run_outcome image told given tape v done state t sound inv there fits notes in
    let is : at v p ≡ visit image told given v t (count t done) = solves p (inl refl) in
    let here : FitsVisit image given (memory_along image v done) (reserved image v t done) p (at v p) =
    subst (FitsVisit image given (memory_along image v done) (reserved image v t done) p) (sym is) (fits (visit image told given v t (count t done)).outcome) in
    let outcome : (at v p).outcome ≡ o = ap (λ (x : Visit). x.outcome) is ∙ same in
    let shows : note_in (at v p).outcome ≡ noted told p = ap note_in outcome ∙ notes in
    let rest : FitsAndShows image told given v (p ∷ done) (places_after (p ∷ done) schedule) =
    agrees_on image told given tape v done state t schedule sound inv there looks distinct only solves agrees is outcome shows (halts (noted told p)) refl
    (λ (next : Inv image told tape v (p ∷ done) (step image state t).state).
    agrees_fits image told given tape v (p ∷ done) (step image state t).state schedule sound next
    (looks_on image given state done t schedule distinct looks) distinct.1 (λ (q : Pos) (i : In q (places_after (p ∷ done) schedule)). only q (inr i))
    (λ (q : Pos) (i : In q (places_after (p ∷ done) schedule)). solves q (inr i)) agrees.2) in
    ((here, rest.0), shows_cons told v p (places_after (p ∷ done) schedule) shows rest.1)

abbrev nothing_seen : Visits
nothing_seen t step = record { seen = record { local = no_thread.local; link = None }; outcome = Faults cause.Illegal }

-- A run that notes what is recorded is explained by what it read.
pub agrees_explained : (image : Layout) (told : Told) (tape : List ℕ) (schedule : List ℕ) → Sound told
    → Settled told [] (places schedule) → Distinct (places schedule) → ((p : Pos) → In p (places schedule) → IsPlace told p)
    → ((p : Pos) → IsPlace told p → In p (places schedule)) → Agrees image told (opening image tape) [] schedule → Explained image told schedule
agrees_explained image told tape schedule sound settled distinct only all agrees =
    let given : Given = given_by image (opening image tape) schedule in
    let v : Visits = walk_along image told given (places schedule) nothing_seen in
    let solves : Solves image told given v (places schedule) =
    λ (p : Pos) (i : In p (places schedule)). walk_solves image told given [] (places schedule) nothing_seen settled distinct (apart_none (places schedule)) p i in
    let both : FitsAndShows image told given v [] (places schedule) =
    agrees_fits image told given tape v [] (opening image tape) schedule sound (inv_opening image told tape v)
    (λ (p : Pos) (i : In p (places schedule)). (refl, refl)) distinct only solves agrees in
    record {
      given = given;
      visits = v;
      guided = record {
        solves = λ (p : Pos) (place : IsPlace told p). solves p (all p place);
        shows = λ (p : Pos) (place : IsPlace told p). both.1 p (all p place);
      };
      fits = both.0;
    }

-- A schedule that a guided walk fits runs as it is recorded, where its steps can stand where they do.
pub explained_agrees : (image : Layout) (told : Told) (tape : List ℕ) (schedule : List ℕ) → Sound told → Suits told tape [] (places schedule)
    → Explained image told schedule → Agrees image told (opening image tape) [] schedule
explained_agrees image told tape schedule sound suits explained =
    guided_agrees image told explained.given tape explained.visits [] (opening image tape) schedule sound explained.guided
    (inv_opening image told tape explained.visits) refl suits explained.fits
