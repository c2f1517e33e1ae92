-- One step of a run: it falls, and leaves threads and calls as they are, or it goes on where its note leads.
use Rattle.std.specs.Prelude.{◌≡◌, ℕ, ◌+◌, ◌-◌, ◌<◌, ◌≤◌, Bool, true, false, not, List, length, Option, Some, None, is_none, Ok, refl}
use Rattle.std.proofs.Common.{sym, ◌∙◌, ap, subst, arith, get_or}
use Rattle.std.proofs.lemmas.Bool.{and_parts, ltb-true}
use Rattle.elf_image.specs.declared.write.Write.{Write}
use Rattle.elf_image.specs.Layout.{Layout}
use Rattle.rv32_decode.specs.declared.instr.Instr.{Instr}
use Rattle.odr_log.specs.declared.log.Call.{Call}
use Rattle.odr_log.specs.declared.log.Call.TheVariants as call
use Rattle.odr_log.specs.declared.log.Cause.{Cause}
use Rattle.rv_model.specs.declared.state.Local.{Local}
use Rattle.rv_model.specs.declared.state.Thread.{Thread}
use Rattle.rv_model.specs.declared.state.Calls.{Calls}
use Rattle.rv_model.specs.declared.state.Core.{Core}
use Rattle.rv_model.specs.declared.state.Halt.TheVariants as halt
use Rattle.rv_model.specs.declared.state.Note.{Note}
use Rattle.rv_model.specs.declared.state.Note.TheVariants as note
use Rattle.rv_model.specs.declared.state.State.{State}
use Rattle.rv_model.specs.declared.state.Stepped.{Stepped}
use Rattle.rv_model.specs.declared.hearing.Heard.{Heard}
use Rattle.rv_model.specs.declared.hearing.Outcome.{Outcome}
use Rattle.rv_model.specs.declared.hearing.Outcome.TheVariants.{Faults, Goes}
use Rattle.rv_model.specs.Thread.{no_thread}
use Rattle.rv_model.specs.Calls.{made, end_value, waits, reply_to, first_argument}
use Rattle.rv_model.specs.CallsFit.{FitsRecord}
use Rattle.rv_model.specs.Instruction.{asked_at}
use Rattle.rv_model.specs.Noted.{note_in, asked_noted, reply_noted, LeadsOn}
use Rattle.rv_model.specs.Step.{memory_of, instr_at, next_instr, reach_at, thread_at, child_of, calls_then, halt_then, applied, faulted, gone, after_effect, step, is_enabled}
use Rattle.rv_model.specs.Walk.{transfer_of, goes_to, may_fault}
use Rattle.rv_model.proofs.Acts.{asked_act, told_act, walks_on_at}
use Rattle.rv_model.proofs.Progress.{IsQuiet, quiet-act_at, own_then, other_then, raw_enabled}
use Rattle.rv_model.proofs.Bounds.{beyond}
use Rattle.guided_walk.proofs.Along.{After, MakesNext, MakesOne, MakesNone, heard_by, outcome_by, reserving_by, step_is, many_then, more_then, threads_none, threads_one}
use Rattle.guided_walk.proofs.LoggedRun.{makes_by, not_faulted}
use Rattle.guided_walk.proofs.Records.{rec}
use Rattle.logged_walks.proofs.Possible.{called_possible}

abbrev pub pc_of : Core → ℕ → ℕ
pc_of core u = (thread_at core u).local.pc

abbrev pub retired_of : Core → ℕ → ℕ
retired_of core u = (thread_at core u).retired

-- the threads are those that were made
abbrev pub Many : State → Type 0
Many state = length state.core.threads ≡ made state.core.calls

-- ---- what is asked of an enabled thread

-- a thread that exists, has not ended and does not wait in what its step asks
pub record Ready (image : Layout) (state : State) (t : ℕ) : Type 0 where
  pub there : t < length state.core.threads
  pub live : end_value state.core.calls t ≡ None
  pub running : is_none state.core.halt ≡ true
  pub waits : waits state.core.calls t (asked_at (thread_at state.core t).local (next_instr image state.core t) (reach_at image (memory_of image state) state.core t)) ≡ false

none_by : (o : Option ℕ) → is_none o ≡ true → o ≡ None
none_by None e = refl
none_by (Some x) e = absurd (let f : false ≡ true = e in cc)

not_by : (b : Bool) → not b ≡ true → b ≡ false
not_by false e = refl
not_by true e = absurd (let f : false ≡ true = e in cc)

pub ready : (image : Layout) (state : State) (t : ℕ) → is_enabled image state t ≡ true → Ready image state t
ready image state t enabled =
    let all = sym (raw_enabled image state t) ∙ enabled in
    let three = (and_parts _ _ all).0 in
    let two = (and_parts _ _ three).0 in
    record {
      there = ltb-true t (length state.core.threads) (and_parts _ _ two).0;
      live = none_by (end_value state.core.calls t) (and_parts _ _ two).1;
      running = (and_parts _ _ three).1;
      waits = not_by _ (and_parts _ _ all).1;
    }

-- ---- the two ways of a step

-- a fault that may be there
pub record Fell (image : Layout) (state : State) (t : ℕ) (fault : Cause) (s : Stepped) : Type 0 where
  pub note : s.note ≡ note.Faulted fault
  pub halts : s.state.core.halt ≡ Some (halt.Faulted t fault)
  pub threads : s.state.core.threads ≡ state.core.threads
  pub calls : s.state.core.calls ≡ state.core.calls
  pub fits : may_fault fault (pc_of state.core t) (instr_at image (pc_of state.core t)) ≡ true

-- a thread that a step made begins at the entry of its spawn
pub record IsNew (state : State) (s : Stepped) (u : ℕ) : Type 0 where
  pub spawned : s.note ≡ note.Called (call.Spawn (pc_of s.state.core u) (Some u))
  pub is : u ≡ length state.core.threads
  pub retired : retired_of s.state.core u ≡ 0

-- one thread goes on, others stay
pub record Went (image : Layout) (state : State) (t : ℕ) (s : Stepped) : Type 0 where
  pub instruction : Instr
  pub fetched : instr_at image (pc_of state.core t) ≡ Ok instruction
  pub goes : goes_to (pc_of state.core t) (transfer_of (pc_of state.core t) instruction) s.note ≡ Some (pc_of s.state.core t)
  pub retired : retired_of s.state.core t ≡ retired_of state.core t + 1
  pub other_pc : (u : ℕ) → u < length state.core.threads → (u ≡ t → ⊥) → pc_of s.state.core u ≡ pc_of state.core u
  pub other_retired : (u : ℕ) → u < length state.core.threads → (u ≡ t → ⊥) → retired_of s.state.core u ≡ retired_of state.core u
  pub new : (u : ℕ) → length state.core.threads ≤ u → u < length s.state.core.threads → IsNew state s u
  pub makes : MakesNext (length state.core.threads) s.note
  pub halts : s.state.core.halt ≡ halt_then t s.note
  pub calls : s.state.core.calls ≡ calls_then state.core.calls t (first_argument (thread_at state.core t).local) s.note
  pub many : Many s.state
  pub more : length state.core.threads ≤ length s.state.core.threads
  pub quiet : (fault : Cause) → s.note ≡ note.Faulted fault → ⊥
  pub fits : (made : Call) → s.note ≡ note.Called made → FitsRecord state.core.calls (rec t (retired_of state.core t) made)

pub data StepOf (image : Layout) (state : State) (t : ℕ) (s : Stepped) : Type 0 where
  Falls : {fault : Cause} → Fell image state t fault s → StepOf image state t s
  Moves : Went image state t s → StepOf image state t s

-- ---- a step that goes on

-- the record of its call fits the shared state
called_fits : (image : Layout) (state : State) (t : ℕ) (local : Local) (writes : List Write) (shown : Note) (i : Instr) (made : Call) → Many state → Ready image state t
    → outcome_by image (memory_of image state) state.core.calls t (thread_at state.core t) ≡ Goes local writes shown
    → instr_at image (pc_of state.core t) ≡ Ok i → goes_to (pc_of state.core t) (transfer_of (pc_of state.core t) i) shown ≡ Some local.pc
    → shown ≡ note.Called made → FitsRecord state.core.calls (rec t (retired_of state.core t) made)
called_fits image state t local writes shown i made many able e at goes is =
    let thread : Thread = thread_at state.core t in
    let calls : Calls = state.core.calls in
    let heard : Heard = heard_by image (memory_of image state) calls t thread in
    let asks : asked_noted shown ≡ asked_at thread.local (instr_at image thread.local.pc) heard.reach =
    ap (λ (o : Outcome). asked_noted (note_in o)) (sym e) ∙ asked_act thread.local (instr_at image thread.local.pc) heard in
    let answered : reply_to calls t (asked_noted shown) ≡ reply_noted shown =
    ap (reply_to calls t) asks ∙ sym (told_act calls t thread.local (instr_at image thread.local.pc) heard refl) ∙ ap (λ (o : Outcome). reply_noted (note_in o)) e in
    record {
      exists = omega (arith, able.there, many);
      live = able.live;
      ready = subst (λ (n : Note). waits calls t (asked_noted n) ≡ false) is (ap (waits calls t) asks ∙ able.waits);
      answered = subst (λ (n : Note). reply_to calls t (asked_noted n) ≡ reply_noted n) is answered;
      possible = called_possible image (memory_of image state) calls t thread i made local.pc at
          (subst (λ (n : Note). goes_to thread.local.pc (transfer_of thread.local.pc i) n ≡ Some local.pc) is goes) (ap note_in e ∙ is);
    }

-- the thread that it makes
new_by : (state : State) (t : ℕ) (reservation : Option ℕ) (local : Local) (writes : List Write) (shown : Note) → MakesNext (length state.core.threads) shown
    → (u : ℕ) → length state.core.threads ≤ u → u < length (gone state.core t reservation local writes shown).core.threads
    → IsNew state (after_effect state (gone state.core t reservation local writes shown)) u
new_by state t reservation local writes shown (MakesNone none keeps) u past within =
    let core : Core = state.core in
    absurd (omega (arith, past, within, threads_none core t reservation local writes shown (none (thread_at core t).local)))
new_by state t reservation local writes shown (MakesOne {entry = entry} {child = new} is next) u past within =
    let core : Core = state.core in
    let here : u ≡ length core.threads = omega (arith, past, within, threads_one core t reservation local writes shown entry new is) in
    let child : Thread = get_or (child_of (thread_at core t).local shown) 0 no_thread in
    let at : thread_at (gone core t reservation local writes shown).core u ≡ child =
    beyond t u writes core.threads (child_of (thread_at core t).local shown) (After core t reservation local) past
    ∙ ap (λ (k : ℕ). get_or (child_of (thread_at core t).local shown) k no_thread) (let z : u - length core.threads ≡ 0 = omega (arith, here) in z) in
    let pc : (get_or (child_of (thread_at core t).local shown) 0 no_thread).local.pc ≡ entry =
    subst (λ (n : Note). (get_or (child_of (thread_at core t).local n) 0 no_thread).local.pc ≡ entry) (sym is) refl in
    let none : (get_or (child_of (thread_at core t).local shown) 0 no_thread).retired ≡ 0 =
    subst (λ (n : Note). (get_or (child_of (thread_at core t).local n) 0 no_thread).retired ≡ 0) (sym is) refl in
    record {
      spawned = is ∙ ap (λ (c : ℕ). note.Called (call.Spawn entry (Some c))) (next ∙ sym here)
          ∙ ap (λ (a : ℕ). note.Called (call.Spawn a (Some u))) (sym pc ∙ ap (λ (x : Thread). x.local.pc) (sym at));
      is = here;
      retired = ap (λ (x : Thread). x.retired) at ∙ none;
    }

went_by : (image : Layout) (state : State) (t : ℕ) (reservation : Option ℕ) (local : Local) (writes : List Write) (shown : Note) → Many state → Ready image state t
    → outcome_by image (memory_of image state) state.core.calls t (thread_at state.core t) ≡ Goes local writes shown → IsQuiet (Goes local writes shown)
    → LeadsOn (pc_of state.core t) (instr_at image (pc_of state.core t)) (Goes local writes shown)
    → Went image state t (after_effect state (gone state.core t reservation local writes shown))
went_by image state t reservation local writes shown many able e quiet leads =
    let core : Core = state.core in
    let child : List Thread = child_of (thread_at core t).local shown in
    let after : Thread = After core t reservation local in
    let makes : MakesNext (length core.threads) shown = makes_by image state t local writes shown many e in
    let own : thread_at (gone core t reservation local writes shown).core t ≡ after = own_then t writes core.threads child after able.there in
    record {
      instruction = leads.0;
      fetched = leads.1;
      goes = leads.2 ∙ ap (λ (x : Thread). Some x.local.pc) (sym own);
      retired = ap (λ (x : Thread). x.retired) own;
      other_pc = λ (u : ℕ) (less : u < length core.threads) (ne : u ≡ t → ⊥). ap (λ (x : Thread). x.local.pc) (other_then t u writes core.threads child after less ne);
      other_retired = λ (u : ℕ) (less : u < length core.threads) (ne : u ≡ t → ⊥). ap (λ (x : Thread). x.retired) (other_then t u writes core.threads child after less ne);
      new = λ (u : ℕ) (past : length core.threads ≤ u) (within : u < length (gone core t reservation local writes shown).core.threads).
          new_by state t reservation local writes shown makes u past within;
      makes = makes;
      halts = refl;
      calls = refl;
      many = many_then core t reservation local writes shown makes many;
      more = more_then core t reservation local writes shown makes;
      quiet = not_faulted shown local writes quiet;
      fits = λ (made : Call) (is : shown ≡ note.Called made). called_fits image state t local writes shown leads.0 made many able e leads.1 leads.2 is;
    }

-- ---- each step

step_by : (image : Layout) (state : State) (t : ℕ) (o : Outcome) → Many state → Ready image state t
    → outcome_by image (memory_of image state) state.core.calls t (thread_at state.core t) ≡ o → IsQuiet o
    → LeadsOn (pc_of state.core t) (instr_at image (pc_of state.core t)) o → StepOf image state t (step image state t)
step_by image state t (Faults fault) many able e quiet leads =
    let is : step image state t ≡ after_effect state (faulted state.core t fault) =
    step_is image state t ∙ ap (λ (o : Outcome). after_effect state (applied state.core t (reserving_by image (thread_at state.core t)) o)) e in
    Falls {fault = fault} (subst (λ (s : Stepped). Fell image state t fault s) (sym is) (record { note = refl; halts = refl; threads = refl; calls = refl; fits = leads }))
step_by image state t (Goes local writes shown) many able e quiet leads =
    let reservation : Option ℕ = reserving_by image (thread_at state.core t) in
    let is : step image state t ≡ after_effect state (gone state.core t reservation local writes shown) =
    step_is image state t ∙ ap (λ (o : Outcome). after_effect state (applied state.core t reservation o)) e in
    Moves (subst (λ (s : Stepped). Went image state t s) (sym is) (went_by image state t reservation local writes shown many able e quiet leads))

pub step_of : (image : Layout) (state : State) (t : ℕ) → Many state → is_enabled image state t ≡ true → StepOf image state t (step image state t)
step_of image state t many enabled =
    let thread : Thread = thread_at state.core t in
    let heard : Heard = heard_by image (memory_of image state) state.core.calls t thread in
    let o : Outcome = outcome_by image (memory_of image state) state.core.calls t thread in
    step_by image state t o many (ready image state t enabled) refl (quiet-act_at thread.local (instr_at image thread.local.pc) heard) (walks_on_at image thread.local heard)

pub many_on : (image : Layout) (state : State) (t : ℕ) (s : Stepped) → Many state → StepOf image state t s → Many s.state
many_on image state t s many (Falls fell) = ap (λ (ts : List Thread). length ts) fell.threads ∙ many ∙ ap made (sym fell.calls)
many_on image state t s many (Moves went) = went.many
