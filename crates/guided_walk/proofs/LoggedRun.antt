-- A schedule that has a log notes at each of its steps what the log's walk has there: along its run each thread is at the
-- address where the walk has it.
use Rattle.std.specs.Prelude.{◌≡◌, ℕ, zero, suc, ◌+◌, ◌-◌, ◌<◌, ◌≤◌, ◌⊎◌, Bool, true, false, cond, List, [], ◌∷◌, ◌++◌, length, nat_lt, slice_get, Option, Some, None, is_none, Result, Ok, refl}
use Rattle.std.proofs.Common.{sym, ◌∙◌, ap, subst, arith, inl, inr, get_or, ltb, eqb, eq-eqb}
use Rattle.std.proofs.lemmas.Bool.{and_parts, ltb-true, false≢true}
use Rattle.std.proofs.lemmas.List.{length-append}
use Rattle.std.proofs.Math.Seq.{get_or-append_right}
use Rattle.std.proofs.lemmas.Option.{none-some, same_Some}
use Rattle.elf_image.specs.declared.write.Write.{Write}
use Rattle.elf_image.specs.Layout.{Layout}
use Rattle.rv32_decode.specs.declared.instr.Instr.{Instr}
use Rattle.odr_log.specs.declared.log.Cause.{Cause}
use Rattle.odr_log.specs.declared.log.Call.{Call}
use Rattle.odr_log.specs.declared.log.Call.TheVariants as call
use Rattle.odr_log.specs.declared.log.CallRec.{CallRec}
use Rattle.odr_log.specs.declared.log.End.{End}
use Rattle.odr_log.specs.declared.log.End.TheVariants as end
use Rattle.odr_log.specs.declared.log.Log.{Log}
use Rattle.odr_log.specs.declared.log.PathItem.{PathItem}
use Rattle.odr_log.specs.declared.log.PathItem.TheVariants as item
use Rattle.odr_log.specs.declared.log.Pos.{Pos}
use Rattle.odr_log.specs.Tape.{tape_of}
use Rattle.odr_log.specs.Same.{same_item, same_rec}
use Rattle.odr_log.specs.SameLaws.{same_item-exact, same_rec-exact, same_end-exact}
use Rattle.rv_model.specs.declared.state.Local.{Local}
use Rattle.rv_model.specs.declared.state.Thread.{Thread}
use Rattle.rv_model.specs.declared.state.Core.{Core}
use Rattle.rv_model.specs.declared.state.Note.{Note}
use Rattle.rv_model.specs.declared.state.Note.TheVariants as note
use Rattle.rv_model.specs.declared.state.State.{State}
use Rattle.rv_model.specs.declared.state.Stepped.{Stepped}
use Rattle.rv_model.specs.declared.state.Event.{Event}
use Rattle.rv_model.specs.declared.hearing.Heard.{Heard}
use Rattle.rv_model.specs.declared.hearing.Outcome.{Outcome}
use Rattle.rv_model.specs.declared.hearing.Outcome.TheVariants.{Faults, Goes}
use Rattle.rv_model.specs.Thread.{no_thread}
use Rattle.rv_model.specs.Calls.{made, reply_to}
use Rattle.rv_model.specs.Instruction.{asked_at}
use Rattle.rv_model.specs.Noted.{note_in, asked_noted, reply_noted, LeadsOn}
use Rattle.rv_model.specs.Step.{opening, memory_of, instr_at, thread_at, child_of, applied, gone, after_effect, step, is_enabled}
use Rattle.rv_model.specs.Run.{event_of, item_of, path_of, logged, is_counted, next_item, next_record, agrees_by, agrees, fits, differs_from, first_diff, HasLog, option_test}
use Rattle.rv_model.specs.Walk.{Walk, notes_of, places_of, events_from, transfer_of, goes_to, maker_of, BeginsAt, ThreadWalk, IsWalk}
use Rattle.rv_model.specs.CallsFit.{CallsFit}
use Rattle.rv_model.proofs.Progress.{IsQuiet, quiet-act_at}
use Rattle.rv_model.proofs.Difference.{no_difference, enabled_within, enabled_goes, step_none, some_passes}
use Rattle.rv_model.proofs.Acts.{asked_act, told_act, walks_on_at}
use Rattle.guided_walk.specs.Told.{Told, told, last_fault, shown_by, noted}
use Rattle.guided_walk.specs.Orders.{In}
use Rattle.guided_walk.specs.Schedules.{count, next_of, times}
use Rattle.guided_walk.specs.Run.{halts, Agrees}
use Rattle.guided_walk.proofs.Along.{MakesNext, heard_by, outcome_by, reserving_by, step_is, many_then, more_then}
use Rattle.guided_walk.proofs.Shared.{makes_next}
use Rattle.guided_walk.proofs.Agree.{step_note, halted_step}
use Rattle.guided_walk.proofs.Walks.{pc_from, leads_start, AtStep, leads_step, shape, called, called_is, one_note}
use Rattle.guided_walk.proofs.Records.{Among, among_at, rec, one_record}
use Rattle.guided_walk.proofs.Facts.{notes_counted, noted_step, place_called, maker_is}
use Rattle.guided_walk.proofs.Logged.{told_event, events_along, Built, path_along, path_at, each_then}
use Rattle.guided_walk.proofs.Along.{Next, count_own, count_other}

-- ---- what holds along

-- a thread that is where the walk has it after so many of its steps
abbrev pub IsAt : Layout → Log → Walk → List Pos → ℕ → Thread → Type 0
IsAt image log walk done u thread =
    (thread.retired ≡ count u done)
    × ((tw : ThreadWalk image log u (places_of walk u) (notes_of walk u)) → thread.local.pc ≡ pc_from (places_of walk u) tw.after (count u done))

pub record Follows (image : Layout) (log : Log) (walk : Walk) (done : List Pos) (state : State) : Type 0 where
  pub built : Built done
  pub counted : (p : Pos) → In p done → p.step < length (notes_of walk p.thread)
  pub many : length state.core.threads ≡ made state.core.calls
  pub some : 0 < length state.core.threads
  pub threads : (u : ℕ) → u < length state.core.threads → IsAt image log walk done u (thread_at state.core u)
  pub unmade : (u : ℕ) → length state.core.threads ≤ u → count u done ≡ 0

begins_first : (image : Layout) (log : Log) (walk : Walk) (tape : List ℕ) (u : ℕ) → u < 1 → IsAt image log walk [] u (thread_at (opening image tape).core u)
begins_first image log walk tape zero less = (
  refl,
  λ (tw : ThreadWalk image log 0 (places_of walk 0) (notes_of walk 0)).
      sym (leads_start image tw.start (places_of walk 0) (notes_of walk 0) tw.after tw.leads ∙ tw.begins),
)
begins_first image log walk tape (suc u) less = absurd (omega arith)

pub follows_opening : (image : Layout) (log : Log) (walk : Walk) (tape : List ℕ) → Follows image log walk [] (opening image tape)
follows_opening image log walk tape = record {
  built = tt;
  counted = λ (p : Pos) (i : In p []). absurd i;
  many = refl;
  some = omega arith;
  threads = λ (u : ℕ) (less : u < 1). begins_first image log walk tape u less;
  unmade = λ (u : ℕ) (past : 1 ≤ u). refl;
}

-- a spawned thread begins where its walk does
spawn_entry : (a b u : ℕ) → call.Spawn a (Some u) ≡ call.Spawn b (Some u) → a ≡ b
spawn_entry a b u e = cc

begins_spawned : (image : Layout) (log : Log) (u entry start : ℕ) (r : CallRec) → 0 < u → maker_of log u ≡ Some r → r.call ≡ call.Spawn entry (Some u) → BeginsAt image log u start → start ≡ entry
begins_spawned image log zero entry start r positive found is begins = absurd (omega arith)
begins_spawned image log (suc u) entry start r positive found is begins =
    spawn_entry start entry (suc u) (sym begins.2 ∙ ap (λ (x : CallRec). x.call) (same_Some begins.0 r (sym begins.1 ∙ found)) ∙ is)

-- the walk leads on from where the thread is
pub record LedOn (image : Layout) (log : Log) (walk : Walk) (done : List Pos) (t : ℕ) (local : Local) (shown : Note) : Type 0 where
  pub within : count t done < length (notes_of walk t)
  pub note : shown ≡ noted (told log walk) (next_of t done)
  pub pc : (tw : ThreadWalk image log t (places_of walk t) (notes_of walk t)) → local.pc ≡ pc_from (places_of walk t) tw.after (suc (count t done))

counted_cons : (walk : Walk) (p : Pos) (done : List Pos) → p.step < length (notes_of walk p.thread) → ((q : Pos) → In q done → q.step < length (notes_of walk q.thread))
    → (q : Pos) → In q (p ∷ done) → q.step < length (notes_of walk q.thread)
counted_cons walk p done here older q (inl e) = subst (λ (r : Pos). r.step < length (notes_of walk r.thread)) e here
counted_cons walk p done here older q (inr i) = older q i

pub follows_gone : (image : Layout) (log : Log) (walk : Walk) (done : List Pos) (state : State) (t : ℕ) (reservation : Option ℕ) (local : Local) (writes : List Write) (shown : Note)
    → IsWalk image log walk → CallsFit log → Follows image log walk done state → t < length state.core.threads → LedOn image log walk done t local shown → MakesNext (length state.core.threads) shown
    → Follows image log walk (Next t done) (after_effect state (gone state.core t reservation local writes shown)).state
follows_gone image log walk done state t reservation local writes shown is fit follows there led makes =
    let core : Core = state.core in
    let p : Pos = next_of t done in
    let more : length core.threads ≤ length (gone core t reservation local writes shown).core.threads = more_then core t reservation local writes shown makes in
    record {
      built = (refl, follows.built);
      counted = counted_cons walk p done led.within follows.counted;
      many = many_then core t reservation local writes shown makes follows.many;
      some = omega (arith, more, follows.some);
      threads = λ (u : ℕ) (less : u < length (gone core t reservation local writes shown).core.threads).
          each_then (IsAt image log walk (Next t done)) core t reservation local writes shown there makes (
            (let k : (thread_at core t).retired ≡ count t done = (follows.threads t there).0 in
                let e : (thread_at core t).retired + 1 ≡ suc (count t done) = omega (arith, k) in e ∙ sym (count_own t done)),
            λ (tw : ThreadWalk image log t (places_of walk t) (notes_of walk t)). led.pc tw ∙ ap (pc_from (places_of walk t) tw.after) (sym (count_own t done)),
          )
          (λ (w : ℕ) (in_old : w < length core.threads) (ne : w ≡ t → ⊥). (
            (follows.threads w in_old).0 ∙ sym (count_other t w done ne),
            λ (tw : ThreadWalk image log w (places_of walk w) (notes_of walk w)).
                (follows.threads w in_old).1 tw ∙ ap (pc_from (places_of walk w) tw.after) (sym (count_other t w done ne)),
          ))
          (λ (entry : ℕ) (named : shown ≡ note.Called (call.Spawn entry (Some (length core.threads)))).
          let w : ℕ = length core.threads in
          let ne : w ≡ t → ⊥ = λ (same : w ≡ t). absurd (omega (arith, there, same)) in
          let none : count w (Next t done) ≡ 0 = count_other t w done ne ∙ follows.unmade w (omega arith) in
          let fresh_retired : (get_or (child_of (thread_at core t).local shown) 0 no_thread).retired ≡ 0 =
          subst (λ (n : Note). (get_or (child_of (thread_at core t).local n) 0 no_thread).retired ≡ 0) (sym named) refl in
          let fresh_pc : (get_or (child_of (thread_at core t).local shown) 0 no_thread).local.pc ≡ entry =
          subst (λ (n : Note). (get_or (child_of (thread_at core t).local n) 0 no_thread).local.pc ≡ entry) (sym named) refl in
          let spawn : CallRec = rec t (count t done) (call.Spawn entry (Some w)) in
          let has : Among spawn log.calls = place_called image log walk is p (call.Spawn entry (Some w)) (sym led.note ∙ named) in
          let maker : maker_of log w ≡ Some spawn = maker_is log fit spawn entry w has refl in (
            fresh_retired ∙ sym none,
            λ (tw : ThreadWalk image log w (places_of walk w) (notes_of walk w)).
                fresh_pc ∙ sym (begins_spawned image log w entry tw.start spawn follows.some maker refl tw.begins)
                ∙ sym (leads_start image tw.start (places_of walk w) (notes_of walk w) tw.after tw.leads)
                ∙ ap (pc_from (places_of walk w) tw.after) (sym none),
          ))
          u (ltb u (length core.threads)) refl (eqb u t) refl less;
      unmade = λ (u : ℕ) (past : length (gone core t reservation local writes shown).core.threads ≤ u).
          let ne : u ≡ t → ⊥ = λ (same : u ≡ t). absurd (omega (arith, there, more, past, same)) in
          count_other t u done ne ∙ follows.unmade u (omega (arith, more, past));
    }

-- ---- what a step's agreement with the log says

-- the branch or jump of a step is the next item of its thread's path, and its call the next record
pub record LoggedNext (log : Log) (happened : List Event) (t at : ℕ) (n : Note) : Type 0 where
  pub counted : is_counted log (record { thread = t; at = at; note = n }) ≡ true
  pub item : (x : PathItem) → item_of n ≡ Some x → next_item log happened t ≡ Some x
  pub call : (c : Call) → called n ≡ Some c → next_record log happened ≡ Some (rec t at c)

item_is : (x : PathItem) (o : Option PathItem) → option_test (same_item x) o ≡ true → (y : PathItem) → Some x ≡ Some y → o ≡ Some y
item_is x o e y same =
    let found : (z : PathItem) × (o ≡ Some z) × (same_item x z ≡ true) = some_passes (same_item x) o e in
    found.1 ∙ ap (λ (z : PathItem). Some z) (sym ((same_item-exact x found.0).0 found.2)) ∙ same

record_is : (r : CallRec) (o : Option CallRec) → option_test (same_rec r) o ≡ true → o ≡ Some r
record_is r o e =
    let found : (z : CallRec) × (o ≡ Some z) × (same_rec r z ≡ true) = some_passes (same_rec r) o e in
    found.1 ∙ ap (λ (z : CallRec). Some z) (sym ((same_rec-exact r found.0).0 found.2))

pub logged_next : (log : Log) (happened : List Event) (t at : ℕ) (n : Note) → ((fault : Cause) → n ≡ note.Faulted fault → ⊥)
    → agrees_by log happened (record { thread = t; at = at; note = n }) n ≡ true → LoggedNext log happened t at n
logged_next log happened t at (note.Faulted fault) quiet e = absurd (quiet fault refl)
logged_next log happened t at note.Nothing quiet e = record {
  counted = e;
  item = λ (x : PathItem) (h : None ≡ Some x). absurd (none-some x h);
  call = λ (c : Call) (h : None ≡ Some c). absurd (none-some c h);
}
logged_next log happened t at (note.Branch taken) quiet e = record {
  counted = (and_parts _ _ e).0;
  item = item_is (item.Branch taken) (next_item log happened t) (and_parts _ _ e).1;
  call = λ (c : Call) (h : None ≡ Some c). absurd (none-some c h);
}
logged_next log happened t at (note.Jump target) quiet e = record {
  counted = (and_parts _ _ e).0;
  item = item_is (item.Jump target) (next_item log happened t) (and_parts _ _ e).1;
  call = λ (c : Call) (h : None ≡ Some c). absurd (none-some c h);
}
logged_next log happened t at (note.Called made) quiet e = record {
  counted = (and_parts _ _ e).0;
  item = λ (x : PathItem) (h : None ≡ Some x). absurd (none-some x h);
  call = λ (c : Call) (h : Some made ≡ Some c).
      record_is (rec t at made) (next_record log happened) (and_parts _ _ e).1 ∙ ap (λ (d : Call). Some (rec t at d)) (same_Some made c h);
}

-- ---- a step that goes on

result_same : (r : Result Instr Cause) (a b : Instr) → r ≡ Ok a → r ≡ Ok b → a ≡ b
result_same r a b p q = cc

pub led_on : (image : Layout) (log : Log) (walk : Walk) (done : List Pos) (state : State) (t : ℕ) (local : Local) (writes : List Write) (shown : Note)
    → IsWalk image log walk → CallsFit log → Follows image log walk done state → t < length state.core.threads
    → LeadsOn (thread_at state.core t).local.pc (instr_at image (thread_at state.core t).local.pc) (Goes local writes shown)
    → LoggedNext log (events_along (told log walk) done) t (thread_at state.core t).retired shown
    → LedOn image log walk done t local shown
led_on image log walk done state t local writes shown is fit follows there leads next =
    let k : ℕ = count t done in
    let retired : (thread_at state.core t).retired ≡ k = (follows.threads t there).0 in
    let parts : (nat_lt t (length log.threads) ≡ true) × (nat_lt (thread_at state.core t).retired (logged log t).steps ≡ true) = and_parts _ _ next.counted in
    let in_threads : t < length log.threads = ltb-true t (length log.threads) parts.0 in
    let within : k < length (notes_of walk t) =
    omega (arith, ltb-true (thread_at state.core t).retired (logged log t).steps parts.1, retired, notes_counted image log walk is t in_threads) in
    let tw : ThreadWalk image log t (places_of walk t) (notes_of walk t) = is.each t in_threads in
    let n : Note = get_or (notes_of walk t) k note.Nothing in
    let here : noted (told log walk) (next_of t done) ≡ n = noted_step log walk (next_of t done) within in
    let pc : ℕ = (thread_at state.core t).local.pc in
    let one : (w : ThreadWalk image log t (places_of walk t) (notes_of walk t)) → AtStep image (pc_from (places_of walk t) w.after k) (pc_from (places_of walk t) w.after (suc k)) n =
    λ (w : ThreadWalk image log t (places_of walk t) (notes_of walk t)). leads_step image w.start (places_of walk t) (notes_of walk t) w.after k w.leads within in
    let instruction : (w : ThreadWalk image log t (places_of walk t) (notes_of walk t)) → (one w).instruction ≡ leads.0 =
    λ (w : ThreadWalk image log t (places_of walk t) (notes_of walk t)).
    result_same (instr_at image pc) (one w).instruction leads.0 (ap (instr_at image) ((follows.threads t there).1 w) ∙ (one w).fetched) leads.1 in
    let goes : (w : ThreadWalk image log t (places_of walk t) (notes_of walk t)) → goes_to pc (transfer_of pc leads.0) n ≡ Some (pc_from (places_of walk t) w.after (suc k)) =
    λ (w : ThreadWalk image log t (places_of walk t) (notes_of walk t)).
    ap (λ (a : ℕ). goes_to a (transfer_of a leads.0) n) ((follows.threads t there).1 w)
    ∙ ap (λ (i : Instr). goes_to (pc_from (places_of walk t) w.after k) (transfer_of (pc_from (places_of walk t) w.after k) i) n) (sym (instruction w))
    ∙ (one w).goes in
    let same : shown ≡ n =
    one_note (transfer_of pc leads.0) shown n (shape pc (transfer_of pc leads.0) shown local.pc leads.2)
    (shape pc (transfer_of pc leads.0) n (pc_from (places_of walk t) tw.after (suc k)) (goes tw))
    (λ (x y : PathItem) (p : item_of shown ≡ Some x) (q : item_of n ≡ Some y).
    let path : next_item log (events_along (told log walk) done) t ≡ Some y =
    ap (λ (xs : List PathItem). slice_get xs (length (path_of t (events_along (told log walk) done)))) (sym tw.path)
    ∙ ap (λ (xs : List PathItem). slice_get (path_of t (events_from t 0 (notes_of walk t))) (length xs)) (path_along log walk t done follows.built follows.counted)
    ∙ path_at t 0 (notes_of walk t) k y within q in
    same_Some x y (sym (next.item x p) ∙ path))
    (λ (c d : Call) (p : called shown ≡ Some c) (q : called n ≡ Some d).
    let one_is : Among (rec t (thread_at state.core t).retired c) log.calls = among_at log.calls _ (rec t (thread_at state.core t).retired c) (next.call c p) in
    let shows : n ≡ note.Called d = called_is n d q in
    let other_is : Among (rec t k d) log.calls = place_called image log walk is (next_of t done) d (here ∙ shows) in
    ap (λ (r : CallRec). r.call) (one_record log.calls fit.rising (rec t (thread_at state.core t).retired c) (rec t k d) one_is other_is refl retired)) in
    record {
      within = within;
      note = same ∙ sym here;
      pc = λ (w : ThreadWalk image log t (places_of walk t) (notes_of walk t)).
          same_Some local.pc (pc_from (places_of walk t) w.after (suc k)) (sym leads.2 ∙ ap (goes_to pc (transfer_of pc leads.0)) same ∙ goes w);
    }

-- ---- along the whole schedule

-- the note of the fault that ends the log stands behind the thread's steps
fault_noted : (log : Log) (walk : Walk) (t k : ℕ) (fault : Cause) → log.end ≡ end.Faulted t fault → k ≡ length (notes_of walk t)
    → (told log walk).note t k ≡ note.Faulted fault
fault_noted log walk t k fault e at =
    ap (λ (j : ℕ). get_or (shown_by log walk t) j note.Nothing) at
    ∙ get_or-append_right (notes_of walk t) (last_fault log.end t) (length (notes_of walk t)) note.Nothing (omega arith)
    ∙ ap (λ (j : ℕ). get_or (last_fault log.end t) j note.Nothing) (let z : length (notes_of walk t) - length (notes_of walk t) ≡ 0 = omega arith in z)
    ∙ ap (λ (ended : End). get_or (last_fault ended t) 0 note.Nothing) e
    ∙ ap (λ (b : Bool). get_or (cond b (note.Faulted fault ∷ []) []) 0 note.Nothing) (eq-eqb t t refl)

pub fault_steps : (log : Log) (walk : Walk) (t : ℕ) (fault : Cause) → log.end ≡ end.Faulted t fault → (told log walk).steps t ≡ length (notes_of walk t) + 1
fault_steps log walk t fault e =
    length-append (notes_of walk t) (last_fault log.end t)
    ∙ let one : length (last_fault log.end t) ≡ 1 =
    ap (λ (ended : End). length (last_fault ended t)) e ∙ ap (λ (b : Bool). length (cond b (note.Faulted fault ∷ []) [])) (eq-eqb t t refl) in
    omega (arith, one)

-- each thread's steps are as many as are told, those done and those of the schedule
abbrev pub Total : Told → List Pos → List ℕ → Type 0
Total told done schedule = (u : ℕ) → count u done + times u schedule ≡ told.steps u

total_on : (told : Told) (done : List Pos) (t : ℕ) (schedule : List ℕ) → Total told done (t ∷ schedule) → Total told (Next t done) schedule
total_on told done t schedule total u = by_test (eqb t u) (total u) where
  by_test : (b : Bool) → count u done + cond b (suc (times u schedule)) (times u schedule) ≡ told.steps u → cond b (suc (count u done)) (count u done) + times u schedule ≡ told.steps u
  by_test true e = omega (arith, e)
  by_test false e = omega (arith, e)

total_own : (told : Told) (done : List Pos) (t : ℕ) (schedule : List ℕ) → Total told done (t ∷ schedule) → count t done + suc (times t schedule) ≡ told.steps t
total_own told done t schedule total =
    ap (λ (b : Bool). count t done + cond b (suc (times t schedule)) (times t schedule)) (sym (eq-eqb t t refl)) ∙ total t

pub not_faulted : (n : Note) (local : Local) (writes : List Write) → IsQuiet (Goes local writes n) → (fault : Cause) → n ≡ note.Faulted fault → ⊥
not_faulted n local writes quiet fault e = subst (λ (m : Note). IsQuiet (Goes local writes m)) e quiet

-- nothing is left of the schedule after a halt
stops : (image : Layout) (log : Log) (state : State) (happened : List Event) (schedule : List ℕ) → is_none state.core.halt ≡ false
    → differs_from image log state happened schedule ≡ None → schedule ≡ []
stops image log state happened [] halted e = refl
stops image log state happened (t ∷ schedule) halted e =
    let here : (fits image log state happened t ≡ true) × (differs_from image log (step image state t).state (happened ++ event_of image state t ∷ []) schedule ≡ None) =
    step_none (fits image log state happened t) (differs_from image log (step image state t).state (happened ++ event_of image state t ∷ []) schedule) e in
    absurd (false≢true (sym halted ∙ enabled_goes image state t (and_parts _ _ here.0).0))

-- where the step leads, and the invariant after it
pub record StepTold (image : Layout) (log : Log) (walk : Walk) (done : List Pos) (state : State) (t : ℕ) : Type 0 where
  pub note : (step image state t).note ≡ noted (told log walk) (next_of t done)
  pub follows : (halts (noted (told log walk) (next_of t done)) ≡ true) ⊎ Follows image log walk (Next t done) (step image state t).state

-- a spawn that a step makes is of the next thread
pub makes_by : (image : Layout) (state : State) (t : ℕ) (local : Local) (writes : List Write) (shown : Note) → length state.core.threads ≡ made state.core.calls
    → outcome_by image (memory_of image state) state.core.calls t (thread_at state.core t) ≡ Goes local writes shown → MakesNext (length state.core.threads) shown
makes_by image state t local writes shown many same =
    let thread : Thread = thread_at state.core t in
    let heard : Heard = heard_by image (memory_of image state) state.core.calls t thread in
    let asks : asked_noted shown ≡ asked_at thread.local (instr_at image thread.local.pc) heard.reach =
    ap (λ (o : Outcome). asked_noted (note_in o)) (sym same) ∙ asked_act thread.local (instr_at image thread.local.pc) heard in
    let answered : reply_to state.core.calls t (asked_noted shown) ≡ reply_noted shown =
    ap (reply_to state.core.calls t) asks ∙ sym (told_act state.core.calls t thread.local (instr_at image thread.local.pc) heard refl) ∙ ap (λ (o : Outcome). reply_noted (note_in o)) same in
    subst (λ (n : ℕ). MakesNext n shown) (sym many) (makes_next state.core.calls t shown answered)

step_told : (image : Layout) (log : Log) (walk : Walk) (done : List Pos) (state : State) (t : ℕ) (schedule : List ℕ) (o : Outcome)
    → IsWalk image log walk → CallsFit log → Follows image log walk done state → t < length state.core.threads → Total (told log walk) done (t ∷ schedule)
    → outcome_by image (memory_of image state) state.core.calls t (thread_at state.core t) ≡ o → IsQuiet o
    → LeadsOn (thread_at state.core t).local.pc (instr_at image (thread_at state.core t).local.pc) o
    → agrees_by log (events_along (told log walk) done) (record { thread = t; at = (thread_at state.core t).retired; note = note_in o }) (note_in o) ≡ true
    → (is_none (step image state t).state.core.halt ≡ false → schedule ≡ [])
    → StepTold image log walk done state t
step_told image log walk done state t schedule (Faults fault) is fit follows there total same quiet leads agreed nothing =
    let shown : (step image state t).note ≡ note.Faulted fault = step_note image state t ∙ ap note_in same in
    let ends_so : log.end ≡ end.Faulted t fault = sym ((same_end-exact (end.Faulted t fault) log.end).0 agreed) in
    let last : schedule ≡ [] = nothing (halted_step image state t (ap halts shown)) in
    let none : times t schedule ≡ 0 = ap (times t) last in
    let at : count t done ≡ length (notes_of walk t) =
    omega (arith, total_own (told log walk) done t schedule total, fault_steps log walk t fault ends_so, none) in
    let told_here : noted (told log walk) (next_of t done) ≡ note.Faulted fault = fault_noted log walk t (count t done) fault ends_so at in
    record { note = shown ∙ sym told_here; follows = inl (ap halts told_here) }
step_told image log walk done state t schedule (Goes local writes shown) is fit follows there total same quiet leads agreed nothing =
    let next : LoggedNext log (events_along (told log walk) done) t (thread_at state.core t).retired shown =
    logged_next log (events_along (told log walk) done) t (thread_at state.core t).retired shown (not_faulted shown local writes quiet) agreed in
    let led : LedOn image log walk done t local shown = led_on image log walk done state t local writes shown is fit follows there leads next in
    let thread : Thread = thread_at state.core t in
    let makes : MakesNext (length state.core.threads) shown = makes_by image state t local writes shown follows.many same in
    record {
      note = step_note image state t ∙ ap note_in same ∙ led.note;
      follows = inr (subst (λ (s : Stepped). Follows image log walk (Next t done) s.state)
          (sym (step_is image state t ∙ ap (λ (o : Outcome). after_effect state (applied state.core t (reserving_by image thread) o)) same))
          (follows_gone image log walk done state t (reserving_by image thread) local writes shown is fit follows there led makes));
    }

pub logged_agrees : (image : Layout) (log : Log) (walk : Walk) (done : List Pos) (state : State) (schedule : List ℕ)
    → IsWalk image log walk → CallsFit log → Follows image log walk done state → Total (told log walk) done schedule
    → differs_from image log state (events_along (told log walk) done) schedule ≡ None → Agrees image (told log walk) state done schedule
logged_agrees image log walk done state [] is fit follows total e = tt
logged_agrees image log walk done state (t ∷ schedule) is fit follows total e =
    let happened : List Event = events_along (told log walk) done in
    let next : State = (step image state t).state in
    let here : (fits image log state happened t ≡ true) × (differs_from image log next (happened ++ event_of image state t ∷ []) schedule ≡ None) =
    step_none (fits image log state happened t) (differs_from image log next (happened ++ event_of image state t ∷ []) schedule) e in
    let parts : (is_enabled image state t ≡ true) × (agrees log happened (event_of image state t) ≡ true) = and_parts _ _ here.0 in
    let there : t < length state.core.threads = enabled_within image state t parts.0 in
    let thread : Thread = thread_at state.core t in
    let o : Outcome = outcome_by image (memory_of image state) state.core.calls t thread in
    let heard : Heard = heard_by image (memory_of image state) state.core.calls t thread in
    let agreed : agrees_by log happened (record { thread = t; at = thread.retired; note = note_in o }) (note_in o) ≡ true =
    subst (λ (n : Note). agrees_by log happened (record { thread = t; at = thread.retired; note = n }) n ≡ true) (step_note image state t) parts.1 in
    let stepped : StepTold image log walk done state t =
    step_told image log walk done state t schedule o is fit follows there total refl (quiet-act_at thread.local (instr_at image thread.local.pc) heard)
    (walks_on_at image thread.local heard) agreed (λ (halted : is_none next.core.halt ≡ false). stops image log next (happened ++ event_of image state t ∷ []) schedule halted here.1) in
    let event : event_of image state t ≡ told_event (told log walk) (next_of t done) =
    ap (λ (n : Note). let x : Event = record { thread = t; at = thread.retired; note = n } in x) stepped.note
    ∙ ap (λ (k : ℕ). let x : Event = record { thread = t; at = k; note = noted (told log walk) (next_of t done) } in x) (follows.threads t there).0 in
    let rest : differs_from image log next (events_along (told log walk) (Next t done)) schedule ≡ None =
    ap (λ (x : Event). differs_from image log next (happened ++ x ∷ []) schedule) (sym event) ∙ here.1 in (
      parts.0,
      stepped.note,
      elim stepped.follows [
        | inl halting ↦ (let last : schedule ≡ [] = stops image log next (happened ++ event_of image state t ∷ []) schedule (halted_step image state t (ap halts stepped.note ∙ halting)) here.1 in
            subst (λ (s : List ℕ). Agrees image (told log walk) next (Next t done) s) (sym last) tt)
        | inr more ↦ logged_agrees image log walk (Next t done) next schedule is fit more (total_on (told log walk) done t schedule total) rest
      ],
    )

first_none : (image : Layout) (log : Log) (schedule : List ℕ) → HasLog image log schedule → differs_from image log (opening image (tape_of log)) [] schedule ≡ None
unfolding first_diff
first_none image log schedule has = (no_difference image log schedule).1 has

-- A schedule of as many steps as are told that has the log notes what is told.
pub has_agrees : (image : Layout) (log : Log) (walk : Walk) (schedule : List ℕ) → IsWalk image log walk → CallsFit log → Total (told log walk) [] schedule
    → HasLog image log schedule → Agrees image (told log walk) (opening image (tape_of log)) [] schedule
has_agrees image log walk schedule is fit total has =
    logged_agrees image log walk [] (opening image (tape_of log)) schedule is fit (follows_opening image log walk (tape_of log)) total (first_none image log schedule has)
