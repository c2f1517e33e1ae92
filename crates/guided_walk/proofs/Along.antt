-- Along a run whose steps are those of a guided walk: the threads, the shared state of the calls and the writes are what the
-- walk makes of the steps so far.
use Rattle.std.specs.Prelude.{◌≡◌, ◌≢◌, ℕ, zero, suc, ◌+◌, ◌-◌, ◌<◌, ◌≤◌, Bool, true, false, cond, List, [], ◌∷◌, ◌++◌, length, map, nat_eq, Option, Some, None, Result, Ok, Err, refl}
use Rattle.std.proofs.Common.{sym, ◌∙◌, ap, subst, arith, inl, inr, get_or, set, ltb, eqb, eq-eqb}
use Rattle.std.proofs.lemmas.Bool.{eqb-true, ne_eqb, ltb-true, ltb-false, false≢true}
use Rattle.std.proofs.lemmas.List.{length_push, length-set, length-map, length-append}
use Rattle.std.proofs.lemmas.Option.{none-some}
use Rattle.elf_image.specs.declared.write.Write.{Write}
use Rattle.elf_image.specs.Layout.{Layout}
use Rattle.elf_image.specs.Memory.{Cells}
use Rattle.rv32_decode.specs.declared.instr.Instr.{Instr}
use Rattle.rv32_decode.specs.declared.instr.Instr.TheVariants as instr
use Rattle.odr_log.specs.declared.log.Cause.{Cause}
use Rattle.odr_log.specs.declared.log.Call.TheVariants as call
use Rattle.odr_log.specs.declared.log.Pos.{Pos}
use Rattle.rv_model.specs.declared.state.Local.{Local}
use Rattle.rv_model.specs.declared.state.Thread.{Thread}
use Rattle.rv_model.specs.declared.state.Calls.{Calls}
use Rattle.rv_model.specs.declared.state.Core.{Core}
use Rattle.rv_model.specs.declared.state.State.{State}
use Rattle.rv_model.specs.declared.state.Stepped.{Stepped}
use Rattle.rv_model.specs.declared.state.Note.{Note}
use Rattle.rv_model.specs.declared.state.Note.TheVariants as note
use Rattle.rv_model.specs.declared.hearing.Heard.{Heard}
use Rattle.rv_model.specs.declared.hearing.Reach.{Reach}
use Rattle.rv_model.specs.declared.hearing.Outcome.{Outcome}
use Rattle.rv_model.specs.declared.hearing.Outcome.TheVariants.{Goes}
use Rattle.rv_model.specs.Thread.{fresh, no_thread, losing, surviving}
use Rattle.rv_model.specs.Calls.{made, first_argument, reply_to, join_value}
use Rattle.rv_model.specs.Instruction.{act_at, access_at, asked_at, conditional_at, wins, reserving, reserving_at}
use Rattle.rv_model.specs.Noted.{writes_in}
use Rattle.rv_model.specs.Step.{opening, memory_of, instr_at, reach_of, thread_at, child_of, calls_then, applied, gone, effect, after_effect, step}
use Rattle.rv_model.proofs.Progress.{own_then, other_then}
use Rattle.rv_model.proofs.Bounds.{beyond}
use Rattle.guided_walk.specs.Told.{Told, IsPlace, noted}
use Rattle.guided_walk.specs.Guided.{Seen, Visits, at, instr_of, went, handed, begins, seen_before}
use Rattle.guided_walk.specs.Orders.{In}
use Rattle.guided_walk.specs.Schedules.{count, next_of}
use Rattle.guided_walk.specs.Fits.{writes_along, reserved}
use Rattle.guided_walk.specs.Run.{calls_along, value_of, thread_along}

-- ---- a step by its thread

-- what a thread hears that is at this place
abbrev pub heard_by : Layout → Cells → Calls → ℕ → Thread → Heard
heard_by image cells calls t thread =
    let reach : Reach = reach_of cells (access_at thread.local (instr_at image thread.local.pc)) in
    record {
      thread = t;
      reach = reach;
      won = wins (conditional_at thread.local (instr_at image thread.local.pc)) thread.reservation;
      reply = reply_to calls t (asked_at thread.local (instr_at image thread.local.pc) reach);
      joined = join_value calls (asked_at thread.local (instr_at image thread.local.pc) reach);
    }

abbrev pub outcome_by : Layout → Cells → Calls → ℕ → Thread → Outcome
outcome_by image cells calls t thread = act_at thread.local (instr_at image thread.local.pc) (heard_by image cells calls t thread)

abbrev pub reserving_by : Layout → Thread → Option ℕ
reserving_by image thread = reserving_at thread.local (instr_at image thread.local.pc) thread.reservation

pub step_is : (image : Layout) (state : State) (t : ℕ)
    → step image state t ≡ after_effect state (applied state.core t (reserving_by image (thread_at state.core t)) (outcome_by image (memory_of image state) state.core.calls t (thread_at state.core t)))
unfolding step effect
step_is image state t = refl

-- ---- what holds along

-- The spawns and ends that are noted are those by which threads were made and ended.
pub record Sound (told : Told) : Type 0 where
  pub one_maker : (p : Pos) (entry child : ℕ) → IsPlace told p → noted told p ≡ note.Called (call.Spawn entry (Some child)) → told.maker child ≡ Some p
  pub one_ender : (p : Pos) → IsPlace told p → noted told p ≡ note.Called call.EndThread → told.ender p.thread ≡ Some p

pub record Inv (image : Layout) (told : Told) (tape : List ℕ) (v : Visits) (done : List Pos) (state : State) : Type 0 where
  pub places : (p : Pos) → In p done → IsPlace told p
  pub many : length state.core.threads ≡ made state.core.calls
  pub some : 0 < length state.core.threads
  pub threads : (u : ℕ) → u < length state.core.threads → thread_at state.core u ≡ thread_along image told v done u
  pub unmade : (u : ℕ) → length state.core.threads ≤ u → count u done ≡ 0
  pub links : (u a : ℕ) → reserved image v u done ≡ Some a → (seen_before image told v u (count u done)).link ≡ Some a
  pub calls : state.core.calls ≡ calls_along told (value_of v) tape done
  pub writes : state.writes ≡ writes_along v done

first_threads : (image : Layout) (told : Told) (tape : List ℕ) (v : Visits) (u : ℕ) → u < 1
    → thread_at (opening image tape).core u ≡ thread_along image told v [] u
first_threads image told tape v zero less = refl
first_threads image told tape v (suc u) less = absurd (omega arith)

pub inv_opening : (image : Layout) (told : Told) (tape : List ℕ) (v : Visits) → Inv image told tape v [] (opening image tape)
inv_opening image told tape v = record {
  places = λ (p : Pos) (i : In p []). absurd i;
  many = refl;
  some = omega arith;
  threads = λ (u : ℕ) (less : u < 1). first_threads image told tape v u less;
  unmade = λ (u : ℕ) (past : 1 ≤ u). refl;
  links = λ (u a : ℕ) (e : None ≡ Some a). absurd (none-some a e);
  calls = refl;
  writes = refl;
}

-- ---- reservations and links

-- a reservation that is kept keeps its link
keeps_link : (l : Local) (i : Instr) (reservation link : Option ℕ) (a : ℕ) → ((b : ℕ) → reservation ≡ Some b → link ≡ Some b)
    → reserving l i reservation ≡ Some a → reserving l i link ≡ Some a
unfolding reserving
keeps_link l (instr.LoadReserved rd rs1 aq rl) reservation link a kept e = e
keeps_link l (instr.StoreConditional rd rs1 rs2 aq rl) reservation link a kept e = absurd (none-some a e)
keeps_link l (instr.Lui rd imm) reservation link a kept e = kept a e
keeps_link l (instr.Auipc rd imm) reservation link a kept e = kept a e
keeps_link l (instr.Jal rd offset) reservation link a kept e = kept a e
keeps_link l (instr.Jalr rd rs1 offset) reservation link a kept e = kept a e
keeps_link l (instr.Branch op rs1 rs2 offset) reservation link a kept e = kept a e
keeps_link l (instr.Load op rd rs1 offset) reservation link a kept e = kept a e
keeps_link l (instr.Store op rs1 rs2 offset) reservation link a kept e = kept a e
keeps_link l (instr.Imm op rd rs1 imm) reservation link a kept e = kept a e
keeps_link l (instr.Op op rd rs1 rs2) reservation link a kept e = kept a e
keeps_link l (instr.Fence rd rs1 imm) reservation link a kept e = kept a e
keeps_link l instr.Ecall reservation link a kept e = kept a e
keeps_link l instr.Ebreak reservation link a kept e = kept a e
keeps_link l (instr.Amo op rd rs1 rs2 aq rl) reservation link a kept e = kept a e

keeps_link_at : (l : Local) (fetched : Result Instr Cause) (reservation link : Option ℕ) (a : ℕ) → ((b : ℕ) → reservation ≡ Some b → link ≡ Some b)
    → reserving_at l fetched reservation ≡ Some a → reserving_at l fetched link ≡ Some a
keeps_link_at l (Err fault) reservation link a kept e = kept a e
keeps_link_at l (Ok i) reservation link a kept e = keeps_link l i reservation link a kept e

survives_cond : (b : Bool) (r a : ℕ) → cond b None (Some r) ≡ Some a → Some r ≡ Some a
survives_cond true r a e = absurd (none-some a e)
survives_cond false r a e = e

surviving_was : (ws : List Write) (reservation : Option ℕ) (a : ℕ) → surviving ws reservation ≡ Some a → reservation ≡ Some a
surviving_was ws None a e = e
surviving_was ws (Some r) a e = survives_cond _ r a e

reserved_none_by : (image : Layout) (v : Visits) (u : ℕ) (p : Pos) (done : List Pos) → (count u done ≡ 0 → reserved image v u done ≡ None)
    → (b : Bool) → cond b (suc (count u done)) (count u done) ≡ 0
    → cond b (reserving_at (at v p).seen.local (instr_of image (at v p).seen) (reserved image v u done)) (surviving (writes_in (at v p).outcome) (reserved image v u done)) ≡ None
reserved_none_by image v u p done before true e = absurd (omega arith)
reserved_none_by image v u p done before false e = ap (surviving (writes_in (at v p).outcome)) (before e)

-- a thread without a step has no reservation
pub reserved_none : (image : Layout) (v : Visits) (u : ℕ) (done : List Pos) → count u done ≡ 0 → reserved image v u done ≡ None
reserved_none image v u [] e = refl
reserved_none image v u (p ∷ done) e = reserved_none_by image v u p done (reserved_none image v u done) (nat_eq p.thread u) e

-- ---- one step on

-- a step that goes on, and what it makes of the thread and of the list of steps
pub record GoesOn (image : Layout) (told : Told) (v : Visits) (done : List Pos) (t : ℕ) (local : Local) (writes : List Write) (shown : Note) : Type 0 where
  pub place : IsPlace told (next_of t done)
  pub seen : (at v (next_of t done)).seen ≡ seen_before image told v t (count t done)
  pub outcome : (at v (next_of t done)).outcome ≡ Goes local writes shown
  pub shows : shown ≡ noted told (next_of t done)

abbrev pub Next : ℕ → List Pos → List Pos
Next t done = next_of t done ∷ done

-- a thread that the step is not of

pub count_other : (t u : ℕ) (done : List Pos) → (u ≡ t → ⊥) → count u (Next t done) ≡ count u done
count_other t u done ne = ap (λ (b : Bool). cond b (suc (count u done)) (count u done)) (ne_eqb t u (λ (e : t ≡ u). ne (sym e)))

pub count_own : (t : ℕ) (done : List Pos) → count t (Next t done) ≡ suc (count t done)
count_own t done = ap (λ (b : Bool). cond b (suc (count t done)) (count t done)) (eq-eqb t t refl)

reserved_other : (image : Layout) (v : Visits) (t u : ℕ) (done : List Pos) → (u ≡ t → ⊥)
    → reserved image v u (Next t done) ≡ surviving (writes_in (at v (next_of t done)).outcome) (reserved image v u done)
reserved_other image v t u done ne =
    let p : Pos = next_of t done in
    ap (λ (b : Bool). cond b (reserving_at (at v p).seen.local (instr_of image (at v p).seen) (reserved image v u done)) (surviving (writes_in (at v p).outcome) (reserved image v u done)))
    (ne_eqb t u (λ (e : t ≡ u). ne (sym e)))

reserved_own : (image : Layout) (v : Visits) (t : ℕ) (done : List Pos)
    → reserved image v t (Next t done) ≡ reserving_at (at v (next_of t done)).seen.local (instr_of image (at v (next_of t done)).seen) (reserved image v t done)
reserved_own image v t done =
    let p : Pos = next_of t done in
    ap (λ (b : Bool). cond b (reserving_at (at v p).seen.local (instr_of image (at v p).seen) (reserved image v t done)) (surviving (writes_in (at v p).outcome) (reserved image v t done)))
    (eq-eqb t t refl)

-- the threads after the step

abbrev pub thread_with : Local → Option ℕ → ℕ → Thread
thread_with local reservation retired = record { local = local; reservation = reservation; retired = retired }

-- the stepping thread
own_along : (image : Layout) (told : Told) (v : Visits) (done : List Pos) (t : ℕ) (local : Local) (writes : List Write) (shown : Note)
    → GoesOn image told v done t local writes shown
    → thread_with local (reserving_by image (thread_along image told v done t)) (count t done + 1) ≡ thread_along image told v (Next t done) t
own_along image told v done t local writes shown goes =
    let p : Pos = next_of t done in
    let seen : Seen = seen_before image told v t (count t done) in
    let counted : suc (count t done) ≡ count t (Next t done) = sym (count_own t done) in
    let local_is : local ≡ (seen_before image told v t (count t (Next t done))).local =
    ap (λ (o : Outcome). (went image (at v p).seen o).local) (sym goes.outcome)
    ∙ ap (λ (n : ℕ). (seen_before image told v t n).local) counted in
    let reserving : reserving_by image (thread_along image told v done t) ≡ reserved image v t (Next t done) =
    ap (λ (x : Seen). reserving_at x.local (instr_of image x) (reserved image v t done)) (sym goes.seen) ∙ sym (reserved_own image v t done) in
    ap (λ (l : Local). thread_with l (reserving_by image (thread_along image told v done t)) (count t done + 1)) local_is
    ∙ ap (λ (r : Option ℕ). thread_with (seen_before image told v t (count t (Next t done))).local r (count t done + 1)) reserving
    ∙ ap (λ (n : ℕ). thread_with (seen_before image told v t (count t (Next t done))).local (reserved image v t (Next t done)) n)
    (let e : count t done + 1 ≡ suc (count t done) = omega arith in e ∙ counted)

-- another thread
other_along : (image : Layout) (told : Told) (v : Visits) (done : List Pos) (t u : ℕ) (local : Local) (writes : List Write) (shown : Note) → (u ≡ t → ⊥)
    → GoesOn image told v done t local writes shown → losing writes (thread_along image told v done u) ≡ thread_along image told v (Next t done) u
other_along image told v done t u local writes shown ne goes =
    let p : Pos = next_of t done in
    let counted : count u done ≡ count u (Next t done) = sym (count_other t u done ne) in
    let kept : surviving writes (reserved image v u done) ≡ reserved image v u (Next t done) =
    ap (λ (o : Outcome). surviving (writes_in o) (reserved image v u done)) (sym goes.outcome) ∙ sym (reserved_other image v t u done ne) in
    ap (λ (r : Option ℕ). thread_with (seen_before image told v u (count u done)).local r (count u done)) kept
    ∙ ap (λ (n : ℕ). thread_with (seen_before image told v u n).local (reserved image v u (Next t done)) n) counted

-- a thread that a spawn makes
child_along : (image : Layout) (told : Told) (v : Visits) (done : List Pos) (t u : ℕ) (local : Local) (writes : List Write) (entry child : ℕ)
    → (shown : Note) → shown ≡ note.Called (call.Spawn entry (Some child)) → Sound told → (0 < u) → child ≡ u → count u done ≡ 0 → (u ≡ t → ⊥)
    → GoesOn image told v done t local writes shown
    → get_or (child_of (thread_along image told v done t).local shown) 0 no_thread ≡ thread_along image told v (Next t done) u
child_along image told v done t zero local writes entry child shown is sound positive same none ne goes = absurd (omega arith)
child_along image told v done t (suc u) local writes entry child shown is sound positive same none ne goes =
    let p : Pos = next_of t done in
    let q : ℕ = suc u in
    let maker : told.maker q ≡ Some p =
    ap told.maker (sym same) ∙ sound.one_maker p entry child goes.place (sym goes.shows ∙ is) in
    let begun : begins image told v q ≡ (get_or (child_of (thread_along image told v done t).local shown) 0 no_thread).local =
    ap (handed told v) maker
    ∙ ap (λ (x : Seen). (get_or (child_of x.local (noted told p)) 0 no_thread).local) goes.seen
    ∙ ap (λ (n : Note). (get_or (child_of (thread_along image told v done t).local n) 0 no_thread).local) (sym goes.shows) in
    let counted : count q (Next t done) ≡ 0 = count_other t q done ne ∙ none in
    let first : (seen_before image told v q (count q (Next t done))).local ≡ (get_or (child_of (thread_along image told v done t).local shown) 0 no_thread).local =
    ap (λ (n : ℕ). (seen_before image told v q n).local) counted ∙ begun in
    let fresh_one : get_or (child_of (thread_along image told v done t).local shown) 0 no_thread ≡ fresh (get_or (child_of (thread_along image told v done t).local shown) 0 no_thread).local =
    subst (λ (n : Note). get_or (child_of (thread_along image told v done t).local n) 0 no_thread ≡ fresh (get_or (child_of (thread_along image told v done t).local n) 0 no_thread).local)
    (sym is) refl in
    fresh_one
    ∙ ap (λ (l : Local). thread_with l None 0) (sym first)
    ∙ ap (λ (r : Option ℕ). thread_with (seen_before image told v q (count q (Next t done))).local r 0) (sym (reserved_none image v q (Next t done) counted))
    ∙ ap (λ (n : ℕ). thread_with (seen_before image told v q (count q (Next t done))).local (reserved image v q (Next t done)) n) (sym counted)

-- what a step makes, by its note: a thread more, or none

-- a spawn that was answered with a child made the next thread
pub data MakesNext (threads : ℕ) (shown : Note) : Type 0 where
  MakesOne : {entry child : ℕ} → shown ≡ note.Called (call.Spawn entry (Some child)) → child ≡ threads → MakesNext threads shown
  MakesNone : ((l : Local) → child_of l shown ≡ []) → ((c : Calls) (a0 t : ℕ) → made (calls_then c t a0 shown) ≡ made c) → MakesNext threads shown

abbrev Gone : State → ℕ → Option ℕ → Local → List Write → Note → State
Gone state t reservation local writes shown = (after_effect state (gone state.core t reservation local writes shown)).state

abbrev pub After : Core → ℕ → Option ℕ → Local → Thread
After core t reservation local = thread_with local reservation ((thread_at core t).retired + 1)

-- how many threads there are after the step
pub threads_none : (core : Core) (t : ℕ) (reservation : Option ℕ) (local : Local) (writes : List Write) (shown : Note) → child_of (thread_at core t).local shown ≡ []
    → length (gone core t reservation local writes shown).core.threads ≡ length core.threads
threads_none core t reservation local writes shown none =
    length-append (set (map (losing writes) core.threads) t (After core t reservation local)) (child_of (thread_at core t).local shown)
    ∙ let e : length (child_of (thread_at core t).local shown) ≡ 0 = ap (length {A = Thread}) none in
    let s : length (set (map (losing writes) core.threads) t (After core t reservation local)) ≡ length core.threads =
    length-set (map (losing writes) core.threads) t (After core t reservation local) ∙ length-map core.threads (losing writes) in
    omega (arith, e, s)

pub threads_one : (core : Core) (t : ℕ) (reservation : Option ℕ) (local : Local) (writes : List Write) (shown : Note) (entry child : ℕ) → shown ≡ note.Called (call.Spawn entry (Some child))
    → length (gone core t reservation local writes shown).core.threads ≡ length core.threads + 1
threads_one core t reservation local writes shown entry child is =
    length-append (set (map (losing writes) core.threads) t (After core t reservation local)) (child_of (thread_at core t).local shown)
    ∙ let e : length (child_of (thread_at core t).local shown) ≡ 1 = ap (λ (n : Note). length (child_of (thread_at core t).local n)) is in
    let s : length (set (map (losing writes) core.threads) t (After core t reservation local)) ≡ length core.threads =
    length-set (map (losing writes) core.threads) t (After core t reservation local) ∙ length-map core.threads (losing writes) in
    omega (arith, e, s)

made_one : (c : Calls) (a0 t : ℕ) (shown : Note) (entry child : ℕ) → shown ≡ note.Called (call.Spawn entry (Some child)) → made (calls_then c t a0 shown) ≡ made c + 1
made_one c a0 t shown entry child is = ap (λ (n : Note). made (calls_then c t a0 n)) is ∙ length_push c.ended None

pub many_then : (core : Core) (t : ℕ) (reservation : Option ℕ) (local : Local) (writes : List Write) (shown : Note) → MakesNext (length core.threads) shown
    → length core.threads ≡ made core.calls
    → length (gone core t reservation local writes shown).core.threads ≡ made (gone core t reservation local writes shown).core.calls
many_then core t reservation local writes shown (MakesOne {entry = entry} {child = child} is next) many =
    let e : length (gone core t reservation local writes shown).core.threads ≡ length core.threads + 1 = threads_one core t reservation local writes shown entry child is in
    let m : made (calls_then core.calls t (first_argument (thread_at core t).local) shown) ≡ made core.calls + 1 = made_one core.calls (first_argument (thread_at core t).local) t shown entry child is in
    omega (arith, e, m, many)
many_then core t reservation local writes shown (MakesNone none same) many =
    threads_none core t reservation local writes shown (none (thread_at core t).local) ∙ many ∙ sym (same core.calls (first_argument (thread_at core t).local) t)

pub more_then : (core : Core) (t : ℕ) (reservation : Option ℕ) (local : Local) (writes : List Write) (shown : Note) → MakesNext (length core.threads) shown
    → length core.threads ≤ length (gone core t reservation local writes shown).core.threads
more_then core t reservation local writes shown (MakesOne {entry = entry} {child = child} is next) =
    let e : length (gone core t reservation local writes shown).core.threads ≡ length core.threads + 1 = threads_one core t reservation local writes shown entry child is in omega (arith, e)
more_then core t reservation local writes shown (MakesNone none same) =
    let e : length (gone core t reservation local writes shown).core.threads ≡ length core.threads = threads_none core t reservation local writes shown (none (thread_at core t).local) in omega (arith, e)

-- a thread after the step, by where it stands
thread_then : (image : Layout) (told : Told) (tape : List ℕ) (v : Visits) (done : List Pos) (state : State) (t u : ℕ) (local : Local) (writes : List Write) (shown : Note)
    → Sound told → Inv image told tape v done state → t < length state.core.threads → GoesOn image told v done t local writes shown → MakesNext (length state.core.threads) shown
    → (within : Bool) → ltb u (length state.core.threads) ≡ within → (same : Bool) → eqb u t ≡ same
    → u < length (Gone state t (reserving_by image (thread_at state.core t)) local writes shown).core.threads
    → thread_at (Gone state t (reserving_by image (thread_at state.core t)) local writes shown).core u ≡ thread_along image told v (Next t done) u
thread_then image told tape v done state t u local writes shown sound inv there goes makes true w true s less =
    let core : Core = state.core in
    let one : u ≡ t = eqb-true u t s in
    let own : thread_at (Gone state t (reserving_by image (thread_at core t)) local writes shown).core t ≡ thread_along image told v (Next t done) t =
    own_then t writes core.threads (child_of (thread_at core t).local shown) (After core t (reserving_by image (thread_at core t)) local) there
    ∙ ap (λ (x : Thread). thread_with local (reserving_by image x) (x.retired + 1)) (inv.threads t there)
    ∙ own_along image told v done t local writes shown goes in
    subst (λ (k : ℕ). thread_at (Gone state t (reserving_by image (thread_at core t)) local writes shown).core k ≡ thread_along image told v (Next t done) k) (sym one) own
thread_then image told tape v done state t u local writes shown sound inv there goes makes true w false s less =
    let core : Core = state.core in
    let ne : u ≢ t = λ (same : u ≡ t). false≢true (sym s ∙ eq-eqb u t same) in
    other_then t u writes core.threads (child_of (thread_at core t).local shown) (After core t (reserving_by image (thread_at core t)) local) (ltb-true u (length core.threads) w) ne
    ∙ ap (losing writes) (inv.threads u (ltb-true u (length core.threads) w))
    ∙ other_along image told v done t u local writes shown ne goes
thread_then image told tape v done state t u local writes shown sound inv there goes (MakesNone none same) false w s e less =
    let le : length state.core.threads ≤ u = ltb-false u (length state.core.threads) w in
    absurd (omega (arith, le, threads_none state.core t (reserving_by image (thread_at state.core t)) local writes shown (none (thread_at state.core t).local)))
thread_then image told tape v done state t u local writes shown sound inv there goes (MakesOne {entry = entry} {child = child} is next) false w s e less =
    let core : Core = state.core in
    let le : length core.threads ≤ u = ltb-false u (length core.threads) w in
    let here : u ≡ length core.threads = omega (arith, le, threads_one core t (reserving_by image (thread_at core t)) local writes shown entry child is) in
    let ne : u ≡ t → ⊥ = λ (same : u ≡ t). absurd (omega (arith, there, here, same)) in
    beyond t u writes core.threads (child_of (thread_at core t).local shown) (After core t (reserving_by image (thread_at core t)) local) le
    ∙ ap (λ (k : ℕ). get_or (child_of (thread_at core t).local shown) k no_thread) (let z : u - length core.threads ≡ 0 = omega (arith, here) in z)
    ∙ ap (λ (x : Thread). get_or (child_of x.local shown) 0 no_thread) (inv.threads t there)
    ∙ child_along image told v done t u local writes entry child shown is sound (omega (arith, inv.some, le)) (next ∙ sym here) (inv.unmade u le) ne goes

link_then : (image : Layout) (told : Told) (tape : List ℕ) (v : Visits) (done : List Pos) (state : State) (t u a : ℕ) (local : Local) (writes : List Write) (shown : Note)
    → Inv image told tape v done state → GoesOn image told v done t local writes shown → (same : Bool) → eqb u t ≡ same
    → reserved image v u (Next t done) ≡ Some a → (seen_before image told v u (count u (Next t done))).link ≡ Some a
link_then image told tape v done state t u a local writes shown inv goes true s e =
    let p : Pos = next_of t done in
    let one : u ≡ t = eqb-true u t s in
    let seen : Seen = seen_before image told v t (count t done) in
    let was : reserving_at seen.local (instr_of image seen) (reserved image v t done) ≡ Some a =
    ap (λ (x : Seen). reserving_at x.local (instr_of image x) (reserved image v t done)) (sym goes.seen) ∙ sym (reserved_own image v t done)
    ∙ ap (λ (k : ℕ). reserved image v k (Next t done)) (sym one) ∙ e in
    let kept : reserving_at seen.local (instr_of image seen) seen.link ≡ Some a =
    keeps_link_at seen.local (instr_of image seen) (reserved image v t done) seen.link a (inv.links t) was in
    let own : (seen_before image told v t (count t (Next t done))).link ≡ Some a =
    ap (λ (n : ℕ). (seen_before image told v t n).link) (count_own t done)
    ∙ ap (λ (o : Outcome). (went image (at v p).seen o).link) goes.outcome
    ∙ ap (λ (x : Seen). reserving_at x.local (instr_of image x) x.link) goes.seen ∙ kept in
    subst (λ (k : ℕ). (seen_before image told v k (count k (Next t done))).link ≡ Some a) (sym one) own
link_then image told tape v done state t u a local writes shown inv goes false s e =
    let ne : u ≡ t → ⊥ = λ (same : u ≡ t). false≢true (sym s ∙ eq-eqb u t same) in
    let was : surviving (writes_in (at v (next_of t done)).outcome) (reserved image v u done) ≡ Some a = sym (reserved_other image v t u done ne) ∙ e in
    ap (λ (n : ℕ). (seen_before image told v u n).link) (count_other t u done ne)
    ∙ inv.links u a (surviving_was (writes_in (at v (next_of t done)).outcome) (reserved image v u done) a was)

pub inv_gone : (image : Layout) (told : Told) (tape : List ℕ) (v : Visits) (done : List Pos) (state : State) (t : ℕ) (local : Local) (writes : List Write) (shown : Note)
    → Sound told → Inv image told tape v done state → t < length state.core.threads → GoesOn image told v done t local writes shown → MakesNext (length state.core.threads) shown
    → Inv image told tape v (Next t done) (Gone state t (reserving_by image (thread_at state.core t)) local writes shown)
inv_gone image told tape v done state t local writes shown sound inv there goes makes =
    let p : Pos = next_of t done in
    let after : State = Gone state t (reserving_by image (thread_at state.core t)) local writes shown in
    record {
      places = λ (q : Pos) (i : In q (p ∷ done)). elim i [ inl e ↦ subst (IsPlace told) e goes.place | inr older ↦ inv.places q older ];
      many = many_then state.core t (reserving_by image (thread_at state.core t)) local writes shown makes inv.many;
      some = let more : length state.core.threads ≤ length after.core.threads = more_then state.core t (reserving_by image (thread_at state.core t)) local writes shown makes in omega (arith, more, inv.some);
      threads = λ (u : ℕ) (less : u < length after.core.threads).
          thread_then image told tape v done state t u local writes shown sound inv there goes makes (ltb u (length state.core.threads)) refl (eqb u t) refl less;
      unmade = λ (u : ℕ) (past : length after.core.threads ≤ u).
          let more : length state.core.threads ≤ length after.core.threads = more_then state.core t (reserving_by image (thread_at state.core t)) local writes shown makes in
          let ne : u ≡ t → ⊥ = λ (same : u ≡ t). absurd (omega (arith, there, more, past, same)) in
          count_other t u done ne ∙ inv.unmade u (omega (arith, more, past));
      links = λ (u a : ℕ) (e : reserved image v u (p ∷ done) ≡ Some a). link_then image told tape v done state t u a local writes shown inv goes (eqb u t) refl e;
      calls =
          ap (λ (c : Calls). calls_then c t (first_argument (thread_at state.core t).local) shown) inv.calls
          ∙ ap (λ (x : Thread). calls_then (calls_along told (value_of v) tape done) t (first_argument x.local) shown) (inv.threads t there)
          ∙ ap (λ (x : Seen). calls_then (calls_along told (value_of v) tape done) t (first_argument x.local) shown) (sym goes.seen)
          ∙ ap (calls_then (calls_along told (value_of v) tape done) t (value_of v p)) goes.shows;
      writes =
          ap (λ (ws : List Write). writes ++ ws) inv.writes
          ∙ ap (λ (o : Outcome). writes_in o ++ writes_along v done) (sym goes.outcome);
    }

-- the same of the machine's step, where it goes on
pub inv_step : (image : Layout) (told : Told) (tape : List ℕ) (v : Visits) (done : List Pos) (state : State) (t : ℕ) (local : Local) (writes : List Write) (shown : Note)
    → Sound told → Inv image told tape v done state → t < length state.core.threads → GoesOn image told v done t local writes shown → MakesNext (length state.core.threads) shown
    → outcome_by image (memory_of image state) state.core.calls t (thread_at state.core t) ≡ Goes local writes shown
    → Inv image told tape v (Next t done) (step image state t).state
inv_step image told tape v done state t local writes shown sound inv there goes makes e =
    subst (λ (s : Stepped). Inv image told tape v (Next t done) s.state)
    (sym (step_is image state t ∙ ap (λ (o : Outcome). after_effect state (applied state.core t (reserving_by image (thread_at state.core t)) o)) e))
    (inv_gone image told tape v done state t local writes shown sound inv there goes makes)
