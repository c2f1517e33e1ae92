-- What a walk and calls that fit say of the steps as they are told: notes are records, and each spawn and end is the one that
-- made or ended its thread.
use Rattle.std.specs.Prelude.{◌≡◌, ℕ, zero, suc, ◌+◌, ◌-◌, ◌<◌, ◌≤◌, Bool, true, false, cond, List, [], ◌∷◌, length, nat_eq, slice_get, Some, None, option_map, All, AllPairs, refl}
use Rattle.std.specs.List.{find}
use Rattle.std.proofs.Common.{sym, ◌∙◌, ap, subst, arith, inl, inr, get_or, ltb, eq-eqb}
use Rattle.std.proofs.lemmas.Bool.{cases_lt, eqb-true, ltb-true, ltb-false, false≢true}
use Rattle.std.proofs.lemmas.List.{get_or_past, length_push}
use Rattle.std.proofs.Math.ListN.{get_or-append}
use Rattle.std.proofs.Math.Seq.{get_or-append_right}
use Rattle.std.proofs.lemmas.Option.{none-some, same_Some, slice_get_within, get_or_from_slice_get}
use Rattle.elf_image.specs.Layout.{Layout}
use Rattle.odr_log.specs.declared.log.Call.{Call}
use Rattle.odr_log.specs.declared.log.Call.TheVariants as call
use Rattle.odr_log.specs.declared.log.CallRec.{CallRec}
use Rattle.odr_log.specs.declared.log.End.{End}
use Rattle.odr_log.specs.declared.log.End.TheVariants as end
use Rattle.odr_log.specs.declared.log.Log.{Log}
use Rattle.odr_log.specs.declared.log.Pos.{Pos}
use Rattle.rv_model.specs.declared.state.Calls.{Calls}
use Rattle.rv_model.specs.declared.state.Note.{Note}
use Rattle.rv_model.specs.declared.state.Note.TheVariants as note
use Rattle.rv_model.specs.Calls.{made, calls_after}
use Rattle.rv_model.specs.Run.{logged, records_of}
use Rattle.rv_model.specs.Walk.{Walk, notes_of, places_of, events_from, is_last, records_by, makes, maker_of, ThreadWalk, IsWalk}
use Rattle.rv_model.specs.CallsFit.{after_record, FitsRecord, Pass, CallsFit}
use Rattle.rv_model.proofs.SpawnLemmas.{spawn_makes, spawn_child}
use Rattle.guided_walk.specs.Told.{told, last_fault, ends, place_of, IsPlace, noted}
use Rattle.guided_walk.proofs.Along.{Sound}
use Rattle.guided_walk.proofs.Walks.{leads_length}
use Rattle.guided_walk.proofs.Records.{Among, at_among, among_filter, filter_among, found_among, among_found, rec, NotedAt, notes_recorded, records_noted, one_record}

-- ---- a thread's notes

-- the notes of a thread that the log hasn't are none
pub past_notes : (image : Layout) (log : Log) (walk : Walk) → IsWalk image log walk → (u : ℕ) → length log.threads ≤ u → notes_of walk u ≡ []
past_notes image log walk is u past = get_or_past walk.notes u [] (omega (arith, is.notes, past))

-- a step of a thread is one of a thread of the log
pub in_log : (image : Layout) (log : Log) (walk : Walk) → IsWalk image log walk → (u k : ℕ) → k < length (notes_of walk u) → u < length log.threads
in_log image log walk is u k less = by_test (ltb u (length log.threads)) refl where
  by_test : (b : Bool) → ltb u (length log.threads) ≡ b → u < length log.threads
  by_test true e = ltb-true u (length log.threads) e
  by_test false e =
      let none : length (notes_of walk u) ≡ 0 = ap (length {A = Note}) (past_notes image log walk is u (ltb-false u (length log.threads) e)) in absurd (omega (arith, less, none))

pub notes_counted : (image : Layout) (log : Log) (walk : Walk) → IsWalk image log walk → (u : ℕ) → u < length log.threads
    → length (notes_of walk u) ≡ (logged log u).steps
notes_counted image log walk is u within =
    let tw : ThreadWalk image log u (places_of walk u) (notes_of walk u) = is.each u within in
    sym (leads_length image tw.start (places_of walk u) (notes_of walk u) tw.after tw.leads) ∙ tw.steps

-- ---- notes and records

-- the note of a step of the walk
pub noted_step : (log : Log) (walk : Walk) (p : Pos) → p.step < length (notes_of walk p.thread) → noted (told log walk) p ≡ get_or (notes_of walk p.thread) p.step note.Nothing
noted_step log walk p less = get_or-append (notes_of walk p.thread) (last_fault log.end p.thread) note.Nothing p.step less

-- a fault shows no call
fault_shows : (ended : End) (u k : ℕ) (made : Call) → get_or (last_fault ended u) k note.Nothing ≡ note.Called made → ⊥
fault_shows (end.Exited thread code) u k made e = absurd (let h : note.Nothing ≡ note.Called made = e in cc)
fault_shows end.AllDone u k made e = absurd (let h : note.Nothing ≡ note.Called made = e in cc)
fault_shows end.Cut u k made e = absurd (let h : note.Nothing ≡ note.Called made = e in cc)
fault_shows (end.Faulted thread fault) u k made e = by_test (nat_eq thread u) k e where
  by_test : (b : Bool) (j : ℕ) → get_or (cond b (note.Faulted fault ∷ []) []) j note.Nothing ≡ note.Called made → ⊥
  by_test true zero h = absurd (let g : note.Faulted fault ≡ note.Called made = h in cc)
  by_test true (suc j) h = absurd (let g : note.Nothing ≡ note.Called made = h in cc)
  by_test false j h = absurd (let g : note.Nothing ≡ note.Called made = h in cc)

-- a place that shows a call is a step of the walk
pub call_counted : (log : Log) (walk : Walk) (p : Pos) (made : Call) → noted (told log walk) p ≡ note.Called made → p.step < length (notes_of walk p.thread)
call_counted log walk p made e = by_test (ltb p.step (length (notes_of walk p.thread))) refl where
  by_test : (b : Bool) → ltb p.step (length (notes_of walk p.thread)) ≡ b → p.step < length (notes_of walk p.thread)
  by_test true h = ltb-true p.step (length (notes_of walk p.thread)) h
  by_test false h =
      absurd (fault_shows log.end p.thread (p.step - length (notes_of walk p.thread)) made
      (sym (get_or-append_right (notes_of walk p.thread) (last_fault log.end p.thread) p.step note.Nothing (ltb-false p.step (length (notes_of walk p.thread)) h)) ∙ e))

-- the call that a place shows is a record of the log
pub place_called : (image : Layout) (log : Log) (walk : Walk) → IsWalk image log walk → (p : Pos) (made : Call)
    → noted (told log walk) p ≡ note.Called made → Among (rec p.thread p.step made) log.calls
place_called image log walk is p made e =
    let less : p.step < length (notes_of walk p.thread) = call_counted log walk p made e in
    let within : p.thread < length log.threads = in_log image log walk is p.thread p.step less in
    let tw : ThreadWalk image log p.thread (places_of walk p.thread) (notes_of walk p.thread) = is.each p.thread within in
    let has : Among (rec p.thread (0 + p.step) made) (records_of (events_from p.thread 0 (notes_of walk p.thread))) =
    notes_recorded p.thread 0 (notes_of walk p.thread) p.step made less (sym (noted_step log walk p less) ∙ e) in
    (among_filter (λ (r : CallRec). nat_eq r.tid p.thread) log.calls (rec p.thread p.step made)
    (subst (λ (s : ℕ). Among (rec p.thread s made) (records_by p.thread log.calls)) (let z : 0 + p.step ≡ p.step = omega arith in z)
    (subst (Among (rec p.thread (0 + p.step) made)) tw.calls has))).0

-- a record of the log is the call that its place shows
pub record CalledAt (log : Log) (walk : Walk) (r : CallRec) : Type 0 where
  pub within : r.at < length (notes_of walk r.tid)
  pub is : get_or (notes_of walk r.tid) r.at note.Nothing ≡ note.Called r.call

all_within : (calls : List CallRec) (n : ℕ) (r : CallRec) → All (λ x. x.tid < n) calls → Among r calls → r.tid < n
all_within calls n r all has =
    let i : (i : ℕ) × (slice_get calls i ≡ Some r) = at_among calls r has in
    subst (λ (y : CallRec). y.tid < n) (get_or_from_slice_get calls i.0 r r i.1) (all i.0 r (slice_get_within calls i.0 r i.1))

pub called_place : (image : Layout) (log : Log) (walk : Walk) → IsWalk image log walk → (r : CallRec) → Among r log.calls → CalledAt log walk r
called_place image log walk is r has =
    let within : r.tid < length log.threads = all_within log.calls (length log.threads) r is.callers has in
    let tw : ThreadWalk image log r.tid (places_of walk r.tid) (notes_of walk r.tid) = is.each r.tid within in
    let found : NotedAt r.tid 0 (notes_of walk r.tid) r =
    records_noted r.tid 0 (notes_of walk r.tid) r
    (subst (Among r) (sym tw.calls) (filter_among (λ (x : CallRec). nat_eq x.tid r.tid) log.calls r has (eq-eqb r.tid r.tid refl))) in
    let place : found.place ≡ r.at = omega (arith, found.at) in
    record {
      within = omega (arith, found.within, place);
      is = ap (λ (k : ℕ). get_or (notes_of walk r.tid) k note.Nothing) (sym place) ∙ found.is;
    }

pub called_noted : (image : Layout) (log : Log) (walk : Walk) → IsWalk image log walk → (r : CallRec) → Among r log.calls → noted (told log walk) (place_of r) ≡ note.Called r.call
called_noted image log walk is r has =
    let here : CalledAt log walk r = called_place image log walk is r has in noted_step log walk (place_of r) here.within ∙ here.is

-- ---- the spawn that made a thread

pub made_by_call : (thread : ℕ) (made : Call) → makes thread made ≡ true → (entry : ℕ) × (made ≡ call.Spawn entry (Some thread))
made_by_call thread (call.Spawn entry (Some child)) e = (entry, ap (λ (c : ℕ). call.Spawn entry (Some c)) (eqb-true child thread e))
made_by_call thread (call.Spawn entry None) e = absurd (false≢true e)
made_by_call thread (call.Exit code) e = absurd (false≢true e)
made_by_call thread call.EndThread e = absurd (false≢true e)
made_by_call thread (call.Join target ok) e = absurd (false≢true e)
made_by_call thread (call.Lock mutex ok) e = absurd (false≢true e)
made_by_call thread (call.Unlock mutex ok) e = absurd (false≢true e)
made_by_call thread (call.TryLock mutex got) e = absurd (false≢true e)
made_by_call thread (call.Write bytes) e = absurd (false≢true e)
made_by_call thread call.WriteBad e = absurd (false≢true e)
made_by_call thread (call.Read want bytes) e = absurd (false≢true e)
made_by_call thread call.ReadBad e = absurd (false≢true e)
made_by_call thread call.SelfId e = absurd (false≢true e)
made_by_call thread call.Yield e = absurd (false≢true e)
made_by_call thread (call.Unknown number) e = absurd (false≢true e)

-- where calls pass, two spawns of one child are one
spawn_after : (calls : Calls) (records : List CallRec) (first : CallRec) (n : ℕ) (r : CallRec) (entry other child : ℕ) → FitsRecord calls first → Pass (after_record calls first) records
    → first.call ≡ call.Spawn entry (Some child) → slice_get records n ≡ Some r → r.call ≡ call.Spawn other (Some child) → ⊥
spawn_after calls records first n r entry other child fits pass e at f =
    let here : made calls ≡ child = spawn_makes calls first entry child e fits in
    let later : made (after_record calls first) ≤ child = spawn_child (after_record calls first) records n r other child pass at f in
    let one : made (after_record calls first) ≡ made calls + 1 = spawned calls first entry child e in
    absurd (omega (arith, here, later, one)) where
      spawned : (calls : Calls) (first : CallRec) (entry child : ℕ) → first.call ≡ call.Spawn entry (Some child) → made (after_record calls first) ≡ made calls + 1
      spawned calls first entry child e =
          ap (λ (c : Call). made (calls_after calls first.tid 0 c)) e ∙ length_push calls.ended None

pub one_spawn : (calls : Calls) (records : List CallRec) (m n : ℕ) (r s : CallRec) (entry other child : ℕ) → Pass calls records
    → slice_get records m ≡ Some r → r.call ≡ call.Spawn entry (Some child) → slice_get records n ≡ Some s → s.call ≡ call.Spawn other (Some child) → r ≡ s
one_spawn calls [] m n r s entry other child pass p e q f = absurd (none-some r p)
one_spawn calls (x ∷ xs) zero zero r s entry other child pass p e q f = sym (same_Some x r p) ∙ same_Some x s q
one_spawn calls (x ∷ xs) zero (suc n) r s entry other child pass p e q f =
    absurd (spawn_after calls xs x n s entry other child pass.0 pass.1 (ap (λ (y : CallRec). y.call) (same_Some x r p) ∙ e) q f)
one_spawn calls (x ∷ xs) (suc m) zero r s entry other child pass p e q f =
    absurd (spawn_after calls xs x m r other entry child pass.0 pass.1 (ap (λ (y : CallRec). y.call) (same_Some x s q) ∙ f) p e)
one_spawn calls (x ∷ xs) (suc m) (suc n) r s entry other child pass p e q f = one_spawn (after_record calls x) xs m n r s entry other child pass.1 p e q f

-- the spawn of a thread that is recorded is the first that is found
pub maker_is : (log : Log) → CallsFit log → (r : CallRec) (entry child : ℕ) → Among r log.calls → r.call ≡ call.Spawn entry (Some child) → maker_of log child ≡ Some r
maker_is log fit r entry child has e =
    let passes : makes child r.call ≡ true = ap (makes child) e ∙ eq-eqb child child refl in
    let found : (y : CallRec) × (maker_of log child ≡ Some y) = among_found (λ (x : CallRec). makes child x.call) log.calls r has passes in
    let there : Among found.0 log.calls × (makes child found.0.call ≡ true) = found_among (λ (x : CallRec). makes child x.call) log.calls found.0 found.1 in
    let spawns : (other : ℕ) × (found.0.call ≡ call.Spawn other (Some child)) = made_by_call child found.0.call there.1 in
    let i : (i : ℕ) × (slice_get log.calls i ≡ Some found.0) = at_among log.calls found.0 there.0 in
    let j : (i : ℕ) × (slice_get log.calls i ≡ Some r) = at_among log.calls r has in
    found.1 ∙ ap (λ (y : CallRec). Some y) (one_spawn _ log.calls i.0 j.0 found.0 r spawns.0 entry child fit.pass i.1 spawns.1 j.1 e)

-- ---- the end of a thread

pub ends_by_call : (thread : ℕ) (r : CallRec) (made : Call) → r.call ≡ made → ends thread r ≡ true → (r.call ≡ call.EndThread) × (r.tid ≡ thread)
ends_by_call thread r made is e = by_call made (ap (λ (c : Call). test c) (sym is) ∙ e) is where
  test : Call → Bool
  test call.EndThread = nat_eq r.tid thread
  test other = false

  by_call : (c : Call) → test c ≡ true → r.call ≡ c → (r.call ≡ call.EndThread) × (r.tid ≡ thread)
  by_call call.EndThread h same = (same, eqb-true r.tid thread h)
  by_call (call.Spawn entry child) h same = absurd (false≢true h)
  by_call (call.Exit code) h same = absurd (false≢true h)
  by_call (call.Join target ok) h same = absurd (false≢true h)
  by_call (call.Lock mutex ok) h same = absurd (false≢true h)
  by_call (call.Unlock mutex ok) h same = absurd (false≢true h)
  by_call (call.TryLock mutex got) h same = absurd (false≢true h)
  by_call (call.Write bytes) h same = absurd (false≢true h)
  by_call call.WriteBad h same = absurd (false≢true h)
  by_call (call.Read want bytes) h same = absurd (false≢true h)
  by_call call.ReadBad h same = absurd (false≢true h)
  by_call call.SelfId h same = absurd (false≢true h)
  by_call call.Yield h same = absurd (false≢true h)
  by_call (call.Unknown number) h same = absurd (false≢true h)

-- a thread has no step after its end
pub last_once : (notes : List Note) → AllPairs (λ earlier later. is_last earlier ≡ false) notes → (i j : ℕ) → i < j → j < length notes → is_last (get_or notes i note.Nothing) ≡ true → ⊥
last_once notes pairs i j less within e = false≢true (sym (pairs i j note.Nothing less within) ∙ e)

-- two ends of one thread are one
pub one_end : (image : Layout) (log : Log) (walk : Walk) → IsWalk image log walk → CallsFit log → (r s : CallRec) → Among r log.calls → Among s log.calls
    → r.call ≡ call.EndThread → s.call ≡ call.EndThread → r.tid ≡ s.tid → r ≡ s
one_end image log walk is fit r s has there e f same =
    let a : CalledAt log walk r = called_place image log walk is r has in
    let b : CalledAt log walk s = called_place image log walk is s there in
    let within : r.tid < length log.threads = in_log image log walk is r.tid r.at a.within in
    let pairs : AllPairs (λ earlier later. is_last earlier ≡ false) (notes_of walk r.tid) = (is.each r.tid within).ends in
    let last : is_last (get_or (notes_of walk r.tid) r.at note.Nothing) ≡ true = ap is_last a.is ∙ ap (λ (c : Call). is_last (note.Called c)) e in
    let there_within : s.at < length (notes_of walk r.tid) = subst (λ (u : ℕ). s.at < length (notes_of walk u)) (sym same) b.within in
    let there_last : is_last (get_or (notes_of walk r.tid) s.at note.Nothing) ≡ true =
    ap (λ (u : ℕ). is_last (get_or (notes_of walk u) s.at note.Nothing)) same ∙ ap is_last b.is ∙ ap (λ (c : Call). is_last (note.Called c)) f in
    let at : r.at ≡ s.at = elim (cases_lt r.at s.at) [
      | inl less ↦ absurd (last_once (notes_of walk r.tid) pairs r.at s.at less there_within last)
      | inr le ↦ elim (cases_lt s.at r.at) [
        | inl more ↦ absurd (last_once (notes_of walk r.tid) pairs s.at r.at more a.within there_last)
        | inr ge ↦ omega (arith, le, ge)
      ]
    ] in
    one_record log.calls fit.rising r s has there same at

pub ender_is : (image : Layout) (log : Log) (walk : Walk) → IsWalk image log walk → CallsFit log → (r : CallRec) → Among r log.calls → r.call ≡ call.EndThread
    → find (ends r.tid) log.calls ≡ Some r
ender_is image log walk is fit r has e =
    let passes : ends r.tid r ≡ true = subst (λ (x : CallRec). ends r.tid x ≡ true)
    (ap (λ (c : Call). let y : CallRec = record { tid = r.tid; at = r.at; call = c } in y) (sym e)) (eq-eqb r.tid r.tid refl) in
    let found : (y : CallRec) × (find (ends r.tid) log.calls ≡ Some y) = among_found (ends r.tid) log.calls r has passes in
    let there : Among found.0 log.calls × (ends r.tid found.0 ≡ true) = found_among (ends r.tid) log.calls found.0 found.1 in
    let parts : (found.0.call ≡ call.EndThread) × (found.0.tid ≡ r.tid) = ends_by_call r.tid found.0 found.0.call refl there.1 in
    found.1 ∙ ap (λ (y : CallRec). Some y) (one_end image log walk is fit found.0 r there.0 has parts.0 e parts.1)

-- ---- both

pub sound_by : (image : Layout) (log : Log) (walk : Walk) → IsWalk image log walk → CallsFit log → Sound (told log walk)
sound_by image log walk is fit = record {
  one_maker = λ (p : Pos) (entry child : ℕ) (place : IsPlace (told log walk) p) (e : noted (told log walk) p ≡ note.Called (call.Spawn entry (Some child))).
      ap (option_map place_of)
      (maker_is log fit (rec p.thread p.step (call.Spawn entry (Some child))) entry child (place_called image log walk is p (call.Spawn entry (Some child)) e) refl);
  one_ender = λ (p : Pos) (place : IsPlace (told log walk) p) (e : noted (told log walk) p ≡ note.Called call.EndThread).
      ap (option_map place_of) (ender_is image log walk is fit (rec p.thread p.step call.EndThread) (place_called image log walk is p call.EndThread e) refl);
}
