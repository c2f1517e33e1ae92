-- The notes of a thread, one step more at a time, and of all threads.
use Rattle.std.specs.Prelude.{◌≡◌, ℕ, suc, ◌+◌, ◌<◌, ◌-◌, ◌≤◌, Bool, true, false, cond, List, [], ◌∷◌, ◌++◌, length, take, nat_eq, slice_get, slice_index_or, Option, Some, None, option_map, is_some, refl}
use Rattle.std.specs.List.{find}
use Rattle.std.proofs.Common.{sym, ◌∙◌, ap, arith, inl, inr, get_or}
use Rattle.std.proofs.lemmas.Bool.{cases_lt, eqb-true}
use Rattle.std.proofs.lemmas.List.{take_more, take_all, get_or_past}
use Rattle.std.proofs.Math.ListN.{get_or-append}
use Rattle.std.proofs.Math.Seq.{get_or-append_right}
use mathlib.Core.Path.{fun_ext}
use Rattle.elf_image.specs.Layout.{Layout}
use Rattle.odr_log.specs.declared.log.Call.{Call}
use Rattle.odr_log.specs.declared.log.CallRec.{CallRec}
use Rattle.odr_log.specs.declared.log.End.{End}
use Rattle.odr_log.specs.declared.log.End.TheVariants as end
use Rattle.odr_log.specs.declared.log.Log.{Log}
use Rattle.odr_log.specs.declared.log.PathItem.{PathItem}
use Rattle.odr_log.specs.declared.log.PathItem.TheVariants as item
use Rattle.odr_log.specs.declared.log.Pos.{Pos}
use Rattle.rv_model.specs.declared.state.Note.{Note}
use Rattle.rv_model.specs.declared.state.Note.TheVariants as note
use Rattle.rv_model.specs.declared.walk.FaultPlace.{FaultPlace}
use Rattle.rv_model.specs.declared.walk.Transfer.{Transfer}
use Rattle.rv_model.specs.Run.{logged, item_of}
use Rattle.rv_model.specs.Walk.{Walk, IsWalk, ThreadWalk, FaultFits, notes_of, places_of, transfer_of, goes_to, makes}
use Rattle.trace_path.specs.Traced.{Traced, IsTraced, walk_of}
use Rattle.trace_path.proofs.WholeLemmas.{walks_one}
use Rattle.guided_walk.specs.Told.{Told, told, last_fault, shown_by, place_of, ends}
use Rattle.guided_walk.proofs.Facts.{past_notes, in_log}
use Rattle.guided_walk.proofs.ScheduleLaw.{notes_are}
use Rattle.walk_lists.specs.Data.{told_of}
use Rattle.walk_notes.specs.Telling.{is_record, note_by, AreAhead, IsTransfer}
use Rattle.walk_notes.proofs.NoteLemmas.{leads_at, items, item_at, items_more, called_is, note_fits}

-- ---- one thread

abbrev pub RowSoFar : Layout → Log → ℕ → ℕ → List Note → ℕ → Type 0
RowSoFar image log thread step notes count =
    (walk : Walk) → IsWalk image log walk → (notes ≡ take step (notes_of walk thread)) × (count ≡ length (items thread 0 (take step (notes_of walk thread))))

pub row_none : (image : Layout) (log : Log) (thread : ℕ) → RowSoFar image log thread 0 [] 0
row_none image log thread walk is = (refl, refl)

note_is : (image : Layout) (log : Log) (walk : Walk) (traced : Traced) → IsWalk image log walk → IsTraced image log traced → (thread step count : ℕ) (how : Transfer)
    → step < length (notes_of walk thread) → IsTransfer traced thread step how → count ≡ length (items thread 0 (take step (notes_of walk thread)))
    → note_by (slice_get (logged log thread).path count) (find (is_record thread step) log.calls) how ≡ get_or (notes_of walk thread) step note.Nothing
note_is image log walk traced is t thread step count how less goes counted =
    let notes : List Note = notes_of walk thread in
    let n : Note = get_or notes step note.Nothing in
    let same : walk_of traced t.notes ≡ walk = walks_one image log (walk_of traced t.notes) walk t.walk is in
    let within : thread < length log.threads = in_log image log walk is thread step less in
    let tw : ThreadWalk image log thread (places_of walk thread) notes = is.each thread within in
    let place : slice_get (places_of walk thread) step ≡ Some goes.0 = ap (λ (w : Walk). slice_get (places_of w thread) step) (sym same) ∙ goes.1 in
    let leads : (next : ℕ) × (goes_to goes.0.pc (transfer_of goes.0.pc goes.0.instr) n ≡ Some next) =
    leads_at image tw.start (places_of walk thread) notes tw.after tw.leads step goes.0 place less in
    let at : (it : PathItem) → item_of n ≡ Some it → slice_get (logged log thread).path count ≡ Some it = λ (it : PathItem) (e : item_of n ≡ Some it).
    ap (λ (xs : List PathItem). slice_get xs count) (sym tw.path) ∙ ap (slice_get (items thread 0 notes)) counted ∙ item_at thread 0 notes step it less e in
    let p : Pos = record { thread = thread; step = step } in
    ap (note_by (slice_get (logged log thread).path count) (find (is_record thread step) log.calls)) goes.2
    ∙ note_fits log thread step count goes.0.pc (transfer_of goes.0.pc goes.0.instr) n leads.0 leads.1
    (λ (taken : Bool) (e : n ≡ note.Branch taken). at (item.Branch taken) (ap item_of e))
    (λ (target : ℕ) (e : n ≡ note.Jump target). at (item.Jump target) (ap item_of e))
    (λ (made : Call) (e : n ≡ note.Called made). called_is image log walk is p made less e)

pub row_more : (image : Layout) (log : Log) (traced : Traced) → IsTraced image log traced → (thread step : ℕ) (notes after : List Note) (count more : ℕ) (calls : List CallRec) (how : Transfer) (shown : Note)
    → step < (logged log thread).steps → IsTransfer traced thread step how → AreAhead log.calls thread step calls → shown ≡ note_by (slice_get (logged log thread).path count) (find (is_record thread step) calls) how → after ≡ notes ++ shown ∷ []
    → more ≡ count + cond (is_some (item_of shown)) 1 0 → RowSoFar image log thread step notes count → RowSoFar image log thread (step + 1) after more
row_more image log traced t thread step notes after count more calls how shown less goes ahead is_note pushed added so_far walk is =
    let all : List Note = notes_of walk thread in
    let within : step < length all = omega (arith, less, notes_are image log walk is thread) in
    let old : (notes ≡ take step all) × (count ≡ length (items thread 0 (take step all))) = so_far walk is in
    let made : find (is_record thread step) calls ≡ find (is_record thread step) log.calls = ahead step (omega arith) in
    let here : shown ≡ get_or all step note.Nothing =
    is_note ∙ ap (λ (r : Option CallRec). note_by (slice_get (logged log thread).path count) r how) made ∙ note_is image log walk traced is t thread step count how within goes old.1 in (
      pushed ∙ ap (λ (xs : List Note). xs ++ shown ∷ []) old.0 ∙ ap (λ (x : Note). take step all ++ x ∷ []) here ∙ sym (take_more all step note.Nothing within),
      added
          ∙ ap (λ (n : Note). count + cond (is_some (item_of n)) 1 0) here
          ∙ ap (λ (m : ℕ). m + cond (is_some (item_of (get_or all step note.Nothing))) 1 0) old.1
          ∙ sym (ap (λ (k : ℕ). length (items thread 0 (take k all))) (let e : step + 1 ≡ suc step = omega arith in e) ∙ items_more thread 0 all step within),
    )

-- ahead of a step is ahead of those after it, and what is ahead of calls that are ahead is so too
pub ahead_more : (all : List CallRec) (thread step : ℕ) (calls : List CallRec) → AreAhead all thread step calls → AreAhead all thread (step + 1) calls
ahead_more all thread step calls ahead later le = ahead later (omega (arith, le))

pub ahead_of : (all : List CallRec) (thread step : ℕ) (calls rest : List CallRec) → AreAhead all thread step calls → AreAhead calls thread step rest → AreAhead all thread step rest
ahead_of all thread step calls rest ahead next later le = next later le ∙ ahead later le

pub row_all : (image : Layout) (log : Log) (thread step : ℕ) (notes : List Note) (count : ℕ) → (logged log thread).steps ≤ step → RowSoFar image log thread step notes count
    → (walk : Walk) → IsWalk image log walk → notes ≡ notes_of walk thread
row_all image log thread step notes count past so_far walk is =
    (so_far walk is).0 ∙ take_all step (notes_of walk thread) (omega (arith, past, notes_are image log walk is thread))

-- a counted step has a place in the traces
pub has_place : (image : Layout) (log : Log) (traced : Traced) → IsTraced image log traced → (thread step : ℕ) → step < (logged log thread).steps
    → step < length (slice_index_or traced.places thread [])
has_place image log traced t thread step less =
    let walk : Walk = walk_of traced t.notes in
    let within : thread < length log.threads = in_log image log walk t.walk thread step (omega (arith, less, notes_are image log walk t.walk thread)) in
    omega (arith, less, (t.walk.each thread within).steps)

-- ---- all threads

abbrev pub RowsSoFar : Layout → Log → ℕ → List (List Note) → Type 0
RowsSoFar image log thread all = (walk : Walk) → IsWalk image log walk → (u : ℕ) → u < thread → slice_index_or all u [] ≡ shown_by log walk u

pub rows_none : (image : Layout) (log : Log) → RowsSoFar image log 0 []
rows_none image log walk is u less = absurd (omega (arith, less))

pub rows_more : (image : Layout) (log : Log) (thread : ℕ) (all after : List (List Note)) (row : List Note) → length all ≡ thread → after ≡ all ++ row ∷ []
    → ((walk : Walk) → IsWalk image log walk → row ≡ shown_by log walk thread) → RowsSoFar image log thread all → RowsSoFar image log (thread + 1) after
rows_more image log thread all after row count pushed here so_far walk is u less =
    elim (cases_lt u thread) [
      | inl before ↦
          ap (λ (xs : List (List Note)). slice_index_or xs u []) pushed ∙ get_or-append all (row ∷ []) [] u (omega (arith, before, count)) ∙ so_far walk is u before
      | inr le ↦
          let last : u ≡ thread = omega (arith, less, le) in
          let second : get_or (all ++ row ∷ []) thread [] ≡ row =
          get_or-append_right all (row ∷ []) thread [] (omega (arith, count)) ∙ ap (λ (k : ℕ). get_or (row ∷ []) k []) (let z : thread - length all ≡ 0 = omega (arith, count) in z) in
          ap (λ (xs : List (List Note)). slice_index_or xs u []) pushed ∙ ap (λ (k : ℕ). get_or (all ++ row ∷ []) k []) last ∙ second ∙ here walk is ∙ ap (shown_by log walk) (sym last)
    ]

no_fault_past : (image : Layout) (log : Log) (walk : Walk) (ended : End) (at : Option FaultPlace) (u : ℕ) → FaultFits image log walk ended at → length log.threads ≤ u → last_fault ended u ≡ []
no_fault_past image log walk (end.Faulted thread fault) None u fits past = absurd fits
no_fault_past image log walk (end.Faulted thread fault) (Some place) u fits past = by_test (nat_eq thread u) refl where
  by_test : (b : Bool) → nat_eq thread u ≡ b → cond b (note.Faulted fault ∷ []) [] ≡ []
  by_test true e = absurd (omega (arith, fits.0, past, eqb-true thread u e))
  by_test false e = refl
no_fault_past image log walk (end.Exited thread code) at u fits past = refl
no_fault_past image log walk end.AllDone at u fits past = refl
no_fault_past image log walk end.Cut at u fits past = refl

abbrev told_by : List CallRec → (ℕ → List Note) → Told
told_by calls rows = record {
  steps = λ thread. length (rows thread);
  note = λ thread step. slice_index_or (rows thread) step note.Nothing;
  maker = λ thread. option_map place_of (find (λ r. makes thread r.call) calls);
  ender = λ thread. option_map place_of (find (ends thread) calls);
}

pub rows_all : (image : Layout) (log : Log) (thread : ℕ) (all : List (List Note)) → length all ≡ thread → length log.threads ≤ thread → RowsSoFar image log thread all
    → (walk : Walk) → IsWalk image log walk → told_of all log.calls ≡ told log walk
rows_all image log thread all count past so_far walk is =
    ap (told_by log.calls) (fun_ext (λ (u : ℕ). by_case u)) where
      by_case : (u : ℕ) → slice_index_or all u [] ≡ shown_by log walk u
      by_case u = elim (cases_lt u thread) [
        | inl before ↦ so_far walk is u before
        | inr after ↦
            let none : slice_index_or all u [] ≡ [] = get_or_past all u [] (omega (arith, count, after)) in
            let notes : notes_of walk u ≡ [] = past_notes image log walk is u (omega (arith, past, after)) in
            let fault : last_fault log.end u ≡ [] = no_fault_past image log walk log.end walk.fault u is.fault (omega (arith, past, after)) in
            none ∙ sym (ap (λ (xs : List Note). xs ++ last_fault log.end u) notes ∙ fault)
      ]
