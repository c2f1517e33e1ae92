-- Each step of the list can be followed, and following it is progress.
use Rattle.std.proofs.Common.{◌≡◌, ℕ, zero, suc, ◌+◌, ◌^◌, ◌<◌, ◌≤◌, List, [], ◌∷◌, length, take, get_or, Bool, true, false, ltb, refl, sym, ◌∙◌, ap, subst, inl, inr, arith}
use Rattle.std.specs.Prelude.{IfSome, Option, Some, None, Result, Ok, Err, fold, is_some, slice_index_or}
use Rattle.std.proofs.lemmas.Bool.{ltb-false, ltb-true}
use Rattle.std.proofs.lemmas.List.{get_or_past}
use Rattle.std.proofs.lemmas.List.Elements.{All-from_get_or}
use Rattle.elf_image.specs.Layout.{Layout, fetch_of}
use Rattle.rv32_decode.specs.declared.instr.Instr.{Instr}
use Rattle.rv32_decode.specs.Table.{decode_of}
use Rattle.rv32_decode.specs.Valid.{IsValid}
use Rattle.rv32_decode.proofs.Validity.{decode_of-valid}
use Rattle.odr_log.specs.declared.log.Call.{Call}
use Rattle.odr_log.specs.declared.log.Call.TheVariants as call
use Rattle.odr_log.specs.declared.log.CallRec.{CallRec}
use Rattle.odr_log.specs.declared.log.Cause.{Cause}
use Rattle.odr_log.specs.declared.log.Cause.TheVariants as cause
use Rattle.odr_log.specs.declared.log.Log.{Log}
use Rattle.odr_log.specs.declared.log.Pos.{Pos}
use Rattle.odr_log.specs.declared.log.ThreadLog.{ThreadLog}
use Rattle.odr_log.specs.Tape.{tape_of}
use Rattle.odr_log.specs.Grammar as grammar
use Rattle.rv_model.specs.declared.hearing.Reply.{Reply}
use Rattle.rv_model.specs.declared.state.Calls.{Calls}
use Rattle.rv_model.specs.declared.state.Note.{Note}
use Rattle.rv_model.specs.declared.state.Note.TheVariants as note
use Rattle.rv_model.specs.Calls.{asked_in, opening_calls, reply_to}
use Rattle.rv_model.specs.CallsFit.{FitsRecord, IsPossible, Pass, after_record, reply_in}
use Rattle.rv_model.specs.RecordedOrder.{Counted}
use Rattle.rv_model.specs.Run.{nothing_logged}
use Rattle.rv_model.specs.Step.{decoded, fetched, instr_at}
use Rattle.rv_model.specs.Walk.{goes_to, transfer_of}
use Rattle.bv_terms.specs.declared.node.TermId.{TermId}
use Rattle.bv_terms.specs.Shapes.{Shape}
use Rattle.guided_walk.specs.Flow.{NeedsThread}
use Rattle.guided_walk.specs.Orders.{In}
use Rattle.guided_walk.specs.Told.{Told, noted}
use Rattle.guided_walk.proofs.Facts.{place_called}
use Rattle.guided_walk.proofs.Records.{Among, rec}
use Rattle.step_terms.specs.Made.{IsTerm}
use Rattle.walk_lists.specs.Data.{told_of}
use Rattle.walk_lists.specs.Order.{Follows}
use Rattle.path_exec.specs.declared.progress.Progress.{Progress}
use Rattle.path_exec.specs.declared.walker.Walker.{Walker}
use Rattle.path_exec.specs.Following.{AreWords, CanBe, HasWalker, IsPossibleCall, IsReady, at_note}
use Rattle.path_exec.specs.Progress.{Ground, IsEnd, IsGround, IsProgress, IsThread, place_in, step_of, tells}
use Rattle.path_exec.proofs.Joins.{counted_thread}
use Rattle.path_exec.proofs.Orders.{below, needs_done}

-- ---- the instruction

valid_decoded : (o : Option Instr) (i : Instr) → IfSome o IsValid → decoded o ≡ Ok i → IsValid i
valid_decoded None i valid e = absurd (let h : (let r : Result Instr Cause = Err cause.Illegal in r) ≡ Ok i = e in cc)
valid_decoded (Some found) i valid e = subst IsValid (let h : (let r : Result Instr Cause = Ok found in r) ≡ Ok i = e in cc) valid

valid_fetched : (o : Option ℕ) (i : Instr) → fetched o ≡ Ok i → IsValid i
valid_fetched None i e = absurd (let h : (let r : Result Instr Cause = Err cause.FetchFault in r) ≡ Ok i = e in cc)
valid_fetched (Some word) i e = valid_decoded (decode_of word) i (decode_of-valid word) e

pub valid_at : (image : Layout) (pc : ℕ) (i : Instr) → instr_at image pc ≡ Ok i → IsValid i
unfolding instr_at
valid_at image pc i e = valid_fetched (fetch_of image pc) i e

-- ---- the call

pass_at : (calls : Calls) (records : List CallRec) (r : CallRec) → Pass calls records → Among r records → (before : Calls) × FitsRecord before r
pass_at calls [] r pass has = absurd has
pass_at calls (x ∷ records) r pass (inl e) = (calls, subst (FitsRecord calls) e pass.0)
pass_at calls (x ∷ records) r pass (inr has) = pass_at (after_record calls x) records r pass.1 has

short_take : (n : ℕ) (xs : List ℕ) → length (take n xs) ≤ n
short_take zero xs = omega arith
short_take (suc n) [] = omega arith
short_take (suc n) (x ∷ xs) = omega (arith, short_take n xs)

few_read : (calls : Calls) (thread want : ℕ) (bytes : List ℕ) → reply_to calls thread (asked_in (call.Read want bytes)) ≡ reply_in (call.Read want bytes) → length bytes ≤ want
few_read calls thread want bytes e =
    let same : take want calls.tape ≡ bytes = ap (λ (r : Reply). r.bytes) e in
    omega (arith, short_take want calls.tape, ap (length {A = ℕ}) same)

possible_call : (before : Calls) (r : CallRec) → FitsRecord before r → IsPossibleCall r.call
possible_call before r fits = record {
  possible = fits.possible;
  few = λ want bytes e.
      let short = few_read before r.tid want bytes (subst (λ (c : Call). reply_to before r.tid (asked_in c) ≡ reply_in c) e fits.answered) in
      let small : want ≤ 256 = subst IsPossible e fits.possible in
      omega (arith, short, small);
}

can_be : (ground : Ground) → IsGround ground → (p : Pos) (n : Note) → noted (tells ground) p ≡ n → CanBe n
can_be ground is p (note.Called made) e =
    let has = place_called ground.image ground.log ground.walk is.walk p made e in
    let at = pass_at (opening_calls (tape_of ground.log)) ground.log.calls (rec p.thread p.step made) is.fits.pass has in
    possible_call at.0 (rec p.thread p.step made) at.1
can_be ground is p note.Nothing e = tt
can_be ground is p (note.Branch taken) e = tt
can_be ground is p (note.Jump target) e = tt
can_be ground is p (note.Faulted fault) e = tt

-- ---- few steps and threads

sum_from : (xs : List ThreadLog) (a b : ℕ) → a ≤ b → fold (λ n (t : ThreadLog). n + t.steps) a xs ≤ fold (λ n (t : ThreadLog). n + t.steps) b xs
sum_from [] a b le = le
sum_from (x ∷ xs) a b le = sum_from xs (a + x.steps) (b + x.steps) (omega (arith, le))

start_below : (xs : List ThreadLog) (a : ℕ) → a ≤ fold (λ n (t : ThreadLog). n + t.steps) a xs
start_below [] a = omega arith
start_below (x ∷ xs) a = omega (arith, start_below xs (a + x.steps))

one_below : (xs : List ThreadLog) (k a : ℕ) → k < length xs → (get_or xs k nothing_logged).steps ≤ fold (λ n (t : ThreadLog). n + t.steps) a xs
one_below [] k a less = absurd (omega (arith, less))
one_below (x ∷ xs) zero a less = omega (arith, start_below xs (a + x.steps))
one_below (x ∷ xs) (suc k) a less = one_below xs k (a + x.steps) (omega (arith, less))

few_steps : (log : Log) → grammar.IsValid log → (p : Pos) → Counted log p → p.step < 2 ^ 18
few_steps log valid p counted = omega (arith, counted, one_below log.threads p.thread 0 (counted_thread log p counted), valid.steps)

-- ---- threads that have begun

-- before a step that can follow, its thread has begun
begun : (ground : Ground) (nodes : List Shape) (done : List Pos) (progress : Progress) (p : Pos) → IsGround ground → IsProgress ground nodes done progress → Follows (tells ground) done p → Counted ground.log p
    → HasWalker nodes progress.walkers p.thread
begun ground nodes done progress p is progress_is follows counted = by_slot (slice_index_or progress.walkers p.thread None) refl (progress_is.walkers p.thread (counted_thread ground.log p counted))
  where
    by_slot : (o : Option Walker) → slice_index_or progress.walkers p.thread None ≡ o → IsThread ground nodes done progress.accesses p.thread o → HasWalker nodes progress.walkers p.thread
    by_slot (Some walker) e walker_is = record {
      walker = walker;
      within = omega (arith, counted_thread ground.log p counted, progress_is.walker_count);
      is = e;
      words = walker_is.words;
    }
    by_slot None e asleep = absurd (by_step p.step refl)
      where
        need_first : (t : ℕ) → (tells ground).maker t ≡ Some asleep.maker → (t ≡ 0 → ⊥) → NeedsThread (tells ground) asleep.maker t zero
        need_first zero made child = absurd (child refl)
        need_first (suc t) made child = made

        by_step : (n : ℕ) → p.step ≡ n → ⊥
        by_step zero first = asleep.new (follows.needs asleep.maker (inl (subst (NeedsThread (tells ground) asleep.maker p.thread) (sym first) (need_first p.thread asleep.made asleep.child))))
        by_step (suc n) later =
            let earlier : In (step_of p.thread n) done = follows.needs (step_of p.thread n) (inl (subst (NeedsThread (tells ground) (step_of p.thread n) p.thread) (sym later) refl)) in
            asleep.new (needs_done (tells ground) done (step_of p.thread 0) asleep.maker progress_is.order (below (tells ground) done p.thread n 0 progress_is.order earlier (omega arith))
            (inl (need_first p.thread asleep.made asleep.child)))

words_kept : (ground : Ground) (nodes : List Shape) (done : List Pos) (progress : Progress) → IsProgress ground nodes done progress → AreWords nodes progress.ends
words_kept ground nodes done progress is =
    All-from_get_or (λ (end : Option TermId). IfSome end (λ (id : TermId). IsTerm nodes 32 id.number)) progress.ends None
    (λ i less. by_end (slice_index_or progress.ends i None) i (is.ends i (omega (arith, less, is.end_count))))
  where
    by_end : (o : Option TermId) (i : ℕ) → IsEnd ground nodes done progress.accesses i o → IfSome o (λ (id : TermId). IsTerm nodes 32 id.number)
    by_end None i end = tt
    by_end (Some id) i end = end.word

-- ---- ready

-- what is told by lists of notes
pub note_is : (notes : List (List Note)) (calls : List CallRec) (t : Told) (p : Pos) → told_of notes calls ≡ t → at_note notes p ≡ noted t p
note_is notes calls t p e = ap (λ (x : Told). x.note p.thread p.step) e

notes_long : (notes : List (List Note)) (calls : List CallRec) (t : Told) (p : Pos) → told_of notes calls ≡ t → p.step < t.steps p.thread → p.step < length (slice_index_or notes p.thread [])
notes_long notes calls t p e less = let same : length (slice_index_or notes p.thread []) ≡ t.steps p.thread = ap (λ (x : Told). x.steps p.thread) e in omega (arith, same, less)

thread_noted : (notes : List (List Note)) (u k : ℕ) → k < length (slice_index_or notes u []) → u < length notes
thread_noted notes u k less = by_test (ltb u (length notes)) refl
  where
    by_test : (b : Bool) → ltb u (length notes) ≡ b → u < length notes
    by_test true e = ltb-true u (length notes) e
    by_test false e =
        let none : length (slice_index_or notes u []) ≡ 0 = ap (length {A = Note}) (get_or_past notes u [] (ltb-false u (length notes) e)) in
        absurd (omega (arith, less, none))

pub ready : (ground : Ground) (nodes : List Shape) (done : List Pos) (progress : Progress) (p : Pos) (notes : List (List Note)) → IsGround ground → grammar.IsValid ground.log → IsProgress ground nodes done progress
    → Follows (tells ground) done p → Counted ground.log p → told_of notes ground.log.calls ≡ tells ground → IsReady ground.walk.places notes p nodes progress
ready ground nodes done progress p notes is valid progress_is follows counted told_is =
    let within = counted_thread ground.log p counted in
    let here = is.at p counted in
    let shown = note_is notes ground.log.calls (tells ground) p told_is in
    let long = notes_long notes ground.log.calls (tells ground) p told_is follows.place in
    let place = place_in ground p.thread p.step in
    record {
      placed = omega (arith, counted, (is.walk.each p.thread within).steps);
      noted_thread = thread_noted notes p.thread p.step long;
      noted_step = long;
      thread = omega (arith, within, valid.grammar.few_threads);
      step = few_steps ground.log valid p counted;
      walker = begun ground nodes done progress p is progress_is follows counted;
      end = omega (arith, within, progress_is.end_count);
      words = words_kept ground nodes done progress progress_is;
      valid = valid_at ground.image (ground.address p.thread p.step) place.instr here.fetched;
      leads =
          ap (λ (n : Note). is_some (goes_to place.pc (transfer_of place.pc place.instr) n)) shown
          ∙ ap (λ a. is_some (goes_to a (transfer_of a place.instr) (noted (tells ground) p))) here.at
          ∙ ap is_some here.goes;
      possible = subst CanBe (sym shown) (can_be ground is p (noted (tells ground) p) refl);
    }
