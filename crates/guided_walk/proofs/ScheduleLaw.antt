-- A schedule that is woven has the log exactly where a guided walk fits it.
use Rattle.std.specs.Prelude.{◌≡◌, ℕ, suc, ◌+◌, ◌<◌, ◌≤◌, Bool, true, false, cond, List, [], ◌∷◌, ◌++◌, length, nat_eq, slice_get, Some, refl}
use Rattle.std.proofs.Common.{sym, ◌∙◌, ap, subst, arith, inl, inr, ltb}
use Rattle.std.proofs.lemmas.Bool.{ltb-true, ltb-false}
use Rattle.std.proofs.lemmas.List.{get_or_past, append-nil, length-append}
use Rattle.elf_image.specs.Layout.{Layout}
use Rattle.odr_log.specs.declared.log.CallRec.{CallRec}
use Rattle.odr_log.specs.declared.log.End.{End}
use Rattle.odr_log.specs.declared.log.End.TheVariants as end
use Rattle.odr_log.specs.declared.log.Log.{Log}
use Rattle.odr_log.specs.declared.log.Pos.{Pos}
use Rattle.odr_log.specs.declared.log.ThreadLog.{ThreadLog}
use Rattle.odr_log.specs.Tape.{tape_of}
use Rattle.rv_model.specs.declared.state.Note.{Note}
use Rattle.rv_model.specs.declared.state.Note.TheVariants as note
use Rattle.rv_model.specs.Run.{logged, nothing_logged, records_of, HasLog}
use Rattle.rv_model.specs.Walk.{Walk, notes_of, IsWalk}
use Rattle.rv_model.specs.CallsFit.{CallsFit}
use Rattle.rv_model.specs.RecordedOrder.{One, More, Counted, RecordedOrder}
use Rattle.guided_walk.specs.Told.{told, last_fault, place_of, IsPlace}
use Rattle.guided_walk.specs.Orders.{In, Keeps}
use Rattle.guided_walk.specs.Schedules.{count, next_of, places_after, places, times}
use Rattle.guided_walk.specs.Flow.{Needs}
use Rattle.guided_walk.specs.Fits.{Explained}
use Rattle.guided_walk.specs.Law.{ScheduleLaw}
use Rattle.guided_walk.specs.Woven.{faulting, Woven}
use Rattle.guided_walk.proofs.Table.{settled_by, apart_none}
use Rattle.guided_walk.proofs.Along.{Next}
use Rattle.guided_walk.proofs.Agree.{agrees_explained, explained_agrees}
use Rattle.guided_walk.proofs.Records.{among_at}
use Rattle.guided_walk.proofs.Facts.{past_notes, notes_counted, CalledAt, called_place, sound_by}
use Rattle.guided_walk.proofs.Logged.{events_along}
use Rattle.guided_walk.proofs.LoggedRun.{Total, has_agrees}
use Rattle.guided_walk.proofs.Whole.{all_done, FaultHere}
use Rattle.guided_walk.proofs.WholeLog.{agrees_has}
use Rattle.guided_walk.proofs.Placing.{distinct_places, place_below, place_in, times-append, done_after, places-append, keeps_by, keeps_push}
use Rattle.guided_walk.proofs.CallOrder.{events_all, Splits, calls_in_order}
use Rattle.guided_walk.proofs.NeedsOrder.{need_is, needs_are}
use Rattle.guided_walk.proofs.Standing.{threads_opening, FaultLast, ToCome, suits_along}

-- ---- how many steps

pub notes_are : (image : Layout) (log : Log) (walk : Walk) → IsWalk image log walk → (u : ℕ) → length (notes_of walk u) ≡ (logged log u).steps
notes_are image log walk is u = by_test (ltb u (length log.threads)) refl where
  by_test : (b : Bool) → ltb u (length log.threads) ≡ b → length (notes_of walk u) ≡ (logged log u).steps
  by_test true e = notes_counted image log walk is u (ltb-true u (length log.threads) e)
  by_test false e =
      let past : length log.threads ≤ u = ltb-false u (length log.threads) e in
      ap (length {A = Note}) (past_notes image log walk is u past) ∙ sym (ap (λ (t : ThreadLog). t.steps) (get_or_past log.threads u nothing_logged past))

last_times : (ended : End) (u : ℕ) → times u (faulting ended) ≡ length (last_fault ended u)
last_times (end.Faulted thread fault) u = by_test (nat_eq thread u) where
  by_test : (b : Bool) → cond b 1 0 ≡ length (cond b (note.Faulted fault ∷ []) [])
  by_test true = refl
  by_test false = refl
last_times (end.Exited thread code) u = refl
last_times end.AllDone u = refl
last_times end.Cut u = refl

-- ---- a woven schedule

-- what is known of a woven schedule
pub record IsPlaced (image : Layout) (log : Log) (walk : Walk) (schedule : List ℕ) : Type 0 where
  pub total : Total (told log walk) [] schedule
  pub come : ToCome log walk [] (places schedule)
  pub all : (p : Pos) → IsPlace (told log walk) p → In p (places schedule)

-- a step that is recorded before another is counted
from_counted : (log : Log) (p q : Pos) → RecordedOrder log p q → Counted log p
from_counted log p q (One e) = e.from
from_counted log p q (More e rest) = e.from

count_step : (u t : ℕ) (done : List Pos) (n : ℕ) → (b : Bool) → cond b (suc (count u done)) (count u done) + n ≡ count u done + cond b (suc n) n
count_step u t done n true = omega arith
count_step u t done n false = omega arith

done_count : (u : ℕ) (done : List Pos) (schedule : List ℕ) → count u (done_after done schedule) ≡ count u done + times u schedule
done_count u done [] = omega arith
done_count u done (t ∷ schedule) = done_count u (Next t done) schedule ∙ count_step u t done (times u schedule) (nat_eq t u)

-- the fault stands behind the counted steps, and is before none of them
tail_keeps : (log : Log) (ended : End) (counted : List ℕ) → (R : Pos → Pos → Type 0) → Keeps R (places counted)
    → ((p q : Pos) → R p q → (p.step < times p.thread counted)) → Keeps R (places counted ++ places_after (done_after [] counted) (faulting ended))
tail_keeps log (end.Faulted t fault) counted R keeps within =
    keeps_push R (places counted) (next_of t (done_after [] counted)) keeps
    (λ (y : Pos) (i : In y (places counted)) (r : R (next_of t (done_after [] counted)) y).
    absurd (omega (arith, within (next_of t (done_after [] counted)) y r, done_count t [] counted)))
tail_keeps log (end.Exited t code) counted R keeps within = subst (Keeps R) (sym (append-nil (places counted))) keeps
tail_keeps log end.AllDone counted R keeps within = subst (Keeps R) (sym (append-nil (places counted))) keeps
tail_keeps log end.Cut counted R keeps within = subst (Keeps R) (sym (append-nil (places counted))) keeps

fault_last : (log : Log) (walk : Walk) (xs : List Pos) (ended : End) (done : List Pos) → ((p : Pos) → In p xs → FaultHere log walk p → ⊥)
    → FaultLast log walk (xs ++ places_after done (faulting ended))
fault_last log walk [] (end.Faulted t fault) done none = (λ (f : FaultHere log walk (next_of t done)). refl, tt)
fault_last log walk [] (end.Exited t code) done none = tt
fault_last log walk [] end.AllDone done none = tt
fault_last log walk [] end.Cut done none = tt
fault_last log walk (x ∷ xs) ended done none =
    (λ (f : FaultHere log walk x). absurd (none x (inl refl) f), fault_last log walk xs ended done (λ (p : Pos) (i : In p xs). none p (inr i)))

abbrev NeedsAt : Log → Walk → Pos → Pos → Type 0
NeedsAt log walk q p = IsPlace (told log walk) p × Needs (told log walk) q p

pub placed : (image : Layout) (log : Log) (walk : Walk) (pairs : List (Pos × Pos)) (schedule : List ℕ) → IsWalk image log walk → CallsFit log → Woven log pairs schedule → IsPlaced image log walk schedule
placed image log walk pairs schedule is fit woven =
    let counted : List ℕ = woven.counted in
    let tail : List ℕ = faulting log.end in
    let total : Total (told log walk) [] schedule = λ (u : ℕ).
    let whole : times u schedule ≡ times u counted + times u tail = ap (times u) woven.whole ∙ times-append u counted tail in
    let steps : (told log walk).steps u ≡ length (notes_of walk u) + length (last_fault log.end u) = length-append (notes_of walk u) (last_fault log.end u) in
    omega (arith, whole, steps, woven.steps u, notes_are image log walk is u, last_times log.end u) in
    let only : (p : Pos) → In p (places schedule) → IsPlace (told log walk) p =
    λ (p : Pos) (i : In p (places schedule)). omega (arith, place_below [] schedule p i, total p.thread) in
    let all : (p : Pos) → IsPlace (told log walk) p → In p (places schedule) =
    λ (p : Pos) (place : IsPlace (told log walk) p). place_in [] schedule p (omega arith) (omega (arith, place, total p.thread)) in
    let list_is : places schedule ≡ places counted ++ places_after (done_after [] counted) tail = ap places woven.whole ∙ places-append [] counted tail in
    let within : (p : Pos) → p.step < length (notes_of walk p.thread) → p.step < times p.thread counted =
    λ (p : Pos) (less : p.step < length (notes_of walk p.thread)). omega (arith, less, woven.steps p.thread, notes_are image log walk is p.thread) in
    let keeps : Keeps (RecordedOrder log) (places schedule) =
    subst (Keeps (RecordedOrder log)) (sym list_is)
    (tail_keeps log log.end counted (RecordedOrder log) woven.recorded
    (λ (p q : Pos) (r : RecordedOrder log p q). omega (arith, from_counted log p q r, woven.steps p.thread))) in
    let counted_in : (p : Pos) → In p (places counted) → Counted log p =
    λ (p : Pos) (i : In p (places counted)). omega (arith, place_below [] counted p i, woven.steps p.thread) in
    let needs : Keeps (NeedsAt log walk) (places schedule) =
    subst (Keeps (NeedsAt log walk)) (sym list_is)
    (tail_keeps log log.end counted (NeedsAt log walk)
    (keeps_by (RecordedOrder log) (NeedsAt log walk) (places counted)
    (λ (q p : Pos) (i : In q (places counted)) (j : In p (places counted)) (n : NeedsAt log walk q p). (need_is image log walk is fit q p n.0 n.1).before (counted_in p j))
    woven.recorded)
    (λ (p q : Pos) (n : NeedsAt log walk p q). within p (need_is image log walk is fit p q n.0 n.1).within)) in
    record {
      total = total;
      come = record {
        distinct = distinct_places [] schedule;
        apart = apart_none (places schedule);
        keeps = keeps;
        settled = settled_by (NeedsAt log walk) (told log walk) (needs_are image log walk is fit) [] (places schedule)
            (λ (q : Pos) (place : IsPlace (told log walk) q). inr (all q place)) needs only;
        only = only;
        faults = subst (FaultLast log walk) (sym list_is)
            (fault_last log walk (places counted) log.end (done_after [] counted)
            (λ (p : Pos) (i : In p (places counted)) (f : FaultHere log walk p). absurd (omega (arith, counted_in p i, f.at, notes_are image log walk is p.thread))));
        exits = woven.exit_last;
      };
      all = all;
    }

-- the records stand among the steps to come
first_split : (image : Layout) (log : Log) (walk : Walk) (schedule : List ℕ) → IsWalk image log walk → IsPlaced image log walk schedule → Splits log [] (places schedule) 0
first_split image log walk schedule is p = record {
  past = λ (m : ℕ) (r : CallRec) (e : slice_get log.calls m ≡ Some r) (less : m < 0). absurd (omega (arith, less));
  rest = λ (m : ℕ) (r : CallRec) (e : slice_get log.calls m ≡ Some r) (le : 0 ≤ m).
      let here : CalledAt log walk r = called_place image log walk is r (among_at log.calls m r e) in
      p.all (place_of r) (omega (arith, here.within, length-append (notes_of walk r.tid) (last_fault log.end r.tid)));
}

pub schedule_law : ScheduleLaw
schedule_law image log walk pairs schedule version is fit woven =
    let p : IsPlaced image log walk schedule = placed image log walk pairs schedule is fit woven in
    let split : Splits log [] (places schedule) 0 = first_split image log walk schedule is p in
    let records : records_of (events_along (told log walk) (all_done [] schedule)) ≡ log.calls =
    ap records_of (events_all (told log walk) [] schedule)
    ∙ calls_in_order image log walk is fit [] (places schedule) 0 p.come.distinct p.come.apart p.come.keeps split in (
      (λ (has : HasLog image log schedule).
          agrees_explained image (told log walk) (tape_of log) schedule (sound_by image log walk is fit) p.come.settled p.come.distinct p.come.only p.all
          (has_agrees image log walk schedule is fit p.total has)),
      λ (explained : Explained image (told log walk) schedule).
          agrees_has image log walk schedule is fit version p.total p.come.only records
          (explained_agrees image (told log walk) (tape_of log) schedule (sound_by image log walk is fit)
          (suits_along image log walk (tape_of log) [] schedule 0 is fit (threads_opening (told log walk) (tape_of log)) tt p.come split fit.pass) explained),
    )
