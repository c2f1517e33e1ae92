-- The whole order: it begins with no step, and in the end it has all of them, before the fault.
use Rattle.std.specs.Prelude.{Option, Some, None}
use Rattle.std.proofs.Common.{◌≡◌, ℕ, zero, suc, ◌+◌, ◌<◌, ◌≤◌, Bool, true, false, cond, List, [], ◌∷◌, ◌++◌, length, get_or, replicate, eqb, refl, sym, ◌∙◌, ap, subst, inl, inr, arith}
use Rattle.std.proofs.lemmas.Bool.{cases_lt, eqb-true}
use Rattle.std.proofs.lemmas.List.{append-nil, get_or_past, length-append}
use Rattle.std.proofs.lemmas.Option.{slice_get_read}
use Rattle.elf_image.specs.Layout.{Layout}
use Rattle.odr_log.specs.declared.log.CallRec.{CallRec}
use Rattle.odr_log.specs.declared.log.Cause.{Cause}
use Rattle.odr_log.specs.declared.log.End.{End}
use Rattle.odr_log.specs.declared.log.End.TheVariants as end
use Rattle.odr_log.specs.declared.log.Log.{Log}
use Rattle.odr_log.specs.declared.log.Pos.{Pos}
use Rattle.odr_log.specs.declared.log.ThreadLog.{ThreadLog}
use Rattle.rv_model.specs.declared.state.Note.{Note}
use Rattle.rv_model.specs.declared.state.Note.TheVariants as note
use Rattle.rv_model.specs.declared.walk.FaultPlace.{FaultPlace}
use Rattle.rv_model.specs.CallsFit.{CallsFit}
use Rattle.rv_model.specs.RecordedOrder.{Counted}
use Rattle.rv_model.specs.Run.{logged, nothing_logged}
use Rattle.rv_model.specs.Walk.{IsWalk, Walk, FaultFits, notes_of}
use Rattle.guided_walk.specs.Along.{fault_by, fault_places}
use Rattle.guided_walk.specs.Orders.{In}
use Rattle.guided_walk.specs.Told.{told, IsPlace, last_fault}
use Rattle.guided_walk.proofs.Facts.{notes_counted, past_notes}
use Rattle.guided_walk.proofs.LoggedRun.{fault_steps}
use Rattle.guided_walk.proofs.NeedsOrder.{need_is, counted_place}
use Rattle.guided_walk.proofs.Placing.{in_left}
use Rattle.guided_walk.proofs.Table.{same_pos}
use Rattle.walk_lists.specs.Order.{Follows, HasEach, IsOrder}
use Rattle.step_order.specs.Order.{IsStepOrder}
use Rattle.step_order.specs.SoFar.{step_of, steps_between, gone_to, behind, IsFront, SoFar, IsSoFar}
use Rattle.step_order.proofs.Orders.{order_more, in_last}
use Rattle.step_order.proofs.Fronts.{counted_in, gone_grows, gone_length, gone_reaches}
use Rattle.step_order.proofs.Needed.{record_more, thread_more}

-- ---- the beginning

zero_at : (n i : ℕ) → let zeros : List ℕ = replicate n 0 in get_or zeros i 0 ≡ 0
zero_at zero i = refl
zero_at (suc n) zero = refl
zero_at (suc n) (suc i) = zero_at n i

-- no step yet
pub none_yet : (log : Log) (n : ℕ) → IsSoFar log 0 [] (replicate n 0)
none_yet log n image walk is fit = record {
  front = record {
    counted = λ u. omega (arith, zero_at n u);
    stands = tt;
    reached = λ p. (λ i. absurd i, λ less. let h : p.step < get_or (replicate n 0) p.thread 0 = less in absurd (omega (arith, h, zero_at n p.thread)));
  };
  calls = λ m r there less. absurd (omega (arith, less));
}

-- ---- the end

-- all counted steps are done
abbrev pub AllDone : Log → List Pos → Type 0
AllDone log order = (p : Pos) → Counted log p → In p order

all_done : (log : Log) (walk : Walk) (order : List Pos) (next : ℕ → ℕ) → IsFront log walk order next
    → ((t : ℕ) → t < length log.threads → (logged log t).steps ≤ next t) → AllDone log order
all_done log walk order next front left p less =
    let up : (logged log p.thread).steps ≤ next p.thread = left p.thread (counted_in log p.thread p.step less) in
    (front.reached p).1 (omega (arith, less, up))

counted_all : (log : Log) (walk : Walk) (order : List Pos) (next : ℕ → ℕ) → IsFront log walk order next → (p : Pos) → In p order → Counted log p
counted_all log walk order next front p i =
    let less : p.step < next p.thread = (front.reached p).0 i in omega (arith, less, front.counted p.thread)

-- the thread of a fault is one of the log
fault_in : (image : Layout) (log : Log) (walk : Walk) (t : ℕ) (fault : Cause) (at : Option FaultPlace) → FaultFits image log walk (end.Faulted t fault) at
    → t < length log.threads
fault_in image log walk t fault None fits = absurd fits
fault_in image log walk t fault (Some at) fits = fits.0

-- A fault follows all counted steps.
fault_follows : (image : Layout) (log : Log) (walk : Walk) → IsWalk image log walk → CallsFit log → (order : List Pos) → AllDone log order
    → ((p : Pos) → In p order → Counted log p)
    → (t : ℕ) (fault : Cause) → log.end ≡ end.Faulted t fault → t < length log.threads → Follows (told log walk) order (step_of t (logged log t).steps)
fault_follows image log walk is fit order all counted t fault e within =
    let p : Pos = step_of t (logged log t).steps in
    let place : IsPlace (told log walk) (step_of t (logged log t).steps) = omega (arith, fault_steps log walk t fault e, notes_counted image log walk is t within) in
    record {
      place = place;
      new = λ i. let h : (logged log t).steps < (logged log t).steps = counted (step_of t (logged log t).steps) i in absurd (omega (arith, h));
      needs = λ q need. all q (counted_place image log walk is q (need_is image log walk is fit q (step_of t (logged log t).steps) place need).within);
    }

order_by : (image : Layout) (log : Log) (walk : Walk) → IsWalk image log walk → CallsFit log → (order : List Pos) → IsOrder (told log walk) [] order
    → AllDone log order
    → ((p : Pos) → In p order → Counted log p) → (ended : End) → log.end ≡ ended → IsOrder (told log walk) [] (order ++ fault_by log ended)
order_by image log walk is fit order stands all counted (end.Faulted t fault) e =
    let within : t < length log.threads = fault_in image log walk t fault walk.fault (subst (λ (x : End). FaultFits image log walk x walk.fault) e is.fault) in
    order_more (told log walk) [] order (step_of t (logged log t).steps) stands (fault_follows image log walk is fit order all counted t fault e within)
order_by image log walk is fit order stands all counted (end.Exited t code) e = subst (IsOrder (told log walk) []) (sym (append-nil order)) stands
order_by image log walk is fit order stands all counted end.AllDone e = subst (IsOrder (told log walk) []) (sym (append-nil order)) stands
order_by image log walk is fit order stands all counted end.Cut e = subst (IsOrder (told log walk) []) (sym (append-nil order)) stands

-- the step behind the counted ones is the fault
last_here : (log : Log) (order : List Pos) (p : Pos) (n : ℕ) → (logged log p.thread).steps ≡ n → n ≤ p.step → (t : ℕ) (fault : Cause) → (b : Bool)
    → eqb t p.thread ≡ b
    → p.step < n + length (cond b (note.Faulted fault ∷ []) []) → In p (order ++ step_of t (logged log t).steps ∷ [])
last_here log order p n many ge t fault true e less =
    let same : t ≡ p.thread = eqb-true t p.thread e in
    let one : length (note.Faulted fault ∷ []) ≡ 1 = refl in
    let step : p.step ≡ (logged log p.thread).steps = omega (arith, less, one, ge, many) in
    subst (λ (x : Pos). In x (order ++ step_of t (logged log t).steps ∷ []))
    (same_pos (step_of t (logged log t).steps) p (sym same) (step ∙ ap (λ (u : ℕ). (logged log u).steps) (sym same)))
    (in_last (step_of t (logged log t).steps) order)
last_here log order p n many ge t fault false e less = absurd (let none : p.step < n + 0 = less in omega (arith, none, ge))

last_by : (log : Log) (order : List Pos) (p : Pos) (n : ℕ) → (logged log p.thread).steps ≡ n → n ≤ p.step → (ended : End)
    → p.step < n + length (last_fault ended p.thread) → In p (order ++ fault_by log ended)
last_by log order p n many ge (end.Faulted t fault) less = last_here log order p n many ge t fault (eqb t p.thread) refl less
last_by log order p n many ge (end.Exited t code) less = absurd (let none : p.step < n + 0 = less in omega (arith, none, ge))
last_by log order p n many ge end.AllDone less = absurd (let none : p.step < n + 0 = less in omega (arith, none, ge))
last_by log order p n many ge end.Cut less = absurd (let none : p.step < n + 0 = less in omega (arith, none, ge))

-- the log counts as many steps as the walk has
steps_are : (image : Layout) (log : Log) (walk : Walk) → IsWalk image log walk → (t : ℕ) → (logged log t).steps ≡ length (notes_of walk t)
steps_are image log walk is t = elim (cases_lt t (length log.threads)) [
  | inl within ↦ sym (notes_counted image log walk is t within)
  | inr past ↦ ap (λ (x : ThreadLog). x.steps) (get_or_past log.threads t nothing_logged past) ∙ sym (ap (length {A = Note}) (past_notes image log walk is t past))
]

each_by : (image : Layout) (log : Log) (walk : Walk) → IsWalk image log walk → (order : List Pos) → AllDone log order
    → HasEach (told log walk) (order ++ fault_places log)
each_by image log walk is order all p place = elim (cases_lt p.step (length (notes_of walk p.thread))) [
  | inl less ↦ in_left p order (fault_places log) (all p (counted_place image log walk is p less))
  | inr ge ↦ (let below : p.step < length (notes_of walk p.thread) + length (last_fault log.end p.thread) = omega (arith, place, length-append (notes_of walk p.thread) (last_fault log.end p.thread)) in
      last_by log order p (length (notes_of walk p.thread)) (steps_are image log walk is p.thread) ge log.end below)
]

-- Where each thread is done, the order is whole.
pub whole_order : (image : Layout) (log : Log) (walk : Walk) → IsWalk image log walk → CallsFit log → (order : List Pos) (next : ℕ → ℕ)
    → IsFront log walk order next
    → ((t : ℕ) → t < length log.threads → (logged log t).steps ≤ next t) → IsStepOrder log walk order
whole_order image log walk is fit order next front left =
    let all : AllDone log order = all_done log walk order next front left in
    let counted : (p : Pos) → In p order → Counted log p = counted_all log walk order next front in
    record {
      counted = counted;
      order = order_by image log walk is fit order front.stands all counted log.end refl;
      each = each_by image log walk is order all;
    }

-- ---- each thread in turn

-- the threads before this one have gone on to their last steps
abbrev pub AreWhole : Log → ℕ → List ℕ → Type 0
AreWhole log count next = (t : ℕ) → t < count → (logged log t).steps ≤ get_or next t 0

whole_more : (log : Log) (t : ℕ) (next : List ℕ) → t < length next → AreWhole log t next → AreWhole log (t + 1) (gone_to next t (logged log t).steps)
whole_more log t next within whole u less = elim (cases_lt u t) [
  | inl before ↦ omega (arith, whole u before, gone_grows next t (logged log t).steps u within)
  | inr ge ↦ (let same : t ≡ u = omega (arith, less, ge) in
      subst (λ (k : ℕ). (logged log k).steps ≤ get_or (gone_to next t (logged log t).steps) k 0) same (gone_reaches next t (logged log t).steps within))
]

-- a thread more
rest_more : (log : Log) (t : ℕ) (order : List Pos) (next : List ℕ) → t < length next → IsSoFar log (length log.calls) order next
    → IsSoFar log (length log.calls) (order ++ steps_between t (get_or next t 0) (logged log t).steps) (gone_to next t (logged log t).steps)
rest_more log t order next within so image walk is fit = thread_more image log walk is t order next within (so image walk is fit)

-- a record more
calls_more : (log : Log) (k : ℕ) (r : CallRec) → k < length log.calls → r ≡ get_or log.calls k r → (order : List Pos) (next : List ℕ)
    → length next ≡ length log.threads → IsSoFar log k order next
    → IsSoFar log (k + 1) (order ++ steps_between r.tid (get_or next r.tid 0) (behind log r)) (gone_to next r.tid (behind log r))
calls_more log k r within at order next count so image walk is fit =
    record_more image log walk is fit k r (slice_get_read log.calls (length log.calls) k r refl within at) order next count (so image walk is fit)

-- all records are done
pub calls_all : (log : Log) (k : ℕ) (order : List Pos) (next : List ℕ) → length log.calls ≤ k → IsSoFar log k order next
    → IsSoFar log (length log.calls) order next
calls_all log k order next past so image walk is fit =
    let here : SoFar log walk k order (λ u. get_or next u 0) = so image walk is fit in
    record { front = here.front; calls = λ m r there less. here.calls m r there (omega (arith, less, past)) }

-- all threads are
pub rest_all : (log : Log) (count : ℕ) (order : List Pos) (next : List ℕ) → length log.threads ≤ count → AreWhole log count next
    → IsSoFar log (length log.calls) order next
    → (image : Layout) (walk : Walk) → IsWalk image log walk → CallsFit log → IsStepOrder log walk order
rest_all log count order next past whole so image walk is fit =
    whole_order image log walk is fit order (λ u. get_or next u 0) (so image walk is fit).front (λ t within. whole t (omega (arith, within, past)))

-- ---- what a call of `go_on` leaves

pub length_kept : (next later : List ℕ) (t to count : ℕ) → later ≡ gone_to next t to → length next ≡ count → length later ≡ count
length_kept next later t to count e same = ap (length {A = ℕ}) e ∙ gone_length next t to ∙ same

pub so_far_at : (log : Log) (records : ℕ) (order whole : List Pos) (next later : List ℕ) → whole ≡ order → later ≡ next → IsSoFar log records order next
    → IsSoFar log records whole later
so_far_at log records order whole next later e f so =
    subst (λ (l : List Pos). IsSoFar log records l later) (sym e) (subst (λ (l : List ℕ). IsSoFar log records order l) (sym f) so)

pub whole_kept : (log : Log) (t to : ℕ) (next later : List ℕ) → t < length next → to ≡ (logged log t).steps → later ≡ gone_to next t to
    → AreWhole log t next → AreWhole log (t + 1) later
whole_kept log t to next later within is e whole =
    subst (AreWhole log (t + 1)) (sym (e ∙ ap (gone_to next t) is)) (whole_more log t next within whole)

pub rest_kept : (log : Log) (t to : ℕ) (order whole : List Pos) (next later : List ℕ) → t < length next → to ≡ (logged log t).steps
    → whole ≡ order ++ steps_between t (get_or next t 0) to → later ≡ gone_to next t to → IsSoFar log (length log.calls) order next
    → IsSoFar log (length log.calls) whole later
rest_kept log t to order whole next later within is e f so =
    so_far_at log (length log.calls) (order ++ steps_between t (get_or next t 0) (logged log t).steps) whole (gone_to next t (logged log t).steps) later
    (e ∙ ap (λ (n : ℕ). order ++ steps_between t (get_or next t 0) n) is) (f ∙ ap (gone_to next t) is) (rest_more log t order next within so)

pub calls_kept : (log : Log) (items : List CallRec) → items ≡ log.calls → (k : ℕ) (r : CallRec) → k < length items → r ≡ get_or items k r → (to : ℕ)
    → to ≡ behind log r
    → (order whole : List Pos) (next later : List ℕ) → length next ≡ length log.threads → whole ≡ order ++ steps_between r.tid (get_or next r.tid 0) to
    → later ≡ gone_to next r.tid to
    → IsSoFar log k order next → IsSoFar log (k + 1) whole later
calls_kept log items same k r within at to is order whole next later count e f so =
    let inside : k < length log.calls = omega (arith, within, ap (length {A = CallRec}) same) in
    so_far_at log (k + 1) (order ++ steps_between r.tid (get_or next r.tid 0) (behind log r)) whole (gone_to next r.tid (behind log r)) later
    (e ∙ ap (λ (n : ℕ). order ++ steps_between r.tid (get_or next r.tid 0) n) is) (f ∙ ap (gone_to next r.tid) is)
    (calls_more log k r inside (at ∙ ap (λ (xs : List CallRec). get_or xs k r) same) order next count so)
