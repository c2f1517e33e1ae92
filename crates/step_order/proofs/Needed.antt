-- What a thread's steps are made of is done where the records before its call are, or all of them.
use Rattle.std.specs.Prelude.{Option, Some, None, slice_get}
use Rattle.std.proofs.Common.{◌≡◌, ℕ, zero, suc, ◌+◌, ◌<◌, ◌≤◌, Bool, true, false, cond, List, ◌++◌, length, get_or, ltb, refl, sym, ◌∙◌, ap, subst, inl, inr, arith}
use Rattle.std.proofs.lemmas.Bool.{cases_lt, ltb-false}
use Rattle.std.proofs.lemmas.Option.{same_Some, slice_get_within}
use Rattle.elf_image.specs.Layout.{Layout}
use Rattle.odr_log.specs.declared.log.Call.TheVariants as call
use Rattle.odr_log.specs.declared.log.CallRec.{CallRec}
use Rattle.odr_log.specs.declared.log.Log.{Log}
use Rattle.odr_log.specs.declared.log.Pos.{Pos}
use Rattle.odr_log.specs.Tape.{tape_of}
use Rattle.rv_model.specs.declared.state.Note.TheVariants as note
use Rattle.rv_model.specs.Calls.{opening_calls}
use Rattle.rv_model.specs.CallsFit.{CallsFit}
use Rattle.rv_model.specs.Run.{logged}
use Rattle.rv_model.specs.Walk.{IsWalk, Walk}
use Rattle.rv_model.proofs.SpawnLemmas.{spawn_first}
use Rattle.guided_walk.specs.Flow.{NeedsThread, NeedsJoin}
use Rattle.guided_walk.specs.Guided.{joins}
use Rattle.guided_walk.specs.Orders.{In}
use Rattle.guided_walk.specs.Told.{told, place_of, noted}
use Rattle.guided_walk.proofs.CallOrder.{record_counted}
use Rattle.guided_walk.proofs.Facts.{place_called}
use Rattle.guided_walk.proofs.NeedsOrder.{MadeBy, made_by, EndedBy, ended_by, end_before_join}
use Rattle.guided_walk.proofs.Placing.{in_left}
use Rattle.guided_walk.proofs.Records.{among_at, at_among, rec, rising_once}
use Rattle.guided_walk.proofs.Shared.{joins_is}
use Rattle.step_order.specs.SoFar.{step_of, steps_between, gone_to, behind, IsFront, SoFar}
use Rattle.step_order.proofs.Fronts.{Ready, counted_in, front_gone, gone_reaches}

-- the first records' calls are done
abbrev pub CallsDone : Log → ℕ → List Pos → Type 0
CallsDone log records done = (m : ℕ) (r : CallRec) → slice_get log.calls m ≡ Some r → m < records → In (place_of r) done

-- the number of each record of a thread's spawn, and of the end of a thread that a step joins, is below this one
pub record Comes (log : Log) (walk : Walk) (records thread step : ℕ) : Type 0 where
  pub spawn : (m : ℕ) (r : CallRec) (entry : ℕ) → slice_get log.calls m ≡ Some r → r.call ≡ call.Spawn entry (Some thread) → m < records
  pub ender : (m : ℕ) (r : CallRec) → slice_get log.calls m ≡ Some r → r.call ≡ call.EndThread
      → noted (told log walk) (step_of thread step) ≡ note.Called (call.Join r.tid true) → m < records

made_done : (log : Log) (walk : Walk) (records : ℕ) (done : List Pos) → CallsDone log records done
    → (thread : ℕ) → ((m : ℕ) (r : CallRec) (entry : ℕ) → slice_get log.calls m ≡ Some r → r.call ≡ call.Spawn entry (Some thread) → m < records)
    → (q : Pos) → NeedsThread (told log walk) q thread zero → In q done
made_done log walk records done all zero comes q need = absurd need
made_done log walk records done all (suc t) comes q need =
    let m : MadeBy log walk (suc t) q = made_by log walk (suc t) q need in
    let i : (i : ℕ) × (slice_get log.calls i ≡ Some m.spawn) = at_among log.calls m.spawn m.has in
    subst (λ (x : Pos). In x done) m.place (all i.0 m.spawn i.1 (comes i.0 m.spawn m.entry i.1 m.is))

joined_done : (log : Log) (walk : Walk) (records : ℕ) (done : List Pos) → CallsDone log records done → (thread step : ℕ) → Comes log walk records thread step
    → (q : Pos) (target : Option ℕ) → joins (noted (told log walk) (step_of thread step)) ≡ target → NeedsJoin (told log walk) q target → In q done
joined_done log walk records done all thread step comes q None e need = absurd need
joined_done log walk records done all thread step comes q (Some target) e need =
    let m : EndedBy log target q = ended_by log walk target q need in
    let i : (i : ℕ) × (slice_get log.calls i ≡ Some m.ender) = at_among log.calls m.ender m.has in
    let shows : noted (told log walk) (step_of thread step) ≡ note.Called (call.Join m.ender.tid true) =
    joins_is (noted (told log walk) (step_of thread step)) target e ∙ ap (λ (t : ℕ). note.Called (call.Join t true)) (sym m.tid) in
    subst (λ (x : Pos). In x done) m.place (all i.0 m.ender i.1 (comes.ender i.0 m.ender i.1 m.is shows))

ready_by : (log : Log) (walk : Walk) (records : ℕ) (done : List Pos) → CallsDone log records done → (thread step : ℕ) → Comes log walk records thread step
    → Ready (told log walk) done thread step
ready_by log walk records done all thread step comes = record {
  first = λ q need. made_done log walk records done all thread comes.spawn q need;
  joined = λ q need. joined_done log walk records done all thread step comes q (joins (noted (told log walk) (step_of thread step))) refl need;
}

-- up to a call of a thread the records before it serve
comes_call : (image : Layout) (log : Log) (walk : Walk) → IsWalk image log walk → CallsFit log → (k : ℕ) (r : CallRec) → slice_get log.calls k ≡ Some r
    → (step : ℕ) → step ≤ r.at
    → Comes log walk k r.tid step
comes_call image log walk is fit k r at step le = record {
  spawn = λ m s entry there e. spawn_first (opening_calls (tape_of log)) log.calls m k s r entry fit.pass there e at;
  ender = λ m s there e shows.
      let join : CallRec = rec r.tid step (call.Join s.tid true) in
      let j : (j : ℕ) × (slice_get log.calls j ≡ Some join) =
      at_among log.calls join (place_called image log walk is (step_of r.tid step) (call.Join s.tid true) shows) in
      let less : m < j.0 = end_before_join (opening_calls (tape_of log)) log.calls m j.0 s join fit.pass there e j.1 refl in
      elim (cases_lt k j.0) [
        | inl more ↦ (let h : r.at < step = rising_once log.calls fit.rising k j.0 r join at j.1 refl more in absurd (omega (arith, h, le)))
        | inr ge ↦ omega (arith, less, ge)
      ];
}

-- all records serve all steps
comes_all : (log : Log) (walk : Walk) (thread step : ℕ) → Comes log walk (length log.calls) thread step
comes_all log walk thread step = record {
  spawn = λ m s entry there e. slice_get_within log.calls m s there;
  ender = λ m s there e shows. slice_get_within log.calls m s there;
}

-- ---- a record more

behind_by : (log : Log) (r : CallRec) → r.at < (logged log r.tid).steps → (b : Bool) → ltb r.at (logged log r.tid).steps ≡ b
    → cond b (r.at + 1) (logged log r.tid).steps ≡ r.at + 1
behind_by log r less true e = refl
behind_by log r less false e = absurd (omega (arith, less, ltb-false r.at (logged log r.tid).steps e))

behind_is : (log : Log) (r : CallRec) → r.at < (logged log r.tid).steps → behind log r ≡ r.at + 1
behind_is log r less = behind_by log r less (ltb r.at (logged log r.tid).steps) refl

calls_more : (log : Log) (k : ℕ) (done later : List Pos) (r : CallRec) → slice_get log.calls k ≡ Some r → CallsDone log k done
    → In (place_of r) (done ++ later) → CallsDone log (k + 1) (done ++ later)
calls_more log k done later r at all here m s there less = elim (cases_lt m k) [
  | inl before ↦ in_left (place_of s) done later (all m s there before)
  | inr ge ↦ (let number : k ≡ m = omega (arith, less, ge) in
      let same : r ≡ s = same_Some r s (sym at ∙ ap (slice_get log.calls) number ∙ there) in
      subst (λ (x : CallRec). In (place_of x) (done ++ later)) same here)
]

-- The thread of the next record goes on behind its call.
pub record_more : (image : Layout) (log : Log) (walk : Walk) → IsWalk image log walk → CallsFit log → (k : ℕ) (r : CallRec) → slice_get log.calls k ≡ Some r
    → (order : List Pos) (next : List ℕ) → length next ≡ length log.threads → SoFar log walk k order (λ u. get_or next u 0)
    → SoFar log walk (k + 1) (order ++ steps_between r.tid (get_or next r.tid 0) (behind log r)) (λ u. get_or (gone_to next r.tid (behind log r)) u 0)
record_more image log walk is fit k r at order next count so =
    let less : r.at < (logged log r.tid).steps = record_counted image log walk is r (among_at log.calls k r at) in
    let to : behind log r ≡ r.at + 1 = behind_is log r less in
    let within : r.tid < length next = omega (arith, count, counted_in log r.tid r.at less) in
    let ready : (step : ℕ) → step < behind log r → Ready (told log walk) order r.tid step =
    (λ step below. ready_by log walk k order so.calls r.tid step (comes_call image log walk is fit k r at step (omega (arith, below, to)))) in
    let front : IsFront log walk (order ++ steps_between r.tid (get_or next r.tid 0) (behind log r)) (λ u. get_or (gone_to next r.tid (behind log r)) u 0) =
    front_gone image log walk is order next r.tid (behind log r) within (omega (arith, less, to)) so.front ready in
    let there : r.at < get_or (gone_to next r.tid (behind log r)) r.tid 0 = omega (arith, to, gone_reaches next r.tid (behind log r) within) in
    record {
      front = front;
      calls = calls_more log k order (steps_between r.tid (get_or next r.tid 0) (behind log r)) r at so.calls ((front.reached (place_of r)).1 there);
    }

-- ---- what is left of a thread

-- After all records each thread goes on to its last step.
pub thread_more : (image : Layout) (log : Log) (walk : Walk) → IsWalk image log walk → (t : ℕ) (order : List Pos) (next : List ℕ) → t < length next
    → SoFar log walk (length log.calls) order (λ u. get_or next u 0)
    → SoFar log walk (length log.calls) (order ++ steps_between t (get_or next t 0) (logged log t).steps) (λ u. get_or (gone_to next t (logged log t).steps) u 0)
thread_more image log walk is t order next within so = record {
  front =
      front_gone image log walk is order next t (logged log t).steps within (omega arith) so.front
      (λ step below. ready_by log walk (length log.calls) order so.calls t step (comes_all log walk t step));
  calls = λ m r there less. in_left (place_of r) order (steps_between t (get_or next t 0) (logged log t).steps) (so.calls m r there less);
}
