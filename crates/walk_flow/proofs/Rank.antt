-- How many calls of a log a place can rest on: where calls fit, those before the spawns and the ends that hand something on to
-- it have smaller numbers.
use Rattle.std.specs.Prelude.{◌≡◌, ℕ, suc, ◌<◌, length, slice_get, Some}
use Rattle.std.proofs.Common.{sym, ◌∙◌, ap, arith, inl, inr}
use Rattle.std.proofs.lemmas.Bool.{cases_lt}
use Rattle.std.proofs.lemmas.Option.{same_Some, slice_get_within}
use Rattle.odr_log.specs.declared.log.Call.TheVariants as call
use Rattle.odr_log.specs.declared.log.CallRec.{CallRec}
use Rattle.odr_log.specs.declared.log.Log.{Log}
use Rattle.odr_log.specs.Tape.{tape_of}
use Rattle.rv_model.specs.Calls.{opening_calls}
use Rattle.rv_model.specs.CallsFit.{CallsFit}
use Rattle.rv_model.proofs.SpawnLemmas.{spawn_first}
use Rattle.guided_walk.proofs.Records.{rising_once}

-- The calls of a thread before a step, and the spawn that made the thread, are among the first n records.
pub record Behind (log : Log) (n thread step : ℕ) : Type 0 where
  pub calls : (i : ℕ) (r : CallRec) → slice_get log.calls i ≡ Some r → r.tid ≡ thread → r.at < step → i < n
  pub maker : (i entry : ℕ) (r : CallRec) → slice_get log.calls i ≡ Some r → r.call ≡ call.Spawn entry (Some thread) → i < n

pub behind_all : (log : Log) (thread step : ℕ) → Behind log (length log.calls) thread step
behind_all log thread step = record {
  calls = λ (i : ℕ) (r : CallRec) (e : slice_get log.calls i ≡ Some r) (tid : r.tid ≡ thread) (less : r.at < step). slice_get_within log.calls i r e;
  maker = λ (i entry : ℕ) (r : CallRec) (e : slice_get log.calls i ≡ Some r) (is : r.call ≡ call.Spawn entry (Some thread)). slice_get_within log.calls i r e;
}

pub behind_before : (log : Log) (n thread step : ℕ) → Behind log n thread (suc step) → Behind log n thread step
behind_before log n thread step behind = record {
  calls = λ (i : ℕ) (r : CallRec) (e : slice_get log.calls i ≡ Some r) (tid : r.tid ≡ thread) (less : r.at < step). behind.calls i r e tid (omega (arith, less));
  maker = behind.maker;
}

-- of the step of a record the number of the record serves
pub behind_call : (log : Log) → CallsFit log → (m : ℕ) (r : CallRec) → slice_get log.calls m ≡ Some r → Behind log m r.tid r.at
behind_call log fit m r at = record {
  calls = λ (i : ℕ) (x : CallRec) (e : slice_get log.calls i ≡ Some x) (tid : x.tid ≡ r.tid) (less : x.at < r.at).
      elim (cases_lt i m) [
        | inl before ↦ before
        | inr le ↦ elim (cases_lt m i) [
          | inl after ↦ absurd (omega (arith, less, rising_once log.calls fit.rising m i r x at e (sym tid) after))
          | inr ge ↦
              let number : i ≡ m = omega (arith, le, ge) in
              let same : x ≡ r = same_Some x r (sym e ∙ ap (slice_get log.calls) number ∙ at) in
              absurd (omega (arith, less, ap (λ (y : CallRec). y.at) same))
        ]
      ];
  maker = λ (i entry : ℕ) (x : CallRec) (e : slice_get log.calls i ≡ Some x) (is : x.call ≡ call.Spawn entry (Some r.tid)).
      spawn_first (opening_calls (tape_of log)) log.calls i m x r entry fit.pass e is at;
}
