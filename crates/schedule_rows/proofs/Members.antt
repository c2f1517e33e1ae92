-- What holds of each number below another, and of each item of a list.
use Rattle.std.specs.Prelude.{◌≡◌, ℕ, ◌+◌, ◌<◌, ◌≤◌, List, length, slice_get, Some, Contains, refl}
use Rattle.std.proofs.Common.{sym, ◌∙◌, ap, subst, arith, inl, inr, get_or}
use Rattle.std.proofs.lemmas.Bool.{cases_lt}
use Rattle.std.proofs.lemmas.Option.{slice_get-get_or}
use Rattle.odr_log.specs.declared.log.Call.TheVariants as call
use Rattle.odr_log.specs.declared.log.CallRec.{CallRec}
use Rattle.odr_log.specs.declared.log.Log.{Log}
use Rattle.odr_log.specs.declared.log.Pos.{Pos}
use Rattle.rv_model.specs.RecordedOrder.{Counted}
use Rattle.rv_model.specs.Run.{logged}
use Rattle.schedule_extract.specs.Going.{ExitsEnd}
use Rattle.schedule_rows.specs.Fitting.{HasSteps}

pub below_more : (P : ℕ → Type 0) (n : ℕ) → ((k : ℕ) → k < n → P k) → P n → (k : ℕ) → k < n + 1 → P k
below_more P n below here k less = elim (cases_lt k n) [
  | inl before ↦ below k before
  | inr past ↦ (let same : n ≡ k = omega (arith, less, past) in subst P same here)
]

pub below_all : (P : ℕ → Type 0) (n m : ℕ) → m ≤ n → ((k : ℕ) → k < n → P k) → (k : ℕ) → k < m → P k
below_all P n m le below k less = below k (omega (arith, le, less))

pub threads_more : (log : Log) (steps : List Pos) (n count : ℕ) → count ≡ (logged log n).steps → HasSteps steps n count
    → ((p : Pos) → p.thread < n → Counted log p → Contains steps p) → (p : Pos) → p.thread < n + 1 → Counted log p → Contains steps p
threads_more log steps n count is has below p less counted = elim (cases_lt p.thread n) [
  | inl before ↦ below p before counted
  | inr past ↦ (let same : p.thread ≡ n = omega (arith, less, past) in
      let within : p.step < (logged log p.thread).steps = counted in
      subst (λ (t : ℕ). Contains steps (let q : Pos = record { thread = t; step = p.step } in q)) (sym same)
      (has p.step (subst (λ (k : ℕ). p.step < k) (ap (λ (t : ℕ). (logged log t).steps) same ∙ sym is) within)))
]

pub items_all : (P : Pos × Pos → Type 0) (pairs : List (Pos × Pos)) (n : ℕ) → length pairs ≤ n → ((k : ℕ) (d : Pos × Pos) → k < n → P (get_or pairs k d))
    → (p q : Pos) → Contains pairs (p, q) → P (p, q)
items_all P pairs n all each p q has =
    let pair : Pos × Pos = (p, q) in
    let less : has.0 < length pairs = has.1 in
    subst P has.2 (each has.0 pair (omega (arith, less, all)))

pub exits_end_by : (log : Log) (n : ℕ) → length log.calls ≤ n
    → ((k : ℕ) (r : CallRec) → k < n → slice_get log.calls k ≡ Some r → (code : ℕ) → r.call ≡ call.Exit code → r.at + 1 ≡ (logged log r.tid).steps)
    → ExitsEnd log
exits_end_by log n all each p exit =
    let made : CallRec = record { tid = p.thread; at = p.step; call = call.Exit exit.0 } in
    let has : Contains log.calls made = exit.1 in
    let less : has.0 < length log.calls = has.1 in
    each has.0 made (omega (arith, less, all)) (slice_get-get_or log.calls has.0 made less ∙ ap (λ (r : CallRec). Some r) has.2) exit.0 refl
