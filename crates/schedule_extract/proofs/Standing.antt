-- What stands before a step, of the next steps of all threads.
use Rattle.std.specs.Prelude.{◌≡◌, ℕ, ◌<◌, ◌≤◌, List, length, Contains, refl}
use Rattle.std.proofs.Common.{sym, ap, subst, arith, inl, inr, get_or}
use Rattle.std.proofs.lemmas.Bool.{cases_lt}
use Rattle.std.proofs.lemmas.List.{get_or_past}
use Rattle.odr_log.specs.declared.log.Log.{Log}
use Rattle.odr_log.specs.declared.log.Pos.{Pos}
use Rattle.odr_log.specs.declared.log.ThreadLog.{ThreadLog}
use Rattle.rv_model.specs.Run.{logged, nothing_logged}
use Rattle.rv_model.specs.RecordedOrder.{More, Counted, InThread, RecordedOrder}
use Rattle.guided_walk.proofs.Table.{same_pos}
use Rattle.walk_orders.proofs.Weaving.{from_counted}
use Rattle.schedule_extract.specs.Going.{HasAll, IsTaken, head}

-- a counted step is of a thread of the log
pub counted_thread : (log : Log) (p : Pos) → Counted log p → p.thread < length log.threads
counted_thread log p counted = elim (cases_lt p.thread (length log.threads)) [
  | inl less ↦ less
  | inr past ↦ (let none : (logged log p.thread).steps ≡ 0 = ap (λ (t : ThreadLog). t.steps) (get_or_past log.threads p.thread nothing_logged past) in
      absurd (omega (arith, counted, none)))
]

pub none_before : (log : Log) (next : List ℕ) (at : Pos) (n : ℕ) → length log.threads ≤ n → ((t : ℕ) → t < n → RecordedOrder log (head next t) at → ⊥)
    → (t : ℕ) → RecordedOrder log (head next t) at → ⊥
none_before log next at n many none t order =
    none t (omega (arith, many, counted_thread log (head next t) (from_counted log (head next t) at order))) order

-- what stands before a step after another one of its thread, or is it
pub up_to : (log : Log) (p q r : Pos) → p.thread ≡ q.thread → p.step ≤ q.step → RecordedOrder log q r → RecordedOrder log p r
up_to log p q r same le order =
    let counted : Counted log q = from_counted log q r order in
    elim (cases_lt p.step q.step) [
      | inl less ↦ More (record {
        from = subst (λ (t : ℕ). p.step < (logged log t).steps) (sym same) (omega (arith, less, counted));
        to = counted;
        edge = InThread same less;
      }) order
      | inr past ↦ subst (λ (x : Pos). RecordedOrder log x r) (sym (same_pos p q (sym same) (omega (arith, le, past)))) order
    ]

pub has_all : (log : Log) (pairs : List (Pos × Pos)) (next : List ℕ) (at : Pos) → ((p : Pos) → Contains pairs (p, at) → IsTaken next p)
    → ((t : ℕ) → RecordedOrder log (head next t) at → ⊥) → HasAll log pairs next at
has_all log pairs next at taken none p (inl order) = elim (cases_lt p.step (get_or next p.thread 0)) [
  | inl less ↦ less
  | inr past ↦ absurd (none p.thread (up_to log (head next p.thread) p at refl past order))
]
has_all log pairs next at taken none p (inr pair) = taken p pair
