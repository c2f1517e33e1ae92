-- The place of a step in a list orders the steps, so that a list that has all in order shows that pairs can be woven.
use Rattle.std.specs.Prelude.{◌≡◌, ℕ, zero, suc, ◌+◌, ◌<◌, Bool, true, false, ◌&&◌, cond, List, [], ◌∷◌, length, nat_eq, nat_lt, Contains, if◌then◌else◌, refl}
use Rattle.std.proofs.Common.{sym, ◌∙◌, ap, subst, arith, inl, inr, get_or, eq-eqb}
use Rattle.std.proofs.lemmas.Bool.{and_from, and_parts, cases_lt, eqb-true, false≢true, lt-ltb, ltb-true}
use Rattle.std.proofs.lemmas.List.{get_or_default}
use Rattle.odr_log.specs.declared.log.Log.{Log}
use Rattle.odr_log.specs.declared.log.Pos.{Pos}
use Rattle.rv_model.specs.RecordedOrder.{Counted}
use Rattle.rv_model.specs.Run.{logged}
use Rattle.guided_walk.specs.Ordered.{IsExit}
use Rattle.guided_walk.proofs.Table.{same_pos}
use Rattle.walk_orders.proofs.Weaving.{from_counted, to_counted}
use Rattle.schedule_extract.specs.Going.{ExitsEnd, Precedes}
use Rattle.schedule_extract.specs.Law.{CanBeWoven}
use Rattle.schedule_rows.specs.Fitting.{AreInOrder, GoesOn}

abbrev is_step : Pos → Pos → Bool
is_step p q = nat_eq p.thread q.thread && nat_eq p.step q.step

-- the first place of a step in a list
abbrev rank : List Pos → Pos → ℕ
rank [] p = 0
rank (x ∷ xs) p = if is_step x p then 0 else suc (rank xs p)

test_step : (p q : Pos) → is_step p q ≡ true → p ≡ q
test_step p q e =
    let parts : (nat_eq p.thread q.thread ≡ true) × (nat_eq p.step q.step ≡ true) = and_parts _ _ e in
    same_pos p q (sym (eqb-true p.thread q.thread parts.0)) (sym (eqb-true p.step q.step parts.1))

step_test : (p q : Pos) → p ≡ q → is_step p q ≡ true
step_test p q e = and_from _ _ (eq-eqb p.thread q.thread (ap (λ (x : Pos). x.thread) e)) (eq-eqb p.step q.step (ap (λ (x : Pos). x.step) e))

abbrev IsAt : List Pos → Pos → ℕ → Type 0
IsAt xs p k = (k < length xs) × (get_or xs k p ≡ p)

rank_by : (x p : Pos) (xs : List Pos) → (b : Bool) → is_step x p ≡ b → (b ≡ false → IsAt xs p (rank xs p)) → IsAt (x ∷ xs) p (cond b 0 (suc (rank xs p)))
rank_by x p xs true e rest = (omega arith, test_step x p e)
rank_by x p xs false e rest = (let less : rank xs p < length xs = (rest refl).0 in omega (arith, less), (rest refl).1)

rank_at : (p : Pos) (xs : List Pos) (i : ℕ) → i < length xs → get_or xs i p ≡ p → IsAt xs p (rank xs p)
rank_at p [] i less e = absurd (omega (arith, less))
rank_at p (x ∷ xs) zero less e = rank_by x p xs (is_step x p) refl (λ (f : is_step x p ≡ false). absurd (false≢true (sym f ∙ step_test x p e)))
rank_at p (x ∷ xs) (suc i) less e = rank_by x p xs (is_step x p) refl (λ (f : is_step x p ≡ false). rank_at p xs i (omega (arith, less)) e)

abbrev AllGoOn : Log → List (Pos × Pos) → Type 0
AllGoOn log pairs = (p q : Pos) → Contains pairs (p, q) → GoesOn log (p, q)

precedes_counted : (log : Log) (pairs : List (Pos × Pos)) (p q : Pos) → AllGoOn log pairs → Precedes log pairs p q → Counted log p × Counted log q
precedes_counted log pairs p q go_on (inl order) = (from_counted log p q order, to_counted log p q order)
precedes_counted log pairs p q go_on (inr pair) =
    let on : (p.step + 1 < (logged log p.thread).steps) × Counted log q = go_on p q pair in
    let less : p.step + 1 < (logged log p.thread).steps = on.0 in (omega (arith, less), on.1)

rank_less : (log : Log) (pairs : List (Pos × Pos)) (steps : List Pos) (p q : Pos) → ((x : Pos) → Counted log x → Contains steps x)
    → AreInOrder log pairs steps → AllGoOn log pairs
    → Precedes log pairs p q → rank steps p < rank steps q
rank_less log pairs steps p q all in_order go_on precedes =
    let counted : Counted log p × Counted log q = precedes_counted log pairs p q go_on precedes in
    let one : Contains steps p = all p counted.0 in
    let other : Contains steps q = all q counted.1 in
    let first : IsAt steps p (rank steps p) = rank_at p steps one.0 one.1 one.2 in
    let second : IsAt steps q (rank steps q) = rank_at q steps other.0 other.1 other.2 in
    elim (cases_lt (rank steps p) (rank steps q)) [
      | inl less ↦ less
      | inr le ↦ (let within : rank steps q < length steps = second.0 in
          absurd (in_order (rank steps p) first.0 (rank steps q) p le
          (subst (λ (x : Pos). Precedes log pairs x (get_or steps (rank steps q) p)) (sym first.1)
          (subst (λ (y : Pos). Precedes log pairs p y) (sym second.1 ∙ get_or_default steps (rank steps q) q p within) precedes))))
    ]

pub can_by : (log : Log) (pairs : List (Pos × Pos)) (steps : List Pos) → ((x : Pos) → Counted log x → Contains steps x) → AreInOrder log pairs steps
    → AllGoOn log pairs → ExitsEnd log
    → CanBeWoven log pairs
can_by log pairs steps all in_order go_on ends = record {
  exits_end = ends;
  counted = λ (p q : Pos) (pair : Contains pairs (p, q)). precedes_counted log pairs p q go_on (inr pair);
  go_on = λ (p q : Pos) (pair : Contains pairs (p, q)) (exit : IsExit log p).
      absurd (let less : p.step + 1 < (logged log p.thread).steps = (go_on p q pair).0 in
      let last : p.step + 1 ≡ (logged log p.thread).steps = ends p exit in
      omega (arith, less, last));
  no_ring = record {
    before = λ p q. nat_lt (rank steps p) (rank steps q);
    strict = λ (p : Pos) (counted : Counted log p) (e : nat_lt (rank steps p) (rank steps p) ≡ true).
        absurd (let less : rank steps p < rank steps p = ltb-true (rank steps p) (rank steps p) e in omega (arith, less));
    transitive = λ (p q r : Pos) (i : Counted log p) (j : Counted log q) (k : Counted log r) (e : nat_lt (rank steps p) (rank steps q) ≡ true)
        (f : nat_lt (rank steps q) (rank steps r) ≡ true).
        lt-ltb (rank steps p) (rank steps r)
        (let less : rank steps p < rank steps q = ltb-true (rank steps p) (rank steps q) e in
        let more : rank steps q < rank steps r = ltb-true (rank steps q) (rank steps r) f in
        omega (arith, less, more));
    has = λ (p q : Pos) (precedes : Precedes log pairs p q).
        lt-ltb (rank steps p) (rank steps q) (rank_less log pairs steps p q all in_order go_on precedes);
  };
}
