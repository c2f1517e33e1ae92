-- What pairs are passed: more of them, and of a thread that goes on.
use Rattle.std.specs.Prelude.{◌≡◌, ℕ, ◌+◌, ◌<◌, ◌≤◌, true, ◌&&◌, List, length, slice_get, slice_set, Option, IfSome, Contains, refl}
use Rattle.std.specs.List.Sorted.{IsNonDecreasingBy}
use Rattle.std.proofs.Common.{sym, ◌∙◌, ap, subst, arith, inl, inr, get_or, eqb, eq-eqb}
use Rattle.std.proofs.lemmas.Bool.{cases_lt, cases_eq, and_from}
use Rattle.std.proofs.lemmas.List.{get_or_read, get_or_default, get_or-set_same, get_or-set_other}
use Rattle.std.proofs.lemmas.Option.{slice_get-get_or}
use Rattle.odr_log.specs.declared.log.Pos.{Pos}
use Rattle.schedule_extract.specs.Going.{IsTaken, head}
use Rattle.schedule_extract.specs.Marks.{IsPassed, ArePassed, AllPassed}

pub passed_more : (pairs : List (Pos × Pos)) (next : List ℕ) (at : Pos) (mark : ℕ) (x : Pos × Pos) → mark < length pairs → x ≡ get_or pairs mark x
    → IsPassed next at x
    → ArePassed pairs next at mark → ArePassed pairs next at (mark + 1)
passed_more pairs next at mark x within is passed so_far k d less = elim (cases_lt k mark) [
  | inl below ↦ so_far k d below
  | inr past ↦ (let same : k ≡ mark = omega (arith, less, past) in
      subst (IsPassed next at) (get_or_read pairs mark x within is d ∙ ap (λ (i : ℕ). get_or pairs i d) (sym same)) passed)
]

pub same_test : (p q : Pos) → p ≡ q → (eqb p.thread q.thread && eqb p.step q.step) ≡ true
same_test p q same = and_from _ _ (eq-eqb p.thread q.thread (ap (λ (x : Pos). x.thread) same)) (eq-eqb p.step q.step (ap (λ (x : Pos). x.step) same))

pub same_pair : (x y : Pos × Pos) → x.0 ≡ y.0 → x.1 ≡ y.1 → x ≡ y
same_pair x y e f = ap (λ (p : Pos). let z : Pos × Pos = (p, x.1) in z) e ∙ ap (λ (q : Pos). let z : Pos × Pos = (y.0, q) in z) f

first_of : (pairs : List (Pos × Pos)) (next : List ℕ) (at : Pos) (mark : ℕ) (d : Pos × Pos) → mark < length pairs
    → IfSome (slice_get pairs mark) (λ pair. IsPassed next at pair → ⊥) → IsPassed next at (get_or pairs mark d) → ⊥
first_of pairs next at mark d within first =
    subst (λ (o : Option (Pos × Pos)). IfSome o (λ pair. IsPassed next at pair → ⊥)) (slice_get-get_or pairs mark d within) first

-- where the first pair that is not passed has another step second, all firsts of the step were taken
pub all_taken : (pairs : List (Pos × Pos)) (next : List ℕ) (at : Pos) (mark : ℕ) → IsNonDecreasingBy (λ pair. pair.1.step) pairs → ArePassed pairs next at mark
    → IfSome (slice_get pairs mark) (λ pair. IsPassed next at pair → ⊥) → (d : Pos × Pos) → (mark < length pairs → (get_or pairs mark d).1 ≡ at → ⊥)
    → (p : Pos) → Contains pairs (p, at) → IsTaken next p
all_taken pairs next at mark sorted passed first d other p has =
    let pair : Pos × Pos = (p, at) in
    let is : get_or pairs has.0 pair ≡ pair = has.2 in
    elim (cases_lt has.0 mark) [
      | inl below ↦ (let here : IsPassed next at pair = subst (IsPassed next at) is (passed has.0 pair below) in here.1 refl)
      | inr past ↦ (let within : mark < length pairs = omega (arith, past, has.1) in
          let up : (get_or pairs mark pair).1.step ≤ (get_or pairs has.0 pair).1.step = sorted mark has.0 pair past has.1 in
          let at_most : (get_or pairs mark pair).1.step ≤ at.step = subst (λ (x : Pos × Pos). (get_or pairs mark pair).1.step ≤ x.1.step) is up in
          absurd (first_of pairs next at mark pair within first (
            at_most,
            λ (e : (get_or pairs mark pair).1 ≡ at). absurd
                (other within (ap (λ (x : Pos × Pos). x.1) (get_or_default pairs mark d pair within) ∙ e)),
          )))
    ]

-- ---- of all threads

pub none_passed : (pairs : List (Pos × Pos)) (next marks : List ℕ) → ((t : ℕ) → t < 256 → get_or marks t 0 ≡ 0) → AllPassed pairs next marks
none_passed pairs next marks zeros t room k d less = absurd (omega (arith, less, zeros t room))

pub mark_moves : (pairs : List (Pos × Pos)) (next marks : List ℕ) (t mark : ℕ) → t < length marks → ArePassed pairs next (head next t) mark
    → AllPassed pairs next marks
    → AllPassed pairs next (slice_set marks t mark)
mark_moves pairs next marks t mark within passed all u room = elim (cases_eq u t) [
  | inl same ↦ subst (λ (v : ℕ). ArePassed pairs next (head next v) (get_or (slice_set marks t mark) v 0)) (sym same)
      (subst (ArePassed pairs next (head next t)) (sym (get_or-set_same marks t mark 0 within)) passed)
  | inr ne ↦ subst (ArePassed pairs next (head next u)) (sym (get_or-set_other marks t u mark 0 ne)) (all u room)
]

-- what was taken stays taken where a thread goes on by a step
grows : (next : List ℕ) (t u : ℕ) → t < length next → get_or next u 0 ≤ get_or (slice_set next t (get_or next t 0 + 1)) u 0
grows next t u within = elim (cases_eq u t) [
  | inl same ↦ (let e : get_or (slice_set next t (get_or next t 0 + 1)) u 0 ≡ get_or next t 0 + 1 =
      ap (λ (v : ℕ). get_or (slice_set next t (get_or next t 0 + 1)) v 0) same ∙ get_or-set_same next t (get_or next t 0 + 1) 0 within in
      let f : get_or next u 0 ≡ get_or next t 0 = ap (λ (v : ℕ). get_or next v 0) same in
      omega (arith, e, f))
  | inr ne ↦ (let e : get_or (slice_set next t (get_or next t 0 + 1)) u 0 ≡ get_or next u 0 = get_or-set_other next t u (get_or next t 0 + 1) 0 ne in
      omega (arith, e))
]

passed_on : (next later : List ℕ) (u : ℕ) (pair : Pos × Pos) → get_or next u 0 ≤ get_or later u 0 → get_or next pair.0.thread 0 ≤ get_or later pair.0.thread 0
    → IsPassed next (head next u) pair → IsPassed later (head later u) pair
passed_on next later u pair more first passed = (
  omega (arith, more, passed.0),
  λ (e : pair.1 ≡ head later u).
      let step : pair.1.step ≡ get_or later u 0 = ap (λ (p : Pos). p.step) e in
      let same : get_or later u 0 ≡ get_or next u 0 = omega (arith, step, more, passed.0) in
      let taken : IsTaken next pair.0 = passed.1 (e ∙ ap (λ (k : ℕ). let p : Pos = record { thread = u; step = k } in p) same) in
      omega (arith, taken, first),
)

pub passed_step : (pairs : List (Pos × Pos)) (next marks : List ℕ) (t : ℕ) → t < length next → AllPassed pairs next marks
    → AllPassed pairs (slice_set next t (get_or next t 0 + 1)) marks
passed_step pairs next marks t within all u room k d less =
    passed_on next (slice_set next t (get_or next t 0 + 1)) u (get_or pairs k d) (grows next t u within) (grows next t (get_or pairs k d).0.thread within)
    (all u room k d less)
