-- The recorded order as a test: of two threads, a call at or after the first step and a later one, or the same, that leads
-- to the second.
use Rattle.std.specs.Prelude.{◌≡◌, ℕ, zero, suc, ◌<◌, ◌≤◌, ◌⊎◌, Bool, true, false, ◌&&◌, ◌||◌, cond, List, [], ◌∷◌, nat_eq, nat_lt, nat_le, slice_get, Some, refl}
use Rattle.std.proofs.Common.{sym, ◌∙◌, ap, arith, inl, inr, eqb, eqb-true, eq-eqb}
use Rattle.std.proofs.lemmas.Bool.{cases_lt, and_parts, and_from, leb-true, le-leb, ltb-true, lt-ltb, false≢true}
use Rattle.std.proofs.lemmas.Option.{none-some, same_Some}
use Rattle.elf_image.specs.Layout.{Layout}
use Rattle.odr_log.specs.declared.log.Call.TheVariants as call
use Rattle.odr_log.specs.declared.log.CallRec.{CallRec}
use Rattle.odr_log.specs.declared.log.Log.{Log}
use Rattle.odr_log.specs.declared.log.Pos.{Pos}
use Rattle.odr_log.specs.Tape.{tape_of}
use Rattle.rv_model.specs.Calls.{opening_calls}
use Rattle.rv_model.specs.Run.{HasLog, logged}
use Rattle.rv_model.specs.Walk.{Walk, makes, IsWalk}
use Rattle.rv_model.specs.CallsFit.{CallsFit}
use Rattle.rv_model.specs.RecordedOrder.{Closure, One, More, Counted, Edge, InThread, ByCalls, BySpawn, CountedEdge, RecordedOrder}
use Rattle.rv_model.proofs.SpawnLemmas.{spawn_first}
use Rattle.happens_before.proofs.ClosedForm.{before_in_thread}
use Rattle.guided_walk.specs.Told.{place_of}
use Rattle.guided_walk.specs.Orders.{In, Keeps, Lists}
use Rattle.guided_walk.specs.Schedules.{places}
use Rattle.guided_walk.specs.Flow.{Flow}
use Rattle.guided_walk.specs.Ordered.{ExitLast, Ordered}
use Rattle.guided_walk.specs.Law.{holds}
use Rattle.guided_walk.proofs.Records.{Among, among_at, rec, rising_once}
use Rattle.guided_walk.proofs.CallOrder.{record_counted}
use Rattle.guided_walk.proofs.Placing.{keeps_by}
use Rattle.walk_orders.specs.RecordedTest.{up_to, leads, passes, is_via, is_counted_step, recorded_before}
use Rattle.walk_orders.specs.Law.{RecordedTest, TestIsOrdered}
use Rattle.walk_orders.proofs.Weave.{up_to_itself}
use Rattle.walk_orders.proofs.Merge.{UpTo, Chain, AreCalls, found, passes_by, leads_up_to, in_thread, up_to_then}
use Rattle.walk_orders.proofs.Weaving.{from_counted, to_counted, chain_all}
use Rattle.walk_orders.proofs.RecordedOrder.{contains_at, recorded_law}

-- one call up to which a step stands, and one at or after it that leads to another step
record ViaCalls (log : Log) (p q : Pos) : Type 0 where
  pub first : ℕ
  pub last : ℕ
  pub from : CallRec
  pub to : CallRec
  pub from_at : slice_get log.calls first ≡ Some from
  pub to_at : slice_get log.calls last ≡ Some to
  pub rises : first ≤ last
  pub leaves : up_to (place_of from) p ≡ true
  pub arrives : leads q to ≡ true

abbrev IsBefore : Log → Pos → Pos → Type 0
IsBefore log p q = ((p.thread ≡ q.thread) × (p.step < q.step)) ⊎ ViaCalls log p q

-- ---- the test finds such calls

via_by : (p q : Pos) (x : CallRec) (xs : List CallRec) (m n : ℕ) (r s : CallRec) → slice_get (x ∷ xs) m ≡ Some r → slice_get (x ∷ xs) n ≡ Some s → m ≤ n
    → up_to (place_of r) p ≡ true → leads q s ≡ true → (b : Bool) → up_to (place_of x) p ≡ b
    → ((i j : ℕ) → slice_get xs i ≡ Some r → slice_get xs j ≡ Some s → i ≤ j → is_via p q xs ≡ true)
    → cond b (passes (leads q) (x ∷ xs)) (is_via p q xs) ≡ true
via_by p q x xs m n r s at there le leaves arrives true e rest = passes_by (leads q) (x ∷ xs) s (among_at (x ∷ xs) n s there) arrives
via_by p q x xs zero n r s at there le leaves arrives false e rest =
    absurd (false≢true (sym e ∙ ap (λ (y : CallRec). up_to (place_of y) p) (same_Some x r at) ∙ leaves))
via_by p q x xs (suc m) zero r s at there le leaves arrives false e rest = absurd (omega (arith, le))
via_by p q x xs (suc m) (suc n) r s at there le leaves arrives false e rest = rest m n at there (omega (arith, le))

via_found : (p q : Pos) (rs : List CallRec) (m n : ℕ) (r s : CallRec) → slice_get rs m ≡ Some r → slice_get rs n ≡ Some s → m ≤ n → up_to (place_of r) p ≡ true → leads q s ≡ true
    → is_via p q rs ≡ true
via_found p q [] m n r s at there le leaves arrives = absurd (none-some r at)
via_found p q (x ∷ xs) m n r s at there le leaves arrives =
    via_by p q x xs m n r s at there le leaves arrives (up_to (place_of x) p) refl
    (λ (i j : ℕ) (a : slice_get xs i ≡ Some r) (b : slice_get xs j ≡ Some s) (l : i ≤ j). via_found p q xs i j r s a b l leaves arrives)

-- ---- what it finds is recorded

sound_by : (log : Log) (p q : Pos) (x : CallRec) (xs : List CallRec) → Chain log (x ∷ xs) → AreCalls log (x ∷ xs) → Counted log p → Counted log q → (b : Bool) → up_to (place_of x) p ≡ b
    → cond b (passes (leads q) (x ∷ xs)) (is_via p q xs) ≡ true → (is_via p q xs ≡ true → UpTo log p q) → UpTo log p q
sound_by log p q x xs chain are from to true e finds rest =
    let s : (c : CallRec) × Among c (x ∷ xs) × (leads q c ≡ true) = found (leads q) (x ∷ xs) finds in
    up_to_then log p (place_of x) q (in_thread log (place_of x) p (are x (inl refl)).counted from e)
    (up_to_then log (place_of x) (place_of s.0) q (on s.0 s.1) (leads_up_to log q s.0 to (are s.0 s.1) s.2)) where
      on : (c : CallRec) → Among c (x ∷ xs) → UpTo log (place_of x) (place_of c)
      on c (inl same) = inl (ap place_of same)
      on c (inr later) = inr (chain.0 c later)
sound_by log p q x xs chain are from to false e finds rest = rest finds

via_sound : (log : Log) (p q : Pos) (rs : List CallRec) → Chain log rs → AreCalls log rs → Counted log p → Counted log q → is_via p q rs ≡ true → UpTo log p q
via_sound log p q [] chain are from to finds = absurd (false≢true finds)
via_sound log p q (x ∷ xs) chain are from to finds =
    sound_by log p q x xs chain are from to (up_to (place_of x) p) refl finds
    (via_sound log p q xs chain.1 (λ (r : CallRec) (has : Among r xs). are r (inr has)) from to)

-- ---- what is recorded is in a thread or through such calls

up_to_from : (z p x : Pos) → p.thread ≡ x.thread → p.step ≤ x.step → up_to z x ≡ true → up_to z p ≡ true
up_to_from z p x same le e =
    let parts : (nat_eq x.thread z.thread ≡ true) × (nat_le x.step z.step ≡ true) = and_parts _ _ e in
    let below : x.step ≤ z.step = leb-true x.step z.step parts.1 in
    and_from _ _ (eq-eqb p.thread z.thread (same ∙ eqb-true x.thread z.thread parts.0)) (le-leb p.step z.step (omega (arith, le, below)))

or_first : (b c : Bool) → b ≡ true → (b || c) ≡ true
or_first true c e = refl
or_first false c e = absurd (false≢true e)

or_second : (b c : Bool) → c ≡ true → (b || c) ≡ true
or_second true c e = refl
or_second false c e = e

abbrev spawn_of : Pos → ℕ → ℕ → CallRec
spawn_of p entry child = rec p.thread p.step (call.Spawn entry (Some child))

edge_before : (log : Log) (p q : Pos) → Edge log p q → IsBefore log p q
edge_before log p q (InThread same less) = inl (same, less)
edge_before log p q (ByCalls {earlier = m} {later = n} a b less) =
    let s : CallRec = rec q.thread q.step b.made in
    inr (record {
      first = m;
      last = n;
      from = rec p.thread p.step a.made;
      to = s;
      from_at = a.is;
      to_at = b.is;
      rises = omega (arith, less);
      leaves = up_to_itself p;
      arrives = or_first (up_to q (place_of s)) (makes q.thread b.made) (up_to_itself q);
    })
edge_before log p q (BySpawn {entry = entry} has) =
    let r : CallRec = spawn_of p entry q.thread in
    inr (record {
      first = has.0;
      last = has.0;
      from = r;
      to = r;
      from_at = contains_at log.calls r has;
      to_at = contains_at log.calls r has;
      rises = omega arith;
      leaves = up_to_itself p;
      arrives = or_second (up_to q p) (nat_eq q.thread q.thread) (eq-eqb q.thread q.thread refl);
    })

edge_then : (log : Log) → CallsFit log → (p x q : Pos) → Edge log p x → IsBefore log x q → IsBefore log p q
edge_then log fit p x q (InThread same less) (inl on) = inl (same ∙ on.0, omega (arith, less, on.1))
edge_then log fit p x q (InThread same less) (inr v) = inr (record {
  first = v.first;
  last = v.last;
  from = v.from;
  to = v.to;
  from_at = v.from_at;
  to_at = v.to_at;
  rises = v.rises;
  leaves = up_to_from (place_of v.from) p x same (omega (arith, less)) v.leaves;
  arrives = v.arrives;
})
edge_then log fit p x q (ByCalls {earlier = m} {later = n} a b less) (inl on) =
    let s : CallRec = rec x.thread x.step b.made in
    inr (record {
      first = m;
      last = n;
      from = rec p.thread p.step a.made;
      to = s;
      from_at = a.is;
      to_at = b.is;
      rises = omega (arith, less);
      leaves = up_to_itself p;
      arrives = or_first (up_to q x) (makes q.thread b.made) (and_from _ _ (eq-eqb x.thread q.thread on.0) (le-leb x.step q.step (omega (arith, on.1))));
    })
edge_then log fit p x q (ByCalls {earlier = m} {later = n} a b less) (inr v) =
    let s : CallRec = rec x.thread x.step b.made in
    let parts : (nat_eq x.thread v.from.tid ≡ true) × (nat_le x.step v.from.at ≡ true) = and_parts _ _ v.leaves in
    let same : x.thread ≡ v.from.tid = eqb-true x.thread v.from.tid parts.0 in
    let le : x.step ≤ v.from.at = leb-true x.step v.from.at parts.1 in
    let later : n ≤ v.first = elim (cases_lt v.first n) [
      | inl back ↦ absurd (omega (arith, le, rising_once log.calls fit.rising v.first n v.from s v.from_at b.is (sym same) back))
      | inr on ↦ on
    ] in
    inr (record {
      first = m;
      last = v.last;
      from = rec p.thread p.step a.made;
      to = v.to;
      from_at = a.is;
      to_at = v.to_at;
      rises = omega (arith, less, later, v.rises);
      leaves = up_to_itself p;
      arrives = v.arrives;
    })
edge_then log fit p x q (BySpawn {entry = entry} has) (inl on) =
    let r : CallRec = spawn_of p entry x.thread in
    inr (record {
      first = has.0;
      last = has.0;
      from = r;
      to = r;
      from_at = contains_at log.calls r has;
      to_at = contains_at log.calls r has;
      rises = omega arith;
      leaves = up_to_itself p;
      arrives = or_second (up_to q p) (nat_eq x.thread q.thread) (eq-eqb x.thread q.thread on.0);
    })
edge_then log fit p x q (BySpawn {entry = entry} has) (inr v) =
    let r : CallRec = spawn_of p entry x.thread in
    let parts : (nat_eq x.thread v.from.tid ≡ true) × (nat_le x.step v.from.at ≡ true) = and_parts _ _ v.leaves in
    let same : x.thread ≡ v.from.tid = eqb-true x.thread v.from.tid parts.0 in
    let first : has.0 < v.first =
    spawn_first (opening_calls (tape_of log)) log.calls has.0 v.first r v.from entry fit.pass (contains_at log.calls r has)
    (ap (λ (t : ℕ). call.Spawn entry (Some t)) same) v.from_at in
    inr (record {
      first = has.0;
      last = v.last;
      from = r;
      to = v.to;
      from_at = contains_at log.calls r has;
      to_at = v.to_at;
      rises = omega (arith, first, v.rises);
      leaves = up_to_itself p;
      arrives = v.arrives;
    })

is_before : (log : Log) → CallsFit log → {p q : Pos} → Closure (CountedEdge log) p q → IsBefore log p q
is_before log fit {p} {q} (One e) = edge_before log p q e.edge
is_before log fit {p} {q} (More {q = x} e rest) = edge_then log fit p x q e.edge (is_before log fit rest)

-- ---- the test

abbrev test_by : Log → Pos → Pos → Bool → Bool
test_by log p q same = cond same (nat_lt p.step q.step) (is_via p q log.calls)

recorded_by : (image : Layout) (log : Log) (walk : Walk) → IsWalk image log walk → (p q : Pos) → Counted log p → Counted log q → (b : Bool) → eqb p.thread q.thread ≡ b → test_by log p q b ≡ true → RecordedOrder log p q
recorded_by image log walk is p q from to true e passing =
    One (record { from = from; to = to; edge = InThread (eqb-true p.thread q.thread e) (ltb-true p.step q.step passing) })
recorded_by image log walk is p q from to false e passing =
    elim (via_sound log p q log.calls (chain_all image log walk is) (λ (r : CallRec) (has : Among r log.calls). record { among = has; counted = record_counted image log walk is r has }) from to passing) [
      | inl same ↦ absurd (false≢true (sym e ∙ eq-eqb p.thread q.thread (ap (λ (x : Pos). x.thread) same)))
      | inr order ↦ order
    ]

test_from : (log : Log) → CallsFit log → (p q : Pos) → RecordedOrder log p q → (b : Bool) → eqb p.thread q.thread ≡ b → test_by log p q b ≡ true
test_from log fit p q order true e =
    lt-ltb p.step q.step ((before_in_thread log fit p q (from_counted log p q order) (to_counted log p q order) (eqb-true p.thread q.thread e)).1 order)
test_from log fit p q order false e = elim (is_before log fit order) [
  | inl on ↦ absurd (false≢true (sym e ∙ eq-eqb p.thread q.thread on.0))
  | inr v ↦ via_found p q log.calls v.first v.last v.from v.to v.from_at v.to_at v.rises v.leaves v.arrives
]

pub recorded_test : RecordedTest
recorded_test image log walk p q is fit = (
  λ (e : recorded_before log p q ≡ true).
      let one : (is_counted_step log p ≡ true) × ((is_counted_step log q && test_by log p q (nat_eq p.thread q.thread)) ≡ true) = and_parts _ _ e in
      let two : (is_counted_step log q ≡ true) × (test_by log p q (nat_eq p.thread q.thread) ≡ true) = and_parts _ _ one.1 in
      recorded_by image log walk is p q (ltb-true p.step (logged log p.thread).steps one.0) (ltb-true q.step (logged log q.thread).steps two.0) (eqb p.thread q.thread) refl two.1,
  λ (order : RecordedOrder log p q).
      and_from _ _ (lt-ltb p.step (logged log p.thread).steps (from_counted log p q order))
      (and_from _ _ (lt-ltb q.step (logged log q.thread).steps (to_counted log p q order)) (test_from log fit p q order (eqb p.thread q.thread) refl)),
)

-- ---- the same order, by the test

ordered_as : (image : Layout) (log : Log) (R S : Pos → Pos → Type 0) → ((p q : Pos) → R p q → S p q) → ((p q : Pos) → S p q → R p q) → Ordered image log R → Ordered image log S
ordered_as image log R S on back ordered = record {
  transitive = λ (p q r : Pos) (one : S p q) (other : S q r). on p r (ordered.transitive p q r (back p q one) (back q r other));
  no_ring = λ (p : Pos) (s : S p p). ordered.no_ring p (back p p s);
  flow = λ (p q : Pos) (f : Flow log p q). on p q (ordered.flow p q f);
  kept = λ (schedule : List ℕ) (has : HasLog image log schedule).
      keeps_by R S (places schedule) (λ (q p : Pos) (i : In q (places schedule)) (j : In p (places schedule)) (s : S q p). back q p s) (ordered.kept schedule has);
  passes = λ (steps : List Pos) (lists : Lists (Counted log) steps) (keeps : Keeps S steps) (last : ExitLast log steps).
      ordered.passes steps lists (keeps_by S R steps (λ (q p : Pos) (i : In q steps) (j : In p steps) (r : R q p). on q p r) keeps) last;
  again = λ (steps : List Pos) (lists : Lists (Counted log) steps) (keeps : Keeps S steps) (last : ExitLast log steps).
      ordered.again steps lists (keeps_by S R steps (λ (q p : Pos) (i : In q steps) (j : In p steps) (r : R q p). on q p r) keeps) last;
}

pub test_ordered : TestIsOrdered
test_ordered image log walk is fit =
    ordered_as image log (RecordedOrder log) (holds (recorded_before log)) (λ (p q : Pos). (recorded_test image log walk p q is fit).1) (λ (p q : Pos). (recorded_test image log walk p q is fit).0)
    (recorded_law image log walk is fit)
