-- The recorded order in closed form: steps of one thread by their numbers, and steps of two threads by two calls.
use Rattle.std.specs.Prelude.{◌≡◌, ◌≢◌, ◌↔◌, ℕ, ◌<◌, ◌≤◌, ◌⊎◌, length, slice_get, Option, Some, None, Contains, IsTrue, refl}
use Rattle.std.proofs.Common.{sym, ◌∙◌, ap, subst, inl, inr, arith, get_or}
use Rattle.std.proofs.lemmas.Bool.{cases_lt, leb-true, le-leb, false≢true}
use Rattle.std.proofs.lemmas.Option.{same_Some, slice_get_within, get_or_from_slice_get, slice_get_read}
use Rattle.odr_log.specs.declared.log.Call.TheVariants as call
use Rattle.odr_log.specs.declared.log.CallRec.{CallRec}
use Rattle.odr_log.specs.declared.log.Log.{Log}
use Rattle.odr_log.specs.declared.log.Pos.{Pos}
use Rattle.odr_log.specs.Tape.{tape_of}
use Rattle.rv_model.specs.Calls.{opening_calls}
use Rattle.rv_model.specs.CallsFit.{CallsFit}
use Rattle.rv_model.specs.RecordedOrder.{Closure, One, More, Counted, IsStepOf, Edge, InThread, ByCalls, BySpawn, CountedEdge, RecordedOrder}
use Rattle.happens_before.specs.Reach.{IsCallAt, Leaves, Called, Made, Reached, IsLeast, IsGreatest, meets}
use Rattle.rv_model.proofs.SpawnLemmas.{spawn_first}

-- a number through which a step is reached from a number: that of a later call, or of the spawn that made its thread
abbrev pub Arrives : Log → Pos → ℕ → ℕ → Type 0
Arrives log q from to = (Called log q to × (from < to)) ⊎ (Made log q.thread to × (from ≤ to))

-- one step is before another through calls
pub record Via (log : Log) (p q : Pos) : Type 0 where
  pub from : ℕ
  pub to : ℕ
  pub leaves : Leaves log p from
  pub arrives : Arrives log q from to

abbrev pub IsBefore : Log → Pos → Pos → Type 0
IsBefore log p q = ((p.thread ≡ q.thread) × (p.step < q.step)) ⊎ Via log p q

abbrev pub at : ℕ → ℕ → Pos
at thread step = record { thread = thread; step = step }

not_before : (m n : ℕ) → (n < m → ⊥) → m ≤ n
not_before m n never = elim (cases_lt n m) [ inl less ↦ absurd (never less) | inr le ↦ le ]

-- calls of one thread rise
pub calls_rise : (log : Log) → CallsFit log → (thread s t m n : ℕ) → IsStepOf log m (at thread s) → IsStepOf log n (at thread t) → m < n → s < t
calls_rise log fit thread s t m n a b less =
    let first : CallRec = record { tid = thread; at = s; call = a.made } in
    let second : CallRec = record { tid = thread; at = t; call = b.made } in
    let one : get_or log.calls m first ≡ first = get_or_from_slice_get log.calls m first first a.is in
    let two : get_or log.calls n first ≡ second = get_or_from_slice_get log.calls n second first b.is in
    let same : (get_or log.calls m first).tid ≡ (get_or log.calls n first).tid =
    ap (λ (r : CallRec). r.tid) one ∙ sym (ap (λ (r : CallRec). r.tid) two) in
    let rises : (get_or log.calls m first).at < (get_or log.calls n first).at =
    fit.rising m n first less (slice_get_within log.calls n second b.is) same in
    omega (arith, rises, ap (λ (r : CallRec). r.at) one, ap (λ (r : CallRec). r.at) two)

-- the spawn that made a thread stands before its calls
made_first : (log : Log) → CallsFit log → (thread s d c : ℕ) → Made log thread d → IsStepOf log c (at thread s) → d < c
made_first log fit thread s d c made step =
    spawn_first (opening_calls (tape_of log)) log.calls d c
    (record { tid = made.0.thread; at = made.0.step; call = call.Spawn made.1 (Some thread) })
    (record { tid = thread; at = s; call = step.made }) made.1 fit.pass made.3 refl step.is

-- a number through which a step is reached is no later than one by which it leaves
reached_leaves : (log : Log) → CallsFit log → (q : Pos) (d c : ℕ) → Reached log q d → Leaves log q c → d ≤ c
reached_leaves log fit q d c (inl called) leaves =
    not_before d c (λ (less : c < d).
    let rises : leaves.0 < called.0 = calls_rise log fit q.thread leaves.0 called.0 c d leaves.2.1 called.2.1 less in
    absurd (omega (arith, rises, called.1, leaves.1)))
reached_leaves log fit q d c (inr made) leaves = omega (arith, made_first log fit q.thread leaves.0 d c made leaves.2.1)

reached : (log : Log) (q : Pos) (from to : ℕ) → Arrives log q from to → Reached log q to
reached log q from to (inl a) = inl a.0
reached log q from to (inr a) = inr a.0

rises_to : (log : Log) (q : Pos) (from to : ℕ) → Arrives log q from to → from ≤ to
rises_to log q from to (inl a) = omega (arith, a.1)
rises_to log q from to (inr a) = a.1

-- through calls, from an earlier step of the thread, to a later one, and from an earlier number

leaves_from : (log : Log) (p q : Pos) (c : ℕ) → p.thread ≡ q.thread → p.step ≤ q.step → Leaves log q c → Leaves log p c
leaves_from log p q c same le leaves =
    (leaves.0, omega (arith, leaves.1, le), subst (λ (t : ℕ). IsCallAt log t leaves.0 c) (sym same) leaves.2)

arrives_at : (log : Log) (q r : Pos) (from to : ℕ) → q.thread ≡ r.thread → q.step ≤ r.step → Arrives log q from to → Arrives log r from to
arrives_at log q r from to same le (inl a) =
    inl ((a.0.0, omega (arith, a.0.1, le), subst (λ (t : ℕ). IsCallAt log t a.0.0 to) same a.0.2), a.1)
arrives_at log q r from to same le (inr a) = inr (subst (λ (t : ℕ). Made log t to) same a.0, a.1)

arrives_from : (log : Log) (q : Pos) (early from to : ℕ) → early ≤ from → Arrives log q from to → Arrives log q early to
arrives_from log q early from to le (inl a) = inl (a.0, omega (arith, a.1, le))
arrives_from log q early from to le (inr a) = inr (a.0, omega (arith, a.1, le))

before_then : (log : Log) → CallsFit log → (p q r : Pos) → IsBefore log p q → IsBefore log q r → IsBefore log p r
before_then log fit p q r (inl a) (inl b) = inl (a.0 ∙ b.0, omega (arith, a.1, b.1))
before_then log fit p q r (inl a) (inr v) =
    inr (record { from = v.from; to = v.to; leaves = leaves_from log p q v.from a.0 (omega (arith, a.1)) v.leaves; arrives = v.arrives })
before_then log fit p q r (inr v) (inl b) =
    inr (record { from = v.from; to = v.to; leaves = v.leaves; arrives = arrives_at log q r v.from v.to b.0 (omega (arith, b.1)) v.arrives })
before_then log fit p q r (inr v) (inr w) =
    let met : v.to ≤ w.from = reached_leaves log fit q v.to w.from (reached log q v.from v.to v.arrives) w.leaves in
    let le : v.from ≤ w.from = omega (arith, met, rises_to log q v.from v.to v.arrives) in
    inr (record { from = v.from; to = w.to; leaves = v.leaves; arrives = arrives_from log r v.from w.from w.to le w.arrives })

edge_before : (log : Log) {p q : Pos} → Counted log p → Counted log q → Edge log p q → IsBefore log p q
edge_before log from to (InThread same less) = inl (same, less)
edge_before log {p} {q} from to (ByCalls {earlier = m} {later = n} a b less) =
    inr (record { from = m; to = n; leaves = (p.step, omega arith, (from, a)); arrives = inl ((q.step, omega arith, (to, b)), less) })
edge_before log {p} {q} from to (BySpawn {entry = entry} has) =
    let spawn : CallRec = record { tid = p.thread; at = p.step; call = call.Spawn entry (Some q.thread) } in
    let is : slice_get log.calls has.0 ≡ Some spawn = slice_get_read log.calls (length log.calls) has.0 spawn refl has.1 (sym has.2) in
    inr (record {
      from = has.0;
      to = has.0;
      leaves = (p.step, omega arith, (from, record { made = call.Spawn entry (Some q.thread); is = is }));
      arrives = inr ((p, entry, from, is), omega arith);
    })

-- the recorded order has the closed form
to_closed : (log : Log) → CallsFit log → {p q : Pos} → Closure (CountedEdge log) p q → IsBefore log p q
to_closed log fit (One e) = edge_before log e.from e.to e.edge
to_closed log fit {p} {q} (More {q = x} e rest) = before_then log fit p x q (edge_before log e.from e.to e.edge) (to_closed log fit rest)

-- the other way round: the chain of steps

joined : {edge : Pos → Pos → Type 0} {p q r : Pos} → Closure edge p q → Closure edge q r → Closure edge p r
joined (One e) later = More e later
joined (More e between) later = More e (joined between later)

abbrev IsUpTo : Log → Pos → Pos → Type 0
IsUpTo log p q = (p ≡ q) ⊎ RecordedOrder log p q

up_to_then : (log : Log) (p q r : Pos) → IsUpTo log p q → RecordedOrder log q r → RecordedOrder log p r
up_to_then log p q r (inl same) order = subst (λ (x : Pos). RecordedOrder log x r) (sym same) order
up_to_then log p q r (inr first) order = joined first order

then_up_to : (log : Log) (p q r : Pos) → RecordedOrder log p q → IsUpTo log q r → RecordedOrder log p r
then_up_to log p q r order (inl same) = subst (λ (x : Pos). RecordedOrder log p x) same order
then_up_to log p q r order (inr last) = joined order last

in_thread : (log : Log) (thread s t : ℕ) → Counted log (at thread s) → Counted log (at thread t) → s ≤ t → IsUpTo log (at thread s) (at thread t)
in_thread log thread s t from to le =
    elim (cases_lt s t) [
      | inl less ↦ inr (One (record { from = from; to = to; edge = InThread refl less }))
      | inr past ↦ inl (let same : s ≡ t = omega (arith, le, past) in ap (at thread) same)
    ]

pub same_step : (log : Log) (m n : ℕ) (p q : Pos) → m ≡ n → IsStepOf log m p → IsStepOf log n q → p ≡ q
same_step log m n p q e a b =
    let first : CallRec = record { tid = p.thread; at = p.step; call = a.made } in
    let second : CallRec = record { tid = q.thread; at = q.step; call = b.made } in
    let both : first ≡ second = same_Some first second (sym a.is ∙ ap (slice_get log.calls) e ∙ b.is) in
    ap (λ (r : CallRec). at r.tid r.at) both

-- calls no later than one another
up_to_call : (log : Log) (m n : ℕ) (p q : Pos) → Counted log p → Counted log q → IsStepOf log m p → IsStepOf log n q → m ≤ n → IsUpTo log p q
up_to_call log m n p q from to a b le =
    elim (cases_lt m n) [
      | inl less ↦ inr (One (record { from = from; to = to; edge = ByCalls a b less }))
      | inr past ↦ inl (let same : m ≡ n = omega (arith, le, past) in same_step log m n p q same a b)
    ]

from_spawn : (log : Log) (q : Pos) (d : ℕ) → Counted log q → (made : Made log q.thread d) → RecordedOrder log made.0 q
from_spawn log q d to made =
    let spawn : CallRec = record { tid = made.0.thread; at = made.0.step; call = call.Spawn made.1 (Some q.thread) } in
    let has : Contains log.calls spawn = (d, slice_get_within log.calls d spawn made.3, get_or_from_slice_get log.calls d spawn spawn made.3) in
    One (record { from = made.2; to = to; edge = BySpawn {entry = made.1} has })

arrival : (log : Log) (p q : Pos) (m n : ℕ) → Counted log p → Counted log q → IsStepOf log m p → Arrives log q m n → RecordedOrder log p q
arrival log p q m n from to a (inl b) =
    then_up_to log p (at q.thread b.0.0) q
    (One (record { from = from; to = b.0.2.0; edge = ByCalls a b.0.2.1 b.1 }))
    (in_thread log q.thread b.0.0 q.step b.0.2.0 to b.0.1)
arrival log p q m n from to a (inr b) =
    up_to_then log p b.0.0 q
    (up_to_call log m n p b.0.0 from b.0.2 a (record { made = call.Spawn b.0.1 (Some q.thread); is = b.0.3 }) b.1)
    (from_spawn log q n to b.0)

from_closed : (log : Log) (p q : Pos) → Counted log p → Counted log q → IsBefore log p q → RecordedOrder log p q
from_closed log p q from to (inl b) = One (record { from = from; to = to; edge = InThread b.0 b.1 })
from_closed log p q from to (inr v) =
    up_to_then log p (at p.thread v.leaves.0) q
    (in_thread log p.thread p.step v.leaves.0 from v.leaves.2.0 v.leaves.1)
    (arrival log (at p.thread v.leaves.0) q v.from v.to v.leaves.2.0 to v.leaves.2.1 v.arrives)

-- what the code asks

via_in_thread : (log : Log) → CallsFit log → (p q : Pos) (m n : ℕ) → p.thread ≡ q.thread → Leaves log p m → Arrives log q m n → p.step < q.step
via_in_thread log fit p q m n same leaves (inl b) =
    let step : IsStepOf log m (at q.thread leaves.0) = subst (λ (t : ℕ). IsStepOf log m (at t leaves.0)) same leaves.2.1 in
    omega (arith, leaves.1, b.0.1, calls_rise log fit q.thread leaves.0 b.0.0 m n step b.0.2.1 b.1)
via_in_thread log fit p q m n same leaves (inr b) =
    let step : IsStepOf log m (at q.thread leaves.0) = subst (λ (t : ℕ). IsStepOf log m (at t leaves.0)) same leaves.2.1 in
    absurd (omega (arith, b.1, made_first log fit q.thread leaves.0 n m b.0 step))

in_thread_before : (log : Log) → CallsFit log → (p q : Pos) → p.thread ≡ q.thread → IsBefore log p q → p.step < q.step
in_thread_before log fit p q same (inl b) = b.1
in_thread_before log fit p q same (inr v) = via_in_thread log fit p q v.from v.to same v.leaves v.arrives

-- steps of one thread
pub before_in_thread : (log : Log) → CallsFit log → (p q : Pos) → Counted log p → Counted log q → p.thread ≡ q.thread
    → (p.step < q.step) ↔ RecordedOrder log p q
before_in_thread log fit p q from to same =
    (λ less. from_closed log p q from to (inl (same, less)), λ order. in_thread_before log fit p q same (to_closed log fit order))

apart_via : (log : Log) (p q : Pos) → p.thread ≢ q.thread → IsBefore log p q → Via log p q
apart_via log p q apart (inl b) = absurd (apart b.0)
apart_via log p q apart (inr v) = v

arrives : (log : Log) (p q : Pos) (m n : ℕ) → p.thread ≢ q.thread → Leaves log p m → Reached log q n → m ≤ n → Arrives log q m n
arrives log p q m n apart leaves (inr made) le = inr (made, le)
arrives log p q m n apart leaves (inl called) le =
    let other : m ≡ n → ⊥ = λ (e : m ≡ n).
    apart (ap (λ (x : Pos). x.thread) (same_step log m n (at p.thread leaves.0) (at q.thread called.0) e leaves.2.1 called.2.1)) in
    inl (called, omega (arith, le, other))

-- steps of two threads, by the first number by which one leaves and the last through which the other is reached
pub before_apart : (log : Log) → CallsFit log → (p q : Pos) → Counted log p → Counted log q → p.thread ≢ q.thread
    → (leave arrival : Option ℕ) → IsLeast (Leaves log p) leave → IsGreatest (Reached log q) arrival
    → IsTrue (meets leave arrival) ↔ RecordedOrder log p q
before_apart log fit p q from to apart (Some m) (Some n) least greatest = (
  λ le.
      let below : m ≤ n = leb-true m n le in
      from_closed log p q from to (inr (record { from = m; to = n; leaves = least.0; arrives = arrives log p q m n apart least.0 greatest.0 below })),
  λ order.
      let v : Via log p q = apart_via log p q apart (to_closed log fit order) in
      le-leb m n (omega (arith, least.1 v.from v.leaves, rises_to log q v.from v.to v.arrives, greatest.1 v.to (reached log q v.from v.to v.arrives))),
)
before_apart log fit p q from to apart None arrival least greatest = (
  λ never. absurd (false≢true never),
  λ order. let v : Via log p q = apart_via log p q apart (to_closed log fit order) in absurd (least v.from v.leaves),
)
before_apart log fit p q from to apart (Some m) None least greatest = (
  λ never. absurd (false≢true never),
  λ order. let v : Via log p q = apart_via log p q apart (to_closed log fit order) in absurd (greatest v.to (reached log q v.from v.to v.arrives)),
)
