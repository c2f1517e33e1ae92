-- Each test of equality is true exactly where its two values are equal.
use Rattle.std.proofs.Common.{◌≡◌, ℕ, Bool, true, false, ◌&&◌, List, Option, Some, None, refl, sym, ap, subst, ◌∙◌}
use Rattle.std.specs.Prelude.{◌==◌, ◌↔◌, if◌then◌else◌}
use Rattle.std.specs.Cmp.{IsPartialEquivalence}
use Rattle.std.specs.Cmp.Lexicographic.{pointwise, pointwise_decides, bytes_decides}
use Rattle.std.specs.Str.{bytes_eq}
use Rattle.std.proofs.lemmas.Bool.{eqb-true, eq-eqb, and_parts, and_from, false≢true}
use Rattle.odr_log.specs.Grammar.{cause_code}
use Rattle.odr_log.specs.Same.{same_flag, same_child, same_cause, same_end, same_item, same_thread, same_call, same_rec, same_log}
use Rattle.odr_log.specs.declared.log.Cause.{Cause}
use Rattle.odr_log.specs.declared.log.Cause.TheVariants as cause
use Rattle.odr_log.specs.declared.log.End.{End}
use Rattle.odr_log.specs.declared.log.End.TheVariants as end
use Rattle.odr_log.specs.declared.log.PathItem.{PathItem}
use Rattle.odr_log.specs.declared.log.PathItem.TheVariants as item
use Rattle.odr_log.specs.declared.log.ThreadLog.{ThreadLog}
use Rattle.odr_log.specs.declared.log.Call.{Call}
use Rattle.odr_log.specs.declared.log.Call.TheVariants as call
use Rattle.odr_log.specs.declared.log.CallRec.{CallRec}
use Rattle.odr_log.specs.declared.log.Log.{Log}

-- a test that is true of two values only where they are equal, and of each value and itself
exact : {X : Type 0} (same : X → X → Bool) → ((a b : X) → same a b ≡ true → a ≡ b) → ((a : X) → same a a ≡ true) → (a b : X) → (same a b ≡ true) ↔ (a ≡ b)
exact same equal own a b = (equal a b, λ e. subst (λ x. same a x ≡ true) e (own a))

agree : (a b : Bool) → (a ≡ true → b ≡ true) → (b ≡ true → a ≡ true) → a ≡ b
agree true b f g = sym (f refl)
agree false true f g = g refl
agree false false f g = refl

-- such a test holds both ways round, and along a chain
both_ways : {X : Type 0} (same : X → X → Bool) → ((a b : X) → (same a b ≡ true) ↔ (a ≡ b)) → IsPartialEquivalence same
both_ways same same-exact = record {
  symm = λ a b. agree (same a b) (same b a)
      (λ e. (same-exact b a).1 (sym ((same-exact a b).0 e)))
      (λ e. (same-exact a b).1 (sym ((same-exact b a).0 e)));
  trans = λ a b c e f. (same-exact a c).1 ((same-exact a b).0 e ∙ (same-exact b c).0 f);
}

own_number : (a : ℕ) → (a == a) ≡ true
own_number a = eq-eqb a a refl

own_bytes : (a : List ℕ) → bytes_eq a a ≡ true
own_bytes a = (bytes_decides a a).1 refl

equal_bytes : (a b : List ℕ) → bytes_eq a b ≡ true → a ≡ b
equal_bytes a b e = (bytes_decides a b).0 e

-- ---- flags and children

equal_flag : (a b : Bool) → same_flag a b ≡ true → a ≡ b
equal_flag true b e = sym e
equal_flag false true e = e
equal_flag false false e = refl

own_flag : (a : Bool) → same_flag a a ≡ true
own_flag true = refl
own_flag false = refl

equal_child : (a b : Option ℕ) → same_child a b ≡ true → a ≡ b
equal_child None None e = refl
equal_child (Some a) (Some b) e = ap Some (eqb-true a b e)
equal_child a b e = absurd (false≢true e)

own_child : (a : Option ℕ) → same_child a a ≡ true
own_child None = refl
own_child (Some a) = own_number a

-- a number and a flag
equal_flagged : (make : ℕ → Bool → Call) (a b : ℕ) (p q : Bool) → (a == b && same_flag p q) ≡ true → make a p ≡ make b q
equal_flagged make a b p q e =
    let h = and_parts (a == b) (same_flag p q) e in
    let number : a ≡ b = eqb-true a b h.0 in
    let flag : p ≡ q = equal_flag p q h.1 in
    cc

own_flagged : (a : ℕ) (p : Bool) → (a == a && same_flag p p) ≡ true
own_flagged a p = and_from (a == a) (same_flag p p) (own_number a) (own_flag p)

-- ---- causes and ends

-- the cause of a code
cause_of : ℕ → Cause
cause_of code = if code == 1 then cause.FetchFault else if code == 2 then cause.Illegal else if code == 3 then cause.Misaligned
    else if code == 4 then cause.LoadFault else if code == 5 then cause.StoreFault else if code == 6 then cause.AmoFault else cause.Breakpoint

cause_of-code : (a : Cause) → cause_of (cause_code a) ≡ a
unfolding cause_of
cause_of-code cause.FetchFault = refl
cause_of-code cause.Illegal = refl
cause_of-code cause.Misaligned = refl
cause_of-code cause.LoadFault = refl
cause_of-code cause.StoreFault = refl
cause_of-code cause.AmoFault = refl
cause_of-code cause.Breakpoint = refl

equal_cause : (a b : Cause) → same_cause a b ≡ true → a ≡ b
equal_cause a b e = sym (cause_of-code a) ∙ ap cause_of (eqb-true (cause_code a) (cause_code b) e) ∙ cause_of-code b

pub same_cause-exact : (a b : Cause) → (same_cause a b ≡ true) ↔ (a ≡ b)
same_cause-exact = exact same_cause equal_cause (λ a. own_number (cause_code a))

equal_end : (a b : End) → same_end a b ≡ true → a ≡ b
equal_end (end.Exited tid code) (end.Exited tid' code') e =
    let h = and_parts (tid == tid') (code == code') e in
    let same_tid : tid ≡ tid' = eqb-true tid tid' h.0 in
    let same_code : code ≡ code' = eqb-true code code' h.1 in
    cc
equal_end (end.Faulted tid cause) (end.Faulted tid' cause') e =
    let h = and_parts (tid == tid') (same_cause cause cause') e in
    let same_tid : tid ≡ tid' = eqb-true tid tid' h.0 in
    let same_why : cause ≡ cause' = equal_cause cause cause' h.1 in
    cc
equal_end end.AllDone end.AllDone e = refl
equal_end end.Cut end.Cut e = refl
equal_end a b e = absurd (false≢true e)

own_end : (a : End) → same_end a a ≡ true
own_end (end.Exited tid code) = and_from (tid == tid) (code == code) (own_number tid) (own_number code)
own_end (end.Faulted tid cause) = and_from (tid == tid) (same_cause cause cause) (own_number tid) (own_number (cause_code cause))
own_end end.AllDone = refl
own_end end.Cut = refl

pub same_end-exact : (a b : End) → (same_end a b ≡ true) ↔ (a ≡ b)
same_end-exact = exact same_end equal_end own_end

-- ---- threads

equal_item : (a b : PathItem) → same_item a b ≡ true → a ≡ b
equal_item (item.Branch taken) (item.Branch taken') e = ap item.Branch (equal_flag taken taken' e)
equal_item (item.Jump target) (item.Jump target') e = ap item.Jump (eqb-true target target' e)
equal_item a b e = absurd (false≢true e)

own_item : (a : PathItem) → same_item a a ≡ true
own_item (item.Branch taken) = own_flag taken
own_item (item.Jump target) = own_number target

pub same_item-exact : (a b : PathItem) → (same_item a b ≡ true) ↔ (a ≡ b)
same_item-exact = exact same_item equal_item own_item

paths : (a b : List PathItem) → (pointwise same_item a b ≡ true) ↔ (a ≡ b)
paths a b = pointwise_decides same_item-exact a b

equal_thread : (a b : ThreadLog) → same_thread a b ≡ true → a ≡ b
equal_thread a b e =
    let h = and_parts (a.steps == b.steps) (pointwise same_item a.path b.path) e in
    let steps : a.steps ≡ b.steps = eqb-true a.steps b.steps h.0 in
    let path : a.path ≡ b.path = (paths a.path b.path).0 h.1 in
    λ i. record { steps = steps i; path = path i }

own_thread : (a : ThreadLog) → same_thread a a ≡ true
own_thread a = and_from (a.steps == a.steps) (pointwise same_item a.path a.path) (own_number a.steps) ((paths a.path a.path).1 refl)

pub same_thread-exact : (a b : ThreadLog) → (same_thread a b ≡ true) ↔ (a ≡ b)
same_thread-exact = exact same_thread equal_thread own_thread

-- the test holds both ways round, and along a chain
pub same_thread-both_ways : IsPartialEquivalence same_thread
same_thread-both_ways = both_ways same_thread same_thread-exact

-- ---- calls

equal_call : (a b : Call) → same_call a b ≡ true → a ≡ b
equal_call (call.Exit code) (call.Exit code') e = ap call.Exit (eqb-true code code' e)
equal_call call.EndThread call.EndThread e = refl
equal_call (call.Spawn entry child) (call.Spawn entry' child') e =
    let h = and_parts (entry == entry') (same_child child child') e in
    let same_entry : entry ≡ entry' = eqb-true entry entry' h.0 in
    let same_number : child ≡ child' = equal_child child child' h.1 in
    cc
equal_call (call.Join target ok) (call.Join target' ok') e = equal_flagged call.Join target target' ok ok' e
equal_call (call.Lock mutex ok) (call.Lock mutex' ok') e = equal_flagged call.Lock mutex mutex' ok ok' e
equal_call (call.Unlock mutex ok) (call.Unlock mutex' ok') e = equal_flagged call.Unlock mutex mutex' ok ok' e
equal_call (call.TryLock mutex got) (call.TryLock mutex' got') e = equal_flagged call.TryLock mutex mutex' got got' e
equal_call (call.Write bytes) (call.Write bytes') e = ap call.Write (equal_bytes bytes bytes' e)
equal_call call.WriteBad call.WriteBad e = refl
equal_call (call.Read want bytes) (call.Read want' bytes') e =
    let h = and_parts (want == want') (bytes_eq bytes bytes') e in
    let same_want : want ≡ want' = eqb-true want want' h.0 in
    let same_bytes : bytes ≡ bytes' = equal_bytes bytes bytes' h.1 in
    cc
equal_call call.ReadBad call.ReadBad e = refl
equal_call call.SelfId call.SelfId e = refl
equal_call call.Yield call.Yield e = refl
equal_call (call.Unknown number) (call.Unknown number') e = ap call.Unknown (eqb-true number number' e)
equal_call a b e = absurd (false≢true e)

own_call : (a : Call) → same_call a a ≡ true
own_call (call.Exit code) = own_number code
own_call call.EndThread = refl
own_call (call.Spawn entry child) = and_from (entry == entry) (same_child child child) (own_number entry) (own_child child)
own_call (call.Join target ok) = own_flagged target ok
own_call (call.Lock mutex ok) = own_flagged mutex ok
own_call (call.Unlock mutex ok) = own_flagged mutex ok
own_call (call.TryLock mutex got) = own_flagged mutex got
own_call (call.Write bytes) = own_bytes bytes
own_call call.WriteBad = refl
own_call (call.Read want bytes) = and_from (want == want) (bytes_eq bytes bytes) (own_number want) (own_bytes bytes)
own_call call.ReadBad = refl
own_call call.SelfId = refl
own_call call.Yield = refl
own_call (call.Unknown number) = own_number number

pub same_call-exact : (a b : Call) → (same_call a b ≡ true) ↔ (a ≡ b)
same_call-exact = exact same_call equal_call own_call

equal_rec : (a b : CallRec) → same_rec a b ≡ true → a ≡ b
equal_rec a b e =
    let h = and_parts (a.tid == b.tid && a.at == b.at) (same_call a.call b.call) e in
    let g = and_parts (a.tid == b.tid) (a.at == b.at) h.0 in
    let tid : a.tid ≡ b.tid = eqb-true a.tid b.tid g.0 in
    let at : a.at ≡ b.at = eqb-true a.at b.at g.1 in
    let call : a.call ≡ b.call = equal_call a.call b.call h.1 in
    λ i. record { tid = tid i; at = at i; call = call i }

own_rec : (a : CallRec) → same_rec a a ≡ true
own_rec a = and_from (a.tid == a.tid && a.at == a.at) (same_call a.call a.call) (and_from (a.tid == a.tid) (a.at == a.at) (own_number a.tid) (own_number a.at)) (own_call a.call)

pub same_rec-exact : (a b : CallRec) → (same_rec a b ≡ true) ↔ (a ≡ b)
same_rec-exact = exact same_rec equal_rec own_rec

pub same_rec-both_ways : IsPartialEquivalence same_rec
same_rec-both_ways = both_ways same_rec same_rec-exact

-- ---- logs

thread_lists : (a b : List ThreadLog) → (pointwise same_thread a b ≡ true) ↔ (a ≡ b)
thread_lists a b = pointwise_decides same_thread-exact a b

call_lists : (a b : List CallRec) → (pointwise same_rec a b ≡ true) ↔ (a ≡ b)
call_lists a b = pointwise_decides same_rec-exact a b

equal_log : (a b : Log) → same_log a b ≡ true → a ≡ b
equal_log a b e =
    let version_is = a.version == b.version in
    let end_is = same_end a.end b.end in
    let threads_are = pointwise same_thread a.threads b.threads in
    let calls_are = pointwise same_rec a.calls b.calls in
    let h = and_parts (version_is && end_is && threads_are) calls_are e in
    let g = and_parts (version_is && end_is) threads_are h.0 in
    let k = and_parts version_is end_is g.0 in
    let version : a.version ≡ b.version = eqb-true a.version b.version k.0 in
    let end : a.end ≡ b.end = equal_end a.end b.end k.1 in
    let threads : a.threads ≡ b.threads = (thread_lists a.threads b.threads).0 g.1 in
    let calls : a.calls ≡ b.calls = (call_lists a.calls b.calls).0 h.1 in
    λ i. record { version = version i; threads = threads i; calls = calls i; end = end i }

own_log : (a : Log) → same_log a a ≡ true
own_log a =
    let version_is = a.version == a.version in
    let end_is = same_end a.end a.end in
    let threads_are = pointwise same_thread a.threads a.threads in
    let calls_are = pointwise same_rec a.calls a.calls in
    let first = and_from version_is end_is (own_number a.version) (own_end a.end) in
    let second = and_from (version_is && end_is) threads_are first ((thread_lists a.threads a.threads).1 refl) in
    and_from (version_is && end_is && threads_are) calls_are second ((call_lists a.calls a.calls).1 refl)

pub same_log-exact : (a b : Log) → (same_log a b ≡ true) ↔ (a ≡ b)
same_log-exact = exact same_log equal_log own_log

pub same_log-both_ways : IsPartialEquivalence same_log
same_log-both_ways = both_ways same_log same_log-exact
