-- Where the calls of a log fit, a thread's calls stand after the spawn that made it.
use Rattle.std.specs.Prelude.{◌≡◌, ℕ, zero, suc, ◌%◌, ◌<◌, ◌≤◌, Bool, true, false, ◌&&◌, cond, List, [], ◌∷◌, nat_eq, nat_lt, slice_get, Some, None}
use Rattle.std.proofs.Common.{◌∙◌, ap, arith}
use Rattle.std.proofs.lemmas.List.{length_push, length-set}
use Rattle.std.proofs.lemmas.Option.{none-some, same_Some}
use Rattle.odr_log.specs.declared.log.Call.{Call}
use Rattle.odr_log.specs.declared.log.Call.TheVariants as call
use Rattle.odr_log.specs.declared.log.CallRec.{CallRec}
use Rattle.rv_model.specs.declared.state.Calls.{Calls}
use Rattle.rv_model.specs.declared.hearing.Reply.{Reply}
use Rattle.rv_model.specs.Calls.{made, reply_to, asked_in, calls_after}
use Rattle.rv_model.specs.CallsFit.{reply_in, after_record, FitsRecord, Pass}

-- no call unmakes a thread
pub grows : (calls : Calls) (tid : ℕ) (c : Call) → made calls ≤ made (calls_after calls tid 0 c)
grows calls tid call.EndThread = omega (arith, length-set calls.ended tid (Some 0))
grows calls tid (call.Spawn entry (Some child)) = omega (arith, length_push calls.ended None)
grows calls tid (call.Spawn entry None) = omega arith
grows calls tid (call.Lock mutex true) = omega arith
grows calls tid (call.Lock mutex false) = omega arith
grows calls tid (call.Unlock mutex true) = omega arith
grows calls tid (call.Unlock mutex false) = omega arith
grows calls tid (call.TryLock mutex true) = omega arith
grows calls tid (call.TryLock mutex false) = omega arith
grows calls tid other = omega arith

-- a spawn that is answered with a child makes the next thread
pub next_child : (b : Bool) (n child : ℕ) → cond b (Some n) None ≡ Some child → n ≡ child
next_child true n child e = same_Some n child e
next_child false n child e = absurd (none-some child e)

pub spawn_makes : (calls : Calls) (r : CallRec) (entry child : ℕ) → r.call ≡ call.Spawn entry (Some child) → FitsRecord calls r → made calls ≡ child
spawn_makes calls r entry child e fits =
    let answered : reply_to calls r.tid (asked_in (call.Spawn entry (Some child))) ≡ reply_in (call.Spawn entry (Some child)) =
    rw e at fits.answered in
    next_child (nat_eq (entry % 4) 0 && nat_lt (made calls) 8) (made calls) child (ap (λ (reply : Reply). reply.child) answered)

-- a spawn later on makes a thread that is not made yet
pub spawn_child : (calls : Calls) (records : List CallRec) (n : ℕ) (r : CallRec) (entry child : ℕ) → Pass calls records
    → slice_get records n ≡ Some r → r.call ≡ call.Spawn entry (Some child) → made calls ≤ child
spawn_child calls [] n r entry child pass at e = absurd (none-some r at)
spawn_child calls (x ∷ xs) zero r entry child pass at e =
    let same : x ≡ r = same_Some x r at in
    omega (arith, spawn_makes calls x entry child (ap (λ (y : CallRec). y.call) same ∙ e) pass.0)
spawn_child calls (x ∷ xs) (suc n) r entry child pass at e =
    omega (arith, grows calls x.tid x.call, spawn_child (after_record calls x) xs n r entry child pass.1 at e)

-- the spawn that made a thread stands before each call of the thread
pub spawn_first : (calls : Calls) (records : List CallRec) (m n : ℕ) (spawn r : CallRec) (entry : ℕ) → Pass calls records
    → slice_get records m ≡ Some spawn → spawn.call ≡ call.Spawn entry (Some r.tid) → slice_get records n ≡ Some r → m < n
spawn_first calls [] m n spawn r entry pass at e there = absurd (none-some r there)
spawn_first calls (x ∷ xs) zero zero spawn r entry pass at e there =
    let same : x ≡ spawn = same_Some x spawn at in
    let tid : x.tid ≡ r.tid = ap (λ (y : CallRec). y.tid) (same_Some x r there) in
    omega (arith, spawn_makes calls x entry r.tid (ap (λ (y : CallRec). y.call) same ∙ e) pass.0, pass.0.exists)
spawn_first calls (x ∷ xs) zero (suc n) spawn r entry pass at e there = omega arith
spawn_first calls (x ∷ xs) (suc m) zero spawn r entry pass at e there =
    let tid : x.tid ≡ r.tid = ap (λ (y : CallRec). y.tid) (same_Some x r there) in
    omega (arith, pass.0.exists, grows calls x.tid x.call, spawn_child (after_record calls x) xs m spawn entry r.tid pass.1 at e)
spawn_first calls (x ∷ xs) (suc m) (suc n) spawn r entry pass at e there =
    let less : m < n = spawn_first (after_record calls x) xs m n spawn r entry pass.1 at e there in omega arith
