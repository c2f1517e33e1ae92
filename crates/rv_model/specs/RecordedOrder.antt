-- The order of steps that a log records: within a thread, from call to call, and from a spawn to the thread that it
-- made. Which thread won a race is not in it.
use Rattle.std.specs.Prelude.{◌≡◌, ◌≢◌, ℕ, ◌<◌, slice_get, Some, Contains}
use Rattle.odr_log.specs.declared.log.Call.{Call}
use Rattle.odr_log.specs.declared.log.Call.TheVariants as call
use Rattle.odr_log.specs.declared.log.Log.{Log}
use Rattle.odr_log.specs.declared.log.Pos.{Pos}
use Rattle.rv_model.specs.Run.{logged}

-- the transitive closure of a relation on steps
pub data Closure (edge : Pos → Pos → Type 0) : Pos → Pos → Type 0 where
  One : {p q : Pos} → edge p q → Closure edge p q
  More : {p q r : Pos} → edge p q → Closure edge q r → Closure edge p r

-- a step that the log counts
abbrev pub Counted : Log → Pos → Type 0
Counted log p = p.step < (logged log p.thread).steps

-- a step is the call of the record with this number
pub record IsStepOf (log : Log) (number : ℕ) (p : Pos) : Type 0 where
  pub made : Call
  pub is : slice_get log.calls number ≡ Some (record { tid = p.thread; at = p.step; call = made })

-- one step is recorded to stand before another
pub data Edge (log : Log) : Pos → Pos → Type 0 where
  InThread : {p q : Pos} → p.thread ≡ q.thread → p.step < q.step → Edge log p q
  ByCalls : {p q : Pos} {earlier later : ℕ} → IsStepOf log earlier p → IsStepOf log later q → earlier < later → Edge log p q
  BySpawn : {p q : Pos} {entry : ℕ} → Contains log.calls (record { tid = p.thread; at = p.step; call = call.Spawn entry (Some q.thread) }) → Edge log p q

-- the same between counted steps
pub record CountedEdge (log : Log) (p q : Pos) : Type 0 where
  pub from : Counted log p
  pub to : Counted log q
  pub edge : Edge log p q

-- the transitive closure, over the counted steps
abbrev pub RecordedOrder : Log → Pos → Pos → Type 0
RecordedOrder log = Closure (CountedEdge log)

-- Steps of different threads that the recorded order leaves unordered. An open pair is such a pair of accesses.
pub record IsOpen (log : Log) (p q : Pos) : Type 0 where
  pub apart : p.thread ≢ q.thread
  pub unordered : RecordedOrder log p q → ⊥
  pub unordered_back : RecordedOrder log q p → ⊥
