-- Where the values of a step can come from: its own thread's earlier steps, the spawn that made its thread, and the ends
-- of the threads that were joined.
use Rattle.std.specs.Prelude.{◌≡◌, ℕ, zero, suc, ◌<◌, ◌⊎◌, true, Option, Some, None, Contains}
use Rattle.odr_log.specs.declared.log.Call.TheVariants as call
use Rattle.odr_log.specs.declared.log.Log.{Log}
use Rattle.odr_log.specs.declared.log.Pos.{Pos}
use Rattle.rv_model.specs.RecordedOrder.{Closure, Counted}
use Rattle.guided_walk.specs.Told.{Told, noted}
use Rattle.guided_walk.specs.Guided.{joins}

-- one step hands something on to another
pub data FlowEdge (log : Log) : Pos → Pos → Type 0 where
  InThread : {p q : Pos} → p.thread ≡ q.thread → p.step < q.step → FlowEdge log p q
  BySpawn : {p q : Pos} {entry : ℕ} → Contains log.calls (record { tid = p.thread; at = p.step; call = call.Spawn entry (Some q.thread) }) → FlowEdge log p q
  ByJoin : {p q : Pos} → Contains log.calls (record { tid = p.thread; at = p.step; call = call.EndThread })
      → Contains log.calls (record { tid = q.thread; at = q.step; call = call.Join p.thread true }) → FlowEdge log p q

-- the same between counted steps
pub record CountedFlow (log : Log) (p q : Pos) : Type 0 where
  pub from : Counted log p
  pub to : Counted log q
  pub edge : FlowEdge log p q

-- the transitive closure, over the counted steps
abbrev pub Flow : Log → Pos → Pos → Type 0
Flow log = Closure (CountedFlow log)

-- ---- what a step is made of at once

-- the step before it, or for a thread's first step the spawn that made the thread
abbrev pub NeedsThread : Told → Pos → ℕ → ℕ → Type 0
NeedsThread told q thread (suc step) = q ≡ (let before : Pos = record { thread = thread; step = step } in before)
NeedsThread told q zero zero = ⊥
NeedsThread told q (suc before) zero = told.maker (suc before) ≡ Some q

-- the end of the thread that it joins
abbrev pub NeedsJoin : Told → Pos → Option ℕ → Type 0
NeedsJoin told q None = ⊥
NeedsJoin told q (Some target) = told.ender target ≡ Some q

abbrev pub Needs : Told → Pos → Pos → Type 0
Needs told q p = NeedsThread told q p.thread p.step ⊎ NeedsJoin told q (joins (noted told p))
