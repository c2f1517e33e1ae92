-- How the order grows: one thread at a time goes on by some of its steps.
use Rattle.std.specs.Prelude.{◌≡◌, ◌↔◌, ℕ, zero, suc, ◌+◌, ◌-◌, ◌<◌, ◌≤◌, List, [], ◌∷◌, Some, nat_lt, slice_get, slice_index, slice_set, if◌then◌else◌}
use Rattle.elf_image.specs.Layout.{Layout}
use Rattle.odr_log.specs.declared.log.CallRec.{CallRec}
use Rattle.odr_log.specs.declared.log.Log.{Log}
use Rattle.odr_log.specs.declared.log.Pos.{Pos}
use Rattle.rv_model.specs.CallsFit.{CallsFit}
use Rattle.rv_model.specs.Run.{logged}
use Rattle.rv_model.specs.Walk.{IsWalk, Walk}
use Rattle.guided_walk.specs.Orders.{In}
use Rattle.guided_walk.specs.Told.{told, place_of}
use Rattle.walk_lists.specs.Order.{IsOrder}

abbrev pub step_of : ℕ → ℕ → Pos
step_of thread step = record { thread = thread; step = step }

-- so many steps of a thread, from one on
abbrev pub steps_from : ℕ → ℕ → ℕ → List Pos
steps_from thread step zero = []
steps_from thread step (suc count) = step_of thread step ∷ steps_from thread (suc step) count

-- the steps of a thread from one up to another
abbrev pub steps_between : ℕ → ℕ → ℕ → List Pos
steps_between thread from to = steps_from thread from (to - from)

-- the next step of each thread, where one thread goes on up to a step
abbrev pub gone_to : List ℕ → ℕ → ℕ → List ℕ
gone_to next thread to = if nat_lt (slice_index next thread) to then slice_set next thread to else next

-- the step behind a call, where the log counts the call
abbrev pub behind : Log → CallRec → ℕ
behind log r = if nat_lt r.at (logged log r.tid).steps then r.at + 1 else (logged log r.tid).steps

-- Of each thread the counted steps before its next one, each after what it is made of.
pub record IsFront (log : Log) (walk : Walk) (order : List Pos) (next : ℕ → ℕ) : Type 0 where
  pub counted : (thread : ℕ) → next thread ≤ (logged log thread).steps
  pub stands : IsOrder (told log walk) [] order
  pub reached : (p : Pos) → In p order ↔ (p.step < next p.thread)

-- and so many of the records' calls among them
pub record SoFar (log : Log) (walk : Walk) (records : ℕ) (order : List Pos) (next : ℕ → ℕ) : Type 0 where
  pub front : IsFront log walk order next
  pub calls : (m : ℕ) (r : CallRec) → slice_get log.calls m ≡ Some r → m < records → In (place_of r) order

-- by each walk of the log
abbrev pub IsSoFar : Log → ℕ → List Pos → List ℕ → Type 0
IsSoFar log records order next =
    (image : Layout) (walk : Walk) → IsWalk image log walk → CallsFit log → SoFar log walk records order (λ thread. slice_index next thread)
