-- Orders of a log's steps along which its calls can be told again, whatever else an order leaves open.
use Rattle.std.specs.Prelude.{◌≡◌, ℕ, Bool, ◌&&◌, List, [], ◌∷◌, nat_eq, find, Contains}
use Rattle.elf_image.specs.Layout.{Layout}
use Rattle.odr_log.specs.declared.log.Call.TheVariants as call
use Rattle.odr_log.specs.declared.log.CallRec.{CallRec}
use Rattle.odr_log.specs.declared.log.Log.{Log}
use Rattle.odr_log.specs.declared.log.Pos.{Pos}
use Rattle.rv_model.specs.Run.{HasLog, cons_some}
use Rattle.rv_model.specs.CallsFit.{CallsFit}
use Rattle.rv_model.specs.RecordedOrder.{Counted}
use Rattle.guided_walk.specs.Orders.{Keeps, Lists}
use Rattle.guided_walk.specs.Schedules.{places}
use Rattle.guided_walk.specs.Flow.{Flow}

-- a step that is a recorded exit
abbrev pub IsExit : Log → Pos → Type 0
IsExit log p = (code : ℕ) × Contains log.calls (record { tid = p.thread; at = p.step; call = call.Exit code })

-- no step stands after an exit
abbrev pub ExitLast : Log → List Pos → Type 0
ExitLast log [] = Unit {0}
ExitLast log (p ∷ later) = (IsExit log p → later ≡ []) × ExitLast log later

abbrev pub is_at : Pos → CallRec → Bool
is_at p r = nat_eq r.tid p.thread && nat_eq r.at p.step

-- the records of steps, in the steps' order
abbrev pub calls_along : Log → List Pos → List CallRec
calls_along log [] = []
calls_along log (p ∷ later) = cons_some (find (is_at p) log.calls) (calls_along log later)

-- the log with its records in the order of these steps
abbrev pub told_along : Log → List Pos → Log
told_along log steps = record log { calls = calls_along log steps }

-- A strict order of the counted steps that has the flow in it, that every schedule with the log keeps, and along which
-- the calls of the log fit and make up the log again.
pub record Ordered (image : Layout) (log : Log) (before : Pos → Pos → Type 0) : Type 0 where
  pub transitive : (p q r : Pos) → before p q → before q r → before p r
  pub no_ring : (p : Pos) → before p p → ⊥
  pub flow : (p q : Pos) → Flow log p q → before p q
  pub kept : (schedule : List ℕ) → HasLog image log schedule → Keeps before (places schedule)
  pub passes : (steps : List Pos) → Lists (Counted log) steps → Keeps before steps → ExitLast log steps → CallsFit (told_along log steps)
  pub again : (steps : List Pos) → Lists (Counted log) steps → Keeps before steps → ExitLast log steps → told_along log steps ≡ log
