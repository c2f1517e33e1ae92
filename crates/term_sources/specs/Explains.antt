-- Terms explain a schedule: an assignment meets the constraints, and each access is what it sees in the schedule's order.
use Rattle.std.specs.Prelude.{◌≡◌, ℕ, ◌<◌, ◌^◌, Bool, List, length}
use Rattle.elf_image.specs.Layout.{IsSound, Layout}
use Rattle.odr_log.specs.declared.log.Log.{Log}
use Rattle.odr_log.specs.declared.log.Pos.{Pos}
use Rattle.rv_model.specs.CallsFit.{CallsFit}
use Rattle.rv_model.specs.RecordedOrder.{Counted}
use Rattle.rv_model.specs.Run.{HasLog}
use Rattle.rv_model.specs.Walk.{IsWalk, Walk}
use Rattle.bv_terms.specs.Shapes.{Shape}
use Rattle.bv_terms.specs.Values.{Assignment}
use Rattle.guided_walk.specs.Schedules.{places}
use Rattle.guided_walk.specs.Woven.{Woven}
use Rattle.thread_terms.specs.declared.access.Access.{Access}
use Rattle.walk_facts.specs.Givens.{ReadsBytes}
use Rattle.path_exec.specs.declared.paths.Paths.{Paths}
use Rattle.path_exec.specs.Paths.{ArePaths, Meets}
use Rattle.term_sources.specs.Law.{AreOutcomes, AreWords, IsOrderBy}
use Rattle.term_sources.specs.Sees.{IsSeen}

-- what the terms of accesses are, whatever is assigned
pub record AreTerms (nodes : List Shape) (accesses : List Access) : Type 0 where
  pub words : (t : Assignment) → AreWords t nodes accesses
  pub outcomes : (t : Assignment) → AreOutcomes t nodes accesses

pub record Explains (image : Layout) (nodes : List Shape) (paths : Paths) (lt : ℕ → ℕ → Bool) (t : Assignment) : Type 0 where
  pub meets : Meets t nodes paths.constraints
  pub seen : (x : ℕ) → x < length paths.accesses → IsSeen image t nodes paths.accesses lt x

-- a thread has fewer than 2 ^ 18 steps
abbrev pub HasFewSteps : Log → Type 0
HasFewSteps log = (p : Pos) → Counted log p → p.step < 2 ^ 18

-- A woven schedule that terms explain has the log.
abbrev pub ExplainedHasLog : Type 0
ExplainedHasLog = (image : Layout) (log : Log) (walk : Walk) (nodes : List Shape) (paths : Paths) (t : Assignment) (lt : ℕ → ℕ → Bool)
    (pairs : List (Pos × Pos)) (schedule : List ℕ) → log.version ≡ 1 → IsWalk image log walk → CallsFit log
    → ArePaths image log walk nodes paths → AreTerms nodes paths.accesses → Woven log pairs schedule
    → IsOrderBy paths.accesses (places schedule) lt → Explains image nodes paths lt t → HasLog image log schedule

-- Terms explain each schedule that has the log.
abbrev pub LogIsExplained : Type 0
LogIsExplained = (image : Layout) (log : Log) (walk : Walk) (nodes : List Shape) (paths : Paths) (lt : ℕ → ℕ → Bool) (schedule : List ℕ)
    → log.version ≡ 1 → IsSound image → ReadsBytes log → HasFewSteps log → IsWalk image log walk → CallsFit log
    → ArePaths image log walk nodes paths → AreTerms nodes paths.accesses → HasLog image log schedule
    → IsOrderBy paths.accesses (places schedule) lt → (t : Assignment) × Explains image nodes paths lt t
