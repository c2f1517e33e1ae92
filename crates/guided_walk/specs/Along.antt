-- The guided walk along a list of steps: each step is worked out from the steps before it.
use Rattle.std.specs.Prelude.{◌≡◌, ℕ, ◌&&◌, List, [], ◌∷◌, nat_eq, if◌then◌else◌}
use Rattle.elf_image.specs.Layout.{Layout}
use Rattle.odr_log.specs.declared.log.End.{End}
use Rattle.odr_log.specs.declared.log.End.TheVariants as end
use Rattle.odr_log.specs.declared.log.Log.{Log}
use Rattle.odr_log.specs.declared.log.Pos.{Pos}
use Rattle.rv_model.specs.Run.{logged}
use Rattle.rv_model.specs.Noted.{note_in}
use Rattle.guided_walk.specs.Told.{Told, IsPlace, noted}
use Rattle.guided_walk.specs.Guided.{Given, Visit, Visits, at, visit}
use Rattle.guided_walk.specs.Orders.{In}
use Rattle.guided_walk.specs.Flow.{Needs}

abbrev pub put_at : Pos → Visit → Visits → Visits
put_at p here visits = λ (thread step : ℕ). if nat_eq thread p.thread && nat_eq step p.step then here else visits thread step

-- the visits after the steps of a list, from any visits before them
abbrev pub walk_along : Layout → Told → Given → List Pos → Visits → Visits
walk_along image told given [] visits = visits
walk_along image told given (p ∷ later) visits = walk_along image told given later (put_at p (visit image told given visits p.thread p.step) visits)

-- each step shows what is recorded of it
abbrev pub HoldsAlong : Layout → Told → Given → List Pos → Visits → Type 0
HoldsAlong image told given steps start =
    (p : Pos) → In p steps → note_in (at (walk_along image told given steps start) p).outcome ≡ noted told p

-- A strict order of places that has each step after what it is made of.
pub record HasNeeds (told : Told) (before : Pos → Pos → Type 0) : Type 0 where
  pub no_ring : (p : Pos) → before p p → ⊥
  pub places : (q p : Pos) → IsPlace told p → Needs told q p → IsPlace told q
  pub first : (q p : Pos) → IsPlace told p → Needs told q p → before q p

-- the place of the fault in which a log ends, if it does
abbrev pub fault_by : Log → End → List Pos
fault_by log (end.Faulted thread fault) = record { thread = thread; step = (logged log thread).steps } ∷ []
fault_by log (end.Exited thread code) = []
fault_by log end.AllDone = []
fault_by log end.Cut = []

abbrev pub fault_places : Log → List Pos
fault_places log = fault_by log log.end
