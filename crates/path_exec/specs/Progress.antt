-- Symbolic paths so far: which steps are done, and what terms, constraints and accesses stand for them.
use Rattle.std.specs.Prelude.{◌≡◌, ◌↔◌, ℕ, suc, ◌<◌, List, [], length, filter, map, slice_index_or, Option, Some, None, Ok, All}
use Rattle.elf_image.specs.Layout.{Layout}
use Rattle.odr_log.specs.declared.log.Cause.{Cause}
use Rattle.odr_log.specs.declared.log.End.TheVariants as end
use Rattle.odr_log.specs.declared.log.Log.{Log}
use Rattle.odr_log.specs.declared.log.Pos.{Pos}
use Rattle.rv_model.specs.declared.walk.FaultPlace.{FaultPlace}
use Rattle.rv_model.specs.declared.walk.Place.{Place}
use Rattle.rv_model.specs.Accesses.{is_access}
use Rattle.rv_model.specs.CallsFit.{CallsFit}
use Rattle.rv_model.specs.RecordedOrder.{Counted}
use Rattle.rv_model.specs.Run.{logged}
use Rattle.rv_model.specs.Step.{instr_at}
use Rattle.rv_model.specs.Walk.{BeginsAt, IsWalk, Walk, goes_to, places_of, transfer_of}
use Rattle.bv_terms.specs.declared.node.TermId.{TermId}
use Rattle.bv_terms.specs.Shapes.{Shape}
use Rattle.bv_terms.specs.Values.{Assignment, value_at}
use Rattle.guided_walk.specs.Along.{HoldsAlong, walk_along}
use Rattle.guided_walk.specs.Flow.{NeedsThread}
use Rattle.guided_walk.specs.Guided.{Visits, at, ended_with, seen_before}
use Rattle.guided_walk.specs.Orders.{In}
use Rattle.guided_walk.specs.Told.{Told, noted, told}
use Rattle.step_terms.specs.Made.{IsTerm}
use Rattle.thread_terms.specs.declared.access.Access.{Access}
use Rattle.thread_terms.specs.Given.{given_by}
use Rattle.thread_terms.specs.Standing.{AreRegisters}
use Rattle.thread_terms.specs.Steps.{HasVariables, RegistersHave, StandsBefore}
use Rattle.walk_lists.specs.Order.{IsOrder}
use Rattle.path_exec.specs.declared.walker.Walker.{Walker}
use Rattle.path_exec.specs.declared.progress.Progress.{Progress}
use Rattle.path_exec.specs.Links.{LinksTo, looks_back}
use Rattle.path_exec.specs.Paths.{IsListed, IsOfEarlier, IsOfOne, IsShown, Meets, instr_of_step, no_place, position}

-- What stays the same along all steps: the image, the log with its walk, where the walk of the threads begins from, and the
-- address of each step.
pub record Ground : Type 0 where
  pub image : Layout
  pub log : Log
  pub walk : Walk
  pub start : Visits
  pub address : ℕ → ℕ → ℕ

abbrev pub tells : Ground → Told
tells ground = told ground.log ground.walk

-- the visits of the steps that are done, by what an assignment gives
abbrev pub visited : Ground → List Pos → Assignment → Visits
visited ground done w = walk_along ground.image (tells ground) (given_by w) done ground.start

-- and each of them shows what is recorded of it
abbrev pub HoldSoFar : Ground → List Pos → Assignment → Type 0
HoldSoFar ground done w = HoldsAlong ground.image (tells ground) (given_by w) done ground.start

abbrev pub step_of : ℕ → ℕ → Pos
step_of thread step = record { thread = thread; step = step }

-- a step of a thread that is not done, with all that its thread needs before it done
pub record IsNext (told : Told) (done : List Pos) (thread step : ℕ) : Type 0 where
  pub needs : (q : Pos) → NeedsThread told q thread step → In q done
  pub new : In (step_of thread step) done → ⊥

-- A thread before its next step: wherever the steps that are done show what is recorded, the terms stand for its registers.
pub record IsWalker (ground : Ground) (nodes : List Shape) (done : List Pos) (accesses : List Access) (thread : ℕ) (walker : Walker) : Type 0 where
  pub words : AreRegisters nodes walker.registers
  pub stands : (w : Assignment) (step : ℕ) → IsNext (tells ground) done thread step → HoldSoFar ground done w
      → StandsBefore w nodes walker.registers (ground.address thread step) walker.link (seen_before ground.image (tells ground) (visited ground done w) thread step)
  pub links : (step : ℕ) → IsNext (tells ground) done thread step → LinksTo accesses thread walker.link (looks_back (places_of ground.walk thread) step)
  pub knows : (step : ℕ) → IsNext (tells ground) done thread step → RegistersHave (IsOfEarlier ground.log accesses (step_of thread step)) nodes walker.registers

-- a thread that hasn't begun: the step that makes it is not done
pub record IsAsleep (ground : Ground) (done : List Pos) (thread : ℕ) : Type 0 where
  pub maker : Pos
  pub made : (tells ground).maker thread ≡ Some maker
  pub child : thread ≡ 0 → ⊥
  pub new : In maker done → ⊥

abbrev pub IsThread : Ground → List Shape → List Pos → List Access → ℕ → Option Walker → Type 0
IsThread ground nodes done accesses thread None = IsAsleep ground done thread
IsThread ground nodes done accesses thread (Some walker) = IsWalker ground nodes done accesses thread walker

-- a term of the value with which a thread ended
pub record IsEnded (ground : Ground) (nodes : List Shape) (done : List Pos) (accesses : List Access) (thread : ℕ) (id : TermId) : Type 0 where
  pub ender : Pos
  pub ends : (tells ground).ender thread ≡ Some ender
  pub there : In ender done
  pub word : IsTerm nodes 32 id.number
  pub value : (w : Assignment) → HoldSoFar ground done w → value_at w nodes id.number ≡ ended_with (visited ground done w) (Some ender)
  pub knows : HasVariables (IsOfEarlier ground.log accesses ender) nodes id.number

-- what is kept of a thread's end: nothing till it is done
abbrev pub IsEnd : Ground → List Shape → List Pos → List Access → ℕ → Option TermId → Type 0
IsEnd ground nodes done accesses thread None = (q : Pos) → (tells ground).ender thread ≡ Some q → In q done → ⊥
IsEnd ground nodes done accesses thread (Some id) = IsEnded ground nodes done accesses thread id

-- the steps that are accesses
abbrev pub accesses_among : Ground → List Pos → List Pos
accesses_among ground done = filter (λ (p : Pos). is_access (instr_of_step ground.walk p) (noted (tells ground) p)) done

pub record IsProgress (ground : Ground) (nodes : List Shape) (done : List Pos) (progress : Progress) : Type 0 where
  pub order : IsOrder (tells ground) [] done
  pub counted : (p : Pos) → In p done → Counted ground.log p
  pub meets : (w : Assignment) → Meets w nodes progress.constraints ↔ HoldSoFar ground done w
  pub bits : All (λ (id : TermId). IsTerm nodes 1 id.number) progress.constraints
  pub constraints_from : All (λ (id : TermId). HasVariables (IsOfOne progress.accesses) nodes id.number) progress.constraints
  pub walker_count : length progress.walkers ≡ length ground.log.threads
  pub walkers : (thread : ℕ) → thread < length ground.log.threads → IsThread ground nodes done progress.accesses thread (slice_index_or progress.walkers thread None)
  pub end_count : length progress.ends ≡ length ground.log.threads
  pub ends : (thread : ℕ) → thread < length ground.log.threads → IsEnd ground nodes done progress.accesses thread (slice_index_or progress.ends thread None)
  pub places : map position progress.accesses ≡ accesses_among ground done
  pub shows : (w : Assignment) → HoldSoFar ground done w → All (λ (a : Access). IsShown ground.image w nodes a (at (visited ground done w) a.pos)) progress.accesses
  pub each : All (IsListed ground.log ground.walk nodes progress.accesses) progress.accesses

-- ---- all steps

abbrev pub place_in : Ground → ℕ → ℕ → Place
place_in ground thread step = slice_index_or (places_of ground.walk thread) step no_place

-- the place of a step is at its address, and what is recorded of it leads to the next one's
pub record IsAt (ground : Ground) (thread step : ℕ) : Type 0 where
  pub at : (place_in ground thread step).pc ≡ ground.address thread step
  pub fetched : instr_at ground.image (ground.address thread step) ≡ Ok (place_in ground thread step).instr
  pub goes : goes_to (ground.address thread step) (transfer_of (ground.address thread step) (place_in ground thread step).instr) (noted (tells ground) (step_of thread step))
      ≡ Some (ground.address thread (suc step))

-- The walk is that of the log, whose calls fit, and the addresses are those of its steps: from where each thread begins to the
-- place of the fault.
pub record IsGround (ground : Ground) : Type 0 where
  pub walk : IsWalk ground.image ground.log ground.walk
  pub fits : CallsFit ground.log
  pub begins : (thread : ℕ) → thread < length ground.log.threads → BeginsAt ground.image ground.log thread (ground.address thread 0)
  pub at : (p : Pos) → Counted ground.log p → IsAt ground p.thread p.step
  pub stops : (thread : ℕ) (cause : Cause) (place : FaultPlace) → ground.log.end ≡ end.Faulted thread cause → ground.walk.fault ≡ Some place
      → place.pc ≡ ground.address thread (logged ground.log thread).steps

abbrev pub ground_of : Layout → Log → Walk → Visits → (ℕ → ℕ → ℕ) → Ground
ground_of image log walk start address = record { image = image; log = log; walk = walk; start = start; address = address }

-- the steps were followed, from whatever visits the walk begins
abbrev pub AreFollowed : Layout → Log → List Shape → List Pos → Progress → Type 0
AreFollowed image log nodes steps progress =
    (walk : Walk) (start : Visits) (address : ℕ → ℕ → ℕ) → IsGround (ground_of image log walk start address) → IsProgress (ground_of image log walk start address) nodes steps progress
