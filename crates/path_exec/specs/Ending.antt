-- What the fault and the registers at the end of a log come to.
use Rattle.std.specs.Prelude.{◌≡◌, ℕ, ◌+◌, ◌*◌, ◌<◌, true, List, [], ◌∷◌, ◌++◌, length, slice_index_or, IfSome, Option, Some, None}
use Rattle.std.specs.Result.{result_ok}
use Rattle.elf_image.specs.Layout.{Layout}
use Rattle.rv32_decode.specs.declared.instr.Instr.{Instr}
use Rattle.rv32_decode.specs.Valid.{IsValid}
use Rattle.odr_log.specs.declared.log.Cause.{Cause}
use Rattle.odr_log.specs.declared.log.End.{End}
use Rattle.odr_log.specs.declared.log.End.TheVariants as end
use Rattle.odr_log.specs.declared.log.Pos.{Pos}
use Rattle.rv_model.specs.declared.state.Note.TheVariants as note
use Rattle.rv_model.specs.declared.walk.FaultPlace.{FaultPlace}
use Rattle.rv_model.specs.Step.{instr_at}
use Rattle.rv_model.specs.Walk.{may_fault}
use Rattle.bv_terms.specs.declared.node.TermId.{TermId}
use Rattle.bv_terms.specs.Shapes.{Shape}
use Rattle.step_terms.specs.Made.{IsMade}
use Rattle.thread_terms.specs.Standing.{term_of}
use Rattle.thread_terms.specs.Steps.{IsFault}
use Rattle.path_exec.specs.declared.progress.Progress.{Progress}
use Rattle.path_exec.specs.declared.walker.Walker.{Walker}
use Rattle.path_exec.specs.Following.{HasWalker}

-- the constraint of a fault: of an instruction, or where none can be fetched or decoded a constant
abbrev pub IsFaultMade : Layout → (pc : ℕ) → Cause → Option Instr → List Shape → List Shape → List TermId → TermId → Type 0
IsFaultMade image pc cause None old new before id = IsMade old new [] 1 (λ w. 1) id.number
IsFaultMade image pc cause (Some instruction) old new before id = (p : Pos) (link : Option ℕ) → IsFault image p pc instruction (note.Faulted cause) link old new before id.number

-- a thread that has begun may fault so at a place
pub record MayFaultAt (image : Layout) (nodes : List Shape) (fault : Option FaultPlace) (walkers : List (Option Walker)) (thread : ℕ) (cause : Cause) : Type 0 where
  pub place : FaultPlace
  pub is : fault ≡ Some place
  pub fits : may_fault cause place.pc (instr_at image place.pc) ≡ true
  pub fetched : place.instr ≡ result_ok (instr_at image place.pc)
  pub valid : IfSome place.instr IsValid
  pub walker : HasWalker nodes walkers thread

abbrev pub MayEnd : Layout → List Shape → Option FaultPlace → List (Option Walker) → End → Type 0
MayEnd image nodes fault walkers (end.Faulted thread cause) = MayFaultAt image nodes fault walkers thread cause
MayEnd image nodes fault walkers other = Unit {0}

-- the constraint of a thread's fault was added
pub record IsFaulting (image : Layout) (fault : Option FaultPlace) (thread : ℕ) (cause : Cause) (old new : List Shape) (before after : Progress) : Type 0 where
  pub place : FaultPlace
  pub at : fault ≡ Some place
  pub walker : Walker
  pub stood : slice_index_or before.walkers thread None ≡ Some walker
  pub constraint : TermId
  pub made : IsFaultMade image place.pc cause place.instr old new walker.registers constraint
  pub is : after ≡ record before { constraints = before.constraints ++ constraint ∷ [] }

abbrev pub IsFaultAdded : Layout → Option FaultPlace → End → List Shape → List Shape → Progress → Progress → Type 0
IsFaultAdded image fault (end.Faulted thread cause) old new before after = IsFaulting image fault thread cause old new before after
IsFaultAdded image fault other old new before after = after ≡ before

-- the registers of threads, one thread after the other
pub record AreEndsOf (walkers : List (Option Walker)) (ends : List TermId) : Type 0 where
  pub count : length ends ≡ 32 * length walkers
  pub each : (thread number : ℕ) (walker : Walker) → slice_index_or walkers thread None ≡ Some walker → thread < length walkers → number < 32
      → (slice_index_or ends (32 * thread + number) (record { number = 0 })).number ≡ term_of walker.registers number
