-- Laws of the steps of guided walks, each the contract of a public function.
use Rattle.std.specs.Prelude.{◌≡◌, ◌↔◌, ◌⊎◌, ℕ, ◌<◌, true, List, length, Some}
use Rattle.elf_image.specs.Layout.{Layout}
use Rattle.odr_log.specs.declared.log.Cause.{Cause}
use Rattle.odr_log.specs.declared.log.End.TheVariants as end
use Rattle.odr_log.specs.declared.log.Log.{Log}
use Rattle.odr_log.specs.declared.log.Pos.{Pos}
use Rattle.rv_model.specs.declared.walk.FaultPlace.{FaultPlace}
use Rattle.rv_model.specs.Accesses.{accesses_of}
use Rattle.rv_model.specs.CallsFit.{CallsFit}
use Rattle.rv_model.specs.Instruction.{wins}
use Rattle.rv_model.specs.RecordedOrder.{Counted}
use Rattle.rv_model.specs.Run.{logged}
use Rattle.rv_model.specs.Walk.{IsWalk, Walk}
use Rattle.guided_walk.specs.Fits.{reserved}
use Rattle.guided_walk.specs.Guided.{Given, IsGuided, Visits, at}
use Rattle.guided_walk.specs.Orders.{Distinct, In, Lists, Stands}
use Rattle.guided_walk.specs.Schedules.{places}
use Rattle.guided_walk.specs.Told.{IsPlace, told}
use Rattle.guided_walk.specs.Woven.{Woven}
use Rattle.walk_facts.specs.Bytes.{HasRights}
use Rattle.walk_facts.specs.Links.{AreNext, HasReserved, link_address}
use Rattle.walk_facts.specs.Quiet.{FitsAnyway, IsQuiet}
use Rattle.walk_facts.specs.Steps.{IsAccess, StandsAt, StopsAt, place_of_step, step_of}

-- A thread before a counted step stands where the log's walk has it.
abbrev pub InstructionLaw : Type 0
InstructionLaw = (image : Layout) (log : Log) (walk : Walk) (given : Given) (visits : Visits) (p : Pos) → IsWalk image log walk
    → IsGuided image (told log walk) given visits → Counted log p → StandsAt image (at visits p).seen (place_of_step walk p)

-- The thread whose fault ends the log stands before it at the place of the fault.
abbrev pub FaultLaw : Type 0
FaultLaw = (image : Layout) (log : Log) (walk : Walk) (given : Given) (visits : Visits) (thread : ℕ) (cause : Cause) (place : FaultPlace)
    → IsWalk image log walk → IsGuided image (told log walk) given visits → log.end ≡ end.Faulted thread cause → walk.fault ≡ Some place
    → StopsAt image (at visits (step_of thread (logged log thread).steps)).seen place

-- What a step reads may be read, and what it writes may be written.
abbrev pub RightsLaw : Type 0
RightsLaw = (image : Layout) (log : Log) (walk : Walk) (given : Given) (visits : Visits) (p : Pos) → IsWalk image log walk → CallsFit log
    → IsGuided image (told log walk) given visits → IsPlace (told log walk) p → HasRights image (at visits p)

-- A step is an access, or it is quiet, and then whatever is given fits it; the fault is so too.
abbrev pub QuietLaw : Type 0
QuietLaw = (image : Layout) (log : Log) (walk : Walk) (given : Given) (visits : Visits) (p : Pos) → IsWalk image log walk
    → IsGuided image (told log walk) given visits → IsPlace (told log walk) p
    → IsAccess log walk p ⊎ (IsQuiet image (at visits p) × ((other : Given) → FitsAnyway image other p (at visits p)))

-- The link of a step is the address of the load-reserved to which it looks back.
abbrev pub LinkLaw : Type 0
LinkLaw = (image : Layout) (log : Log) (walk : Walk) (given : Given) (visits : Visits) (p : Pos) → IsWalk image log walk
    → IsGuided image (told log walk) given visits → IsPlace (told log walk) p
    → (at visits p).seen.link ≡ link_address image walk visits p.thread p.step

-- What a thread has reserved after counted steps.
abbrev pub ReservedLaw : Type 0
ReservedLaw = (image : Layout) (log : Log) (walk : Walk) (given : Given) (visits : Visits) (done : List Pos) (thread address : ℕ) → IsWalk image log walk
    → IsGuided image (told log walk) given visits → AreNext done → ((p : Pos) → In p done → Counted log p)
    → (wins (Some address) (reserved image visits thread done) ≡ true) ↔ HasReserved image walk visits done thread address

-- one place is of an earlier thread than another, or is an earlier step of its thread
abbrev pub IsEarlier : Pos → Pos → Type 0
IsEarlier p q = (p.thread < q.thread) ⊎ ((p.thread ≡ q.thread) × (p.step < q.step))

-- The accesses of a walk are the counted steps that are accesses, each once, thread after thread and step after step; each
-- list of these is as long.
pub record AreAccesses (log : Log) (walk : Walk) : Type 0 where
  pub lists : Lists (IsAccess log walk) (accesses_of walk)
  pub sorted : (p q : Pos) → Stands (accesses_of walk) p q → IsEarlier p q
  pub count : (steps : List Pos) → Lists (IsAccess log walk) steps → length steps ≡ length (accesses_of walk)

abbrev pub AccessesLaw : Type 0
AccessesLaw = (image : Layout) (log : Log) (walk : Walk) → IsWalk image log walk → AreAccesses log walk

-- The steps of a woven schedule: each place of the walk once, and the steps of a thread in their order.
pub record ArePlaces (log : Log) (walk : Walk) (schedule : List ℕ) : Type 0 where
  pub once : Distinct (places schedule)
  pub all : (p : Pos) → IsPlace (told log walk) p → In p (places schedule)
  pub only : (p : Pos) → In p (places schedule) → IsPlace (told log walk) p
  pub earlier : (q p : Pos) → In p (places schedule) → q.thread ≡ p.thread → q.step < p.step → Stands (places schedule) q p
  pub rises : (q p : Pos) → Stands (places schedule) q p → q.thread ≡ p.thread → q.step < p.step

abbrev pub PlacesLaw : Type 0
PlacesLaw = (image : Layout) (log : Log) (walk : Walk) (pairs : List (Pos × Pos)) (schedule : List ℕ) → IsWalk image log walk → CallsFit log
    → Woven log pairs schedule → ArePlaces log walk schedule
