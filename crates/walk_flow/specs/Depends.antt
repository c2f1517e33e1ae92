-- What the steps of a guided walk depend on: the bytes and the outcomes of store-conditionals that are given for the
-- steps that flow into them.
use Rattle.std.specs.Prelude.{◌≡◌, ℕ, ◌<◌, ◌⊎◌, Some}
use Rattle.elf_image.specs.Layout.{Layout}
use Rattle.odr_log.specs.declared.log.Log.{Log}
use Rattle.odr_log.specs.declared.log.Pos.{Pos}
use Rattle.rv_model.specs.Walk.{Walk, IsWalk}
use Rattle.rv_model.specs.CallsFit.{CallsFit}
use Rattle.rv_model.specs.RecordedOrder.{Counted}
use Rattle.guided_walk.specs.Told.{Told, told, IsPlace}
use Rattle.guided_walk.specs.Guided.{Given, Visit, Visits, at, visit, conditional_in}
use Rattle.guided_walk.specs.Fits.{read_count, conditional_by}
use Rattle.guided_walk.specs.Flow.{FlowEdge, Flow}

-- What two walks are given is the same as far as a step asks for it: each byte that it reads, and whether a
-- store-conditional that looks back to a load-reserved succeeds.
pub record SameGiven (image : Layout) (one other : Given) (p : Pos) (visit : Visit) : Type 0 where
  pub bytes : (i : ℕ) → i < read_count image visit → one.bytes p.thread p.step i ≡ other.bytes p.thread p.step i
  pub won : (address link : ℕ) → conditional_by (conditional_in image visit.seen) visit.outcome ≡ Some address
      → visit.seen.link ≡ Some link
      → one.won p.thread p.step ≡ other.won p.thread p.step

-- each step is what the steps before it make of it, whatever it shows
abbrev pub Solves : Layout → Told → Given → Visits → Type 0
Solves image told given visits =
    (p : Pos) → IsPlace told p → at visits p ≡ visit image told given visits p.thread p.step

-- Two walks have a thread the same before a step; and where the step asks for the same, it does the same in both.
pub record SameVisit (image : Layout) (one other : Given) (visits others : Visits) (p : Pos) : Type 0 where
  pub seen : (at visits p).seen ≡ (at others p).seen
  pub whole : SameGiven image one other p (at visits p) → at visits p ≡ at others p

-- Two walks, given the same at each step that flows into a counted step, have that step the same.
abbrev pub FlowLaw : Type 0
FlowLaw = (image : Layout) (log : Log) (walk : Walk) (one other : Given) (visits others : Visits) (p : Pos)
    → IsWalk image log walk → CallsFit log → Solves image (told log walk) one visits → Solves image (told log walk) other others
    → Counted log p → ((q : Pos) → Flow log q p → SameGiven image one other q (at visits q))
    → SameVisit image one other visits others p

-- A step flows into a place: it hands something on to the place, or flows into a step that does. Of a counted step this
-- is the flow; the place of the fault in which a log ends is not counted.
abbrev pub FlowsTo : Log → Pos → Pos → Type 0
FlowsTo log q p = (last : Pos) × Counted log last × FlowEdge log last p × ((q ≡ last) ⊎ Flow log q last)

-- The same of each place, the place of the fault too.
abbrev pub PlaceFlowLaw : Type 0
PlaceFlowLaw = (image : Layout) (log : Log) (walk : Walk) (one other : Given) (visits others : Visits) (p : Pos)
    → IsWalk image log walk → CallsFit log → Solves image (told log walk) one visits → Solves image (told log walk) other others
    → IsPlace (told log walk) p → ((q : Pos) → FlowsTo log q p → SameGiven image one other q (at visits q))
    → SameVisit image one other visits others p
