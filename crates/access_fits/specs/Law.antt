-- Fitting a list of steps is fitting the order of the accesses among them.
use Rattle.std.specs.Prelude.{◌≡◌, ◌⊎◌, ◌↔◌, ℕ, ◌<◌, Bool, List, [], Some}
use Rattle.elf_image.specs.Layout.{Layout}
use Rattle.elf_image.specs.declared.cell.Cell.{Cell}
use Rattle.elf_image.specs.Memory.{opening_cells}
use Rattle.odr_log.specs.declared.log.Pos.{Pos}
use Rattle.odr_log.specs.declared.log.Log.{Log}
use Rattle.rv_model.specs.CallsFit.{CallsFit}
use Rattle.rv_model.specs.Walk.{IsWalk, Walk}
use Rattle.guided_walk.specs.Schedules.{places}
use Rattle.guided_walk.specs.Told.{told}
use Rattle.guided_walk.specs.Law.{holds}
use Rattle.guided_walk.specs.Woven.{Woven}
use Rattle.guided_walk.specs.Guided.{IsGuided, Given, Visits, at}
use Rattle.guided_walk.specs.Orders.{In, Distinct, Lists, Stands}
use Rattle.guided_walk.specs.Fits.{Fits, FitsAlong, byte_address, read_count}
use Rattle.walk_orders.specs.Total.{Decides}
use Rattle.walk_facts.specs.Links.{access_address}
use Rattle.walk_facts.specs.Quiet.{IsQuiet}
use Rattle.walk_facts.specs.Steps.{IsAccess}
use Rattle.access_fits.specs.Fitting.{FitsOrder, LooksBack}

-- Steps of threads, each once and rising in each thread, with accesses among them; the others are quiet.
pub record AreSteps (image : Layout) (visits : Visits) (accesses steps : List Pos) : Type 0 where
  pub once : Distinct steps
  pub listed : (p : Pos) → In p accesses → In p steps
  pub quiet : (p : Pos) → In p steps → In p accesses ⊎ IsQuiet image (at visits p)
  -- what is read is memory
  pub cells : (p : Pos) → In p accesses → (i : ℕ) → i < read_count image (at visits p)
      → (cell : Cell) × (opening_cells image (byte_address (access_address image visits p) i) ≡ Some cell)
  pub earlier : (q p : Pos) → In p steps → q.thread ≡ p.thread → q.step < p.step → Stands steps q p
  pub rises : (q p : Pos) → Stands steps q p → q.thread ≡ p.thread → q.step < p.step
  -- the link of a step is the address of the LR that it looks back to
  pub links : (lr p : Pos) → In p steps → LooksBack image visits lr p → (at visits p).seen.link ≡ Some (access_address image visits lr)
  pub back : (p : Pos) (link : ℕ) → In p steps → (at visits p).seen.link ≡ Some link → (lr : Pos) × LooksBack image visits lr p

abbrev pub FitsByOrder : Type 0
FitsByOrder =
    (image : Layout) (given : Given) (visits : Visits) (accesses steps : List Pos) → AreSteps image visits accesses steps
    → FitsAlong image given visits [] steps ↔ FitsOrder image given visits accesses (Stands steps)

-- What is given fits a woven schedule exactly where it fits the order in which the schedule has the accesses of the walk.
abbrev pub WovenFits : Type 0
WovenFits = (image : Layout) (log : Log) (walk : Walk) (given : Given) (visits : Visits) (pairs : List (Pos × Pos)) (schedule : List ℕ) (accesses : List Pos)
    → IsWalk image log walk → CallsFit log → IsGuided image (told log walk) given visits → Woven log pairs schedule → Lists (IsAccess log walk) accesses
    → Fits image given visits schedule ↔ FitsOrder image given visits accesses (Stands (places schedule))

-- So of each order that the schedule decides for the accesses.
abbrev pub DecidedFits : Type 0
DecidedFits = (image : Layout) (log : Log) (walk : Walk) (given : Given) (visits : Visits) (pairs : List (Pos × Pos)) (schedule : List ℕ) (accesses : List Pos)
    (before : Pos → Pos → Bool)
    → IsWalk image log walk → CallsFit log → IsGuided image (told log walk) given visits → Woven log pairs schedule → Lists (IsAccess log walk) accesses
    → ((p q : Pos) → In p accesses → In q accesses → Decides schedule p q ↔ holds before p q)
    → Fits image given visits schedule ↔ FitsOrder image given visits accesses (holds before)
