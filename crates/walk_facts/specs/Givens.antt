-- What is given to a guided walk, as far as the walk asks for it.
use Rattle.std.specs.Prelude.{ℕ, ◌%◌, ◌^◌, ◌<◌, List, All, Contains}
use Rattle.elf_image.specs.Layout.{IsSound, Layout}
use Rattle.odr_log.specs.declared.log.CallRec.{CallRec}
use Rattle.odr_log.specs.declared.log.Log.{Log}
use Rattle.odr_log.specs.declared.log.Pos.{Pos}
use Rattle.odr_log.specs.Tape.{read_by}
use Rattle.rv_model.specs.CallsFit.{CallsFit}
use Rattle.rv_model.specs.Walk.{IsWalk, Walk}
use Rattle.guided_walk.specs.Fits.{Fits, read_count}
use Rattle.guided_walk.specs.Guided.{Given, IsGuided, Visits, at}
use Rattle.guided_walk.specs.Told.{IsPlace, told}
use Rattle.guided_walk.specs.Woven.{Woven}
use Rattle.walk_flow.specs.Depends.{SameGiven}
use Rattle.walk_facts.specs.Steps.{IsAccess}

-- ---- two that agree

-- two things given are the same at each access of a walk, as far as it asks: the bytes that it read, and the outcome of a
-- store-conditional that looks back
abbrev pub SameAtAccesses : Layout → Log → Walk → Given → Given → Visits → Type 0
SameAtAccesses image log walk one other visits = (p : Pos) → IsAccess log walk p → SameGiven image one other p (at visits p)

-- A walk by what is given is the walk by this too, and fits each woven schedule that it fits.
pub record ServesToo (image : Layout) (log : Log) (walk : Walk) (one other : Given) (visits : Visits) : Type 0 where
  pub guided : IsGuided image (told log walk) other visits
  pub fits : (pairs : List (Pos × Pos)) (schedule : List ℕ) → Woven log pairs schedule
      → Fits image one visits schedule → Fits image other visits schedule

abbrev pub GivenLaw : Type 0
GivenLaw = (image : Layout) (log : Log) (walk : Walk) (one other : Given) (visits : Visits) → IsWalk image log walk → CallsFit log
    → IsGuided image (told log walk) one visits → SameAtAccesses image log walk one other visits → ServesToo image log walk one other visits

-- ---- bytes

-- what the calls of a log read are bytes
abbrev pub ReadsBytes : Log → Type 0
ReadsBytes log = (r : CallRec) → Contains log.calls r → All (λ byte. byte < 2 ^ 8) (read_by r.call)

-- the same given, cut down to bytes
abbrev pub narrowed : Given → Given
narrowed given = record { bytes = λ thread step i. given.bytes thread step i % 2 ^ 8; won = given.won }

-- Where a walk fits a schedule, each byte that it read is below 2 ^ 8; so it may as well be given bytes.
pub record IsGivenBytes (image : Layout) (log : Log) (walk : Walk) (given : Given) (visits : Visits) : Type 0 where
  pub below : (p : Pos) → IsPlace (told log walk) p → (i : ℕ) → i < read_count image (at visits p) → given.bytes p.thread p.step i < 2 ^ 8
  pub serves : ServesToo image log walk given (narrowed given) visits

abbrev pub BytesLaw : Type 0
BytesLaw = (image : Layout) (log : Log) (walk : Walk) (given : Given) (visits : Visits) (pairs : List (Pos × Pos)) (schedule : List ℕ)
    → IsSound image → ReadsBytes log → IsWalk image log walk → CallsFit log → IsGuided image (told log walk) given visits
    → Woven log pairs schedule → Fits image given visits schedule → IsGivenBytes image log walk given visits
