-- What contracts see of traces: the places of each thread, the place of the fault, and the number of accesses.
use Rattle.std.specs.Prelude.{◌≡◌, ℕ, List, length, Option}
use Rattle.elf_image.specs.Layout.{Layout}
use Rattle.odr_log.specs.declared.log.Log.{Log}
use Rattle.rv_model.specs.declared.state.Note.{Note}
use Rattle.rv_model.specs.declared.walk.Place.{Place}
use Rattle.rv_model.specs.declared.walk.FaultPlace.{FaultPlace}
use Rattle.rv_model.specs.Walk.{Walk, IsWalk}
use Rattle.rv_model.specs.Accesses.{accesses_of}

pub record Traced : Type 0 where
  pub places : List (List Place)
  pub fault : Option FaultPlace
  pub accesses : ℕ

abbrev pub walk_of : Traced → List (List Note) → Walk
walk_of traced notes = record { places = traced.places; notes = notes; fault = traced.fault }

-- the places of a log's walk, its fault, and how many accesses the walk has
pub record IsTraced (image : Layout) (log : Log) (traced : Traced) : Type 0 where
  pub notes : List (List Note)
  pub walk : IsWalk image log (walk_of traced notes)
  pub count : traced.accesses ≡ length (accesses_of (walk_of traced notes))

-- a log has one walk in an image
abbrev pub OneWalk : Type 0
OneWalk = (image : Layout) (log : Log) (walk other : Walk) → IsWalk image log walk → IsWalk image log other → walk ≡ other
