-- What following the threads of a log comes to.
use Rattle.std.specs.Prelude.{◌≡◌, ◌↔◌, ℕ, ◌*◌, ◌^◌, ◌<◌, ◌≤◌, false, List, [], length, slice_index_or, All}
use Rattle.elf_image.specs.Layout.{Layout}
use Rattle.odr_log.specs.declared.log.Log.{Log}
use Rattle.rv_model.specs.declared.state.Note.{Note}
use Rattle.rv_model.specs.declared.walk.Place.{Place}
use Rattle.rv_model.specs.Run.{logged}
use Rattle.rv_model.specs.Walk.{ThreadWalk, is_last, records_by}
use Rattle.rv_model.specs.Accesses.{accesses_from, accesses_by}
use Rattle.trace_path.specs.declared.cursor.Cursor.{Cursor}
use Rattle.trace_path.specs.declared.thread.Followed.{Followed}
use Rattle.trace_path.specs.declared.thread.Stop.{Stop}
use Rattle.trace_path.specs.declared.threads.Gathered.{Gathered}
use Rattle.trace_path.specs.Steps.{Stand, Walked, stand_at}

-- where a thread stands before its first step
abbrev pub begin : Log → ℕ → ℕ → Stand
begin log thread start = record { pc = start; step = 0; over = false; path = (logged log thread).path; records = records_by thread log.calls }

-- the first steps of a thread from its start on, with the number of accesses among them
pub record IsFront (image : Layout) (log : Log) (thread start count : ℕ) (places : List Place) (accesses : ℕ) (cursor : Cursor) : Type 0 where
  pub notes : List Note
  pub walked : Walked image (begin log thread start) places notes (stand_at log thread count cursor)
  pub steps : length places ≡ count
  pub counted : accesses ≡ length (accesses_from thread 0 places notes)
  pub few : accesses ≤ count

-- where a thread's walk stopped: the address after its last step, and whether that was an exit or its end
pub record StopsAt (image : Layout) (log : Log) (thread : ℕ) (places : List Place) (notes : List Note) (stop : Stop) : Type 0 where
  pub walk : ThreadWalk image log thread places notes
  pub pc : stop.pc ≡ walk.after
  pub live : (stop.over ≡ false) ↔ All (λ shown. is_last shown ≡ false) notes

-- a thread's walk with its accesses and its stop
pub record IsFollowed (image : Layout) (log : Log) (thread : ℕ) (followed : Followed) : Type 0 where
  pub notes : List Note
  pub stops : StopsAt image log thread followed.places notes followed.stop
  pub counted : followed.accesses ≡ length (accesses_from thread 0 followed.places notes)
  pub few : followed.accesses < 2 ^ 32
  pub number : thread < 2 ^ 8

abbrev pub no_stop : Stop
no_stop = record { pc = 0; over = false }

-- there is a walk of a thread
abbrev pub HasWalk : Layout → Log → ℕ → Type 0
HasWalk image log thread = (places : List Place) × (notes : List Note) × ThreadWalk image log thread places notes

-- the walks of the first threads of a log
pub record IsGathered (image : Layout) (log : Log) (count : ℕ) (gathered : Gathered) : Type 0 where
  pub notes : List (List Note)
  pub places_count : length gathered.places ≡ count
  pub notes_count : length notes ≡ count
  pub stops_count : length gathered.stops ≡ count
  pub each : (thread : ℕ) → thread < count
      → StopsAt image log thread (slice_index_or gathered.places thread []) (slice_index_or notes thread []) (slice_index_or gathered.stops thread no_stop)
  pub counted : gathered.accesses ≡ length (accesses_by 0 gathered.places notes)
  pub few : gathered.accesses ≤ count * 2 ^ 32
  pub number : count ≤ 2 ^ 8
