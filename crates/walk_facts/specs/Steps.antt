-- The steps of a walk: the instruction of each, and which of them are accesses.
use Rattle.std.specs.Prelude.{◌≡◌, ℕ, true, slice_index_or, Ok}
use Rattle.std.specs.Result.{result_ok}
use Rattle.elf_image.specs.Layout.{Layout}
use Rattle.rv32_decode.specs.declared.instr.Instr.{Instr}
use Rattle.rv32_decode.specs.declared.instr.Instr.TheVariants as instr
use Rattle.odr_log.specs.declared.log.Log.{Log}
use Rattle.odr_log.specs.declared.log.Pos.{Pos}
use Rattle.rv_model.specs.declared.walk.FaultPlace.{FaultPlace}
use Rattle.rv_model.specs.declared.walk.Place.{Place}
use Rattle.rv_model.specs.Accesses.{is_access}
use Rattle.rv_model.specs.RecordedOrder.{Counted}
use Rattle.rv_model.specs.Walk.{Walk, places_of}
use Rattle.guided_walk.specs.Told.{told, noted}
use Rattle.guided_walk.specs.Guided.{Seen, instr_of}

abbrev pub no_place : Place
no_place = record { pc = 0; instr = instr.Ebreak }

-- the place of a step
abbrev pub place_of_step : Walk → Pos → Place
place_of_step walk p = slice_index_or (places_of walk p.thread) p.step no_place

-- the instruction of a step
abbrev pub instr_of_step : Walk → Pos → Instr
instr_of_step walk p = (place_of_step walk p).instr

-- a counted step that reads or writes memory
abbrev pub IsAccess : Log → Walk → Pos → Type 0
IsAccess log walk p = Counted log p × (is_access (instr_of_step walk p) (noted (told log walk) p) ≡ true)

abbrev pub step_of : ℕ → ℕ → Pos
step_of thread step = record { thread = thread; step = step }

-- A thread is at a place: at its address, where its instruction is.
pub record StandsAt (image : Layout) (seen : Seen) (place : Place) : Type 0 where
  pub at : seen.local.pc ≡ place.pc
  pub fetched : instr_of image seen ≡ Ok place.instr

-- The same of the place of a fault, where there may be no instruction.
pub record StopsAt (image : Layout) (seen : Seen) (place : FaultPlace) : Type 0 where
  pub at : seen.local.pc ≡ place.pc
  pub fetched : result_ok (instr_of image seen) ≡ place.instr
