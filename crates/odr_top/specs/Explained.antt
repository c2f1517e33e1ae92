-- A log that a schedule explains.
use Rattle.std.specs.Prelude.{ℕ, List, Option, Some}
use Rattle.odr_io.specs.Outside.{Held}
use Rattle.elf_image.specs.Layout.{Layout}
use Rattle.elf_image.specs.Checks.{IsImage}
use Rattle.odr_log.specs.declared.log.Log.{Log}
use Rattle.odr_log.specs.Grammar.{IsLog}
use Rattle.rv_model.specs.Run.{HasLog}
use Rattle.odr_task.specs.Files.{Finds}

-- An image and a log were found, and the schedule has the log.
pub record IsExplained (told : Option Held) (elf log : List ℕ) (schedule : List ℕ) : Type 0 where
  pub program : List ℕ
  pub recording : List ℕ
  pub program_held : Finds told elf (Some program)
  pub recording_held : Finds told log (Some recording)
  pub image : Layout
  pub meaning : Log
  pub is_image : IsImage program image
  pub is_log : IsLog recording meaning
  pub has_log : HasLog image meaning schedule
