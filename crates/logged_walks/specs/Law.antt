-- A log that a schedule has fits its image, each law the contract of a public function.
use Rattle.std.specs.Prelude.{ℕ, List}
use Rattle.elf_image.specs.Layout.{Layout}
use Rattle.odr_log.specs.declared.log.Log.{Log}
use Rattle.rv_model.specs.Run.{HasLog}
use Rattle.rv_model.specs.Walk.{PathsFit}
use Rattle.rv_model.specs.CallsFit.{CallsFit}

-- The calls of a log that a schedule has could be made in the order of their records.
abbrev pub LoggedCallsFit : Type 0
LoggedCallsFit = (image : Layout) (log : Log) (schedule : List ℕ) → HasLog image log schedule → CallsFit log

-- The paths of a log that a schedule has fit the image.
abbrev pub LoggedPathsFit : Type 0
LoggedPathsFit = (image : Layout) (log : Log) (schedule : List ℕ) → HasLog image log schedule → PathsFit image log
