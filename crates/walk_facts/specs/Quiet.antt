-- Steps that leave memory and reservations alone.
use Rattle.std.specs.Prelude.{◌≡◌, ℕ, [], Option, None}
use Rattle.elf_image.specs.Layout.{Layout}
use Rattle.elf_image.specs.Memory.{Cells}
use Rattle.odr_log.specs.declared.log.Pos.{Pos}
use Rattle.rv_model.specs.Noted.{writes_in}
use Rattle.guided_walk.specs.Fits.{FitsVisit, conditional_by, read_count}
use Rattle.guided_walk.specs.Guided.{Given, Visit, conditional_in}

-- a step that reads nothing, writes nothing, and is no store-conditional that took place
pub record IsQuiet (image : Layout) (visit : Visit) : Type 0 where
  pub reads : read_count image visit ≡ 0
  pub writes : writes_in visit.outcome ≡ []
  pub conditional : conditional_by (conditional_in image visit.seen) visit.outcome ≡ None

-- anything that is given fits such a step, whatever memory and reservations are there
abbrev pub FitsAnyway : Layout → Given → Pos → Visit → Type 0
FitsAnyway image given p visit = (memory : Cells) (reservation : Option ℕ) → FitsVisit image given memory reservation p visit
