-- What contracts see of the machine, and which states of the model it stands for.
use Rattle.std.specs.Prelude.{◌≡◌, ℕ, List, Bool}
use Rattle.elf_image.specs.Layout.{Layout}
use Rattle.elf_image.specs.Memory.{Stands, opening_cells}
use Rattle.guest_mem.specs.Blocks.{Block, cells_of}
use Rattle.guest_calls.specs.Table.{HasRoom}
use Rattle.rv_model.specs.declared.state.Core.{Core}
use Rattle.rv_model.specs.declared.state.State.{State}
use Rattle.rv_model.specs.declared.state.Calls.{Calls}
use Rattle.rv_model.specs.declared.state.Note as model
use Rattle.rv_model.specs.declared.state.Note.TheVariants as shown
use Rattle.rv_model.specs.Step.{Effect, enabled, step}
use Rattle.guest_machine.specs.declared.note.Note.{Note}
use Rattle.guest_machine.specs.Notes.{note_of}

-- the image, all but the memory, and the memory's blocks
pub record Whole : Type 0 where
  pub image : Layout
  pub core : Core
  pub blocks : List Block

-- The machine stands for a state: the same threads, calls and halt, and a memory that the state's writes give.
pub record StandsFor (whole : Whole) (state : State) : Type 0 where
  pub core : whole.core ≡ state.core
  pub memory : Stands (opening_cells whole.image) state.writes (cells_of whole.blocks)

-- the thread may step
abbrev pub may_step : Whole → ℕ → Bool
may_step whole tid = enabled whole.image (cells_of whole.blocks) whole.core tid

-- the machine after a step is what this effect makes of it
pub record Follows (old : Whole) (done : Effect) (shown : Note) (now : Whole) : Type 0 where
  pub image : now.image ≡ old.image
  pub core : now.core ≡ done.core
  pub memory : Stands (cells_of old.blocks) done.writes (cells_of now.blocks)
  pub note : note_of shown ≡ done.note

-- a step shows this note and leads to what stands for the state after it
pub record Steps (before : State) (tid : ℕ) (shown : Note) (now : Whole) : Type 0 where
  pub note : note_of shown ≡ (step now.image before tid).note
  pub state : StandsFor now (step now.image before tid).state

-- one more thread may be made where the note makes one
abbrev pub MakesRoom : Calls → model.Note → Type 0
MakesRoom calls (shown.Called made) = HasRoom calls made
MakesRoom calls other = Unit {0}
