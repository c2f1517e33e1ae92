-- What the registers of a thread say of its call.
use Rattle.std.specs.Prelude.{◌≡◌}
use Rattle.elf_image.specs.Memory.{Cells}
use Rattle.rv_model.specs.declared.state.Local.{Local}
use Rattle.rv_model.specs.Calls.{kind_at}
use Rattle.rv_model.specs.Instruction.{buffer_of}
use Rattle.rv_model.specs.Step.{reach_of}
use Rattle.guest_calls.specs.Table.{args_of, kind_in}

-- The call by a thread's arguments is the call that the model has at its registers.
abbrev pub CallsOfRegisters : Type 0
CallsOfRegisters = (local : Local) (cells : Cells) → kind_in cells (args_of local) ≡ kind_at local (reach_of cells (buffer_of local))
