-- What the next instruction of a thread hears in the machine.
use Rattle.std.specs.Prelude.{ℕ, Option}
use Rattle.elf_image.specs.Memory.{Cells}
use Rattle.rv32_decode.specs.declared.instr.Instr.{Instr}
use Rattle.rv_model.specs.declared.state.Local.{Local}
use Rattle.rv_model.specs.declared.state.Calls.{Calls}
use Rattle.rv_model.specs.declared.hearing.Reach.{Reach}
use Rattle.rv_model.specs.declared.hearing.Heard.{Heard}
use Rattle.rv_model.specs.Calls.{reply_to, join_value}
use Rattle.rv_model.specs.Instruction.{access_of, asked_by, conditional_of, wins}
use Rattle.rv_model.specs.Step.{reach_of}

abbrev pub heard_of : Cells → Calls → ℕ → Option ℕ → Local → Instr → Heard
heard_of cells calls thread reservation local instr =
    let reach : Reach = reach_of cells (access_of local instr) in
    record {
      thread = thread;
      reach = reach;
      won = wins (conditional_of local instr) reservation;
      reply = reply_to calls thread (asked_by local instr reach);
      joined = join_value calls (asked_by local instr reach);
    }
