-- What a step hears and does, by the reply that is recorded of it.
use Rattle.std.specs.Prelude.{ℕ}
use Rattle.elf_image.specs.Layout.{Layout}
use Rattle.rv_model.specs.declared.hearing.Heard.{Heard}
use Rattle.rv_model.specs.declared.hearing.Outcome.{Outcome}
use Rattle.rv_model.specs.declared.hearing.Reply.{Reply}
use Rattle.rv_model.specs.Instruction.{act_at}
use Rattle.guided_walk.specs.Guided.{Given, Seen, instr_of, access_in, conditional_in, met, linked}

abbrev pub heard_of : Layout → Given → ℕ → ℕ → Seen → Reply → ℕ → Heard
heard_of image given thread step seen reply joined = record {
  thread = thread;
  reach = met image (given.bytes thread step) (access_in image seen);
  won = linked (conditional_in image seen) seen.link (given.won thread step);
  reply = reply;
  joined = joined;
}

abbrev pub outcome_of : Layout → Given → ℕ → ℕ → Seen → Reply → ℕ → Outcome
outcome_of image given thread step seen reply joined =
    act_at seen.local (instr_of image seen) (heard_of image given thread step seen reply joined)
