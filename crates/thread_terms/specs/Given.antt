-- What an assignment gives to a guided walk, and what a step of it hears and does then.
use Rattle.std.specs.Prelude.{nat_eq, ℕ}
use Rattle.elf_image.specs.Layout.{Layout}
use Rattle.rv32_decode.specs.declared.instr.Instr.{Instr}
use Rattle.odr_log.specs.declared.log.Pos.{Pos}
use Rattle.rv_model.specs.declared.state.Note.{Note}
use Rattle.rv_model.specs.declared.hearing.Heard.{Heard}
use Rattle.rv_model.specs.declared.hearing.Outcome.{Outcome}
use Rattle.rv_model.specs.Instruction.{access_of, act, conditional_of}
use Rattle.rv_model.specs.Noted.{reply_noted}
use Rattle.bv_terms.specs.Values.{Assignment}
use Rattle.guided_walk.specs.Guided.{Given, Seen, linked, met}
use Rattle.thread_terms.specs.Variables.{byte_number, step_number}

-- what an assignment gives: each byte that is read, and whether a store-conditional succeeds, is the value of its variable
abbrev pub given_by : Assignment → Given
given_by w = record {
  bytes = λ thread step index. w.value_of 8 (byte_number thread step index);
  won = λ thread step. nat_eq (w.value_of 1 (step_number thread step)) 1;
}

-- What a step hears then: its access has the rights of image and stacks, its call is answered as it is recorded, and the
-- value of a join is handed in.
abbrev pub hears_by : Layout → Assignment → Pos → Instr → Note → ℕ → Seen → Heard
hears_by image w p instruction shown joined seen = record {
  thread = p.thread;
  reach = met image ((given_by w).bytes p.thread p.step) (access_of seen.local instruction);
  won = linked (conditional_of seen.local instruction) seen.link ((given_by w).won p.thread p.step);
  reply = reply_noted shown;
  joined = joined;
}

-- what the step does
abbrev pub outcome_by : Layout → Assignment → Pos → Instr → Note → ℕ → Seen → Outcome
outcome_by image w p instruction shown joined seen = act seen.local instruction (hears_by image w p instruction shown joined seen)
