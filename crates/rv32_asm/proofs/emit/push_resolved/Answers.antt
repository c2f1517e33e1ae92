use Rattle.std.proofs.Common.{[], ◌∷◌}
use Rattle.std.proofs.lemmas.Result.{on_ok_weaker}
use Rattle.rv32_asm.proofs.Emitting.{both}
use Rattle.rv32_asm.proofs.emit.push_resolved.Goals as goal

pub returns-in_ok-push_instr-in-Two : goal.returns-in_ok-push_instr-in-Two
returns-in_ok-push_instr-in-Two c =
    on_ok_weaker c.push_instr-in-Two-2.result
    (λ second. rw c.in-Two.is (both (c.in-Two.first ∷ []) (c.in-Two.second ∷ []) c.args.text.now.items c.push_instr-in-Two.new.text.items c.push_instr-in-Two-2.new.text.items
    c.in_ok-push_instr-in-Two.ensures second))
    c.push_instr-in-Two-2.ensures
