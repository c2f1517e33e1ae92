use Rattle.std.specs.Prelude.{◌-◌, length}
use Rattle.std.proofs.Common.{sym, ◌∙◌, arith}
use Rattle.happens_before.proofs.FitLemmas.{last_halt}
use Rattle.happens_before.proofs.fit.final_halt.Goals as goal

pub returns-in-len1-up : goal.returns-in-len1-up
returns-in-len1-up c =
    c.halt_by.ensures
    ∙ sym (last_halt c.args.records.now (length c.args.records.now - 1) c.last-item.result (omega (arith, c.in-len1-up.len_at_least)) c.last-item.is)
