use Rattle.std.proofs.Common.{sym, ◌∙◌, ap}
use Rattle.rv_model.specs.declared.walk.Transfer.{Transfer}
use Rattle.trace_path.specs.Steps.{told_at}
use Rattle.trace_path.proofs.cursor.next_told.Goals as goal

pub returns-in-Indirect : goal.returns-in-Indirect
returns-in-Indirect c =
    c.told_jump.ensures c.args.step
    ∙ ap (λ (t : Transfer). told_at c.args.log.now c.args.thread c.args.step c.args.cursor.now t) (sym c.in-Indirect.is)

pub returns-in-Branch : goal.returns-in-Branch
returns-in-Branch c =
    c.told_branch.ensures c.args.step c.in-Branch.target
    ∙ ap (λ (t : Transfer). told_at c.args.log.now c.args.thread c.args.step c.args.cursor.now t) (sym c.in-Branch.is)
