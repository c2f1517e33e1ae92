use Rattle.std.proofs.Common.{arith, refl}
use Rattle.clause_check.proofs.Trying as trying
use Rattle.clause_check.proofs.trial.take_back.Goals as goal

pub undo-requires : goal.undo-requires
undo-requires c = trying.decision-within c.args.engine c.args.to c.requires (omega arith)

pub returns-then-to-len : goal.returns-then-to-len
returns-then-to-len c = record { longer = λ below. c.undo.ensures; kept = λ le. absurd (omega (arith, le)) }

pub returns-else-to-len : goal.returns-else-to-len
returns-else-to-len c = record { longer = λ below. absurd (omega (arith, below)); kept = λ le. refl }
