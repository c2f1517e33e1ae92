use Rattle.std.proofs.Common.{sym, subst}
use Rattle.std.specs.Prelude.{Contains}
use Rattle.std.proofs.lemmas.List.Elements.{Contains-get_or}
use Rattle.odr_log.specs.declared.log.Pos.{Pos}
use Rattle.order_vars.proofs.tests.literal.Goals as goal

pub lit-requires-clause-a_chosen : goal.lit-requires-clause-a_chosen
lit-requires-clause-a_chosen c =
    subst (λ (p : Pos). Contains c.args.vars.now.chosen p) (sym c.step.ensures)
    (Contains-get_or c.args.vars.now.chosen c.args.i (record { thread = 0; step = 0 }) c.requires.i_in)

pub lit-requires-clause-b_chosen : goal.lit-requires-clause-b_chosen
lit-requires-clause-b_chosen c =
    subst (λ (p : Pos). Contains c.args.vars.now.chosen p) (sym c.step-2.ensures)
    (Contains-get_or c.args.vars.now.chosen c.args.j (record { thread = 0; step = 0 }) c.requires.j_in)
