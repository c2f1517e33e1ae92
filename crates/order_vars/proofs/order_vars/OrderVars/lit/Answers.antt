use Rattle.order_vars.proofs.ChosenTables.{always_says, never_says}
use Rattle.order_vars.proofs.order_vars.OrderVars.lit.Goals as goal

pub returns-clause-always : goal.returns-clause-always
returns-clause-always c = always_says c.args.self.now c.args.a c.args.b c.lit_of.result c.lit_of.ensures

pub returns-clause-never : goal.returns-clause-never
returns-clause-never c = never_says c.args.self.now c.args.a c.args.b c.lit_of.result c.lit_of.ensures
