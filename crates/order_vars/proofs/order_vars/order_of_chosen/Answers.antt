use Rattle.std.proofs.lemmas.Result.{IfOk-weaker}
use Rattle.order_vars.proofs.ChosenTables.{chosen_ordered, pairs_open}
use Rattle.order_vars.proofs.order_vars.order_of_chosen.Goals as goal

pub returns-clause-orders : goal.returns-clause-orders
returns-clause-orders c =
    IfOk-weaker c.ordered_table.result _ _
    (λ ordered is. chosen_ordered c.args.order.now c.args.chosen.now c.in_ok-recorded.recorded c.args.clauses.now c.ordered_table.new.clauses
    c.in_ok-recorded.ensures.cells ordered is)
    c.ordered_table.ensures.ordered

pub returns-clause-pairs : goal.returns-clause-pairs
returns-clause-pairs c =
    IfOk-weaker c.ordered_table.result _ _
    (λ ordered is log is_order all distinct. pairs_open log c.args.chosen.now ordered c.args.clauses.now c.ordered_table.new.clauses all distinct
    (chosen_ordered c.args.order.now c.args.chosen.now c.in_ok-recorded.recorded c.args.clauses.now c.ordered_table.new.clauses
    c.in_ok-recorded.ensures.cells ordered is log is_order all))
    c.ordered_table.ensures.ordered

pub returns-clause-square : goal.returns-clause-square
returns-clause-square c = IfOk-weaker c.ordered_table.result _ _ (λ ordered is. is.square) c.ordered_table.ensures.ordered

pub returns-clause-count : goal.returns-clause-count
returns-clause-count c = IfOk-weaker c.ordered_table.result _ _ (λ ordered is. is.count) c.ordered_table.ensures.ordered

pub returns-clause-vars : goal.returns-clause-vars
returns-clause-vars c = IfOk-weaker c.ordered_table.result _ _ (λ ordered is. is.vars) c.ordered_table.ensures.ordered

pub returns-clause-known : goal.returns-clause-known
returns-clause-known c = IfOk-weaker c.ordered_table.result _ _ (λ ordered is. is.known) c.ordered_table.ensures.ordered

pub returns-clause-grows : goal.returns-clause-grows
returns-clause-grows c = IfOk-weaker c.ordered_table.result _ _ (λ ordered is. is.grows) c.ordered_table.ensures.ordered
