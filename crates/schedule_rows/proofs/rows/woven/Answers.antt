use Rattle.std.specs.Prelude.{refl}
use Rattle.schedule_rows.proofs.rows.woven.Goals as goal

pub extract-requires-clause-counted : goal.extract-requires-clause-counted
extract-requires-clause-counted c = (c.if-not-can_be_woven.ensures refl).counted

pub extract-requires-clause-go_on : goal.extract-requires-clause-go_on
extract-requires-clause-go_on c = (c.if-not-can_be_woven.ensures refl).go_on
