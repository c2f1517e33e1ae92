use Rattle.walk_orders.proofs.Test.{recorded_test, test_ordered}
use Rattle.walk_orders.proofs.laws.recorded_order_is_tested.Goals as goal

pub returns : goal.returns
returns c = record { test = recorded_test; ordered = test_ordered }
