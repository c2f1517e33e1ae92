use Rattle.std.specs.Prelude.{◌≡◌, map}
use Rattle.std.specs.List.{range_with_len}
use Rattle.happens_before.specs.Table.{calls_of_thread}
use Rattle.happens_before.proofs.table.order_of.Given as goal

abbrev pub invariant-loop-thread : goal.invariant-loop-thread
invariant-loop-thread l = l.threads.items ≡ map (calls_of_thread l.log) (range_with_len 0 l.thread)
