use Rattle.std.specs.Prelude.{◌≡◌}
use Rattle.happens_before.proofs.TableLemmas.{calls_among}
use Rattle.happens_before.proofs.table.calls_of.Given as goal

abbrev pub invariant-loop-number : goal.invariant-loop-number
invariant-loop-number l = l.calls.items ≡ calls_among l.log l.thread l.number
