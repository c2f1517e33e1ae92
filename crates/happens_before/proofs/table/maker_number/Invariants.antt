use Rattle.std.specs.Prelude.{◌≡◌}
use Rattle.happens_before.proofs.TableLemmas.{maker_among}
use Rattle.happens_before.proofs.table.maker_number.Given as goal

abbrev pub invariant-loop-number : goal.invariant-loop-number
invariant-loop-number l = l.maker ≡ maker_among l.log l.thread l.number
