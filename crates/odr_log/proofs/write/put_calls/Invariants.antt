use Rattle.std.proofs.Common.{◌≡◌, ◌++◌, take}
use Rattle.std.specs.List.{flat_map}
use Rattle.odr_log.specs.Grammar.{record_bytes}
use Rattle.odr_log.proofs.write.put_calls.Given as goal

abbrev pub invariant-loop-made : goal.invariant-loop-made
invariant-loop-made l = l.out.items ≡ l.initial.out.items ++ flat_map record_bytes (take l.made-index l.calls)
