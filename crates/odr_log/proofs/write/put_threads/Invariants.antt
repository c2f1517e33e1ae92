use Rattle.std.proofs.Common.{◌≡◌, ◌++◌, take}
use Rattle.std.specs.List.{flat_map}
use Rattle.odr_log.specs.Grammar.{thread_bytes}
use Rattle.odr_log.proofs.write.put_threads.Given as goal

abbrev pub invariant-loop-thread : goal.invariant-loop-thread
invariant-loop-thread l = l.out.items ≡ l.initial.out.items ++ flat_map thread_bytes (take l.thread-index l.threads)
