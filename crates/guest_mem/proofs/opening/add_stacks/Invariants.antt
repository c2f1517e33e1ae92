use Rattle.std.proofs.Common.{◌≡◌, ◌-◌, ◌++◌}
use Rattle.guest_mem.specs.Opening.{stacks_from}
use Rattle.guest_mem.proofs.opening.add_stacks.Given as goal

-- the stacks so far, and those that are left
abbrev pub invariant-loop-thread : goal.invariant-loop-thread
invariant-loop-thread l = l.blocks.items ++ stacks_from l.thread (8 - l.thread) ≡ l.initial.blocks.items ++ stacks_from 0 8
