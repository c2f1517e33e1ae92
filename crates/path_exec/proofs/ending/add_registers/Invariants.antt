use Rattle.std.proofs.Common.{◌≡◌, ◌++◌, take}
use Rattle.path_exec.proofs.ending.add_registers.Given as goal

abbrev pub invariant-loop-number : goal.invariant-loop-number
invariant-loop-number l = l.ends ≡ l.initial.ends ++ take l.number l.registers
