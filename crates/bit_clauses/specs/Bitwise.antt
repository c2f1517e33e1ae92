-- Gates bit by bit.
use Rattle.std.specs.Prelude.{ℕ, Bool, bit_and, bit_or, bit_xor}
use Rattle.bit_gates.specs.Gate.{both, either, differ}
use Rattle.bit_clauses.specs.declared.gate.Gate.{Gate}
use Rattle.bit_clauses.specs.declared.gate.Gate.TheVariants as gate

abbrev pub gate_of : Gate → Bool → Bool → Bool
gate_of gate.And p q = both p q
gate_of gate.Or p q = either p q
gate_of gate.Xor p q = differ p q

-- a gate at each digit of two numbers
abbrev pub bitwise_value : Gate → ℕ → ℕ → ℕ
bitwise_value gate.And a b = bit_and a b
bitwise_value gate.Or a b = bit_or a b
bitwise_value gate.Xor a b = bit_xor a b
