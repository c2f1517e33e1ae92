use Rattle.std.proofs.Common.{◌≡◌, ◌+◌, ◌-◌, ◌*◌, ◌^◌, ◌≤◌, true, length}
use Rattle.std.specs.Prelude.{All}
use Rattle.clause_store.specs.declared.lit.Lit.{Lit}
use Rattle.clause_store.specs.Literals.{Assignment, literal_value}
use Rattle.bit_clauses.specs.Spelled.{spelled}
use Rattle.bit_clauses.proofs.wiring.constant.Given as goal

abbrev pub invariant-loop-yes : goal.invariant-loop-yes
invariant-loop-yes l = record {
  room : length l.bits ≤ l.width;
  same_variable : All (λ (k : Lit). k.var ≡ l.yes.var) l.bits;
  so_far : (w : Assignment) → literal_value w l.yes ≡ true → spelled w l.bits + 2 ^ length l.bits * l.rest ≡ l.value;
}

abbrev pub decreases-loop-yes : goal.decreases-loop-yes
decreases-loop-yes l = l.width - length l.bits
