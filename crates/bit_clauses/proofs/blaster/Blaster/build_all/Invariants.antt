use Rattle.std.proofs.Common.{◌≡◌, ℕ, ◌<◌, length}
use Rattle.bit_clauses.specs.Bits.{IsBlasted, IsBuilt}
use Rattle.bit_clauses.specs.Marks.{IsMarked}
use Rattle.bit_clauses.proofs.blaster.Blaster.build_all.Given as goal

abbrev pub invariant-loop-number : goal.invariant-loop-number
invariant-loop-number l = record {
  blasted : IsBlasted l.initial.self l.self l.pool l.initial.clauses l.clauses l.fn.root.number;
  size : length l.self.terms ≡ length l.initial.self.terms;
  built : (j : ℕ) → j < l.number → IsMarked l.marks j → IsBuilt l.self j;
}
