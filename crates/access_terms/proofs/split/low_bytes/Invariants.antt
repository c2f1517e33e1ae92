use Rattle.access_terms.specs.Split.{AreLowBytes}
use Rattle.step_terms.specs.Made.{Grows}
use Rattle.access_terms.proofs.split.low_bytes.Given as goal

abbrev pub invariant-loop-place : goal.invariant-loop-place
invariant-loop-place l = record {
  grows : Grows l.fn.pool l.pool;
  split : AreLowBytes l.fn.pool l.pool l.word.number l.place l.bytes;
}
