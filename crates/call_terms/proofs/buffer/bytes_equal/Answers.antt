use Rattle.std.proofs.Common.{◌<◌, subst, sym}
use Rattle.step_terms.proofs.Making.{grows_on}
use Rattle.call_terms.proofs.Buffers.{equal_more}
use Rattle.call_terms.proofs.buffer.bytes_equal.Goals as goal

pub loop-index-preserved : goal.loop-index-preserved
loop-index-preserved g c =
    let old = c.args.pool.now in
    let mid = c.loop-index.pool in
    let two = c.byte_equals.new.pool in
    let new = c.conjunction.new.pool in
    let within = c.loop-index-test.true in
    record {
      grows = grows_on old mid new c.loop-index.invariant.grows (grows_on mid two new c.byte_equals.ensures.grows c.conjunction.ensures.grows);
      equal = equal_more old mid two new c.args.bytes.now c.args.recorded.now c.loop-index.index c.loop-index.test.number c.in_ok-byte.byte.number c.in_ok-test-2.test.number _ _
          c.loop-index.invariant.grows c.byte_equals.ensures.grows c.requires.bytes (subst (λ n. c.loop-index.index < n) (sym c.requires.count) within) within c.loop-index.invariant.equal
          c.in_ok-byte.ensures.made c.in_ok-test-2.ensures.both;
    }
