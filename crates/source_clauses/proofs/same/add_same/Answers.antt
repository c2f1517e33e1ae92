use Rattle.std.proofs.Common.{ℕ, List, length, arith}
use Rattle.std.specs.Prelude.{Contains}
use Rattle.clause_store.specs.declared.lit.Lit.{Lit}
use Rattle.order_clauses.proofs.Added.{added_more, added_all}
use Rattle.source_clauses.specs.Same.{same_bit}
use Rattle.source_clauses.specs.Sees.{bit_at}
use Rattle.source_clauses.proofs.Pieces.{listed_added}
use Rattle.source_clauses.proofs.SameBits.{same_added}
use Rattle.source_clauses.proofs.same.add_same.Goals as goal

pub loop-b-preserved : goal.loop-b-preserved
loop-b-preserved c =
    let bits = c.args.bits.now in
    let read = c.args.read.now in
    added_more c.args.clauses.now c.loop-b.clauses c.add_same_bit.new.clauses (length read)
    (λ (b : ℕ). λ (k : List Lit). Contains (same_bit (bit_at bits b) (bit_at read b)) k) c.loop-b.b c.loop-b-test.true c.loop-b.invariant
    (listed_added c.loop-b.clauses c.add_same_bit.new.clauses (same_bit (bit_at bits c.loop-b.b) (bit_at read c.loop-b.b)) c.in_ok-add_same_bit.ensures.ok)

pub returns-clause-ok : goal.returns-clause-ok
returns-clause-ok c =
    let bits = c.args.bits.now in
    let read = c.args.read.now in
    same_added c.args.clauses.now c.loop-b.clauses bits read
    (added_all c.args.clauses.now c.loop-b.clauses (length read) (λ (b : ℕ). λ (k : List Lit). Contains (same_bit (bit_at bits b) (bit_at read b)) k)
    c.loop-b.b (omega (arith, c.loop-b-test.false)) c.loop-b.invariant)
