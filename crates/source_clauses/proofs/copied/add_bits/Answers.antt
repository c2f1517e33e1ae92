use Rattle.std.proofs.Common.{ℕ, List, length, arith}
use Rattle.std.specs.Prelude.{Contains}
use Rattle.clause_store.specs.declared.lit.Lit.{Lit}
use Rattle.source_clauses.specs.Sees.{bit_at}
use Rattle.source_clauses.specs.Clauses.{copied}
use Rattle.order_clauses.proofs.Added.{added_more, added_all}
use Rattle.source_clauses.proofs.copied.add_bits.Goals as goal

pub loop-b-preserved : goal.loop-b-preserved
loop-b-preserved c =
    added_more c.args.clauses.now c.loop-b.clauses c.add_copied.new.clauses (length c.args.read.now) (λ (b : ℕ). λ (k : List Lit). Contains (copied c.args.selection (bit_at c.args.bits.now b) (bit_at c.args.read.now b)) k) c.loop-b.b c.loop-b-test.true c.loop-b.invariant
    (c.in_ok-add_copied.ensures.ok)

pub returns-clause-ok : goal.returns-clause-ok
returns-clause-ok c =
    added_all c.args.clauses.now c.loop-b.clauses (length c.args.read.now) (λ (b : ℕ). λ (k : List Lit). Contains (copied c.args.selection (bit_at c.args.bits.now b) (bit_at c.args.read.now b)) k) c.loop-b.b (omega (arith, c.loop-b-test.false)) c.loop-b.invariant
