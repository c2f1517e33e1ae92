use Rattle.std.proofs.Common.{arith}
use Rattle.bv_terms.specs.declared.node.TermId.{TermId}
use Rattle.std.proofs.lemmas.Result.{IfOk-weaker}
use Rattle.step_terms.proofs.Loading.{four, only_four}
use Rattle.step_terms.proofs.memory.word_of.Goals as goal

pub returns-clause-made : goal.returns-clause-made
returns-clause-made g c =
    let old = c.args.pool.now in
    let ids = c.args.bytes.now in
    let zero_term : TermId = record { number = 0 } in
    IfOk-weaker c.whole.result _ _
    (λ id h. four old c.half.new.pool c.half-2.new.pool c.whole.new.pool ids _ _ _ _ c.in_ok-low.low.number c.in_ok-high.high.number id.number (only_four ids _ _ _ _ c.requires.four)
    c.half.ensures.grows c.half-2.ensures.grows (c.requires.bytes 2 zero_term (omega (arith, c.requires.four))) (c.requires.bytes 3 zero_term (omega (arith, c.requires.four))) c.in_ok-low.ensures.made c.in_ok-high.ensures.made h) c.whole.ensures.made
