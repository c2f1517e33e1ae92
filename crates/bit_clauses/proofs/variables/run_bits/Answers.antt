use Rattle.std.proofs.Common.{◌≡◌, ◌∙◌, ap, arith}
use Rattle.bit_clauses.specs.Bits.{run}
use Rattle.bit_clauses.proofs.Runs.{run_more}
use Rattle.bit_clauses.proofs.variables.run_bits.Goals as goal

pub loop-i-preserved : goal.loop-i-preserved
loop-i-preserved c = c.in_ok-push.ensures ∙ run_more c.args.first c.loop-i.i c.loop-i.bits c.loop-i.invariant

pub returns : goal.returns
returns c =
    let all : c.loop-i.i ≡ c.args.count = omega arith in
    c.loop-i.invariant ∙ ap (run c.args.first) all
