use Rattle.std.proofs.Common.{◌≡◌, ◌+◌, ◌-◌, Bool, true, false, List, length, ap, arith}
use Rattle.std.proofs.lemmas.List.{length-set, length-replicate}
use Rattle.bit_clauses.proofs.Marking.{marking-none, marking-more, marking-all}
use Rattle.bit_clauses.proofs.marks.mark_needed.Goals as goal

pub loop-i-init : goal.loop-i-init
loop-i-init c = marking-none c.args.pool.now c.args.root.number c.args.marks.now c.requires.blank

pub loop-i-preserved : goal.loop-i-preserved
loop-i-preserved c =
    let at = length c.loop-i.marks - 1 - c.loop-i.i in
    let place : at + (c.loop-i.i + 1) ≡ c.args.root.number + 1 = omega (arith, c.loop-i.invariant.count, c.loop-i-test.true) in
    let below = c.mark_below.ensures in
    marking-more c.args.pool.now c.args.root.number at c.loop-i.i below.node c.loop-i.marks c.mark_below.new.marks place below.found below.below c.loop-i.invariant below.marks

pub returns : goal.returns
returns c = marking-all c.args.pool.now c.args.root.number c.loop-i.marks c.loop-i.i (omega (arith, c.loop-i-test.false, c.loop-i.invariant.count, length-set c.args.marks.now c.args.root.number true, ap (λ (l : List Bool). length l) c.requires.blank, length-replicate (c.args.root.number + 1) false)) c.loop-i.invariant
