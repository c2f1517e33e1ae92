use Rattle.std.proofs.Common.{◌+◌, arith}
use Rattle.std.proofs.lemmas.Result.{on_ok_weaker}
use Rattle.bv_rewrite.proofs.Walking.{enter_lighter, five_pos}
use Rattle.bv_rewrite.proofs.walk.enter.Goals as goal

pub returns-then-contains_key-clause-lighter : goal.returns-then-contains_key-clause-lighter
returns-then-contains_key-clause-lighter c = let pos = five_pos (c.args.term.number + 1) in omega (arith, pos)

pub returns-clause-lighter : goal.returns-clause-lighter
returns-clause-lighter c =
    on_ok_weaker c.enter_children.result
    (λ h. enter_lighter c.args.walk.now.items c.push.new.self.items c.enter_children.new.walk.items c.args.term c.in_ok-push.ensures.items h) c.enter_children.ensures.weight
