use Rattle.std.proofs.Common.{subst}
use Rattle.std.proofs.lemmas.Result.{IfOk-weaker}
use Rattle.bv_rewrite.specs.declared.view.Swap.{Swap}
use Rattle.bv_rewrite.specs.Swapped.{HoldsOf}
use Rattle.bv_rewrite.proofs.Replacing.{constant_fits, constant_holds, left_holds, right_holds}
use Rattle.bv_rewrite.proofs.add_by.replaced.Goals as goal

pub returns-in-Left-clause-term : goal.returns-in-Left-clause-term
returns-in-Left-clause-term c =
    left_holds c.args.pool.now c.args.op c.args.left.number c.args.right.number c.requires.fitting.0
    (subst (λ (s : Swap). HoldsOf c.args.pool.now c.args.op c.args.left.number c.args.right.number s) c.in-Left.is c.requires.holds)

pub returns-in-Right-clause-term : goal.returns-in-Right-clause-term
returns-in-Right-clause-term c =
    right_holds c.args.pool.now c.args.op c.args.left.number c.args.right.number c.requires.fitting.1
    (subst (λ (s : Swap). HoldsOf c.args.pool.now c.args.op c.args.left.number c.args.right.number s) c.in-Right.is c.requires.holds)

pub add-requires : goal.add-requires
add-requires c =
    let holds = subst (λ (s : Swap). HoldsOf c.args.pool.now c.args.op c.args.left.number c.args.right.number s) c.in-Value.is c.requires.holds in
    (c.node_width-width.ensures.within, constant_fits c.args.pool.now c.args.op c.args.left.number c.args.right.number c.node_width-width.result c.in-Value.value c.node_width-width.ensures.below holds)

pub returns-in-Value-clause-term : goal.returns-in-Value-clause-term
returns-in-Value-clause-term c =
    let holds = subst (λ (s : Swap). HoldsOf c.args.pool.now c.args.op c.args.left.number c.args.right.number s) c.in-Value.is c.requires.holds in
    IfOk-weaker c.add.result _ _
    (λ id h. constant_holds c.args.pool.now c.add.new.self c.args.op c.args.left.number c.args.right.number c.node_width-width.result c.in-Value.value id.number c.node_width-width.ensures.width holds h) c.add.ensures.term
