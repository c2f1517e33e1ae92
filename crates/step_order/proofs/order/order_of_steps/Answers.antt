use Rattle.std.proofs.Common.{◌≡◌, ℕ, List, [], replicate, ◌∙◌}
use Rattle.step_order.proofs.Whole.{none_yet, so_far_at}
use Rattle.step_order.proofs.order.order_of_steps.Goals as goal

pub push_calls-requires-clause-so_far : goal.push_calls-requires-clause-so_far
push_calls-requires-clause-so_far c =
    let zeros : List ℕ = replicate c.len.result 0 in
    let same : c.of-next.result ≡ replicate c.len.result 0 = c.of-next.ensures ∙ c.in_ok-vec.ensures.items_if_clones_equal (λ y h. h) in
    so_far_at c.args.log.now 0 [] c.new-order.result zeros c.of-next.result c.new-order.ensures same (none_yet c.args.log.now c.len.result)
