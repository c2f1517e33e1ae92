use Rattle.std.proofs.Common.{List, ◌++◌, ◌∷◌, [], ◌∙◌, ap}
use Rattle.order_clauses.specs.declared.order_lit.OrderLit.{OrderLit}
use Rattle.order_clauses.specs.declared.order_lit.OrderLit.TheVariants as order_lit
use Rattle.outcome_clauses.specs.declared.store_conditional.Ender.{Ender}
use Rattle.outcome_clauses.proofs.Gathering.{failures_begin, failures_more, ender_known}
use Rattle.outcome_clauses.proofs.failures.failures_of.Goals as goal

pub loop-ender-init : goal.loop-ender-init
loop-ender-init c =
    failures_begin c.args.clauses.now c.args.sc.now.same c.negated.result c.push.new.self c.requires.known.same c.negated.ensures
    (c.in_ok-push.ensures ∙ ap (λ (cs : List OrderLit). cs ++ c.negated.result ∷ []) c.new-failures.ensures)

pub ending-requires : goal.ending-requires
ending-requires c =
    let none : Ender = record { after = order_lit.Always; before = order_lit.Always; hit = order_lit.Always } in
    record {
      known =
          ender_known c.args.clauses.now.vars c.loop-ender.clauses.vars c.loop-ender.invariant.grows.vars c.args.sc.now.enders
          c.as_slice-ender-items.result.now c.as_slice-ender-items.ensures c.requires.known.enders c.loop-ender.ender-index none c.loop-ender-test.true;
    }

pub loop-ender-preserved : goal.loop-ender-preserved
loop-ender-preserved c =
    let none : Ender = record { after = order_lit.Always; before = order_lit.Always; hit = order_lit.Always } in
    failures_more c.args.clauses.now c.loop-ender.clauses c.ending.new.clauses c.args.sc.now.same c.args.sc.now.enders
    c.as_slice-ender-items.result.now c.as_slice-ender-items.ensures c.loop-ender.ender-index none c.loop-ender.failures
    c.push-in-loop-ender.new.self c.in_ok-failure.failure c.loop-ender-test.true c.loop-ender.invariant c.in_ok-failure.ensures.ending
    c.in_ok-push-2.ensures
