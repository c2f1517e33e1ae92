use Rattle.std.proofs.Common.{◌≡◌, ◌+◌, suc, ℕ, length, sym, subst, arith}
use Rattle.bit_clauses.proofs.Building.{on_err}
use Rattle.clause_store.proofs.Growth.{growth_then}
use Rattle.formula_facts.specs.Known.{AddsFacts, all_outcomes, outcome_of_access}
use Rattle.formula_facts.proofs.Adding.{can_later, grown, more_added, none_added}
use Rattle.formula_facts.proofs.outcomes.add_outcomes.Goals as goal

pub loop-access-init : goal.loop-access-init
loop-access-init g c = none_added c.args.image.now c.args.known.now c.args.encoder.now

pub add_outcome-requires-clause-can : goal.add_outcome-requires-clause-can
add_outcome-requires-clause-can g c =
    can_later c.args.image.now c.args.known.now c.args.encoder.now c.loop-access.encoder (all_outcomes c.args.known.now.accesses c.loop-access.access)
    c.requires.can c.loop-access.invariant

pub returns-in_err-add_outcome-clause-err : goal.returns-in_err-add_outcome-clause-err
returns-in_err-add_outcome-clause-err g c =
    on_err c.from_residual.result
    (growth_then c.args.encoder.now.clauses c.loop-access.encoder.clauses c.add_outcome.new.encoder.clauses
    (grown c.args.image.now c.args.known.now c.args.encoder.now c.loop-access.encoder (all_outcomes c.args.known.now.accesses c.loop-access.access)
    c.requires.can c.loop-access.invariant) c.in_err-add_outcome.ensures.err)

pub loop-access-preserved : goal.loop-access-preserved
loop-access-preserved g c =
    let accesses = c.args.known.now.accesses in
    let x = c.loop-access.access in
    let next : x + 1 ≡ suc x = omega arith in
    subst (λ (n : ℕ). AddsFacts c.args.image.now c.args.known.now c.args.encoder.now c.add_outcome.new.encoder (all_outcomes accesses n)) (sym next)
    (more_added c.args.image.now c.args.known.now c.args.encoder.now c.loop-access.encoder c.add_outcome.new.encoder (all_outcomes accesses x) (outcome_of_access accesses x)
    c.loop-access.invariant c.in_ok-add_outcome.ensures.adds)

pub returns-clause-adds : goal.returns-clause-adds
returns-clause-adds g c =
    let accesses = c.args.known.now.accesses in
    let done : c.loop-access.access ≡ length accesses = omega arith in
    subst (λ (n : ℕ). AddsFacts c.args.image.now c.args.known.now c.args.encoder.now c.loop-access.encoder (all_outcomes accesses n)) done c.loop-access.invariant
