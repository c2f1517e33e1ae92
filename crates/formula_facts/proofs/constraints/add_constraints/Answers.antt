use Rattle.std.proofs.Common.{◌≡◌, ◌+◌, ◌∷◌, ◌++◌, ◌<◌, [], take, take_all, length, get_or, sym, subst, rules, arith}
use Rattle.encoder.proofs.Encoding.{get_or_any, take_more}
use Rattle.term_sources.specs.Sees.{no_id}
use Rattle.formula_facts.specs.Constraints.{AddsConstraints}
use Rattle.formula_facts.proofs.Requiring.{HasRequired, none_required, one_required}
use Rattle.formula_facts.proofs.constraints.add_constraints.Goals as goal

pub loop-k-init : goal.loop-k-init
loop-k-init c = none_required c.args.encoder.now c.requires.known

pub loop-k-preserved : goal.loop-k-preserved
loop-k-preserved c =
    let constraints = c.args.constraints.now in
    let k = c.loop-k.k in
    let id = get_or constraints k no_id in
    let within : k < length constraints = first_of (search rules, omega arith) in
    let next : take (k + 1) constraints ≡ take k constraints ++ id ∷ [] = take_more constraints k id within (get_or_any constraints k no_id id within) in
    subst (HasRequired c.args.encoder.now c.require.new.self) (sym next)
    (one_required c.args.encoder.now c.loop-k.encoder c.require.new.self (take k constraints) id c.loop-k.invariant c.in_ok-require.ensures.requires_it c.require.ensures.pool)

pub returns-clause-adds : goal.returns-clause-adds
returns-clause-adds c =
    let done : take c.loop-k.k c.args.constraints.now ≡ c.args.constraints.now = take_all c.loop-k.k c.args.constraints.now c.loop-k-test.false in
    subst (AddsConstraints c.args.encoder.now c.loop-k.encoder) done c.loop-k.invariant.adds
