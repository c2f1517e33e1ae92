use Rattle.std.proofs.Common.{◌≡◌, ◌+◌, ◌∷◌, ◌++◌, ◌<◌, [], List, take, length, get_or, sym, subst, rules, arith}
use Rattle.outcome_clauses.specs.declared.store_conditional.Ender.{Ender}
use Rattle.encoder.proofs.Encoding.{get_or_any, take_more}
use Rattle.outcome_parts.specs.declared.rival.Rival.{Rival}
use Rattle.outcome_parts.proofs.Building.{SoFar, no_rival, none_yet, one_more}
use Rattle.outcome_parts.proofs.built.enders_of.Goals as goal

pub loop-k-init : goal.loop-k-init
loop-k-init g c =
    subst (λ (xs : List Ender). SoFar c.args.encoder.now c.args.encoder.now c.args.accesses.now c.args.reserved [] xs) (sym c.new-enders.ensures)
    (none_yet c.args.encoder.now c.args.accesses.now c.args.reserved c.requires.known)

pub loop-k-preserved : goal.loop-k-preserved
loop-k-preserved g c =
    let rivals = c.args.rivals.now in
    let k = c.loop-k.k in
    let rival = get_or rivals k no_rival in
    let within : k < length rivals = first_of (search rules, omega arith) in
    let there = c.requires.rivals k no_rival within in
    let next : take (k + 1) rivals ≡ take k rivals ++ rival ∷ [] = take_more rivals k rival within (get_or_any rivals k no_rival rival within) in
    subst (λ (xs : List Rival). SoFar c.args.encoder.now c.ender_of.new.encoder c.args.accesses.now c.args.reserved xs c.push.new.self) (sym next)
    (subst (λ (ys : List Ender). SoFar c.args.encoder.now c.ender_of.new.encoder c.args.accesses.now c.args.reserved (take k rivals ++ rival ∷ []) ys) (sym c.in_ok-push.ensures)
    (one_more c.args.encoder.now c.loop-k.encoder c.ender_of.new.encoder c.args.accesses.now c.args.reserved (take k rivals) rival c.loop-k.enders c.in_ok-ender.ender
    c.requires.terms there c.requires.reserved c.loop-k.invariant c.in_ok-ender.ensures.encodes c.in_ok-ender.ensures.ender))
