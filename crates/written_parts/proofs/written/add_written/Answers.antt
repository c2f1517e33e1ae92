use Rattle.std.proofs.Common.{◌≡◌, ◌+◌, ◌<◌, ◌∷◌, ◌++◌, [], List, take, take_all, length, get_or, sym, subst, rules, arith}
use Rattle.bv_terms.specs.declared.node.TermId.{TermId}
use Rattle.encoder.specs.Encodes.{AreBuilt, Encodes}
use Rattle.encoder.proofs.Encoding.{get_or_any, take_more}
use Rattle.step_terms.specs.Bytes.{numbers}
use Rattle.thread_terms.specs.declared.access.Access.{Access}
use Rattle.written_parts.proofs.Writing.{SoFar, are_written, none_yet, one_more}
use Rattle.written_parts.proofs.written.add_written.Goals as goal

pub loop-k-init : goal.loop-k-init
loop-k-init c = none_yet c.args.encoder.now c.requires.known

pub loop-k-preserved : goal.loop-k-preserved
loop-k-preserved c =
    let accesses = c.args.accesses.now in
    let k = c.loop-k.k in
    let access = get_or accesses k c.index-accesses-k.result in
    let within : k < length accesses = first_of (search rules, omega arith) in
    let next : take (k + 1) accesses ≡ take k accesses ++ access ∷ [] = take_more accesses k access within (get_or_any accesses k c.index-accesses-k.result access within) in
    subst (λ (xs : List Access). SoFar c.args.encoder.now c.literals.new.self xs) (sym next)
    (one_more c.args.encoder.now c.loop-k.encoder c.literals.new.self (take k accesses) access c.loop-k.invariant
    (subst (λ (ids : List TermId). Encodes c.loop-k.encoder c.literals.new.self (numbers ids)) c.as_slice.ensures c.in_ok-_lits.ensures.encodes)
    (subst (λ (ids : List TermId). AreBuilt c.literals.new.self (numbers ids)) c.as_slice.ensures c.in_ok-_lits.ensures.built) c.literals.ensures.pool)

pub returns-clause-written : goal.returns-clause-written
returns-clause-written c =
    let done : take c.loop-k.k c.args.accesses.now ≡ c.args.accesses.now = take_all c.loop-k.k c.args.accesses.now c.loop-k-test.false in
    are_written c.args.encoder.now c.loop-k.encoder c.args.accesses.now (subst (λ (xs : List Access). SoFar c.args.encoder.now c.loop-k.encoder xs) done c.loop-k.invariant)
