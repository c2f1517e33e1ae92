use Rattle.bv_terms.specs.BitVectors.{bit_of}
use Rattle.reader_parts.proofs.Candidates.{condition_made, encodes_made}
use Rattle.reader_parts.proofs.Later.{grown_keeps}
use Rattle.outcome_parts.specs.Rivals.{address_parts, have_same_address}
use Rattle.outcome_parts.proofs.touching.address_condition.Goals as goal

pub test-requires-clause-known : goal.test-requires-clause-known
test-requires-clause-known g c = (grown_keeps c.args.encoder.now c.same_address.new.pool c.requires.known c.same_address.ensures.grows).known

pub returns-clause-encodes : goal.returns-clause-encodes
returns-clause-encodes g c =
    encodes_made c.args.encoder.now c.same_address.new.pool c.test.new.self (address_parts c.args.reserved.now c.args.conditional.now)
    (λ t. bit_of (have_same_address t c.args.encoder.now.pool c.args.reserved.now c.args.conditional.now)) c.in_ok-term.term.number c.requires.known c.same_address.ensures.grows
    c.in_ok-term.ensures.made c.in_ok-condition.ensures.encodes c.test.ensures.pool

pub returns-clause-condition : goal.returns-clause-condition
returns-clause-condition g c =
    let encodes = returns-clause-encodes g c in
    condition_made c.args.encoder.now c.same_address.new.pool c.test.new.self (address_parts c.args.reserved.now c.args.conditional.now)
    (λ t. have_same_address t c.args.encoder.now.pool c.args.reserved.now c.args.conditional.now) c.in_ok-term.term.number c.in_ok-condition.condition
    encodes.keeps.terms encodes.keeps.known c.in_ok-term.ensures.made c.test.ensures.pool c.in_ok-condition.ensures.test
