use Rattle.bv_terms.specs.BitVectors.{bit_of}
use Rattle.reader_parts.specs.Conditions.{hit_parts}
use Rattle.term_sources.specs.Sees.{hits}
use Rattle.reader_parts.proofs.Candidates.{condition_made, encodes_made}
use Rattle.reader_parts.proofs.Later.{grown_keeps}
use Rattle.reader_parts.proofs.condition.hit_condition.Goals as goal

pub test-requires-clause-known : goal.test-requires-clause-known
test-requires-clause-known g c = (grown_keeps c.args.encoder.now c.hit.new.pool c.requires.known c.hit.ensures.grows).known

pub returns-clause-encodes : goal.returns-clause-encodes
returns-clause-encodes g c =
    encodes_made c.args.encoder.now c.hit.new.pool c.test.new.self (hit_parts c.args.writer.now c.args.reader.now)
    (λ t. bit_of (hits t c.args.encoder.now.pool c.args.writer.now c.args.byte c.args.reader.now c.args.index)) c.in_ok-term.term.number
    c.requires.known c.hit.ensures.grows c.in_ok-term.ensures.made c.in_ok-condition.ensures.encodes c.test.ensures.pool

pub returns-clause-condition : goal.returns-clause-condition
returns-clause-condition g c =
    let encodes = returns-clause-encodes g c in
    condition_made c.args.encoder.now c.hit.new.pool c.test.new.self (hit_parts c.args.writer.now c.args.reader.now)
    (λ t. hits t c.args.encoder.now.pool c.args.writer.now c.args.byte c.args.reader.now c.args.index) c.in_ok-term.term.number c.in_ok-condition.condition
    encodes.keeps.terms encodes.keeps.known c.in_ok-term.ensures.made c.test.ensures.pool c.in_ok-condition.ensures.test
