use Rattle.std.proofs.Common.{List, ◌∙◌, subst}
use Rattle.encoder.proofs.Encoding.{get_or_any}
use Rattle.term_sources.specs.Sees.{no_access}
use Rattle.bv_terms.specs.declared.node.TermId.{TermId}
use Rattle.encoder.specs.Encodes.{Encodes}
use Rattle.reader_parts.specs.Readings.{AreLiterals, run_of}
use Rattle.reader_parts.proofs.Candidates.{candidate_made}
use Rattle.reader_parts.proofs.candidate.candidate_of.Goals as goal

pub returns-clause-encodes : goal.returns-clause-encodes
returns-clause-encodes g c =
    (candidate_made c.args.encoder.now c.hit_condition.new.encoder c.run_bits.new.encoder c.args.accesses.now c.args.reading c.args.spot
    c.index-accesses-spot.result c.index-accesses-reading.result c.in_ok-hit.hit c.in_ok-bits.bits (c.index-accesses-spot.is ∙ get_or_any c.args.accesses.now c.args.spot.access c.index-accesses-spot.result no_access c.requires.source.there)
    (c.index-accesses-reading.is ∙ get_or_any c.args.accesses.now c.args.reading.access c.index-accesses-reading.result no_access c.requires.reader)
    c.in_ok-hit.ensures.encodes
    (subst (λ (ids : List TermId). Encodes c.hit_condition.new.encoder c.run_bits.new.encoder (run_of ids c.args.spot.byte c.args.reading.count)) c.as_slice.ensures c.in_ok-bits.ensures.encodes)
    c.in_ok-hit.ensures.condition
    (subst (λ (ids : List TermId). AreLiterals c.run_bits.new.encoder (run_of ids c.args.spot.byte c.args.reading.count) c.in_ok-bits.bits) c.as_slice.ensures c.in_ok-bits.ensures.lits)).0

pub returns-clause-candidate : goal.returns-clause-candidate
returns-clause-candidate g c =
    (candidate_made c.args.encoder.now c.hit_condition.new.encoder c.run_bits.new.encoder c.args.accesses.now c.args.reading c.args.spot
    c.index-accesses-spot.result c.index-accesses-reading.result c.in_ok-hit.hit c.in_ok-bits.bits (c.index-accesses-spot.is ∙ get_or_any c.args.accesses.now c.args.spot.access c.index-accesses-spot.result no_access c.requires.source.there)
    (c.index-accesses-reading.is ∙ get_or_any c.args.accesses.now c.args.reading.access c.index-accesses-reading.result no_access c.requires.reader)
    c.in_ok-hit.ensures.encodes
    (subst (λ (ids : List TermId). Encodes c.hit_condition.new.encoder c.run_bits.new.encoder (run_of ids c.args.spot.byte c.args.reading.count)) c.as_slice.ensures c.in_ok-bits.ensures.encodes)
    c.in_ok-hit.ensures.condition
    (subst (λ (ids : List TermId). AreLiterals c.run_bits.new.encoder (run_of ids c.args.spot.byte c.args.reading.count) c.in_ok-bits.bits) c.as_slice.ensures c.in_ok-bits.ensures.lits)).1
