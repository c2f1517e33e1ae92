use Rattle.std.proofs.Common.{◌≡◌, List, ◌∙◌, subst}
use Rattle.bv_terms.specs.declared.node.TermId.{TermId}
use Rattle.encoder.specs.Encodes.{AreBuilt, Encodes, joined}
use Rattle.encoder.proofs.Encoding.{get_or_any}
use Rattle.step_terms.specs.Bytes.{numbers}
use Rattle.term_sources.specs.Sees.{no_access}
use Rattle.reader_parts.specs.Readings.{AreLiterals, run_of}
use Rattle.reader_parts.proofs.Building.{Steps, reader_built, reader_encodes}
use Rattle.reader_parts.proofs.Later.{grown_keeps}
use Rattle.reader_parts.proofs.built.built_reader.Goals as goal

pub literals-requires-clause-known : goal.literals-requires-clause-known
literals-requires-clause-known g c = (grown_keeps c.run_bits.new.encoder c.initial_terms.new.pool c.in_ok-read.ensures.encodes.keeps.known c.initial_terms.ensures.grows).known

pub returns-clause-encodes : goal.returns-clause-encodes
returns-clause-encodes g c =
    let steps : Steps = record {
      old = c.args.encoder.now;
      one = c.candidates_of.new.encoder;
      two = c.run_bits.new.encoder;
      pool = c.initial_terms.new.pool;
      new = c.literals.new.self;
      accesses = c.args.accesses.now;
      reading = c.args.reading;
      spots = c.args.spots.now;
      image = c.args.image.now;
      reader = c.index-accesses-reading.result;
      ids = c.in_ok-terms.terms;
      candidates = c.in_ok-candidates.candidates;
      read = c.in_ok-read.read;
      initial = c.in_ok-initial.initial;
      has = c.requires.terms;
      there = c.requires.reading.there;
      is_reader = c.index-accesses-reading.is ∙ get_or_any c.args.accesses.now c.args.reading.access c.index-accesses-reading.result no_access c.requires.reading.there;
      first = c.in_ok-candidates.ensures.encodes;
      are = c.in_ok-candidates.ensures.candidates;
      second = subst (λ (ids : List TermId). Encodes c.candidates_of.new.encoder c.run_bits.new.encoder (run_of ids c.args.reading.index c.args.reading.count)) c.as_slice.ensures c.in_ok-read.ensures.encodes;
      reads = subst (λ (ids : List TermId). AreLiterals c.run_bits.new.encoder (run_of ids c.args.reading.index c.args.reading.count) c.in_ok-read.read) c.as_slice.ensures c.in_ok-read.ensures.lits;
      grows = c.initial_terms.ensures.grows;
      made = c.in_ok-terms.ensures.made;
      third = subst (λ (ids : List TermId). Encodes (record c.run_bits.new.encoder { pool = c.initial_terms.new.pool }) c.literals.new.self (numbers ids)) c.as_slice-2.ensures c.in_ok-initial.ensures.encodes;
      same = c.literals.ensures.pool;
      initials = record {
        built = subst (λ (ids : List TermId). AreBuilt c.literals.new.self (numbers ids)) c.as_slice-2.ensures c.in_ok-initial.ensures.built;
        are = subst (λ (ids : List TermId). c.in_ok-initial.initial ≡ joined c.literals.new.self.blaster.terms (numbers ids)) c.as_slice-2.ensures c.in_ok-initial.ensures.lits;
      };
    } in
    reader_encodes steps

pub returns-clause-built : goal.returns-clause-built
returns-clause-built g c =
    let steps : Steps = record {
      old = c.args.encoder.now;
      one = c.candidates_of.new.encoder;
      two = c.run_bits.new.encoder;
      pool = c.initial_terms.new.pool;
      new = c.literals.new.self;
      accesses = c.args.accesses.now;
      reading = c.args.reading;
      spots = c.args.spots.now;
      image = c.args.image.now;
      reader = c.index-accesses-reading.result;
      ids = c.in_ok-terms.terms;
      candidates = c.in_ok-candidates.candidates;
      read = c.in_ok-read.read;
      initial = c.in_ok-initial.initial;
      has = c.requires.terms;
      there = c.requires.reading.there;
      is_reader = c.index-accesses-reading.is ∙ get_or_any c.args.accesses.now c.args.reading.access c.index-accesses-reading.result no_access c.requires.reading.there;
      first = c.in_ok-candidates.ensures.encodes;
      are = c.in_ok-candidates.ensures.candidates;
      second = subst (λ (ids : List TermId). Encodes c.candidates_of.new.encoder c.run_bits.new.encoder (run_of ids c.args.reading.index c.args.reading.count)) c.as_slice.ensures c.in_ok-read.ensures.encodes;
      reads = subst (λ (ids : List TermId). AreLiterals c.run_bits.new.encoder (run_of ids c.args.reading.index c.args.reading.count) c.in_ok-read.read) c.as_slice.ensures c.in_ok-read.ensures.lits;
      grows = c.initial_terms.ensures.grows;
      made = c.in_ok-terms.ensures.made;
      third = subst (λ (ids : List TermId). Encodes (record c.run_bits.new.encoder { pool = c.initial_terms.new.pool }) c.literals.new.self (numbers ids)) c.as_slice-2.ensures c.in_ok-initial.ensures.encodes;
      same = c.literals.ensures.pool;
      initials = record {
        built = subst (λ (ids : List TermId). AreBuilt c.literals.new.self (numbers ids)) c.as_slice-2.ensures c.in_ok-initial.ensures.built;
        are = subst (λ (ids : List TermId). c.in_ok-initial.initial ≡ joined c.literals.new.self.blaster.terms (numbers ids)) c.as_slice-2.ensures c.in_ok-initial.ensures.lits;
      };
    } in
    reader_built steps
