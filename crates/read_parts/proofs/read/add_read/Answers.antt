use Rattle.read_parts.proofs.Adding.{reader_added, reader_known, reading_there, sources_there, terms_there}
use Rattle.read_parts.proofs.read.add_read.Goals as goal

pub built_reader-requires-clause-terms : goal.built_reader-requires-clause-terms
built_reader-requires-clause-terms g c = terms_there c.args.image.now c.args.accesses.now c.args.table.now c.args.encoder.now c.args.reading c.args.spots.now c.requires.can

pub built_reader-requires-clause-reading : goal.built_reader-requires-clause-reading
built_reader-requires-clause-reading g c = reading_there c.args.image.now c.args.accesses.now c.args.table.now c.args.encoder.now c.args.reading c.args.spots.now c.requires.can

pub built_reader-requires-clause-sources : goal.built_reader-requires-clause-sources
built_reader-requires-clause-sources g c = sources_there c.args.image.now c.args.accesses.now c.args.table.now c.args.encoder.now c.args.reading c.args.spots.now c.requires.can

pub built_reader-requires-clause-known : goal.built_reader-requires-clause-known
built_reader-requires-clause-known g c = c.requires.can.can.stands.known

pub add_reader-requires : goal.add_reader-requires
add_reader-requires g c = record {
  known =
      reader_known c.args.image.now c.args.accesses.now c.args.table.now c.args.encoder.now c.built_reader.new.encoder c.args.reading c.args.spots.now c.in_ok-reader.reader
      c.requires.can c.in_ok-reader.ensures.encodes c.in_ok-reader.ensures.built;
}

pub returns-clause-adds : goal.returns-clause-adds
returns-clause-adds g c =
    reader_added c.args.image.now c.args.accesses.now c.args.table.now c.args.encoder.now c.built_reader.new.encoder c.add_reader.new.clauses c.args.reading c.args.spots.now c.in_ok-reader.reader
    c.in_ok-reader.ensures.encodes c.in_ok-reader.ensures.built c.in_ok-add_reader.ensures.ok
