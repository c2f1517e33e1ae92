use Rattle.bit_clauses.proofs.Building.{on_ok}
use Rattle.formula_facts.proofs.Reading.{adds_initial, adds_open, adds_written, can_open, has_written}
use Rattle.formula_facts.proofs.bytes.add_byte.Goals as goal

pub add_open-requires : goal.add_open-requires
add_open-requires g c = record {
  can = can_open c.args.image.now c.args.known.now c.args.encoder.now c.as_slice-2.result.now c.as_slice.result.now c.args.access c.args.index c.requires.can
      c.requires.access c.requires.index c.as_slice-2.ensures c.as_slice.ensures c.in-Open.ensures;
}

pub add_written-requires-clause-writer : goal.add_written-requires-clause-writer
add_written-requires-clause-writer g c =
    (has_written c.args.image.now c.args.known.now c.args.encoder.now c.as_slice-accesses.result.now c.as_slice-2.result.now c.as_slice.result.now c.args.access c.args.index
    c.in-Written.writer c.in-Written.byte c.requires.can c.requires.access c.requires.index c.as_slice-accesses.ensures c.as_slice-2.ensures c.as_slice.ensures c.in-Written.ensures).there

pub add_written-requires-clause-byte : goal.add_written-requires-clause-byte
add_written-requires-clause-byte g c =
    (has_written c.args.image.now c.args.known.now c.args.encoder.now c.as_slice-accesses.result.now c.as_slice-2.result.now c.as_slice.result.now c.args.access c.args.index
    c.in-Written.writer c.in-Written.byte c.requires.can c.requires.access c.requires.index c.as_slice-accesses.ensures c.as_slice-2.ensures c.as_slice.ensures c.in-Written.ensures).within

pub add_written-requires-clause-written : goal.add_written-requires-clause-written
add_written-requires-clause-written g c =
    (has_written c.args.image.now c.args.known.now c.args.encoder.now c.as_slice-accesses.result.now c.as_slice-2.result.now c.as_slice.result.now c.args.access c.args.index
    c.in-Written.writer c.in-Written.byte c.requires.can c.requires.access c.requires.index c.as_slice-accesses.ensures c.as_slice-2.ensures c.as_slice.ensures c.in-Written.ensures).written

pub returns-in-Open-clause-adds : goal.returns-in-Open-clause-adds
returns-in-Open-clause-adds g c =
    on_ok c.add_open.result _ _
    (adds_open c.args.image.now c.args.known.now c.args.encoder.now c.add_open.new.encoder c.as_slice-2.result.now c.as_slice.result.now c.args.access c.args.index
    c.requires.access c.requires.index c.as_slice-2.ensures c.as_slice.ensures c.in-Open.ensures) c.add_open.ensures.adds

pub returns-in-Initial-clause-adds : goal.returns-in-Initial-clause-adds
returns-in-Initial-clause-adds g c =
    on_ok c.add_initial.result _ _
    (adds_initial c.args.image.now c.args.known.now c.args.encoder.now c.add_initial.new.encoder c.as_slice-accesses.result.now c.as_slice-2.result.now c.as_slice.result.now
    c.args.access c.args.index c.requires.access c.requires.index c.as_slice-accesses.ensures c.as_slice-2.ensures c.as_slice.ensures c.in-Initial.ensures) c.add_initial.ensures.says

pub returns-in-Written-clause-adds : goal.returns-in-Written-clause-adds
returns-in-Written-clause-adds g c =
    on_ok c.add_written.result _ _
    (adds_written c.args.image.now c.args.known.now c.args.encoder.now c.add_written.new.encoder c.as_slice-accesses.result.now c.as_slice-2.result.now c.as_slice.result.now
    c.args.access c.args.index c.in-Written.writer c.in-Written.byte c.requires.access c.requires.index c.as_slice-accesses.ensures c.as_slice-2.ensures c.as_slice.ensures
    c.in-Written.ensures) c.add_written.ensures.says
