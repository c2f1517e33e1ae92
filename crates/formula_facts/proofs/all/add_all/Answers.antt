use Rattle.std.proofs.Common.{length}
use Rattle.bit_clauses.proofs.Building.{on_err}
use Rattle.clause_store.proofs.Growth.{growth_then}
use Rattle.formula_facts.specs.Known.{all_outcomes, all_reads}
use Rattle.formula_facts.proofs.Adding.{can_later, grown}
use Rattle.formula_facts.proofs.Whole.{added, begun_by, bits_later, can_begin, decided_ready}
use Rattle.formula_facts.proofs.all.add_all.Goals as goal

pub add_reads-requires : goal.add_reads-requires
add_reads-requires g c = record {
  can = can_begin c.args.image.now c.args.known.now c.args.encoder.now c.add_written.new.encoder c.args.constraints.now c.requires.can
      (begun_by c.args.known.now c.as_slice.result.now c.args.encoder.now c.add_written.new.encoder c.as_slice.ensures c.in_ok-add_written.ensures.encodes
      c.in_ok-add_written.ensures.written);
}

pub add_outcomes-requires : goal.add_outcomes-requires
add_outcomes-requires g c = record {
  can = can_later c.args.image.now c.args.known.now c.add_written.new.encoder c.add_reads.new.encoder (all_reads c.args.known.now.accesses (length c.args.known.now.accesses))
      (can_begin c.args.image.now c.args.known.now c.args.encoder.now c.add_written.new.encoder c.args.constraints.now c.requires.can
      (begun_by c.args.known.now c.as_slice.result.now c.args.encoder.now c.add_written.new.encoder c.as_slice.ensures c.in_ok-add_written.ensures.encodes
      c.in_ok-add_written.ensures.written)) c.in_ok-add_reads.ensures.adds;
}

pub returns-in_err-add_outcomes-clause-err : goal.returns-in_err-add_outcomes-clause-err
returns-in_err-add_outcomes-clause-err g c =
    on_err c.from_residual-in_err-add_outcomes.result
    (growth_then c.args.encoder.now.clauses c.add_written.new.encoder.clauses c.add_outcomes.new.encoder.clauses c.in_ok-add_written.ensures.encodes.keeps.grows
    (growth_then c.add_written.new.encoder.clauses c.add_reads.new.encoder.clauses c.add_outcomes.new.encoder.clauses
    (grown c.args.image.now c.args.known.now c.add_written.new.encoder c.add_reads.new.encoder (all_reads c.args.known.now.accesses (length c.args.known.now.accesses))
    (can_begin c.args.image.now c.args.known.now c.args.encoder.now c.add_written.new.encoder c.args.constraints.now c.requires.can
    (begun_by c.args.known.now c.as_slice.result.now c.args.encoder.now c.add_written.new.encoder c.as_slice.ensures c.in_ok-add_written.ensures.encodes
    c.in_ok-add_written.ensures.written)) c.in_ok-add_reads.ensures.adds) c.in_err-add_outcomes.ensures.err))

pub add_constraints-requires-clause-bits : goal.add_constraints-requires-clause-bits
add_constraints-requires-clause-bits g c =
    bits_later c.requires.can.setting c.add_outcomes.new.encoder c.args.constraints.now
    (decided_ready c.args.image.now c.args.known.now c.args.encoder.now c.add_written.new.encoder c.add_reads.new.encoder c.add_outcomes.new.encoder c.args.constraints.now c.requires.can
    (begun_by c.args.known.now c.as_slice.result.now c.args.encoder.now c.add_written.new.encoder c.as_slice.ensures c.in_ok-add_written.ensures.encodes
    c.in_ok-add_written.ensures.written) c.in_ok-add_reads.ensures.adds c.in_ok-add_outcomes.ensures.adds) c.requires.can.bits

pub add_constraints-requires-clause-known : goal.add_constraints-requires-clause-known
add_constraints-requires-clause-known g c =
    (decided_ready c.args.image.now c.args.known.now c.args.encoder.now c.add_written.new.encoder c.add_reads.new.encoder c.add_outcomes.new.encoder c.args.constraints.now c.requires.can
    (begun_by c.args.known.now c.as_slice.result.now c.args.encoder.now c.add_written.new.encoder c.as_slice.ensures c.in_ok-add_written.ensures.encodes
    c.in_ok-add_written.ensures.written) c.in_ok-add_reads.ensures.adds c.in_ok-add_outcomes.ensures.adds).stands.known

pub returns-in_err-add_constraints-clause-err : goal.returns-in_err-add_constraints-clause-err
returns-in_err-add_constraints-clause-err g c =
    let begun =
    begun_by c.args.known.now c.as_slice.result.now c.args.encoder.now c.add_written.new.encoder c.as_slice.ensures c.in_ok-add_written.ensures.encodes
    c.in_ok-add_written.ensures.written in
    let can = can_begin c.args.image.now c.args.known.now c.args.encoder.now c.add_written.new.encoder c.args.constraints.now c.requires.can begun in
    let later =
    can_later c.args.image.now c.args.known.now c.add_written.new.encoder c.add_reads.new.encoder (all_reads c.args.known.now.accesses (length c.args.known.now.accesses)) can
    c.in_ok-add_reads.ensures.adds in
    on_err c.from_residual-in_err-add_constraints.result
    (growth_then c.args.encoder.now.clauses c.add_written.new.encoder.clauses c.add_constraints.new.encoder.clauses c.in_ok-add_written.ensures.encodes.keeps.grows
    (growth_then c.add_written.new.encoder.clauses c.add_reads.new.encoder.clauses c.add_constraints.new.encoder.clauses
    (grown c.args.image.now c.args.known.now c.add_written.new.encoder c.add_reads.new.encoder (all_reads c.args.known.now.accesses (length c.args.known.now.accesses)) can
    c.in_ok-add_reads.ensures.adds)
    (growth_then c.add_reads.new.encoder.clauses c.add_outcomes.new.encoder.clauses c.add_constraints.new.encoder.clauses
    (grown c.args.image.now c.args.known.now c.add_reads.new.encoder c.add_outcomes.new.encoder (all_outcomes c.args.known.now.accesses (length c.args.known.now.accesses)) later
    c.in_ok-add_outcomes.ensures.adds) c.in_err-add_constraints.ensures.err)))

pub returns-clause-adds : goal.returns-clause-adds
returns-clause-adds g c =
    added c.args.image.now c.args.known.now c.args.encoder.now c.add_written.new.encoder c.add_reads.new.encoder c.add_outcomes.new.encoder c.add_constraints.new.encoder
    c.args.constraints.now
    (record {
      begins = begun_by c.args.known.now c.as_slice.result.now c.args.encoder.now c.add_written.new.encoder c.as_slice.ensures c.in_ok-add_written.ensures.encodes
          c.in_ok-add_written.ensures.written;
      reads = c.in_ok-add_reads.ensures.adds;
      outcomes = c.in_ok-add_outcomes.ensures.adds;
      constraints_are = c.in_ok-add_constraints.ensures.adds;
    })
