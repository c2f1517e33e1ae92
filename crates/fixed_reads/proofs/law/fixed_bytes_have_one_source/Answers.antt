use Rattle.fixed_reads.proofs.Fixed.{initial_bytes, written_bytes}
use Rattle.fixed_reads.proofs.law.fixed_bytes_have_one_source.Goals as goal

pub returns-clause-initial : goal.returns-clause-initial
returns-clause-initial c = initial_bytes

pub returns-clause-written : goal.returns-clause-written
returns-clause-written c = written_bytes
