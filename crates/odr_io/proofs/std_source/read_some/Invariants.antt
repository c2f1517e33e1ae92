use Rattle.std.specs.Io.KnownBytes.{Keeps}
use Rattle.odr_io.proofs.std_source.read_some.Given as goal

abbrev pub invariant-loop : goal.invariant-loop
invariant-loop g l = Keeps (g.I.Read.remaining l.initial.reader) (g.I.Read.remaining l.reader)
