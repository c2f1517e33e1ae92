use Rattle.bit_gates.proofs.GateLemmas.{or_given}
use Rattle.bit_gates.proofs.gates.or.Goals as goal

pub returns-clause-given : goal.returns-clause-given
returns-clause-given c =
    rw c.opposite-3.ensures
    (or_given c.and.new.clauses.clauses c.args.a c.args.b c.in_ok-neither.neither
    (rw (c.opposite.ensures, c.opposite-2.ensures) at c.in_ok-neither.ensures.given))
