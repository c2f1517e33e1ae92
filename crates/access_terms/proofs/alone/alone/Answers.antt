use Rattle.thread_terms.proofs.Standing.{registers_stay}
use Rattle.access_terms.proofs.Silent.{alone_step}
use Rattle.access_terms.proofs.alone.alone.Goals as goal

pub go_on-requires : goal.go_on-requires
go_on-requires g c = record {
  registers = registers_stay c.args.pool.now c.goes.new.pool c.args.registers.now c.goes.ensures.grows c.requires.registers;
  valid = c.requires.valid;
  alone = c.requires.alone;
}

pub returns-clause-step : goal.returns-clause-step
returns-clause-step g c = λ image p link.
    alone_step image p link c.args.pool.now c.goes.new.pool c.go_on.new.pool c.args.registers.now c.go_on.new.registers c.args.place.now.pc c.args.place.now.instr c.args.shown.now c.in_ok-constraint.constraint
    c.requires.alone c.goes.ensures.grows c.go_on.ensures.grows c.requires.registers c.in_ok-constraint.ensures.constrains c.in_ok-go_on.ensures.goes_on
