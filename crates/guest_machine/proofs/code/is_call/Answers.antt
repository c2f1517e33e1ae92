use Rattle.std.proofs.Common.{arith}
use Rattle.guest_machine.proofs.Ecalls.{call_there, none_there, other_there}
use Rattle.guest_machine.proofs.code.is_call.Goals as goal

pub returns-in-None-clause-other : goal.returns-in-None-clause-other
returns-in-None-clause-other c = λ is. none_there c.args.image.now c.args.pc c.in-None.ensures

pub returns-in-Some-clause-call : goal.returns-in-Some-clause-call
returns-in-Some-clause-call c = λ is. call_there c.args.image.now c.args.pc c.in-Some.word c.in-Some.ensures is

pub returns-in-Some-clause-other : goal.returns-in-Some-clause-other
returns-in-Some-clause-other c = λ is. other_there c.args.image.now c.args.pc c.in-Some.word c.no_two_words_are_one_instruction.ensures (omega arith) c.in-Some.ensures is
