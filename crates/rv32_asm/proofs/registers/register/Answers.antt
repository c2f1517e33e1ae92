use Rattle.std.proofs.Common.{Some, None, ◌∙◌}
use Rattle.rv32_asm.proofs.RegisterNames.{numbered_register, other_register}
use Rattle.rv32_asm.proofs.registers.register.Goals as goal

pub returns-in-Some-clause-value : goal.returns-in-Some-clause-value
returns-in-Some-clause-value c = numbered_register c.args.word.now c.in-Some.number c.in-Some.ensures.value

pub returns-in_err-calling-in-None-clause-value : goal.returns-in_err-calling-in-None-clause-value
returns-in_err-calling-in-None-clause-value c = c.from_residual.ensures ∙ other_register c.args.word.now None c.in-None.ensures.value c.in_err-calling-in-None.ensures.value

pub returns-in_ok-calling-in-None-clause-value : goal.returns-in_ok-calling-in-None-clause-value
returns-in_ok-calling-in-None-clause-value c = other_register c.args.word.now (Some c.in_ok-calling-in-None.field-0) c.in-None.ensures.value c.in_ok-calling-in-None.ensures.value
