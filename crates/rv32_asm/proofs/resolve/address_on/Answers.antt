use Rattle.rv32_asm.proofs.Labels.{address_known, address_unknown}
use Rattle.rv32_asm.proofs.resolve.address_on.Goals as goal

pub returns-in-Some-clause-value : goal.returns-in-Some-clause-value
returns-in-Some-clause-value c = address_known c.args.labels.now c.args.line c.args.name.now c.in-Some.address c.in-Some.ensures.value

pub returns-in-None-clause-value : goal.returns-in-None-clause-value
returns-in-None-clause-value c = address_unknown c.args.labels.now c.args.line c.args.name.now c.in-None.ensures.value
