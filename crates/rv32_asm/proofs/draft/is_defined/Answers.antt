use Rattle.std.proofs.Common.{◌∙◌}
use Rattle.rv32_asm.proofs.Labels.{defined_seen}
use Rattle.rv32_asm.proofs.draft.is_defined.Goals as goal

pub returns : goal.returns
returns c = c.has_name.ensures ∙ defined_seen c.args.labels.now c.args.name.now
