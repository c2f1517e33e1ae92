use Rattle.std.proofs.Common.{◌∙◌, true, slice_index_or, arith}
use Rattle.std.proofs.lemmas.List.{length-set}
use Rattle.sat_core.proofs.Turning.{marks-next}
use Rattle.sat_core.proofs.scout.marks_of.Goals as goal

pub loop-var-preserved : goal.loop-var-preserved
loop-var-preserved c =
    record {
      sized = length-set c.loop-var.marks.items (slice_index_or c.args.listed.now c.loop-var.var-index 0) true ∙ c.loop-var.invariant.sized;
      first = marks-next c.loop-var.marks.items c.args.listed.now c.loop-var.var-index (omega arith) c.loop-var.invariant.first;
    }
