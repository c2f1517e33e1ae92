use Rattle.std.proofs.Common.{◌≡◌, drop}
use Rattle.rv_model.specs.Walk.{records_by}
use Rattle.trace_path.proofs.cursor.next_record.Given as goal

abbrev pub invariant-loop-at : goal.invariant-loop-at
invariant-loop-at l = records_by l.thread (drop l.at l.records) ≡ records_by l.thread (drop l.from l.records)
