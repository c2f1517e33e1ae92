use Rattle.std.proofs.Common.{◌≡◌, [], map, replicate}
use Rattle.sat_trail.proofs.rows.empty_rows.Given as goal

abbrev pub invariant-loop-row : goal.invariant-loop-row
invariant-loop-row l = map (λ r. r.items) l.rows.items ≡ replicate l._row []
