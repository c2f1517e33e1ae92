use Rattle.std.proofs.Common.{◌≡◌, length}
use Rattle.sat_core.specs.Searching.{MarksFirst}
use Rattle.sat_core.proofs.scout.marks_of.Given as goal

abbrev pub invariant-loop-var : goal.invariant-loop-var
invariant-loop-var l = record { sized : length l.marks.items ≡ l.vars; first : MarksFirst l.marks.items l.listed }
