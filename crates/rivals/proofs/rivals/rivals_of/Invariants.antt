use Rattle.odr_log.specs.declared.log.Log.{Log}
use Rattle.happens_before.specs.Table.{IsOrderOf}
use Rattle.race_set.specs.Accesses.{AreCounted}
use Rattle.rivals.specs.Between.{AreRivalsBelow, placed}
use Rattle.rivals.proofs.rivals.rivals_of.Given as goal

abbrev pub invariant-loop-other : goal.invariant-loop-other
invariant-loop-other l =
    (log : Log) → IsOrderOf l.order log → AreCounted log l.shapes
    → AreRivalsBelow (placed log l.shapes l.places l.vars.ordered.table) l.reserved l.access l.other l.rivals
