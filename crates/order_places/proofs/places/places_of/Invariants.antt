use Rattle.order_places.proofs.Telling.{PlacesUpTo}
use Rattle.order_places.proofs.places.places_of.Given as goal

abbrev pub invariant-loop-x : goal.invariant-loop-x
invariant-loop-x l = PlacesUpTo l.vars.chosen l.accesses l.places l.x
