use Rattle.order_places.proofs.Placed.{places_of_accesses}
use Rattle.order_places.proofs.law.places_are_of_accesses.Goals as goal

pub returns : goal.returns
returns c = places_of_accesses
