use Rattle.walk_facts.proofs.Places.{places_law}
use Rattle.walk_facts.proofs.law.schedules_list_places.Goals as goal

pub returns : goal.returns
returns c = places_law
