-- What contracts see of a table of visits.
use Rattle.std.specs.Prelude.{List, Option, Some, None}
use Rattle.guided_walk.specs.Guided.{Visits}
use Rattle.plain_walk.specs.declared.table.Visited.{Visited}
use Rattle.plain_walk.specs.Data.{visits_of}

pub record Tabled : Type 0 where
  pub nothing : Visited
  pub visits : List Visited

abbrev pub visits_in : Tabled → Visits
visits_in table = visits_of table.nothing table.visits

abbrev pub newest_or : Visited → Option Visited → Visited
newest_or nothing None = nothing
newest_or nothing (Some visited) = visited
