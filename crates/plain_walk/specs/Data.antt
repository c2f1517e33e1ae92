-- What a guided walk is given and finds, as the lists that the program keeps.
use Rattle.std.specs.Prelude.{ℕ, Bool, false, ◌&&◌, List, [], ◌∷◌, nat_eq, slice_index_or}
use Rattle.odr_log.specs.declared.log.Pos.{Pos}
use Rattle.guided_walk.specs.Guided.{Given, Seen, Visit, Visits}
use Rattle.guided_walk.specs.Along.{put_at}
use Rattle.plain_walk.specs.declared.given.Supplied.{Supplied}
use Rattle.plain_walk.specs.declared.table.Before.{Before}
use Rattle.plain_walk.specs.declared.table.Visited.{Visited}

abbrev pub nothing_supplied : Supplied
nothing_supplied = record { bytes = []; won = false }

-- what is given for a step; nothing for one that the lists don't have
abbrev pub supplied_at : List (List Supplied) → ℕ → ℕ → Supplied
supplied_at rows thread step = slice_index_or (slice_index_or rows thread []) step nothing_supplied

-- bytes past those that are listed are 0
abbrev pub byte_of : List ℕ → ℕ → ℕ
byte_of bytes i = slice_index_or bytes i 0

abbrev pub given_of : List (List Supplied) → Given
given_of rows = record {
  bytes = λ thread step. byte_of (supplied_at rows thread step).bytes;
  won = λ thread step. (supplied_at rows thread step).won;
}

abbrev pub seen_of : Before → Seen
seen_of before = record { local = before.local; link = before.link }

abbrev pub visit_of : Visited → Visit
visit_of visited = record { seen = seen_of visited.before; outcome = visited.outcome }

abbrev pub is_place : Pos → Pos → Bool
is_place p q = nat_eq p.thread q.thread && nat_eq p.step q.step

-- what a table holds: of the visits the newest stands first, and everywhere else there is this one
abbrev pub visits_of : Visited → List Visited → Visits
visits_of nothing [] = λ (thread step : ℕ). visit_of nothing
visits_of nothing (visited ∷ older) = put_at visited.at (visit_of visited) (visits_of nothing older)
