-- The accesses whose order is needed or asked for.
use Rattle.std.specs.Prelude.{ℕ, Bool, ◌&&◌, ◌||◌, nat_eq, List}
use Rattle.std.specs.List.{list_any}
use Rattle.odr_log.specs.declared.log.Pos.{Pos}
use Rattle.race_set.specs.declared.shape.AccessShape.{AccessShape}
use Rattle.race_set.specs.Accesses.{shape_at}

-- two steps are the same
abbrev pub is_step : Pos → Pos → Bool
is_step p q = nat_eq q.thread p.thread && nat_eq q.step p.step

-- the access is at one of the steps of two lists
abbrev pub is_asked : List AccessShape → (needed also : List Pos) → ℕ → Bool
is_asked shapes needed also number = list_any (is_step (shape_at shapes number).pos) needed || list_any (is_step (shape_at shapes number).pos) also
