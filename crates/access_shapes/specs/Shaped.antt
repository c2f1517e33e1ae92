-- The shape of each access, by its terms.
use Rattle.std.specs.Prelude.{◌≡◌, ℕ, ◌<◌, ◌^◌, Bool, true, false, ◌&&◌, not, nat_eq, Option, None, Some, List, [], ◌∷◌, All, length, map, option_map, slice_get, if◌then◌else◌}
use Rattle.odr_log.specs.declared.log.Log.{Log}
use Rattle.odr_log.specs.declared.log.Pos.{Pos}
use Rattle.rv_model.specs.Walk.{Walk}
use Rattle.bv_terms.specs.declared.node.TermId.{TermId}
use Rattle.bv_terms.specs.Constants.{constant_at}
use Rattle.bv_terms.specs.Shapes.{Shape}
use Rattle.bv_terms.specs.Values.{Assignment, value_at}
use Rattle.guided_walk.specs.Orders.{Distinct}
use Rattle.thread_terms.specs.declared.access.Access.{Access}
use Rattle.race_set.specs.declared.shape.AccessShape.{AccessShape}
use Rattle.race_set.specs.declared.shape.Span.{Span}
use Rattle.path_exec.specs.Paths.{IsListed, position}

-- there are bytes
abbrev pub has_bytes : List TermId → Bool
has_bytes [] = false
has_bytes (byte ∷ more) = true

-- a constant is 0
abbrev pub is_zero : Option ℕ → Bool
is_zero (Some value) = nat_eq value 0
is_zero None = false

-- an access may write: there are bytes for it, and its guard isn't the constant 0
abbrev pub may_write : List Shape → Access → Bool
may_write nodes access = has_bytes access.writes && not (is_zero (constant_at nodes access.guard.number))

-- how many bytes an access writes, or reads where it writes none
abbrev pub byte_count : Access → ℕ
byte_count access = if has_bytes access.writes then length access.writes else length access.reads

-- so many bytes from an address on
abbrev pub span_of : (len first : ℕ) → Span
span_of len first = record { first = first; len = len }

-- where the bytes of an access are, if its address is a constant
abbrev pub place_of : List Shape → Access → Option Span
place_of nodes access = option_map (span_of (byte_count access)) (constant_at nodes access.address.number)

-- the step of the access that a link goes to
abbrev pub linked_step : List Access → Option ℕ → Option Pos
linked_step accesses None = None
linked_step accesses (Some place) = option_map position (slice_get accesses place)

abbrev pub shape_in : List Shape → List Access → Access → AccessShape
shape_in nodes accesses access = record {
  pos = access.pos;
  reads = has_bytes access.reads;
  writes = may_write nodes access;
  place = place_of nodes access;
  link = linked_step accesses access.link;
}

-- a term that is a constant has its value in every run
abbrev pub HasConstant : List Shape → ℕ → Type 0
HasConstant nodes id = (value : ℕ) → constant_at nodes id ≡ Some value → (t : Assignment) → value_at t nodes id ≡ value

-- an access has fewer bytes than there are addresses
pub record IsNarrow (access : Access) : Type 0 where
  pub reads : length access.reads < 2 ^ 32
  pub writes : length access.writes < 2 ^ 32

-- accesses of a walk, each listed once
pub record AreListed (log : Log) (walk : Walk) (nodes : List Shape) (accesses : List Access) : Type 0 where
  pub each : All (IsListed log walk nodes accesses) accesses
  pub once : Distinct (map position accesses)
