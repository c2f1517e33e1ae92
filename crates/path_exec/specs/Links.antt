-- The load-reserved that a store-conditional looks back to, among the accesses.
use Rattle.std.specs.Prelude.{◌≡◌, ℕ, List, slice_get, Option, Some, None}
use Rattle.odr_log.specs.declared.log.Pos.{Pos}
use Rattle.thread_terms.specs.declared.access.Access.{Access}
unfoldable pub use Rattle.walk_facts.specs.Links.{link_after}
pub use Rattle.walk_facts.specs.Links.{looks_back}

-- the load-reserved of a link, by its place among the accesses, is this step of the thread
abbrev pub LinksTo : List Access → (thread : ℕ) → (place step : Option ℕ) → Type 0
LinksTo accesses thread None None = Unit {0}
LinksTo accesses thread (Some place) (Some step) =
    (lr : Access) × (slice_get accesses place ≡ Some lr) × (lr.pos ≡ (let p : Pos = record { thread = thread; step = step } in p))
LinksTo accesses thread None (Some step) = ⊥
LinksTo accesses thread (Some place) None = ⊥
