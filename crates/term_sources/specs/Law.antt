-- What terms see in an order is what fits the order.
use Rattle.std.specs.Prelude.{◌≡◌, ◌↔◌, ℕ, ◌<◌, ◌^◌, Bool, true, List, length, map, Some}
use Rattle.elf_image.specs.Layout.{Layout}
use Rattle.odr_log.specs.declared.log.Log.{Log}
use Rattle.odr_log.specs.declared.log.Pos.{Pos}
use Rattle.rv_model.specs.CallsFit.{CallsFit}
use Rattle.rv_model.specs.Walk.{IsWalk, Walk}
use Rattle.bv_terms.specs.Shapes.{Shape}
use Rattle.bv_terms.specs.Values.{Assignment}
use Rattle.guided_walk.specs.Guided.{IsGuided, Visits}
use Rattle.guided_walk.specs.Orders.{Stands}
use Rattle.guided_walk.specs.Told.{told}
use Rattle.thread_terms.specs.declared.access.Access.{Access}
use Rattle.thread_terms.specs.Given.{given_by}
use Rattle.thread_terms.specs.Variables.{step_number}
use Rattle.access_fits.specs.Fitting.{FitsOrder}
use Rattle.path_exec.specs.declared.paths.Paths.{Paths}
use Rattle.path_exec.specs.Paths.{ArePaths, position}
use Rattle.term_sources.specs.Sees.{IsSeen, access_at, address_value, guard_value}

-- an order of accesses by their numbers is the one in which they stand among steps
abbrev pub IsOrderBy : List Access → List Pos → (ℕ → ℕ → Bool) → Type 0
IsOrderBy accesses steps lt =
    (x y : ℕ) → x < length accesses → y < length accesses → (lt x y ≡ true) ↔ Stands steps (access_at accesses x).pos (access_at accesses y).pos

-- addresses are words
abbrev pub AreWords : Assignment → List Shape → List Access → Type 0
AreWords t nodes accesses = (x : ℕ) → x < length accesses → address_value t nodes (access_at accesses x) < 2 ^ 32

-- the guard of a store-conditional that looks back is its outcome's variable
abbrev pub AreOutcomes : Assignment → List Shape → List Access → Type 0
AreOutcomes t nodes accesses =
    (x lr : ℕ) → x < length accesses → (access_at accesses x).link ≡ Some lr
    → guard_value t nodes (access_at accesses x) ≡ t.value_of 1 (step_number (access_at accesses x).pos.thread (access_at accesses x).pos.step)

-- What an assignment gives to a guided walk fits the order of the accesses among steps exactly where, by the values of the terms,
-- each access is what it sees in that order.
abbrev pub TermsFit : Type 0
TermsFit = (image : Layout) (log : Log) (walk : Walk) (nodes : List Shape) (paths : Paths) (t : Assignment) (visits : Visits)
    (steps : List Pos) (lt : ℕ → ℕ → Bool) → IsWalk image log walk → CallsFit log → ArePaths image log walk nodes paths
    → IsGuided image (told log walk) (given_by t) visits → AreWords t nodes paths.accesses → AreOutcomes t nodes paths.accesses
    → IsOrderBy paths.accesses steps lt
    → FitsOrder image (given_by t) visits (map position paths.accesses) (Stands steps)
    ↔ ((x : ℕ) → x < length paths.accesses → IsSeen image t nodes paths.accesses lt x)
