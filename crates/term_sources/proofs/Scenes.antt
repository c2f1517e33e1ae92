-- What is known of symbolic paths, of a guided walk by an assignment, and of an order of its accesses.
use Rattle.std.specs.Prelude.{ℕ, ◌<◌, Bool, List, length, map}
use Rattle.elf_image.specs.Layout.{Layout}
use Rattle.odr_log.specs.declared.log.Log.{Log}
use Rattle.odr_log.specs.declared.log.Pos.{Pos}
use Rattle.rv_model.specs.CallsFit.{CallsFit}
use Rattle.rv_model.specs.Walk.{IsWalk, Walk}
use Rattle.bv_terms.specs.Shapes.{Shape}
use Rattle.bv_terms.specs.Values.{Assignment}
use Rattle.guided_walk.specs.Guided.{IsGuided, Visits, at}
use Rattle.guided_walk.specs.Told.{told}
use Rattle.thread_terms.specs.declared.access.Access.{Access}
use Rattle.thread_terms.specs.Given.{given_by}
use Rattle.path_exec.specs.declared.paths.Paths.{Paths}
use Rattle.path_exec.specs.Paths.{ArePaths, IsListed, IsShown, position}
use Rattle.term_sources.specs.Sees.{access_at, no_access}
use Rattle.term_sources.specs.Law.{AreOutcomes, AreWords, IsOrderBy}

-- what is known of the paths, and of an order
pub record Scene : Type 0 where
  pub image : Layout
  pub log : Log
  pub walk : Walk
  pub nodes : List Shape
  pub paths : Paths
  pub t : Assignment
  pub visits : Visits
  pub steps : List Pos
  pub lt : ℕ → ℕ → Bool
  pub is : IsWalk image log walk
  pub fits : CallsFit log
  pub are : ArePaths image log walk nodes paths
  pub guided : IsGuided image (told log walk) (given_by t) visits
  pub words : AreWords t nodes paths.accesses
  pub outcomes : AreOutcomes t nodes paths.accesses
  pub order : IsOrderBy paths.accesses steps lt

abbrev pub here : Scene → ℕ → Access
here s x = access_at s.paths.accesses x

abbrev pub count : Scene → ℕ
count s = length s.paths.accesses

abbrev pub positions : Scene → List Pos
positions s = map position s.paths.accesses

pub shown : (s : Scene) (x : ℕ) → x < count s → IsShown s.image s.t s.nodes (here s x) (at s.visits (here s x).pos)
shown s x less = s.are.shows s.t s.visits s.guided x no_access less

pub listed : (s : Scene) (x : ℕ) → x < count s → IsListed s.log s.walk s.nodes s.paths.accesses (here s x)
listed s x less = s.are.each x no_access less
