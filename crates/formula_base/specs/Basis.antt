-- What is known of the accesses of a log's paths, with the clauses of their order: a setting in which parts can be added.
use Rattle.std.specs.Prelude.{◌≡◌, ℕ, ◌+◌, ◌<◌, true, List, Contains, length}
use Rattle.elf_image.specs.Layout.{Layout}
use Rattle.odr_log.specs.Grammar.{IsValid}
use Rattle.odr_log.specs.declared.log.Log.{Log}
use Rattle.odr_log.specs.declared.log.Pos.{Pos}
use Rattle.rv_model.specs.CallsFit.{CallsFit}
use Rattle.rv_model.specs.Walk.{IsWalk, Walk}
use Rattle.order_vars.specs.Chosen.{PairsAreOpen}
use Rattle.bv_terms.specs.Shapes.{Shape}
use Rattle.clause_store.specs.Formula.{Formula}
use Rattle.path_exec.specs.declared.paths.Paths.{Paths}
use Rattle.path_exec.specs.Paths.{ArePaths}
use Rattle.term_sources.specs.Explains.{AreTerms}
use Rattle.term_sources.specs.Sees.{access_at}
use Rattle.formula_parts.specs.Order.{ArePlaces, Setting}
use Rattle.order_places.specs.Placed.{IsPlaced, places_in}
use Rattle.formula_facts.specs.declared.known.Known.{Known}
use Rattle.formula_facts.specs.Known.{IsKnownIn}

-- Symbolic paths of a valid log that has a walk, and whose calls fit.
pub record HasPaths (image : Layout) (log : Log) (walk : Walk) (nodes : List Shape) (paths : Paths) : Type 0 where
  pub is_walk : IsWalk image log walk
  pub fits : CallsFit log
  pub valid : IsValid log
  pub are : ArePaths image log walk nodes paths

-- the accesses of these paths, with places by what is known of them
abbrev pub setting_of : Layout → Log → List Shape → Known → (access : ℕ → ℕ) → Setting
setting_of image log nodes known access =
    record { image = image; log = log; nodes = nodes; accesses = known.accesses; places = places_in known.vars.ordered known.places access }

-- each access at one of some steps has a place
abbrev pub HavePlaces : Setting → List Pos → Type 0
HavePlaces setting steps =
    (x : ℕ) → x < length setting.accesses → Contains steps (access_at setting.accesses x).pos → setting.places.chosen x ≡ true

-- What is known of accesses is so in their setting, and clauses that were added say the order of those that have places, by one
-- variable for each open pair; all that need an order have a place, and those at other steps that are asked for.
pub record IsBase (image : Layout) (log : Log) (nodes : List Shape) (also : List Pos) (known : Known) (old new : Formula) : Type 0 where
  pub access : ℕ → ℕ
  pub is : IsKnownIn (setting_of image log nodes known access) known
  pub terms : AreTerms nodes known.accesses
  pub asked : HavePlaces (setting_of image log nodes known access) also
  pub placed : IsPlaced log known.accesses known.vars.chosen known.places known.vars.ordered old new
  pub places : ArePlaces (length known.accesses) new.vars (places_in known.vars.ordered known.places access)
  pub pairs_open : PairsAreOpen log known.vars.chosen known.vars.ordered
  pub vars : new.vars ≡ old.vars + length known.vars.ordered.table.pairs
