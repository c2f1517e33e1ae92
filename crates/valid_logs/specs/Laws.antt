-- What valid logs have.
use Rattle.std.specs.Prelude.{ℕ, ◌<◌, ◌^◌, List, length, Option}
use Rattle.elf_image.specs.Layout.{IsSound, Layout}
use Rattle.odr_log.specs.Grammar.{IsValid}
use Rattle.odr_log.specs.declared.log.Log.{Log}
use Rattle.odr_log.specs.declared.log.Pos.{Pos}
use Rattle.rv_model.specs.Walk.{IsWalk, Walk}
use Rattle.bv_terms.specs.Shapes.{Shape}
use Rattle.order_clauses.specs.declared.ordered.OrderedTable.{OrderedTable}
use Rattle.encoder.specs.declared.encoder.Encoder.{Encoder}
use Rattle.walk_facts.specs.Givens.{ReadsBytes}
use Rattle.thread_terms.specs.declared.access.Access.{Access}
use Rattle.path_exec.specs.declared.paths.Paths.{Paths}
use Rattle.path_exec.specs.Paths.{IsListed}
use Rattle.term_sources.specs.Explains.{AreTerms, HasFewSteps}
use Rattle.formula_parts.specs.Order.{Setting}
use Rattle.formula_parts.specs.Facts.{Fact}
use Rattle.stands_for.specs.Law.{HasOrder, order_of}
use Rattle.stands_for.specs.Stands.{StandsFor}
use Rattle.stands_for.specs.Whole.{IsWhole}

abbrev pub ValidLogsReadBytes : Type 0
ValidLogsReadBytes = (log : Log) → IsValid log → ReadsBytes log

abbrev pub ValidLogsHaveFewSteps : Type 0
ValidLogsHaveFewSteps = (log : Log) → IsValid log → HasFewSteps log

-- an access has fewer bytes than a text may have
pub record IsShort (access : Access) : Type 0 where
  pub reads : length access.reads < 2 ^ 16
  pub writes : length access.writes < 2 ^ 16

abbrev pub ValidAccessesAreShort : Type 0
ValidAccessesAreShort = (image : Layout) (log : Log) (walk : Walk) (nodes : List Shape) (accesses : List Access) (access : Access)
    → IsWalk image log walk → IsValid log → IsListed log walk nodes accesses access → IsShort access

-- A whole formula of a sound image and a valid log stands for them.
abbrev pub ValidFormulasStand : Type 0
ValidFormulasStand =
    (setting : Setting) (walk : Walk) (paths : Paths) (base last : Encoder) (facts : List Fact) (chosen : List Pos) (at : List (Option ℕ))
    (ordered : OrderedTable) (access : ℕ → ℕ) → IsWhole setting walk paths base last facts → HasOrder setting chosen at ordered access base
    → IsSound setting.image → IsValid setting.log → AreTerms setting.nodes setting.accesses
    → StandsFor setting.image setting.log last.clauses.clauses (order_of chosen ordered)
