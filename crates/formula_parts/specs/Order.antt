-- A total order of accesses, and how the literals of a table spell it as far as accesses have places there.
use Rattle.std.specs.Prelude.{◌≡◌, ◌≢◌, ℕ, ◌<◌, Bool, true, List}
use Rattle.elf_image.specs.Layout.{Layout}
use Rattle.odr_log.specs.declared.log.Log.{Log}
use Rattle.bv_terms.specs.Shapes.{Shape}
use Rattle.clause_store.specs.Literals.{Assignment}
use Rattle.clause_store.specs.UnitRule.{Partial}
use Rattle.order_clauses.specs.declared.order_lit.OrderLit.{OrderLit}
use Rattle.order_clauses.specs.declared.table.Table.{Table}
use Rattle.order_clauses.specs.Grid.{IsSquare, KnowsTable, lit_in}
use Rattle.order_clauses.specs.Literals.{spelled}
use Rattle.order_clauses.specs.Orders.{IsStrict}
use Rattle.source_clauses.specs.Conditions.{IsDecided}
use Rattle.thread_terms.specs.declared.access.Access.{Access}
use Rattle.fixed_reads.specs.Shapes.{IsTotalOf}

-- A table, which accesses have a place in it, the place of each of these, and the access at each place.
pub record Places : Type 0 where
  pub table : Table
  pub chosen : ℕ → Bool
  pub place : ℕ → ℕ
  pub access : ℕ → ℕ

-- The accesses of a log's paths, as terms among these nodes, and their places in a table.
pub record Setting : Type 0 where
  pub image : Layout
  pub log : Log
  pub nodes : List Shape
  pub accesses : List Access
  pub places : Places

-- an access is at a place of the table
pub record IsAt (count : ℕ) (places : Places) (i : ℕ) : Type 0 where
  pub there : places.access i < count
  pub chosen : places.chosen (places.access i) ≡ true
  pub place : places.place (places.access i) ≡ i

-- Each place of the table is that of one of so many accesses, and its literals are of so many variables.
pub record ArePlaces (count vars : ℕ) (places : Places) : Type 0 where
  pub square : IsSquare places.table
  pub known : KnowsTable vars places.table
  pub within : (x : ℕ) → places.chosen x ≡ true → places.place x < places.table.count
  pub own : (x y : ℕ) → places.chosen x ≡ true → places.chosen y ≡ true → places.place x ≡ places.place y → x ≡ y
  pub each : (i : ℕ) → i < places.table.count → IsAt count places i

-- a strict total order of accesses that agrees with the recorded order
pub record IsOrder (log : Log) (accesses : List Access) (lt : ℕ → ℕ → Bool) : Type 0 where
  pub strict : IsStrict lt
  pub total : IsTotalOf log accesses lt

-- what stands for an access before another
abbrev pub lit_between : Places → ℕ → ℕ → OrderLit
lit_between places x y = lit_in places.table (places.place x) (places.place y)

-- the literals say of each two accesses that have places which one stands before the other
abbrev pub SpellsOrder : Assignment → Places → (ℕ → ℕ → Bool) → Type 0
SpellsOrder w places lt =
    (x y : ℕ) → places.chosen x ≡ true → places.chosen y ≡ true → x ≢ y → spelled w (lit_between places x y) ≡ lt x y

-- the values of some variables say it
abbrev pub DecidesOrder : Partial → Places → (ℕ → ℕ → Bool) → Type 0
DecidesOrder v places lt =
    (x y : ℕ) → places.chosen x ≡ true → places.chosen y ≡ true → x ≢ y → IsDecided v (lit_between places x y) (lt x y)
