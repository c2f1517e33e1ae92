-- Conditions that say of each candidate whether it stands before the reader and hits.
use Rattle.std.specs.Prelude.{◌≡◌, ℕ, ◌<◌, ◌≤◌, ◌&&◌, Bool, true, IsSome, List, length}
use Rattle.clause_store.specs.Literals.{Assignment, Satisfies}
use Rattle.clause_store.specs.UnitRule.{Partial, AllAtRest}
use Rattle.clause_store.specs.Formula.{Formula, Grows, Extension}
use Rattle.order_clauses.specs.declared.order_lit.OrderLit.{OrderLit}
use Rattle.order_clauses.specs.declared.table.Table.{Table}
use Rattle.order_clauses.specs.Literals.{spelled}
use Rattle.order_clauses.specs.Grid.{IsKnownOrder}
use Rattle.source_clauses.specs.declared.reader.Reader.{Reader}
use Rattle.source_clauses.specs.Conditions.{IsDecided}
use Rattle.source_clauses.specs.Sees.{before_reader, candidate_at, is_older}
use Rattle.source_clauses.specs.Clauses.{older_at}

-- those of the first candidates
pub record AreOlders (old new : Formula) (table : Table) (reader : Reader) (count : ℕ) (olders : List OrderLit) : Type 0 where
  pub counted : length olders ≡ count
  pub grows : Grows old new
  pub known : (i : ℕ) → i < count → IsKnownOrder new.vars (older_at olders i)
  pub has_value : (w : Assignment) → Satisfies w new.clauses → (i : ℕ) → i < count → spelled w (older_at olders i) ≡ is_older w table reader i
  pub extends : (w : Assignment) → Satisfies w old.clauses → Extension old.vars w new.clauses
  pub given : (v : Partial) (a b : Bool) → AllAtRest v new.clauses → (i : ℕ) → i < count → IsDecided v (before_reader table reader i) a
      → (a ≡ true → IsDecided v (candidate_at reader.candidates i).hit b) → IsDecided v (older_at olders i) (a && b)
  pub decides : (v : Partial) → ((i : ℕ) → i < count → (b : Bool) × IsDecided v (older_at olders i) b) → (x : ℕ) → old.vars ≤ x → x < new.vars → IsSome (v x)
