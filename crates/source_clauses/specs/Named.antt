-- What the clauses of a reader name.
use Rattle.std.specs.Prelude.{◌≡◌, ◌⊎◌, ℕ, ◌<◌, ◌+◌, List, length}
use Rattle.clause_store.specs.declared.lit.Lit.{Lit}
use Rattle.order_clauses.specs.declared.table.Table.{Table}
use Rattle.order_clauses.specs.Grid.{IsKnownOrder}
use Rattle.source_clauses.specs.declared.reader.Reader.{Reader}
use Rattle.source_clauses.specs.declared.named.Named.{Named}
use Rattle.source_clauses.specs.Clauses.{selection_at, older_at, AreNexts, OlderClause, NewestClause, UnwrittenClause, WrittenBits, Copied}

-- a known selection of each candidate and of the initial bits, a known condition and maybe a next one of each candidate
pub record KnowsNamed (vars : ℕ) (table : Table) (reader : Reader) (named : Named) : Type 0 where
  pub selected_counted : length named.selected ≡ length reader.candidates + 1
  pub selected : (i : ℕ) → i < length reader.candidates + 1 → (selection_at named.selected i).var < vars
  pub olders_counted : length named.olders ≡ length reader.candidates
  pub olders : (i : ℕ) → i < length reader.candidates → IsKnownOrder vars (older_at named.olders i)
  pub nexts : AreNexts table reader.candidates (length reader.candidates) named.nexts

-- the clauses of a reader: some source is selected, and what follows of each
abbrev pub ReaderClause : Table → Reader → Named → List Lit → Type 0
ReaderClause table reader named c =
    (c ≡ named.selected)
    ⊎ (OlderClause (length reader.candidates) named.selected named.olders c
    ⊎ (NewestClause table reader.candidates named.nexts named.selected named.olders c
    ⊎ (UnwrittenClause (length reader.candidates) (selection_at named.selected (length reader.candidates)) named.olders c
    ⊎ (WrittenBits reader named.selected c
    ⊎ Copied (selection_at named.selected (length reader.candidates)) reader.initial reader.read c))))
