-- The clauses of one reader.
use Rattle.std.specs.Prelude.{◌≡◌, ℕ, ◌<◌, ◌+◌, Bool, true, false, not, ◌&&◌, nat_eq, if◌then◌else◌, Option, Some, None, List, [], ◌∷◌, ◌++◌, length, get_or, Contains, IfSome}
use Rattle.clause_store.specs.declared.lit.Lit.{Lit}
use Rattle.clause_store.specs.Literals.{opposite}
use Rattle.order_clauses.specs.declared.order_lit.OrderLit.{OrderLit}
use Rattle.order_clauses.specs.declared.order_lit.OrderLit.TheVariants as order_lit
use Rattle.order_clauses.specs.declared.table.Table.{Table}
use Rattle.order_clauses.specs.Clauses.{Below}
use Rattle.order_clauses.specs.Grid.{lit_in}
use Rattle.source_clauses.specs.declared.reader.Candidate.{Candidate}
use Rattle.source_clauses.specs.declared.reader.Reader.{Reader}
use Rattle.source_clauses.specs.Sees.{candidate_at, bit_at, between}

-- where the selection is true, the condition is

abbrev pub implied_surely : Lit → OrderLit → List (List Lit)
implied_surely selection order_lit.Always = []
implied_surely selection order_lit.Never = (opposite selection ∷ []) ∷ []
implied_surely selection (order_lit.Is l) = (opposite selection ∷ l ∷ []) ∷ []

-- where the selection and a literal are true, the condition is
abbrev pub implied_where : Lit → Lit → OrderLit → List (List Lit)
implied_where selection given order_lit.Always = []
implied_where selection given order_lit.Never = (opposite selection ∷ opposite given ∷ []) ∷ []
implied_where selection given (order_lit.Is l) = (opposite selection ∷ opposite given ∷ l ∷ []) ∷ []

-- where the selection and the given condition are true, the other condition is
abbrev pub implied : Lit → OrderLit → OrderLit → List (List Lit)
implied selection order_lit.Never follows = []
implied selection order_lit.Always follows = implied_surely selection follows
implied selection (order_lit.Is given) follows = implied_where selection given follows

-- where the selection is true, two bits are the same
abbrev pub copied : Lit → Lit → Lit → List (List Lit)
copied selection bit read =
    implied selection (order_lit.Is bit) (order_lit.Is read)
    ++ implied selection (order_lit.Is (opposite bit)) (order_lit.Is (opposite read))

-- the clauses of each bit
abbrev pub Copied : Lit → List Lit → List Lit → List Lit → Type 0
Copied selection bits read = Below (length read) (λ b. Contains (copied selection (bit_at bits b) (bit_at read b)))

-- the selection of each source: a new variable each
abbrev pub selection_at : List Lit → ℕ → Lit
selection_at selected i = bit_at selected i

pub record AreSelected (first count : ℕ) (selected : List Lit) : Type 0 where
  pub counted : length selected ≡ count
  pub each : (i : ℕ) → i < count → selection_at selected i ≡ record { var = first + i; positive = true }

abbrev pub older_at : List OrderLit → ℕ → OrderLit
older_at olders i = get_or olders i order_lit.Always

abbrev pub next_at : List (Option ℕ) → ℕ → Option ℕ
next_at nexts i = get_or nexts i None

abbrev pub is_always : OrderLit → Bool
is_always order_lit.Always = true
is_always order_lit.Never = false
is_always (order_lit.Is l) = false

-- a candidate that always hits, if it is before the reader, and never stands before candidate i
pub record IsNext (table : Table) (candidates : List Candidate) (i k : ℕ) : Type 0 where
  pub within : k < length candidates
  pub hits : (candidate_at candidates k).hit ≡ order_lit.Always
  pub after : between table candidates k i ≡ order_lit.Never
  pub differs : i < k

pub record AreNexts (table : Table) (candidates : List Candidate) (count : ℕ) (nexts : List (Option ℕ)) : Type 0 where
  pub counted : length nexts ≡ count
  pub each : (i : ℕ) → i < count → IfSome (next_at nexts i) (IsNext table candidates i)

-- the next one is recorded to stand before candidate j
abbrev pub is_covered : Table → List Candidate → Option ℕ → ℕ → Bool
is_covered table candidates None j = false
is_covered table candidates (Some k) j = is_always (lit_in table (candidate_at candidates k).at (candidate_at candidates j).at)

-- two candidates differ, and the second one isn't covered
abbrev pub is_apart : Table → List Candidate → Option ℕ → ℕ → ℕ → Bool
is_apart table candidates next i j = not (nat_eq i j) && not (is_covered table candidates next j)

-- Where candidate i is selected and candidate j is older than the reader, j stands before i.
abbrev pub newest : Table → List Candidate → List (Option ℕ) → List Lit → List OrderLit → ℕ → ℕ → List (List Lit)
newest table candidates nexts selected olders i j =
    if is_apart table candidates (next_at nexts i) i j
    then implied (selection_at selected i) (older_at olders j) (between table candidates j i)
    else []

abbrev pub OlderClause : ℕ → List Lit → List OrderLit → List Lit → Type 0
OlderClause n selected olders = Below n (λ i. Contains (implied (selection_at selected i) order_lit.Always (older_at olders i)))

abbrev pub NewestOf : Table → List Candidate → List (Option ℕ) → List Lit → List OrderLit → ℕ → List Lit → Type 0
NewestOf table candidates nexts selected olders i = Below (length candidates) (λ j. Contains (newest table candidates nexts selected olders i j))

abbrev pub NewestClause : Table → List Candidate → List (Option ℕ) → List Lit → List OrderLit → List Lit → Type 0
NewestClause table candidates nexts selected olders = Below (length candidates) (λ i. NewestOf table candidates nexts selected olders i)

-- where the initial bits are selected, no candidate is older than the reader
abbrev pub UnwrittenClause : ℕ → Lit → List OrderLit → List Lit → Type 0
UnwrittenClause n selection olders = Below n (λ j. Contains (implied selection (older_at olders j) order_lit.Never))

abbrev pub WrittenBits : Reader → List Lit → List Lit → Type 0
WrittenBits reader selected =
    Below (length reader.candidates) (λ i. Copied (selection_at selected i) (candidate_at reader.candidates i).bits reader.read)
