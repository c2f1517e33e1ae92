-- Clauses that watch two of their literals, and stand in the row of each.
use Rattle.std.specs.Prelude.{◌≡◌, ◌≢◌, ◌⊎◌, ◌≤◌, ◌<◌, ◌+◌, ◌-◌, ◌*◌, ◌^◌, ℕ, Some, None, List, [], ◌∷◌, ◌++◌, length, take, map, slice_get, slice_set, slice_range, slice_index_or, All, Any, Contains}
use Rattle.clause_store.specs.declared.lit.Lit.{Lit}
use Rattle.clause_store.specs.Formula.{IsKnown}
use Rattle.clause_store.specs.UnitRule.{Partial, MakesTrue, MakesFalse}
use Rattle.sat_trail.specs.declared.step.Step.{Step}
use Rattle.sat_trail.specs.declared.watcher.Entry.{Entry}
use Rattle.sat_trail.specs.declared.watcher.Pair.{Pair}
use Rattle.sat_trail.specs.declared.watcher.Watcher.{Watcher}
use Rattle.sat_trail.specs.Packing.{place_of}
use Rattle.sat_trail.specs.Paths.{value_in}

-- the clauses, what each of them watches, and the row of each literal
pub record Watched : Type 0 where
  pub vars : ℕ
  pub clauses : List (List Lit)
  pub pairs : List Pair
  pub rows : List (List Watcher)

abbrev pub clauses_of : List Lit → List Entry → List (List Lit)
clauses_of literals entries = map (λ (e : Entry). slice_range literals e.start e.end) entries

abbrev pub pairs_of : List Entry → List Pair
pairs_of entries = map (λ (e : Entry). e.pair) entries

abbrev pub row_in : List (List Watcher) → Lit → List Watcher
row_in rows l = slice_index_or rows (place_of l) []

abbrev pub row_of : Watched → Lit → List Watcher
row_of w l = row_in w.rows l

abbrev pub IsOneOf : Pair → Lit → Type 0
IsOneOf pair l = (l ≡ pair.one) ⊎ (l ≡ pair.two)

-- two literals of the clause that differ, or its only one
pub record IsPairOf (clause : List Lit) (pair : Pair) : Type 0 where
  pub one : Contains clause pair.one
  pub two : Contains clause pair.two
  pub alone : pair.one ≡ pair.two → (k : Lit) → Contains clause k → k ≡ pair.one

-- from this place on the row lists the clause
pub record ListsFrom (start : ℕ) (row : List Watcher) (c : ℕ) : Type 0 where
  pub place : ℕ
  pub watcher : Watcher
  pub low : start ≤ place
  pub found : slice_get row place ≡ Some watcher
  pub named : watcher.clause ≡ c

-- a clause of this number has the literal
pub record HasLiteral (clauses : List (List Lit)) (c : ℕ) (l : Lit) : Type 0 where
  pub clause : List Lit
  pub found : slice_get clauses c ≡ Some clause
  pub listed : Contains clause l

-- each clause stands in the row of each literal that it watches
pub record IsIndexed (w : Watched) : Type 0 where
  pub fits : w.vars < 2 ^ 31
  pub few : length w.clauses ≤ 2 ^ 31
  pub all_rows : length w.rows ≡ 2 * w.vars
  pub even : length w.pairs ≡ length w.clauses
  pub known : All (IsKnown w.vars) w.clauses
  pub paired : (c : ℕ) (clause : List Lit) (pair : Pair) → slice_get w.clauses c ≡ Some clause → slice_get w.pairs c ≡ Some pair → IsPairOf clause pair
  pub complete : (c : ℕ) (pair : Pair) (l : Lit) → slice_get w.pairs c ≡ Some pair → IsOneOf pair l → ListsFrom 0 (row_in w.rows l) c
  pub sound : (l : Lit) (i : ℕ) (x : Watcher) → slice_get (row_in w.rows l) i ≡ Some x → HasLiteral w.clauses x.clause x.blocker

-- literals side by side, entries that bound the clauses in them, and rows
pub record IsIndex (vars : ℕ) (literals : List Lit) (entries : List Entry) (rows : List (List Watcher)) : Type 0 where
  pub bounds : (c : ℕ) (e : Entry) → slice_get entries c ≡ Some e → (e.start ≤ e.end) × (e.end ≤ length literals)
  pub indexed : IsIndexed record { vars = vars; clauses = clauses_of literals entries; pairs = pairs_of entries; rows = rows }

-- no clause yet
pub record IsStart (vars : ℕ) (w : Watched) : Type 0 where
  pub same_vars : w.vars ≡ vars
  pub no_clauses : w.clauses ≡ []
  pub no_pairs : w.pairs ≡ []

-- one clause more
pub record WithWatched (old new : Watched) (clause : List Lit) (pair : Pair) : Type 0 where
  pub same_vars : new.vars ≡ old.vars
  pub more_clauses : new.clauses ≡ old.clauses ++ clause ∷ []
  pub more_pairs : new.pairs ≡ old.pairs ++ pair ∷ []

-- the row without the watcher at a place, which the last one takes
pub record IsWithout (old new : List Watcher) (gap : ℕ) : Type 0 where
  pub shorter : length new + 1 ≡ length old
  pub others : (k : ℕ) → k ≢ gap → k + 1 < length old → slice_get new k ≡ slice_get old k
  pub moved : gap + 1 < length old → slice_get new gap ≡ slice_get old (length old - 1)

-- one row without the watcher at a place
pub record IsDropped (old new : List (List Watcher)) (place gap : ℕ) : Type 0 where
  pub row : List Watcher
  pub rest : new ≡ slice_set old place row
  pub without : IsWithout (slice_index_or old place []) row gap

-- one clause watches other literals
pub record IsWritten (old new : List Entry) (c : ℕ) (pair : Pair) : Type 0 where
  pub entry : Entry
  pub found : slice_get old c ≡ Some entry
  pub rest : new ≡ slice_set old c record { start = entry.start; end = entry.end; pair = pair }

-- the pair is of these two, in this or the other order
abbrev pub IsBoth : Pair → Lit → Lit → Type 0
IsBoth pair a b = ((pair.one ≡ a) × (pair.two ≡ b)) ⊎ ((pair.two ≡ a) × (pair.one ≡ b))

-- the clause at a place of the row has this literal
pub record CanBlock (w : Watched) (from : Lit) (gap c : ℕ) (l : Lit) : Type 0 where
  pub known : from.var < w.vars
  pub watcher : Watcher
  pub found : slice_get (row_in w.rows from) gap ≡ Some watcher
  pub named : watcher.clause ≡ c
  pub has : HasLiteral w.clauses c l

-- the same but for blockers in one row
pub record IsBlocked (old new : Watched) (from : Lit) : Type 0 where
  pub same_vars : new.vars ≡ old.vars
  pub same_clauses : new.clauses ≡ old.clauses
  pub same_pairs : new.pairs ≡ old.pairs
  pub same_length : length (row_in new.rows from) ≡ length (row_in old.rows from)
  pub still : (start d : ℕ) → ListsFrom start (row_in old.rows from) d → ListsFrom start (row_in new.rows from) d

-- the clause at a place of the row watches the row's literal and another, and has a third one
pub record CanMove (w : Watched) (from : Lit) (gap c : ℕ) (stay to : Lit) : Type 0 where
  pub watcher : Watcher
  pub found : slice_get (row_in w.rows from) gap ≡ Some watcher
  pub named : watcher.clause ≡ c
  pub pair : Pair
  pub paired : slice_get w.pairs c ≡ Some pair
  pub both : IsBoth pair from stay
  pub clause : List Lit
  pub numbered : slice_get w.clauses c ≡ Some clause
  pub listed : Contains clause to
  pub differs : to ≢ stay
  pub moves : to ≢ from

abbrev pub pair_of : Lit → Lit → Pair
pair_of a b = record { one = a; two = b }

-- the clause watches the third literal in place of the row's, and the row is one shorter
pub record IsMoved (old new : Watched) (from : Lit) (gap c : ℕ) (stay to : Lit) : Type 0 where
  pub same_vars : new.vars ≡ old.vars
  pub same_clauses : new.clauses ≡ old.clauses
  pub changed : new.pairs ≡ slice_set old.pairs c (pair_of to stay)
  pub shorter : length (row_in new.rows from) + 1 ≡ length (row_in old.rows from)
  pub still : (d : ℕ) → d ≢ c → ListsFrom gap (row_in old.rows from) d → ListsFrom gap (row_in new.rows from) d

-- where a watched literal is false in the first values, the clause is true in the second
pub record IsSafe (v w : Partial) (clause : List Lit) (pair : Pair) : Type 0 where
  pub watched : (l : Lit) → IsOneOf pair l → MakesFalse v l → Any (MakesTrue w) clause
  pub alone : pair.one ≡ pair.two → Any (MakesTrue w) clause

abbrev pub AllSafe : Partial → Partial → List (List Lit) → List Pair → Type 0
AllSafe v w clauses pairs =
    (c : ℕ) (clause : List Lit) (pair : Pair) → slice_get clauses c ≡ Some clause → slice_get pairs c ≡ Some pair → IsSafe v w clause pair

-- A clause whose watched literal is false in the first steps is true in all of them. Two fronts: a blocker may be
-- true by a step that wasn't looked at yet. The same held before each decision, so taking steps back costs nothing.
pub record IsWatching (clauses : List (List Lit)) (pairs : List Pair) (steps : List Step) (next : ℕ) : Type 0 where
  pub now : AllSafe (value_in (take next steps)) (value_in steps) clauses pairs
  pub before : (p : ℕ) (s : Step) → slice_get steps p ≡ Some s → s.reason ≡ None → AllSafe (value_in (take p steps)) (value_in (take p steps)) clauses pairs
