-- A watcher with another blocker.
use Rattle.std.proofs.Common.{◌≡◌, ◌≢◌, ℕ, ◌<◌, ◌⊎◌, ◌+◌, Some, List, [], set, length, slice_get, refl, sym, ◌∙◌, ap, subst, inl, inr, arith}
use Rattle.std.specs.Prelude.{Any, Contains}
use Rattle.std.proofs.lemmas.Bool.{cases_eq}
use Rattle.std.proofs.lemmas.Option.{same_Some, slice_get_within}
use Rattle.std.proofs.lemmas.List.{length-set, get_or-set_same, get_or-set_other}
use Rattle.clause_store.specs.declared.lit.Lit.{Lit}
use Rattle.clause_store.specs.UnitRule.{Partial, MakesTrue}
use Rattle.clause_store.proofs.Members.{Any-from_contains}
use Rattle.sat_trail.specs.declared.watcher.Entry.{Entry}
use Rattle.sat_trail.specs.declared.watcher.Pair.{Pair}
use Rattle.sat_trail.specs.declared.watcher.Watcher.{Watcher}
use Rattle.sat_trail.specs.Packing.{place_of}
use Rattle.sat_trail.specs.Paths.{Path, IsWalk, value_in}
use Rattle.sat_trail.specs.Watching.{Watched, clauses_of, pairs_of, row_in, ListsFrom, HasLiteral, IsIndexed, IsIndex, IsWatching, CanBlock, IsBlocked, CanMove}
use Rattle.sat_trail.specs.Visits.{CanKeep, IsEngine, IsHalf}
use Rattle.sat_trail.proofs.Listing.{get-set_same, get-set_other, get-set_at, place-one}
use Rattle.sat_trail.proofs.Adding.{place-below}
use Rattle.sat_trail.proofs.RowVisits.{half-keep}

abbrev watched : ℕ → List (List Lit) → List Pair → List (List Watcher) → Watched
watched vars clauses pairs rows = record { vars = vars; clauses = clauses; pairs = pairs; rows = rows }

abbrev watcher : ℕ → Lit → Watcher
watcher c l = record { clause = c; blocker = l }

-- a clause with a true third literal
pub block-third : (w : Watched) (v : Partial) (from : Lit) (gap c : ℕ) (stay to : Lit) → from.var < w.vars → CanMove w from gap c stay to → MakesTrue v to → CanKeep w v from gap × CanBlock w from gap c to
block-third w v from gap c stay to known can holds = (
  record {
    watcher = can.watcher;
    found = can.found;
    holds = λ clause pair numbered paired one.
        Any-from_contains (MakesTrue v) clause to
        (subst (λ (d : List Lit). Contains d to) (same_Some can.clause clause (sym can.numbered ∙ subst (λ (n : ℕ). slice_get w.clauses n ≡ Some clause) can.named numbered)) can.listed) holds;
  },
  record { known = known; watcher = can.watcher; found = can.found; named = can.named; has = record { clause = can.clause; found = can.numbered; listed = can.listed } },
)

-- what a row lists with one watcher of the same clause written in it
lists-written : (row : List Watcher) (gap start d : ℕ) (x y : Watcher) → slice_get row gap ≡ Some y → y.clause ≡ x.clause → ListsFrom start row d → ListsFrom start (set row gap x) d
lists-written row gap start d x y found same lists = go (cases_eq lists.place gap)
  where
    go : (lists.place ≡ gap) ⊎ (lists.place ≡ gap → ⊥) → ListsFrom start (set row gap x) d
    go (inl here) =
        let one : y ≡ lists.watcher = same_Some y lists.watcher (sym found ∙ subst (λ (n : ℕ). slice_get row n ≡ Some lists.watcher) here lists.found) in
        record {
          place = lists.place;
          watcher = x;
          low = lists.low;
          found = subst (λ (n : ℕ). slice_get (set row gap x) n ≡ Some x) (sym here) (get-set_at row gap x (slice_get_within row gap y found));
          named = sym same ∙ ap (λ (z : Watcher). z.clause) one ∙ lists.named;
        }
    go (inr differs) =
        record { place = lists.place; watcher = lists.watcher; low = lists.low; found = get-set_other row gap lists.place x differs ∙ lists.found; named = lists.named }

-- the rows with one watcher written
record Written (rows rows2 : List (List Watcher)) (from : Lit) (gap : ℕ) (x : Watcher) : Type 0 where
  pub here : row_in rows2 from ≡ set (row_in rows from) gap x
  pub others : (l : Lit) → l ≢ from → row_in rows2 l ≡ row_in rows l
  pub count : length rows2 ≡ length rows

written : (rows rows2 : List (List Watcher)) (from : Lit) (gap : ℕ) (x : Watcher) → place_of from < length rows → rows2 ≡ set rows (place_of from) (set (row_in rows from) gap x) → Written rows rows2 from gap x
written rows rows2 from gap x below e =
    record {
      here = ap (λ (rs : List (List Watcher)). row_in rs from) e ∙ get_or-set_same rows (place_of from) (set (row_in rows from) gap x) [] below;
      others = λ l ne.
          ap (λ (rs : List (List Watcher)). row_in rs l) e ∙ get_or-set_other rows (place_of from) (place_of l) (set (row_in rows from) gap x) [] (λ same. ne (place-one l from same));
      count = ap (λ (rs : List (List Watcher)). length rs) e ∙ length-set rows (place_of from) (set (row_in rows from) gap x);
    }

lit_cases : (a b : Lit) → (a ≡ b) ⊎ (a ≢ b)
lit_cases a b = elim (cases_eq (place_of a) (place_of b)) [ inl e ↦ inl (place-one a b e) | inr ne ↦ inr (λ e. ne (ap place_of e)) ]

-- the row's place is one of the rows
pub blocked-place : (w : Watched) (from : Lit) (gap c : ℕ) (l : Lit) → IsIndexed w → CanBlock w from gap c l → place_of from < length w.rows
blocked-place w from gap c l is can = omega (arith, is.all_rows, place-below w.vars from can.known)

pub blocked-within : (w : Watched) (from : Lit) (gap c : ℕ) (l : Lit) → CanBlock w from gap c l → gap < length (row_in w.rows from)
blocked-within w from gap c l can = slice_get_within (row_in w.rows from) gap can.watcher can.found

lists-blocked : (w : Watched) (rows2 : List (List Watcher)) (from : Lit) (gap c : ℕ) (l : Lit) (start d : ℕ) → CanBlock w from gap c l → Written w.rows rows2 from gap (watcher c l)
    → ListsFrom start (row_in w.rows from) d → ListsFrom start (row_in rows2 from) d
lists-blocked w rows2 from gap c l start d can after lists =
    subst (λ (row : List Watcher). ListsFrom start row d) (sym after.here)
    (lists-written (row_in w.rows from) gap start d (watcher c l) can.watcher can.found can.named lists)

blocked-indexed : (w : Watched) (rows2 : List (List Watcher)) (from : Lit) (gap c : ℕ) (l : Lit) → IsIndexed w → CanBlock w from gap c l → Written w.rows rows2 from gap (watcher c l)
    → IsIndexed (watched w.vars w.clauses w.pairs rows2)
blocked-indexed w rows2 from gap c l is can after =
    record {
      fits = is.fits;
      few = is.few;
      all_rows = after.count ∙ is.all_rows;
      even = is.even;
      known = is.known;
      paired = is.paired;
      complete = λ d pair k found which. completing d k (is.complete d pair k found which) (lit_cases k from);
      sound = λ k i x found. sounding k i x found (lit_cases k from);
    }
  where
    completing : (d : ℕ) (k : Lit) → ListsFrom 0 (row_in w.rows k) d → (k ≡ from) ⊎ (k ≢ from) → ListsFrom 0 (row_in rows2 k) d
    completing d k lists (inl e) =
        subst (λ (m : Lit). ListsFrom 0 (row_in rows2 m) d) (sym e)
        (lists-blocked w rows2 from gap c l 0 d can after (subst (λ (m : Lit). ListsFrom 0 (row_in w.rows m) d) e lists))
    completing d k lists (inr ne) = subst (λ (row : List Watcher). ListsFrom 0 row d) (sym (after.others k ne)) lists

    here : (i : ℕ) (x : Watcher) → slice_get (set (row_in w.rows from) gap (watcher c l)) i ≡ Some x → (i ≡ gap) ⊎ (i ≡ gap → ⊥) → HasLiteral w.clauses x.clause x.blocker
    here i x found (inl same) =
        let new : watcher c l ≡ x = get-set_same (row_in w.rows from) gap (watcher c l) x (subst (λ (n : ℕ). slice_get (set (row_in w.rows from) gap (watcher c l)) n ≡ Some x) same found) in
        subst (λ (y : Watcher). HasLiteral w.clauses y.clause y.blocker) new can.has
    here i x found (inr ne) = is.sound from i x (sym (get-set_other (row_in w.rows from) gap i (watcher c l) ne) ∙ found)

    sounding : (k : Lit) (i : ℕ) (x : Watcher) → slice_get (row_in rows2 k) i ≡ Some x → (k ≡ from) ⊎ (k ≢ from) → HasLiteral w.clauses x.clause x.blocker
    sounding k i x found (inl e) =
        let at : slice_get (row_in rows2 from) i ≡ Some x = subst (λ (m : Lit). slice_get (row_in rows2 m) i ≡ Some x) e found in
        here i x (subst (λ (row : List Watcher). slice_get row i ≡ Some x) after.here at) (cases_eq i gap)
    sounding k i x found (inr ne) = is.sound k i x (subst (λ (row : List Watcher). slice_get row i ≡ Some x) (after.others k ne) found)

pub blocked-index : (vars : ℕ) (literals : List Lit) (entries : List Entry) (rows rows2 : List (List Watcher)) (from : Lit) (gap c : ℕ) (l : Lit) → IsIndex vars literals entries rows
    → CanBlock (watched vars (clauses_of literals entries) (pairs_of entries) rows) from gap c l → rows2 ≡ set rows (place_of from) (set (row_in rows from) gap (watcher c l))
    → IsIndex vars literals entries rows2
    × IsBlocked (watched vars (clauses_of literals entries) (pairs_of entries) rows) (watched vars (clauses_of literals entries) (pairs_of entries) rows2) from
blocked-index vars literals entries rows rows2 from gap c l is can write = (
  record { bounds = is.bounds; indexed = blocked-indexed w rows2 from gap c l is.indexed can after },
  record {
    same_vars = refl;
    same_clauses = refl;
    same_pairs = refl;
    same_length = ap (λ (row : List Watcher). length row) after.here ∙ length-set (row_in rows from) gap (watcher c l);
    still = λ start d lists. lists-blocked w rows2 from gap c l start d can after lists;
  },
)
  where
    w : Watched
    w = watched vars (clauses_of literals entries) (pairs_of entries) rows

    after : Written rows rows2 from gap (watcher c l)
    after = written rows rows2 from gap (watcher c l) (blocked-place w from gap c l is.indexed can) write

pub blocked-along : (old old' new : Watched) (from : Lit) → old ≡ old' → IsBlocked old new from → IsBlocked old' new from
blocked-along old old' new from e blocked = subst (λ (w : Watched). IsBlocked w new from) e blocked

-- the place after one whose watcher has another blocker
pub half-block : (t0 : Path) (w0 : Watched) (t : Path) (w w' : Watched) (at : ℕ) (from : Lit) (place : ℕ) → IsHalf t0 w0 t w at from place → CanKeep w (value_in t.steps) from place
    → IsBlocked w w' from → IsHalf t0 w0 t w' at from (place + 1)
half-block t0 w0 t w w' at from place half keep blocked =
    record {
      stepped =
          record {
            engine =
                record {
                  vars = old.vars ∙ sym blocked.same_vars;
                  path = old.path;
                  within = old.within;
                  walk = subst (λ (cs : List (List Lit)). IsWalk cs t.steps) (sym blocked.same_clauses) old.walk;
                  watching =
                      subst (λ (cs : List (List Lit)). IsWatching cs w'.pairs t.steps at) (sym blocked.same_clauses)
                      (subst (λ (ps : List Pair). IsWatching w.clauses ps t.steps at) (sym blocked.same_pairs) old.watching);
                };
            same_vars = half.stepped.same_vars;
            same_clauses = blocked.same_clauses ∙ half.stepped.same_clauses;
            grown = half.stepped.grown;
          };
      step = half.step;
      there = half.there;
      turned = half.turned;
      seen = λ d clause pair found found' one.
          after d clause (kept.seen d clause pair (subst (λ (cs : List (List Lit)). slice_get cs d ≡ Some clause) blocked.same_clauses found) (subst (λ (ps : List Pair). slice_get ps d ≡ Some pair) blocked.same_pairs found') one);
    }
  where
    old : IsEngine t w at
    old = half.stepped.engine

    kept : IsHalf t0 w0 t w at from (place + 1)
    kept = half-keep t0 w0 t w at from place half keep

    after : (d : ℕ) (clause : List Lit) → Any (MakesTrue (value_in t.steps)) clause ⊎ ListsFrom (place + 1) (row_in w.rows from) d
        → Any (MakesTrue (value_in t.steps)) clause ⊎ ListsFrom (place + 1) (row_in w'.rows from) d
    after d clause (inl some) = inl some
    after d clause (inr lists) = inr (blocked.still (place + 1) d lists)
