-- A clause that watches another literal.
use Rattle.std.proofs.Common.{◌≡◌, ◌≢◌, ℕ, ◌*◌, ◌<◌, ◌≤◌, ◌⊎◌, Some, List, [], ◌∷◌, ◌++◌, set, length, get_or, slice_get, refl, sym, ◌∙◌, ap, subst, inl, inr, arith}
use Rattle.std.specs.Prelude.{Contains, slice_range}
use Rattle.std.proofs.Math.Seq.{map-set_same}
use Rattle.std.proofs.lemmas.Bool.{cases_eq}
use Rattle.std.proofs.lemmas.Option.{same_Some, get_or_from_slice_get}
use Rattle.std.proofs.lemmas.List.{length-set, map-set, get_or-set_same, get_or-set_other}
use Rattle.std.proofs.lemmas.List.Elements.{All-contains}
use Rattle.clause_store.specs.declared.lit.Lit.{Lit}
use Rattle.clause_store.specs.Formula.{IsKnown}
use Rattle.clause_store.proofs.Members.{All-slice_get}
use Rattle.sat_trail.specs.declared.watcher.Entry.{Entry}
use Rattle.sat_trail.specs.declared.watcher.Pair.{Pair}
use Rattle.sat_trail.specs.declared.watcher.Watcher.{Watcher}
use Rattle.sat_trail.specs.Packing.{place_of}
use Rattle.sat_trail.specs.Watching.{Watched, clauses_of, pairs_of, row_in, IsOneOf, IsPairOf, ListsFrom, HasLiteral, IsIndexed, IsIndex, IsWithout, IsDropped, IsWritten, CanMove, IsMoved, pair_of}
use Rattle.sat_trail.proofs.Listing.{get-set_same, get-set_other, place-one}
use Rattle.sat_trail.proofs.RowViews.{pushed, pushed-lists, pushed-last, pushed-older, lists-without, without-older}
use Rattle.sat_trail.proofs.Adding.{place-below}

abbrev watched : ℕ → List (List Lit) → List Pair → List (List Watcher) → Watched
watched vars clauses pairs rows = record { vars = vars; clauses = clauses; pairs = pairs; rows = rows }

abbrev watcher : ℕ → Lit → Watcher
watcher c l = record { clause = c; blocker = l }

-- the other literal isn't the row's: a clause that watches one literal twice has no third one
pub stay-differs : (w : Watched) (from : Lit) (gap c : ℕ) (stay to : Lit) → IsIndexed w → CanMove w from gap c stay to → stay ≢ from
stay-differs w from gap c stay to is can e = go can.both
  where
    of : IsPairOf can.clause can.pair
    of = is.paired c can.clause can.pair can.numbered can.paired

    go : ((can.pair.one ≡ from) × (can.pair.two ≡ stay)) ⊎ ((can.pair.two ≡ from) × (can.pair.one ≡ stay)) → ⊥
    go (inl b) = can.moves (of.alone (b.0 ∙ sym e ∙ sym b.1) to can.listed ∙ b.0)
    go (inr b) = can.moves (of.alone (b.1 ∙ e ∙ sym b.0) to can.listed ∙ b.1 ∙ e)

stay-watched : (w : Watched) (from : Lit) (gap c : ℕ) (stay to : Lit) → (can : CanMove w from gap c stay to) → IsOneOf can.pair stay
stay-watched w from gap c stay to can = elim can.both [ inl b ↦ inr (sym b.1) | inr b ↦ inl (sym b.1) ]

from-watched : (w : Watched) (from : Lit) (gap c : ℕ) (stay to : Lit) → (can : CanMove w from gap c stay to) → IsOneOf can.pair from
from-watched w from gap c stay to can = elim can.both [ inl b ↦ inl (sym b.0) | inr b ↦ inr (sym b.0) ]

pub contains-watched : (clause : List Lit) (pair : Pair) (l : Lit) → IsPairOf clause pair → IsOneOf pair l → Contains clause l
contains-watched clause pair l of (inl e) = subst (λ (k : Lit). Contains clause k) (sym e) of.one
contains-watched clause pair l of (inr e) = subst (λ (k : Lit). Contains clause k) (sym e) of.two

-- the rows after a watcher was appended to one and another taken from another
pub record Rows (vars : ℕ) (rows rows2 : List (List Watcher)) (from to : Lit) (gap : ℕ) (x : Watcher) : Type 0 where
  pub shorter : IsWithout (row_in rows from) (row_in rows2 from) gap
  pub last : ListsFrom 0 (row_in rows2 to) x.clause
  pub kept : (l : Lit) (start d : ℕ) → l ≢ from → ListsFrom start (row_in rows l) d → ListsFrom start (row_in rows2 l) d
  pub older : (l : Lit) (i : ℕ) (y : Watcher) → slice_get (row_in rows2 l) i ≡ Some y → ((j : ℕ) × (slice_get (row_in rows l) j ≡ Some y)) ⊎ (x ≡ y)
  pub count : length rows2 ≡ length rows

rows-after : (vars : ℕ) (rows rows1 rows2 : List (List Watcher)) (from to : Lit) (gap : ℕ) (x : Watcher) → length rows ≡ 2 * vars → from.var < vars → to.var < vars → to ≢ from
    → rows1 ≡ pushed rows (place_of to) x → IsDropped rows1 rows2 (place_of from) gap → Rows vars rows rows2 from to gap x
rows-after vars rows rows1 rows2 from to gap x all below_from below_to ne push drop' =
    record { shorter = shorter; last = last; kept = kept; older = older; count = count }
  where
    differ : place_of from ≢ place_of to
    differ e = ne (sym (place-one from to e))

    at_to : place_of to < length rows
    at_to = omega (arith, all, place-below vars to below_to)

    length1 : length rows1 ≡ length rows
    length1 = ap (λ (rs : List (List Watcher)). length rs) push ∙ length-set rows (place_of to) (get_or rows (place_of to) [] ++ x ∷ [])

    at_from : place_of from < length rows1
    at_from = omega (arith, all, length1, place-below vars from below_from)

    from1 : row_in rows1 from ≡ row_in rows from
    from1 = ap (λ (rs : List (List Watcher)). row_in rs from) push ∙ get_or-set_other rows (place_of to) (place_of from) (get_or rows (place_of to) [] ++ x ∷ []) [] differ

    from2 : row_in rows2 from ≡ drop'.row
    from2 = ap (λ (rs : List (List Watcher)). row_in rs from) drop'.rest ∙ get_or-set_same rows1 (place_of from) drop'.row [] at_from

    other2 : (l : Lit) → l ≢ from → row_in rows2 l ≡ row_in (pushed rows (place_of to) x) l
    other2 l ne' =
        ap (λ (rs : List (List Watcher)). row_in rs l) drop'.rest
        ∙ get_or-set_other rows1 (place_of from) (place_of l) drop'.row [] (λ e. ne' (place-one l from e))
        ∙ ap (λ (rs : List (List Watcher)). row_in rs l) push

    shorter : IsWithout (row_in rows from) (row_in rows2 from) gap
    shorter =
        subst (λ (r : List Watcher). IsWithout (row_in rows from) r gap) (sym from2) (subst (λ (r : List Watcher). IsWithout r drop'.row gap) from1 drop'.without)

    last : ListsFrom 0 (row_in rows2 to) x.clause
    last = subst (λ (r : List Watcher). ListsFrom 0 r x.clause) (sym (other2 to ne)) (pushed-last rows (place_of to) x at_to)

    kept : (l : Lit) (start d : ℕ) → l ≢ from → ListsFrom start (row_in rows l) d → ListsFrom start (row_in rows2 l) d
    kept l start d ne' lists =
        subst (λ (r : List Watcher). ListsFrom start r d) (sym (other2 l ne')) (pushed-lists rows (place_of to) x (place_of l) start d at_to lists)

    older : (l : Lit) (i : ℕ) (y : Watcher) → slice_get (row_in rows2 l) i ≡ Some y → ((j : ℕ) × (slice_get (row_in rows l) j ≡ Some y)) ⊎ (x ≡ y)
    older l i y found = go (cases_eq (place_of l) (place_of from))
      where
        newer : (slice_get (row_in rows l) i ≡ Some y) ⊎ (x ≡ y) → ((j : ℕ) × (slice_get (row_in rows l) j ≡ Some y)) ⊎ (x ≡ y)
        newer (inl old) = inl (i, old)
        newer (inr same) = inr same

        go : (place_of l ≡ place_of from) ⊎ (place_of l ≡ place_of from → ⊥) → ((j : ℕ) × (slice_get (row_in rows l) j ≡ Some y)) ⊎ (x ≡ y)
        go (inl same) =
            let one : l ≡ from = place-one l from same in
            inl
            (subst (λ (k : Lit). (j : ℕ) × (slice_get (row_in rows k) j ≡ Some y)) (sym one)
            (without-older (row_in rows from) (row_in rows2 from) gap i y shorter (subst (λ (k : Lit). slice_get (row_in rows2 k) i ≡ Some y) one found)))
        go (inr ne') =
            newer
            (pushed-older rows (place_of to) x (place_of l) i y at_to
            (subst (λ (r : List Watcher). slice_get r i ≡ Some y) (other2 l (λ e. ne' (ap place_of e))) found))

    count : length rows2 ≡ length rows
    count = ap (λ (rs : List (List Watcher)). length rs) drop'.rest ∙ length-set rows1 (place_of from) drop'.row ∙ length1

-- literals of one place or another
lit_cases_by_place : (a b : Lit) → (a ≡ b) ⊎ (a ≢ b)
lit_cases_by_place a b = elim (cases_eq (place_of a) (place_of b)) [ inl e ↦ inl (place-one a b e) | inr ne ↦ inr (λ e. ne (ap place_of e)) ]

pub moved-indexed : (vars : ℕ) (clauses : List (List Lit)) (pairs : List Pair) (rows rows2 : List (List Watcher)) (from : Lit) (gap c : ℕ) (stay to : Lit)
    → IsIndexed (watched vars clauses pairs rows) → (can : CanMove (watched vars clauses pairs rows) from gap c stay to) → Rows vars rows rows2 from to gap (watcher c stay)
    → IsIndexed (watched vars clauses (set pairs c (pair_of to stay)) rows2)
moved-indexed vars clauses pairs rows rows2 from gap c stay to is can after =
    record {
      fits = is.fits;
      few = is.few;
      all_rows = after.count ∙ is.all_rows;
      even = length-set pairs c (pair_of to stay) ∙ is.even;
      known = is.known;
      paired = λ d clause pair found found'. pairing d clause pair found found' (cases_eq d c);
      complete = λ d pair l found which. completing d pair l found which (cases_eq d c);
      sound = λ l i x found. sounding l i x (after.older l i x found);
    }
  where
    of : IsPairOf can.clause can.pair
    of = is.paired c can.clause can.pair can.numbered can.paired

    stays : stay ≢ from
    stays = stay-differs (watched vars clauses pairs rows) from gap c stay to is can

    pairing : (d : ℕ) (clause : List Lit) (pair : Pair) → slice_get clauses d ≡ Some clause → slice_get (set pairs c (pair_of to stay)) d ≡ Some pair → (d ≡ c) ⊎ (d ≡ c → ⊥) → IsPairOf clause pair
    pairing d clause pair found found' (inl same) =
        let at : slice_get clauses c ≡ Some clause = subst (λ (n : ℕ). slice_get clauses n ≡ Some clause) same found in
        let one : can.clause ≡ clause = same_Some can.clause clause (sym can.numbered ∙ at) in
        let pair_is : pair_of to stay ≡ pair = get-set_same pairs c (pair_of to stay) pair (subst (λ (n : ℕ). slice_get (set pairs c (pair_of to stay)) n ≡ Some pair) same found') in
        let made : IsPairOf can.clause (pair_of to stay) =
        record {
          one = can.listed;
          two = contains-watched can.clause can.pair stay of (stay-watched (watched vars clauses pairs rows) from gap c stay to can);
          alone = λ e. absurd (can.differs e);
        }
        in
        subst (λ (p : Pair). IsPairOf clause p) pair_is (subst (λ (d : List Lit). IsPairOf d (pair_of to stay)) one made)
    pairing d clause pair found found' (inr ne) = is.paired d clause pair found (sym (get-set_other pairs c d (pair_of to stay) ne) ∙ found')

    other : (d : ℕ) (pair : Pair) (l : Lit) → slice_get pairs d ≡ Some pair → IsOneOf pair l → d ≢ c → ListsFrom 0 (row_in rows2 l) d
    other d pair l found which ne = go (lit_cases_by_place l from)
      where
        go : (l ≡ from) ⊎ (l ≢ from) → ListsFrom 0 (row_in rows2 l) d
        go (inl e) =
            subst (λ (k : Lit). ListsFrom 0 (row_in rows2 k) d) (sym e)
            (lists-without (row_in rows from) (row_in rows2 from) gap c d 0 can.watcher after.shorter can.found can.named ne (omega arith)
            (subst (λ (k : Lit). ListsFrom 0 (row_in rows k) d) e (is.complete d pair l found which)))
        go (inr ne') = after.kept l 0 d ne' (is.complete d pair l found which)

    completing : (d : ℕ) (pair : Pair) (l : Lit) → slice_get (set pairs c (pair_of to stay)) d ≡ Some pair → IsOneOf pair l → (d ≡ c) ⊎ (d ≡ c → ⊥) → ListsFrom 0 (row_in rows2 l) d
    completing d pair l found which (inl same) =
        let pair_is : pair_of to stay ≡ pair = get-set_same pairs c (pair_of to stay) pair (subst (λ (n : ℕ). slice_get (set pairs c (pair_of to stay)) n ≡ Some pair) same found) in
        subst (λ (n : ℕ). ListsFrom 0 (row_in rows2 l) n) (sym same) (go (subst (λ (p : Pair). IsOneOf p l) (sym pair_is) which))
      where
        go : (l ≡ to) ⊎ (l ≡ stay) → ListsFrom 0 (row_in rows2 l) c
        go (inl e) = subst (λ (k : Lit). ListsFrom 0 (row_in rows2 k) c) (sym e) after.last
        go (inr e) =
            subst (λ (k : Lit). ListsFrom 0 (row_in rows2 k) c) (sym e)
            (after.kept stay 0 c stays (is.complete c can.pair stay can.paired (stay-watched (watched vars clauses pairs rows) from gap c stay to can)))
    completing d pair l found which (inr ne) = other d pair l (sym (get-set_other pairs c d (pair_of to stay) ne) ∙ found) which ne

    sounding : (l : Lit) (i : ℕ) (x : Watcher) → ((j : ℕ) × (slice_get (row_in rows l) j ≡ Some x)) ⊎ (watcher c stay ≡ x) → HasLiteral clauses x.clause x.blocker
    sounding l i x (inl old) = is.sound l old.0 x old.1
    sounding l i x (inr new) =
        subst (λ (y : Watcher). HasLiteral clauses y.clause y.blocker) new
        record {
          clause = can.clause;
          found = can.numbered;
          listed = contains-watched can.clause can.pair stay of (stay-watched (watched vars clauses pairs rows) from gap c stay to can);
        }

pub moved-index : (vars : ℕ) (literals : List Lit) (entries entries' : List Entry) (rows rows1 rows2 : List (List Watcher)) (from : Lit) (gap c : ℕ) (stay to : Lit)
    → IsIndex vars literals entries rows → CanMove (watched vars (clauses_of literals entries) (pairs_of entries) rows) from gap c stay to
    → rows1 ≡ pushed rows (place_of to) (watcher c stay) → IsDropped rows1 rows2 (place_of from) gap → IsWritten entries entries' c (pair_of to stay)
    → IsIndex vars literals entries' rows2
    × IsMoved (watched vars (clauses_of literals entries) (pairs_of entries) rows) (watched vars (clauses_of literals entries') (pairs_of entries') rows2) from gap c stay to
moved-index vars literals entries entries' rows rows1 rows2 from gap c stay to is can push drop' write = (
  record { bounds = bounds; indexed = indexed },
  record { same_vars = refl; same_clauses = clauses; changed = pairs; shorter = after.shorter.shorter; still = still },
)
  where
    read : write.entry ≡ get_or entries c write.entry
    read = sym (get_or_from_slice_get entries c write.entry write.entry write.found)

    clauses : clauses_of literals entries' ≡ clauses_of literals entries
    clauses =
        ap (λ (es : List Entry). clauses_of literals es) write.rest
        ∙ map-set_same (λ (x : Entry). slice_range literals x.start x.end) entries c record { start = write.entry.start; end = write.entry.end; pair = pair_of to stay } write.entry
        (ap (λ (x : Entry). slice_range literals x.start x.end) read)

    pairs : pairs_of entries' ≡ set (pairs_of entries) c (pair_of to stay)
    pairs =
        ap (λ (es : List Entry). pairs_of es) write.rest
        ∙ map-set (λ (x : Entry). x.pair) entries c record { start = write.entry.start; end = write.entry.end; pair = pair_of to stay }

    bounds : (d : ℕ) (x : Entry) → slice_get entries' d ≡ Some x → (x.start ≤ x.end) × (x.end ≤ length literals)
    bounds d x found = go (cases_eq d c)
      where
        at : slice_get (set entries c record { start = write.entry.start; end = write.entry.end; pair = pair_of to stay }) d ≡ Some x
        at = subst (λ (es : List Entry). slice_get es d ≡ Some x) write.rest found

        go : (d ≡ c) ⊎ (d ≡ c → ⊥) → (x.start ≤ x.end) × (x.end ≤ length literals)
        go (inl same) =
            subst (λ (y : Entry). (y.start ≤ y.end) × (y.end ≤ length literals))
            (get-set_same entries c record { start = write.entry.start; end = write.entry.end; pair = pair_of to stay } x
            (subst (λ (n : ℕ). slice_get (set entries c record { start = write.entry.start; end = write.entry.end; pair = pair_of to stay }) n ≡ Some x) same at))
            (is.bounds c write.entry write.found)
        go (inr ne) = is.bounds d x (sym (get-set_other entries c d record { start = write.entry.start; end = write.entry.end; pair = pair_of to stay } ne) ∙ at)

    of : IsPairOf can.clause can.pair
    of = is.indexed.paired c can.clause can.pair can.numbered can.paired

    known : (l : Lit) → Contains can.clause l → l.var < vars
    known l listed = All-contains (λ (k : Lit). k.var < vars) can.clause l (All-slice_get (IsKnown vars) (clauses_of literals entries) c can.clause is.indexed.known can.numbered) listed

    after : Rows vars rows rows2 from to gap (watcher c stay)
    after =
        rows-after vars rows rows1 rows2 from to gap (watcher c stay) is.indexed.all_rows
        (known from (contains-watched can.clause can.pair from of (from-watched (watched vars (clauses_of literals entries) (pairs_of entries) rows) from gap c stay to can)))
        (known to can.listed) can.moves push drop'

    indexed : IsIndexed (watched vars (clauses_of literals entries') (pairs_of entries') rows2)
    indexed =
        subst (λ (cs : List (List Lit)). IsIndexed (watched vars cs (pairs_of entries') rows2)) (sym clauses)
        (subst (λ (ps : List Pair). IsIndexed (watched vars (clauses_of literals entries) ps rows2)) (sym pairs)
        (moved-indexed vars (clauses_of literals entries) (pairs_of entries) rows rows2 from gap c stay to is.indexed can after))

    still : (d : ℕ) → d ≢ c → ListsFrom gap (row_in rows from) d → ListsFrom gap (row_in rows2 from) d
    still d ne lists = lists-without (row_in rows from) (row_in rows2 from) gap c d gap can.watcher after.shorter can.found can.named ne (omega arith) lists

pub moved-along : (old old' new : Watched) (from : Lit) (gap c : ℕ) (stay to : Lit) → old ≡ old' → IsMoved old new from gap c stay to → IsMoved old' new from gap c stay to
moved-along old old' new from gap c stay to e moved = subst (λ (w : Watched). IsMoved w new from gap c stay to) e moved
