-- One clause more in an index.
use Rattle.std.proofs.Common.{◌≡◌, ℕ, suc, ◌+◌, ◌-◌, ◌*◌, ◌^◌, ◌<◌, ◌≤◌, ◌⊎◌, Bool, true, false, if◌then◌else◌, Some, List, [], ◌∷◌, ◌++◌, take, drop, length, get_or, slice_get, map, refl, sym, ◌∙◌, ap, subst, inl, inr, arith}
use Rattle.std.specs.Prelude.{Contains, slice_range}
use Rattle.std.proofs.lemmas.Option.{slice_get_within}
use Rattle.std.proofs.lemmas.List.{length-set, length-append, length-drop, length-map, map_push, take_all, drop_at, drop-append-le, take-append-le}
use Rattle.std.proofs.lemmas.List.Elements.{All-push, All-contains}
use Rattle.clause_store.specs.declared.lit.Lit.{Lit}
use Rattle.clause_store.specs.Formula.{IsKnown}
use Rattle.sat_trail.specs.declared.watcher.Entry.{Entry}
use Rattle.sat_trail.specs.declared.watcher.Pair.{Pair}
use Rattle.sat_trail.specs.declared.watcher.Watcher.{Watcher}
use Rattle.sat_trail.specs.Packing.{place_of}
use Rattle.sat_trail.specs.Watching.{Watched, clauses_of, pairs_of, row_in, IsOneOf, IsPairOf, ListsFrom, HasLiteral, IsIndexed, IsIndex, WithWatched, pair_of}
use Rattle.sat_trail.proofs.Listing.{push-cases, get-append, get-last}
use Rattle.sat_trail.proofs.RowViews.{pushed, pushed-lists, pushed-last, pushed-older}

-- what two views make of the elements of a list

pub map-same : {A B : Type 0} (f g : A → B) (xs : List A) → ((k : ℕ) (x : A) → slice_get xs k ≡ Some x → f x ≡ g x) → map f xs ≡ map g xs
map-same f g [] each = refl
map-same {B = B} f g (x ∷ xs) each =
    ap (λ (y : B). y ∷ map f xs) (each 0 x refl) ∙ ap (λ (ys : List B). g x ∷ ys) (map-same f g xs (λ k z found. each (suc k) z found))

range-append : (xs ys : List Lit) (s e : ℕ) → s ≤ e → e ≤ length xs → slice_range (xs ++ ys) s e ≡ slice_range xs s e
range-append xs ys s e le within =
    ap (λ (zs : List Lit). take (e - s) zs) (drop-append-le s xs ys (omega (arith, le, within)))
    ∙ take-append-le (e - s) (drop s xs) ys (omega (arith, le, within, length-drop s xs))

range-last : (xs ys : List Lit) (s e : ℕ) → s ≡ length xs → e ≡ length xs + length ys → slice_range (xs ++ ys) s e ≡ ys
range-last xs ys s e start end =
    ap (λ (zs : List Lit). take (e - s) zs) (drop_at xs ys s (sym start)) ∙ take_all (e - s) ys (omega (arith, start, end))

pub clauses-add : (literals clause : List Lit) (entries : List Entry) (e : Entry) → ((c : ℕ) (x : Entry) → slice_get entries c ≡ Some x → (x.start ≤ x.end) × (x.end ≤ length literals))
    → e.start ≡ length literals → e.end ≡ length literals + length clause → clauses_of (literals ++ clause) (entries ++ e ∷ []) ≡ clauses_of literals entries ++ clause ∷ []
clauses-add literals clause entries e bounds start end =
    map_push (λ (x : Entry). slice_range (literals ++ clause) x.start x.end) entries e
    ∙ ap (λ (cs : List (List Lit)). cs ++ slice_range (literals ++ clause) e.start e.end ∷ [])
    (map-same (λ (x : Entry). slice_range (literals ++ clause) x.start x.end) (λ (x : Entry). slice_range literals x.start x.end) entries
    (λ k x found. range-append literals clause x.start x.end (bounds k x found).0 (bounds k x found).1))
    ∙ ap (λ (last : List Lit). clauses_of literals entries ++ last ∷ []) (range-last literals clause e.start e.end start end)

pub bounds-add : (literals clause : List Lit) (entries : List Entry) (e : Entry) → ((c : ℕ) (x : Entry) → slice_get entries c ≡ Some x → (x.start ≤ x.end) × (x.end ≤ length literals))
    → e.start ≡ length literals → e.end ≡ length literals + length clause → (c : ℕ) (x : Entry) → slice_get (entries ++ e ∷ []) c ≡ Some x → (x.start ≤ x.end) × (x.end ≤ length (literals ++ clause))
bounds-add literals clause entries e bounds start end c x found = go (push-cases entries e c x found)
  where
    go : (slice_get entries c ≡ Some x) ⊎ ((c ≡ length entries) × (e ≡ x)) → (x.start ≤ x.end) × (x.end ≤ length (literals ++ clause))
    go (inl old) = ((bounds c x old).0, omega (arith, (bounds c x old).1, length-append literals clause))
    go (inr last) =
        subst (λ (y : Entry). (y.start ≤ y.end) × (y.end ≤ length (literals ++ clause))) last.1
        (omega (arith, start, end), omega (arith, start, end, length-append literals clause))

abbrev watched : ℕ → List (List Lit) → List Pair → List (List Watcher) → Watched
watched vars clauses pairs rows = record { vars = vars; clauses = clauses; pairs = pairs; rows = rows }

abbrev watcher : ℕ → Lit → Watcher
watcher c l = record { clause = c; blocker = l }

literal-more : (clauses : List (List Lit)) (clause : List Lit) (c : ℕ) (l : Lit) → HasLiteral clauses c l → HasLiteral (clauses ++ clause ∷ []) c l
literal-more clauses clause c l has = record { clause = has.clause; found = get-append clauses (clause ∷ []) c has.clause has.found; listed = has.listed }

pub place-below : (vars : ℕ) (l : Lit) → l.var < vars → place_of l < 2 * vars
place-below vars l below = go l.positive
  where
    go : (b : Bool) → 2 * l.var + (if b then 1 else 0) < 2 * vars
    go true = omega (arith, below)
    go false = omega (arith, below)

pub added-indexed : (vars : ℕ) (clauses : List (List Lit)) (pairs : List Pair) (rows : List (List Watcher)) (clause : List Lit) (one two : Lit) (n : ℕ)
    → IsIndexed (watched vars clauses pairs rows) → n ≡ length clauses → n < 2 ^ 31 → IsKnown vars clause → IsPairOf clause (pair_of one two)
    → IsIndexed (watched vars (clauses ++ clause ∷ []) (pairs ++ pair_of one two ∷ []) (pushed (pushed rows (place_of one) (watcher n two)) (place_of two) (watcher n one)))
added-indexed vars clauses pairs rows clause one two n is number below known paired =
    record {
      fits = is.fits;
      few = omega (arith, below, number, length-append clauses (clause ∷ []));
      all_rows =
          omega (
            arith,
            is.all_rows,
            length-set rows (place_of one) (get_or rows (place_of one) [] ++ watcher n two ∷ []),
            length-set first (place_of two) (get_or first (place_of two) [] ++ watcher n one ∷ []),
          );
      even = omega (arith, is.even, length-append clauses (clause ∷ []), length-append pairs (pair_of one two ∷ []));
      known = All-push (IsKnown vars) clauses clause is.known known;
      paired = pairing;
      complete = λ c pair l found which. completing c pair l (push-cases pairs (pair_of one two) c pair found) which;
      sound = sounding;
    }
  where
    first : List (List Watcher)
    first = pushed rows (place_of one) (watcher n two)

    then' : List (List Watcher)
    then' = pushed (pushed rows (place_of one) (watcher n two)) (place_of two) (watcher n one)

    here : place_of one < length rows
    here = omega (arith, place-below vars one (All-contains (λ (l : Lit). l.var < vars) clause one known paired.one), is.all_rows)

    there : place_of two < length (pushed rows (place_of one) (watcher n two))
    there =
        omega (
          arith,
          place-below vars two (All-contains (λ (l : Lit). l.var < vars) clause two known paired.two),
          is.all_rows,
          length-set rows (place_of one) (get_or rows (place_of one) [] ++ watcher n two ∷ []),
        )

    pairing : (c : ℕ) (d : List Lit) (pair : Pair) → slice_get (clauses ++ clause ∷ []) c ≡ Some d → slice_get (pairs ++ pair_of one two ∷ []) c ≡ Some pair → IsPairOf d pair
    pairing c d pair found found' = go (push-cases clauses clause c d found) (push-cases pairs (pair_of one two) c pair found')
      where
        go : (slice_get clauses c ≡ Some d) ⊎ ((c ≡ length clauses) × (clause ≡ d)) → (slice_get pairs c ≡ Some pair) ⊎ ((c ≡ length pairs) × (pair_of one two ≡ pair)) → IsPairOf d pair
        go (inl old) (inl old') = is.paired c d pair old old'
        go (inr last) (inr last') = subst (λ (p : Pair). IsPairOf d p) last'.1 (subst (λ (x : List Lit). IsPairOf x (pair_of one two)) last.1 paired)
        go (inl old) (inr last') = absurd (omega (arith, slice_get_within clauses c d old, last'.0, is.even))
        go (inr last) (inl old') = absurd (omega (arith, slice_get_within pairs c pair old', last.0, is.even))

    completing : (c : ℕ) (pair : Pair) (l : Lit) → (slice_get pairs c ≡ Some pair) ⊎ ((c ≡ length pairs) × (pair_of one two ≡ pair)) → IsOneOf pair l
        → ListsFrom 0 (row_in (pushed (pushed rows (place_of one) (watcher n two)) (place_of two) (watcher n one)) l) c
    completing c pair l (inl old) which =
        pushed-lists (pushed rows (place_of one) (watcher n two)) (place_of two) (watcher n one) (place_of l) 0 c there
        (pushed-lists rows (place_of one) (watcher n two) (place_of l) 0 c here (is.complete c pair l old which))
    completing c pair l (inr last) which =
        subst (λ (m : ℕ). ListsFrom 0 (row_in (pushed (pushed rows (place_of one) (watcher n two)) (place_of two) (watcher n one)) l) m) (omega (arith, number, last.0, is.even))
        (which-one l (subst (λ (p : Pair). IsOneOf p l) (sym last.1) which))
      where
        which-one : (k : Lit) → (k ≡ one) ⊎ (k ≡ two) → ListsFrom 0 (row_in (pushed (pushed rows (place_of one) (watcher n two)) (place_of two) (watcher n one)) k) n
        which-one k (inl e) =
            subst (λ (m : Lit). ListsFrom 0 (row_in (pushed (pushed rows (place_of one) (watcher n two)) (place_of two) (watcher n one)) m) n) (sym e)
            (pushed-lists (pushed rows (place_of one) (watcher n two)) (place_of two) (watcher n one) (place_of one) 0 n there (pushed-last rows (place_of one) (watcher n two) here))
        which-one k (inr e) =
            subst (λ (m : Lit). ListsFrom 0 (row_in (pushed (pushed rows (place_of one) (watcher n two)) (place_of two) (watcher n one)) m) n) (sym e)
            (pushed-last (pushed rows (place_of one) (watcher n two)) (place_of two) (watcher n one) there)

    newest : (l : Lit) → Contains clause l → HasLiteral (clauses ++ clause ∷ []) n l
    newest l listed =
        record { clause = clause; found = subst (λ (m : ℕ). slice_get (clauses ++ clause ∷ []) m ≡ Some clause) (sym number) (get-last clauses clause); listed = listed }

    sounding : (l : Lit) (i : ℕ) (x : Watcher) → slice_get (row_in (pushed (pushed rows (place_of one) (watcher n two)) (place_of two) (watcher n one)) l) i ≡ Some x
        → HasLiteral (clauses ++ clause ∷ []) x.clause x.blocker
    sounding l i x found = go (pushed-older (pushed rows (place_of one) (watcher n two)) (place_of two) (watcher n one) (place_of l) i x there found)
      where
        old : (slice_get (row_in rows l) i ≡ Some x) ⊎ (watcher n two ≡ x) → HasLiteral (clauses ++ clause ∷ []) x.clause x.blocker
        old (inl before) = literal-more clauses clause x.clause x.blocker (is.sound l i x before)
        old (inr same) = subst (λ (y : Watcher). HasLiteral (clauses ++ clause ∷ []) y.clause y.blocker) same (newest two paired.two)

        go : (slice_get (row_in (pushed rows (place_of one) (watcher n two)) l) i ≡ Some x) ⊎ (watcher n one ≡ x) → HasLiteral (clauses ++ clause ∷ []) x.clause x.blocker
        go (inl before) = old (pushed-older rows (place_of one) (watcher n two) (place_of l) i x here before)
        go (inr same) = subst (λ (y : Watcher). HasLiteral (clauses ++ clause ∷ []) y.clause y.blocker) same (newest one paired.one)

abbrev entry : ℕ → ℕ → Pair → Entry
entry start end pair = record { start = start; end = end; pair = pair }

pub added-index : (vars : ℕ) (literals : List Lit) (entries : List Entry) (rows : List (List Watcher)) (clause : List Lit) (one two : Lit)
    (literals' : List Lit) (entries' : List Entry) (rows1 rows2 : List (List Watcher)) (start end number : ℕ)
    → IsIndex vars literals entries rows → IsKnown vars clause → IsPairOf clause (pair_of one two)
    → start ≡ length literals → end ≡ start + length clause → number ≡ length entries → number < 2 ^ 31
    → literals' ≡ literals ++ clause → entries' ≡ entries ++ entry start end (pair_of one two) ∷ []
    → rows1 ≡ pushed rows (place_of one) (watcher number two) → rows2 ≡ pushed rows1 (place_of two) (watcher number one)
    → IsIndex vars literals' entries' rows2
    × WithWatched (watched vars (clauses_of literals entries) (pairs_of entries) rows) (watched vars (clauses_of literals' entries') (pairs_of entries') rows2) clause (pair_of one two)
added-index vars literals entries rows clause one two literals' entries' rows1 rows2 start end number is known paired at_start at_end numbered below more_literals more_entries first second =
    (record { bounds = bounds; indexed = indexed }, record { same_vars = refl; more_clauses = clauses; more_pairs = pairs })
  where
    clauses : clauses_of literals' entries' ≡ clauses_of literals entries ++ clause ∷ []
    clauses =
        ap (λ (xs : List Lit). clauses_of xs entries') more_literals ∙ ap (λ (es : List Entry). clauses_of (literals ++ clause) es) more_entries
        ∙ clauses-add literals clause entries (entry start end (pair_of one two)) is.bounds at_start (at_end ∙ ap (λ (n : ℕ). n + length clause) at_start)

    pairs : pairs_of entries' ≡ pairs_of entries ++ pair_of one two ∷ []
    pairs = ap (λ (es : List Entry). pairs_of es) more_entries ∙ map_push (λ (x : Entry). x.pair) entries (entry start end (pair_of one two))

    bounds : (c : ℕ) (x : Entry) → slice_get entries' c ≡ Some x → (x.start ≤ x.end) × (x.end ≤ length literals')
    bounds c x found =
        subst (λ (xs : List Lit). (x.start ≤ x.end) × (x.end ≤ length xs)) (sym more_literals)
        (bounds-add literals clause entries (entry start end (pair_of one two)) is.bounds at_start (at_end ∙ ap (λ (n : ℕ). n + length clause) at_start) c x
        (subst (λ (es : List Entry). slice_get es c ≡ Some x) more_entries found))

    count : number ≡ length (clauses_of literals entries)
    count = omega (arith, numbered, length-map entries (λ (x : Entry). slice_range literals x.start x.end))

    table : rows2 ≡ pushed (pushed rows (place_of one) (watcher number two)) (place_of two) (watcher number one)
    table = second ∙ ap (λ (rs : List (List Watcher)). pushed rs (place_of two) (watcher number one)) first

    indexed : IsIndexed (watched vars (clauses_of literals' entries') (pairs_of entries') rows2)
    indexed =
        subst (λ (cs : List (List Lit)). IsIndexed (watched vars cs (pairs_of entries') rows2)) (sym clauses)
        (subst (λ (ps : List Pair). IsIndexed (watched vars (clauses_of literals entries ++ clause ∷ []) ps rows2)) (sym pairs)
        (subst (λ (rs : List (List Watcher)). IsIndexed (watched vars (clauses_of literals entries ++ clause ∷ []) (pairs_of entries ++ pair_of one two ∷ []) rs)) (sym table)
        (added-indexed vars (clauses_of literals entries) (pairs_of entries) rows clause one two number is.indexed count below known paired)))

pub with-along : (old old' new : Watched) (clause : List Lit) (pair : Pair) → old ≡ old' → WithWatched old new clause pair → WithWatched old' new clause pair
with-along old old' new clause pair e with' = subst (λ (w : Watched). WithWatched w new clause pair) e with'
