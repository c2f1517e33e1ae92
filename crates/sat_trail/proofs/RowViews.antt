-- Rows and entries as they are written.
use Rattle.std.proofs.Common.{◌≡◌, ◌≢◌, ℕ, ◌+◌, ◌-◌, ◌<◌, ◌≤◌, ◌⊎◌, Some, Ok, Err, Result, List, [], ◌∷◌, ◌++◌, set, length, get_or, slice_get, map, refl, sym, ◌∙◌, ap, subst, inl, inr, arith}
use Rattle.std.specs.Prelude.{OnErr}
use Rattle.std.proofs.Math.Seq.{map-set_same}
use Rattle.std.proofs.lemmas.Bool.{cases_eq, cases_lt}
use Rattle.std.proofs.lemmas.Option.{same_Some, slice_get-get_or, slice_get_within}
use Rattle.std.proofs.lemmas.List.{map-set, get_or-map, get_or-set_same, get_or-set_other}
use Rattle.sat_trail.specs.declared.watcher.Watcher.{Watcher}
use Rattle.sat_trail.specs.Watching.{ListsFrom, IsWithout}
use Rattle.sat_trail.proofs.Listing.{push-cases, get-append, get-last, get-within}

pub on_err : {T E : Type 0} (r : Result T E) (P : Type 0) → P → OnErr r P
on_err (Ok x) P p = tt
on_err (Err e) P p = p

-- a list seen element by element, where one element is replaced
pub view-set : {A B : Type 0} (f : A → B) (xs : List A) (p q : ℕ) (a : A) (b : B) → p ≡ q → f a ≡ b → map f (set xs p a) ≡ set (map f xs) q b
view-set f xs p q a b e h = map-set f xs p a ∙ ap (λ n. set (map f xs) n (f a)) e ∙ ap (λ x. set (map f xs) q x) h

pub view-at : {A B : Type 0} (f : A → B) (xs : List A) (p q : ℕ) (a : A) (d : B) → p ≡ q → q < length xs → a ≡ get_or xs p a → f a ≡ get_or (map f xs) q d
view-at f xs p q a d e below read = ap f read ∙ ap (λ n. f (get_or xs n a)) e ∙ sym (get_or-map f xs q a d below)

pub view-same : {A B : Type 0} (f : A → B) (xs : List A) (p : ℕ) (a b : A) → a ≡ get_or xs p a → f b ≡ f a → map f (set xs p b) ≡ map f xs
view-same f xs p a b read h = map-set_same f xs p b a (h ∙ ap f read)

-- a row without one watcher, from what is said of its places
pub without-from : {X : Type 0} (old new : List X) (gap n : ℕ) → length old ≡ n → length new + 1 ≡ n
    → ((d : X) → gap + 1 < n → get_or new gap d ≡ get_or old (n - 1) d)
    → ((k : ℕ) (d : X) → k ≢ gap → k + 1 < n → get_or new k d ≡ get_or old k d)
    → ((k : ℕ) → k ≢ gap → k + 1 < length old → slice_get new k ≡ slice_get old k) × (gap + 1 < length old → slice_get new gap ≡ slice_get old (length old - 1))
without-from {X = X} old new gap n all short moved others = (kept, last)
  where
    same : (i j : ℕ) → i < length new → j < length old → ((d : X) → get_or new i d ≡ get_or old j d) → slice_get new i ≡ slice_get old j
    same i j below below' e =
        let x = get-within old j below' in
        slice_get-get_or new i x.0 below ∙ ap (λ (y : X). Some y) (e x.0) ∙ sym (slice_get-get_or old j x.0 below')

    kept : (k : ℕ) → k ≢ gap → k + 1 < length old → slice_get new k ≡ slice_get old k
    kept k ne below = same k k (omega (arith, below, all, short)) (omega (arith, below)) (λ d. others k d ne (omega (arith, below, all)))

    last : gap + 1 < length old → slice_get new gap ≡ slice_get old (length old - 1)
    last below =
        same gap (length old - 1) (omega (arith, below, all, short)) (omega (arith, below))
        (λ d. subst (λ (m : ℕ). get_or new gap d ≡ get_or old (m - 1) d) (sym all) (moved d (omega (arith, below, all))))

-- what a row without one watcher lists
pub lists-without : (old new : List Watcher) (gap c d start : ℕ) (x : Watcher) → IsWithout old new gap → slice_get old gap ≡ Some x → x.clause ≡ c → d ≢ c → start ≤ gap
    → ListsFrom start old d → ListsFrom start new d
lists-without old new gap c d start x is found named ne low lists = go (cases_eq lists.place gap) (cases_lt (lists.place + 1) (length old))
  where
    go : (lists.place ≡ gap) ⊎ (lists.place ≡ gap → ⊥) → (lists.place + 1 < length old) ⊎ (length old ≤ lists.place + 1) → ListsFrom start new d
    go (inl same) _ =
        let one : x ≡ lists.watcher = same_Some x lists.watcher (sym found ∙ subst (λ (n : ℕ). slice_get old n ≡ Some lists.watcher) same lists.found) in
        absurd (ne (sym lists.named ∙ sym (ap (λ (w : Watcher). w.clause) one) ∙ named))
    go (inr differs) (inl inner) =
        record { place = lists.place; watcher = lists.watcher; low = lists.low; found = is.others lists.place differs inner ∙ lists.found; named = lists.named }
    go (inr differs) (inr outer) =
        let within : lists.place < length old = slice_get_within old lists.place lists.watcher lists.found in
        let gap_within : gap < length old = slice_get_within old gap x found in
        let last : lists.place ≡ length old - 1 = omega (arith, within, outer) in
        record {
          place = gap;
          watcher = lists.watcher;
          low = low;
          found = is.moved (omega (arith, gap_within, differs, within, outer)) ∙ subst (λ (n : ℕ). slice_get old n ≡ Some lists.watcher) last lists.found;
          named = lists.named;
        }

-- each watcher of the shorter row stood in the longer one
pub without-older : (old new : List Watcher) (gap k : ℕ) (x : Watcher) → IsWithout old new gap → slice_get new k ≡ Some x → (j : ℕ) × (slice_get old j ≡ Some x)
without-older old new gap k x is found = go (cases_eq k gap)
  where
    below : k < length new
    below = slice_get_within new k x found

    go : (k ≡ gap) ⊎ (k ≡ gap → ⊥) → (j : ℕ) × (slice_get old j ≡ Some x)
    go (inl same) = (
      length old - 1,
      sym (is.moved (omega (arith, below, same, is.shorter))) ∙ subst (λ (n : ℕ). slice_get new n ≡ Some x) same found,
    )
    go (inr differs) = (k, sym (is.others k differs (omega (arith, below, is.shorter))) ∙ found)

-- rows where one has a watcher more

abbrev pub pushed : List (List Watcher) → ℕ → Watcher → List (List Watcher)
pushed rows p x = set rows p (get_or rows p [] ++ x ∷ [])

row_cases : (rows : List (List Watcher)) (p q : ℕ) (row : List Watcher) → p < length rows → (q ≡ p) × (get_or (set rows p row) q [] ≡ row) ⊎ (q ≢ p) × (get_or (set rows p row) q [] ≡ get_or rows q [])
row_cases rows p q row below = elim (cases_eq q p) [ inl e ↦ inl (e, ap (λ (n : ℕ). get_or (set rows p row) n []) e ∙ get_or-set_same rows p row [] below) | inr ne ↦ inr (ne, get_or-set_other rows p q row [] ne) ]

pub lists-append : (row : List Watcher) (x : Watcher) (start c : ℕ) → ListsFrom start row c → ListsFrom start (row ++ x ∷ []) c
lists-append row x start c lists =
    record { place = lists.place; watcher = lists.watcher; low = lists.low; found = get-append row (x ∷ []) lists.place lists.watcher lists.found; named = lists.named }

lists-along : (row row' : List Watcher) (start c : ℕ) → row ≡ row' → ListsFrom start row' c → ListsFrom start row c
lists-along row row' start c e lists = subst (λ (r : List Watcher). ListsFrom start r c) (sym e) lists

pub pushed-lists : (rows : List (List Watcher)) (p : ℕ) (x : Watcher) (q start c : ℕ) → p < length rows → ListsFrom start (get_or rows q []) c → ListsFrom start (get_or (pushed rows p x) q []) c
pushed-lists rows p x q start c below lists = go (row_cases rows p q (get_or rows p [] ++ x ∷ []) below)
  where
    go : (q ≡ p) × (get_or (pushed rows p x) q [] ≡ get_or rows p [] ++ x ∷ []) ⊎ (q ≢ p) × (get_or (pushed rows p x) q [] ≡ get_or rows q []) → ListsFrom start (get_or (pushed rows p x) q []) c
    go (inl here) =
        lists-along (get_or (pushed rows p x) q []) (get_or rows p [] ++ x ∷ []) start c here.1
        (lists-append (get_or rows p []) x start c (subst (λ (n : ℕ). ListsFrom start (get_or rows n []) c) here.0 lists))
    go (inr other) = lists-along (get_or (pushed rows p x) q []) (get_or rows q []) start c other.1 lists

pub pushed-last : (rows : List (List Watcher)) (p : ℕ) (x : Watcher) → p < length rows → ListsFrom 0 (get_or (pushed rows p x) p []) x.clause
pushed-last rows p x below =
    lists-along (get_or (pushed rows p x) p []) (get_or rows p [] ++ x ∷ []) 0 x.clause (get_or-set_same rows p (get_or rows p [] ++ x ∷ []) [] below)
    record { place = length (get_or rows p []); watcher = x; low = omega arith; found = get-last (get_or rows p []) x; named = refl }

-- a watcher of the rows then is the new one, or one of before
pub pushed-older : (rows : List (List Watcher)) (p : ℕ) (x : Watcher) (q i : ℕ) (y : Watcher) → p < length rows → slice_get (get_or (pushed rows p x) q []) i ≡ Some y
    → (slice_get (get_or rows q []) i ≡ Some y) ⊎ (x ≡ y)
pushed-older rows p x q i y below found = go (row_cases rows p q (get_or rows p [] ++ x ∷ []) below)
  where
    cases : (slice_get (get_or rows p []) i ≡ Some y) ⊎ ((i ≡ length (get_or rows p [])) × (x ≡ y)) → q ≡ p → (slice_get (get_or rows q []) i ≡ Some y) ⊎ (x ≡ y)
    cases (inl old) same = inl (subst (λ (n : ℕ). slice_get (get_or rows n []) i ≡ Some y) (sym same) old)
    cases (inr last) same = inr last.1

    go : (q ≡ p) × (get_or (pushed rows p x) q [] ≡ get_or rows p [] ++ x ∷ []) ⊎ (q ≢ p) × (get_or (pushed rows p x) q [] ≡ get_or rows q []) → (slice_get (get_or rows q []) i ≡ Some y) ⊎ (x ≡ y)
    go (inl here) = cases (push-cases (get_or rows p []) x i y (subst (λ (r : List Watcher). slice_get r i ≡ Some y) here.1 found)) here.0
    go (inr other) = inl (subst (λ (r : List Watcher). slice_get r i ≡ Some y) other.1 found)
