-- Members of lists that are made by tests and by parts of their items.
use Rattle.std.proofs.Common.{◌≡◌, zero, suc, ◌⊎◌, Bool, true, List, [], ◌∷◌, get_or, Option, Some, None, refl, sym, ◌∙◌, ap, subst, inl, inr, arith}
use Rattle.std.specs.Prelude.{AllPairs, Contains, Any}
use Rattle.std.specs.List.{cons_option, filter_map, list_any}
use Rattle.std.proofs.lemmas.Option.{same_Some, none-some}
use Rattle.std.proofs.lemmas.List.Elements.{Contains-get_or, Contains-append_left, Contains-append_right, Contains-append_cases}
use Rattle.std.proofs.lemmas.List.Kept.{AllPairs-cons}
use Rattle.std.proofs.lemmas.List.Folds.{Any-from_list_any, list_any-from_Any}

-- the first of a list, or one of the rest

head_is : {X : Type 0} (x y : X) → Contains (x ∷ []) y → x ≡ y
head_is x y (zero, below, e) = e
head_is x y (suc k, below, e) = absurd (omega (arith, below))

head_in : {X : Type 0} (x : X) → Contains (x ∷ []) x
head_in x = (0, omega arith, refl)

cons_cases : {X : Type 0} (x : X) (xs : List X) (y : X) → Contains (x ∷ xs) y → (x ≡ y) ⊎ Contains xs y
cons_cases {X} x xs y h = go (Contains-append_cases (x ∷ []) xs y h)
  where
    go : Contains (x ∷ []) y ⊎ Contains xs y → (x ≡ y) ⊎ Contains xs y
    go (inl first) = inl (head_is x y first)
    go (inr rest) = inr rest

cons_first : {X : Type 0} (x : X) (xs : List X) → Contains (x ∷ xs) x
cons_first x xs = Contains-append_left (x ∷ []) xs x (head_in x)

cons_rest : {X : Type 0} (x : X) (xs : List X) (y : X) → Contains xs y → Contains (x ∷ xs) y
cons_rest x xs y h = Contains-append_right (x ∷ []) xs y h

-- parts that are there

abbrev pub Part : {X Y : Type 0} → (X → Option Y) → List X → Y → Type 0
Part {X} h xs y = (x : X) × Contains xs x × (h x ≡ Some y)

later_part : {X Y : Type 0} (h : X → Option Y) (x : X) (xs : List X) (y : Y) → Part h xs y → Part h (x ∷ xs) y
later_part h x xs y p = (p.0, cons_rest x xs p.0 p.1, p.2)

no_member : {X : Type 0} (y : X) → Contains [] y → ⊥
no_member y h = omega (arith, h.1)

pub from_filter_map : {X Y : Type 0} (h : X → Option Y) (xs : List X) (y : Y) → Contains (filter_map h xs) y → Part h xs y
from_filter_map h [] y c = absurd (no_member y c)
from_filter_map {X} {Y} h (x ∷ xs) y c = go (h x) refl c (λ m. from_filter_map h xs y m)
  where
    go : (o : Option Y) → h x ≡ o → Contains (cons_option o (filter_map h xs)) y → (Contains (filter_map h xs) y → Part h xs y) → Part h (x ∷ xs) y
    go None e m again = later_part h x xs y (again m)
    go (Some z) e m again = pick (cons_cases z (filter_map h xs) y m)
      where
        pick : (z ≡ y) ⊎ Contains (filter_map h xs) y → Part h (x ∷ xs) y
        pick (inl same) = (x, cons_first x xs, e ∙ ap (λ (t : Y). Some t) same)
        pick (inr rest) = later_part h x xs y (again rest)

pub to_filter_map : {X Y : Type 0} (h : X → Option Y) (xs : List X) (x : X) (y : Y) → Contains xs x → h x ≡ Some y → Contains (filter_map h xs) y
to_filter_map h [] x y c e = absurd (no_member x c)
to_filter_map {X} {Y} h (z ∷ xs) x y c e = go (cons_cases z xs x c) (λ m. to_filter_map h xs x y m e)
  where
    first : (o : Option Y) → o ≡ Some y → Contains (cons_option o (filter_map h xs)) y
    first None f = absurd (none-some y f)
    first (Some t) f = subst (λ (v : Y). Contains (v ∷ filter_map h xs) y) (sym (same_Some t y f)) (cons_first y (filter_map h xs))

    rest : (o : Option Y) → Contains (filter_map h xs) y → Contains (cons_option o (filter_map h xs)) y
    rest None m = m
    rest (Some t) m = cons_rest t (filter_map h xs) y m

    go : (z ≡ x) ⊎ Contains xs x → (Contains xs x → Contains (filter_map h xs) y) → Contains (cons_option (h z) (filter_map h xs)) y
    go (inl same) again = first (h z) (subst (λ (t : X). h t ≡ Some y) (sym same) e)
    go (inr later) again = rest (h z) (again later)

-- a test of some member

abbrev pub Tested : {X : Type 0} → (X → Bool) → List X → Type 0
Tested {X} test xs = (x : X) × Contains xs x × (test x ≡ true)

pub from_any : {X : Type 0} (test : X → Bool) (xs : List X) → list_any test xs ≡ true → Tested test xs
from_any {X} test xs e =
    let a : Any (λ (x : X). test x ≡ true) xs = Any-from_list_any test xs e in
    (a.1, (a.0, a.2, a.3), a.4)

pub to_any : {X : Type 0} (test : X → Bool) (xs : List X) (x : X) → Contains xs x → test x ≡ true → list_any test xs ≡ true
to_any test xs x c e = list_any-from_Any test xs (c.0, x, c.1, c.2, e)

-- pairs of items whose parts are there

pub pairs_filter_map : {X Y : Type 0} (R : X → X → Type 0) (S : Y → Y → Type 0) (h : X → Option Y)
    → ((q r : X) (s t : Y) → R q r → h q ≡ Some s → h r ≡ Some t → S s t) → (xs : List X) → AllPairs R xs → AllPairs S (filter_map h xs)
pairs_filter_map R S h leads [] pairs = λ i j d less j_in. absurd (omega (arith, j_in))
pairs_filter_map {X} {Y} R S h leads (x ∷ xs) pairs =
    go (h x) refl (pairs_filter_map R S h leads xs (λ i j d less j_in. pairs (suc i) (suc j) d (omega (arith, less)) (omega (arith, j_in))))
  where
    later : (r : X) → Contains xs r → R x r
    later r c = subst (λ (t : X). R x t) c.2 (pairs 0 (suc c.0) r (omega arith) (omega (arith, c.1)))

    go : (o : Option Y) → h x ≡ o → AllPairs S (filter_map h xs) → AllPairs S (cons_option o (filter_map h xs))
    go None e rest = rest
    go (Some s) e rest =
        AllPairs-cons S s (filter_map h xs)
        (λ i d i_in.
        let part = from_filter_map h xs (get_or (filter_map h xs) i d) (Contains-get_or (filter_map h xs) i d i_in) in
        leads x part.0 s (get_or (filter_map h xs) i d) (later part.0 part.1) e part.2)
        rest
