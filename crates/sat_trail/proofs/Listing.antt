-- Elements of lists by their places, and literals by theirs.
use Rattle.std.proofs.Common.{◌≡◌, ◌≢◌, ℕ, zero, suc, ◌<◌, ◌⊎◌, Bool, true, false, not, Some, List, [], ◌∷◌, ◌++◌, take, set, length, slice_get, refl, sym, ◌∙◌, ap, inl, inr, arith}
use Rattle.std.proofs.lemmas.Option.{none-some, same_Some}
use Rattle.clause_store.specs.declared.lit.Lit.{Lit}
use Rattle.clause_store.specs.Literals.{opposite}
use Rattle.sat_trail.specs.Packing.{place_of, lit_of, lit_of-place_of}

-- an element of a list with one more at its end
pub push-cases : {X : Type 0} (xs : List X) (y : X) (p : ℕ) (x : X) → slice_get (xs ++ y ∷ []) p ≡ Some x → (slice_get xs p ≡ Some x) ⊎ ((p ≡ length xs) × (y ≡ x))
push-cases [] y zero x e = inr (refl, same_Some y x e)
push-cases [] y (suc p) x e = absurd (none-some x e)
push-cases (z ∷ xs) y zero x e = inl e
push-cases (z ∷ xs) y (suc p) x e = go (push-cases xs y p x e)
  where
    go : (slice_get xs p ≡ Some x) ⊎ ((p ≡ length xs) × (y ≡ x)) → (slice_get xs p ≡ Some x) ⊎ ((suc p ≡ suc (length xs)) × (y ≡ x))
    go (inl found) = inl found
    go (inr last) = inr (ap (λ (n : ℕ). suc n) last.0, last.1)

pub get-append : {X : Type 0} (xs ys : List X) (p : ℕ) (x : X) → slice_get xs p ≡ Some x → slice_get (xs ++ ys) p ≡ Some x
get-append [] ys p x e = absurd (none-some x e)
get-append (z ∷ xs) ys zero x e = e
get-append (z ∷ xs) ys (suc p) x e = get-append xs ys p x e

pub get-last : {X : Type 0} (xs : List X) (y : X) → slice_get (xs ++ y ∷ []) (length xs) ≡ Some y
get-last [] y = refl
get-last (z ∷ xs) y = get-last xs y

-- an element of a front of a list
pub get-take : {X : Type 0} (n : ℕ) (xs : List X) (p : ℕ) (x : X) → slice_get (take n xs) p ≡ Some x → (slice_get xs p ≡ Some x) × (p < n)
get-take zero xs p x e = absurd (none-some x e)
get-take (suc n) [] p x e = absurd (none-some x e)
get-take (suc n) (z ∷ xs) zero x e = (e, omega arith)
get-take (suc n) (z ∷ xs) (suc p) x e = let found = get-take n xs p x e in (found.0, omega (arith, found.1))

pub get-front : {X : Type 0} (n : ℕ) (xs : List X) (p : ℕ) (x : X) → p < n → slice_get xs p ≡ Some x → slice_get (take n xs) p ≡ Some x
get-front zero xs p x below e = absurd (omega (arith, below))
get-front (suc n) [] p x below e = e
get-front (suc n) (z ∷ xs) zero x below e = e
get-front (suc n) (z ∷ xs) (suc p) x below e = get-front n xs p x (omega (arith, below)) e

pub take-more_get : {X : Type 0} (xs : List X) (p : ℕ) (x : X) → slice_get xs p ≡ Some x → take (suc p) xs ≡ take p xs ++ x ∷ []
take-more_get {X = X} [] p x e = absurd (none-some x e)
take-more_get {X = X} (z ∷ xs) zero x e = ap (λ (y : X). y ∷ []) (same_Some z x e)
take-more_get {X = X} (z ∷ xs) (suc p) x e = ap (λ (ys : List X). z ∷ ys) (take-more_get xs p x e)

-- an element of a list in which one was replaced
pub get-set_other : {X : Type 0} (xs : List X) (i p : ℕ) (y : X) → p ≢ i → slice_get (set xs i y) p ≡ slice_get xs p
get-set_other [] i p y ne = refl
get-set_other (z ∷ xs) zero zero y ne = absurd (ne refl)
get-set_other (z ∷ xs) zero (suc p) y ne = refl
get-set_other (z ∷ xs) (suc i) zero y ne = refl
get-set_other (z ∷ xs) (suc i) (suc p) y ne = get-set_other xs i p y (λ e. ne (ap (λ (n : ℕ). suc n) e))

pub get-set_same : {X : Type 0} (xs : List X) (i : ℕ) (y x : X) → slice_get (set xs i y) i ≡ Some x → y ≡ x
get-set_same [] i y x e = absurd (none-some x e)
get-set_same (z ∷ xs) zero y x e = same_Some y x e
get-set_same (z ∷ xs) (suc i) y x e = get-set_same xs i y x e

pub get-set_at : {X : Type 0} (xs : List X) (i : ℕ) (y : X) → i < length xs → slice_get (set xs i y) i ≡ Some y
get-set_at [] i y below = absurd (omega (arith, below))
get-set_at (z ∷ xs) zero y below = refl
get-set_at (z ∷ xs) (suc i) y below = get-set_at xs i y (omega (arith, below))

pub get-within : {X : Type 0} (xs : List X) (i : ℕ) → i < length xs → (x : X) × (slice_get xs i ≡ Some x)
get-within [] i below = absurd (omega (arith, below))
get-within (z ∷ xs) zero below = (z, refl)
get-within (z ∷ xs) (suc i) below = get-within xs i (omega (arith, below))

-- literals of one place are one literal
pub place-one : (a b : Lit) → place_of a ≡ place_of b → a ≡ b
place-one a b e = sym (lit_of-place_of a) ∙ ap lit_of e ∙ lit_of-place_of b

sign_cases : (p q : Bool) → (p ≡ q) ⊎ (p ≡ not q)
sign_cases true true = inl refl
sign_cases true false = inr refl
sign_cases false true = inr refl
sign_cases false false = inl refl

pub same_lit : (a b : Lit) → a.var ≡ b.var → a.positive ≡ b.positive → a ≡ b
same_lit a b e f =
    let make : ℕ → Bool → Lit = λ n p. record { var = n; positive = p } in
    ap (λ (n : ℕ). make n a.positive) e ∙ ap (λ (p : Bool). make b.var p) f

-- literals of one variable are one literal or opposites
pub one_var_cases : (a b : Lit) → a.var ≡ b.var → (a ≡ b) ⊎ (a ≡ opposite b)
one_var_cases a b e = go (sign_cases a.positive b.positive)
  where
    go : (a.positive ≡ b.positive) ⊎ (a.positive ≡ not b.positive) → (a ≡ b) ⊎ (a ≡ opposite b)
    go (inl same) = inl (same_lit a b e same)
    go (inr other) = inr (same_lit a (opposite b) e other)

pub not-twice : (b : Bool) → not (not b) ≡ b
not-twice true = refl
not-twice false = refl

pub opposite-twice : (l : Lit) → opposite (opposite l) ≡ l
opposite-twice l = same_lit (opposite (opposite l)) l refl (not-twice l.positive)
