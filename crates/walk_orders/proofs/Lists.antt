-- Members of lists of steps and which stands before which, in what is filtered and in lists one after the other.
use Rattle.std.specs.Prelude.{◌≡◌, ◌⊎◌, Bool, true, false, cond, List, [], ◌∷◌, ◌++◌, refl}
use Rattle.std.specs.List.{filter}
use Rattle.std.proofs.Common.{sym, ◌∙◌, ap, subst, inl, inr}
use Rattle.std.proofs.lemmas.Bool.{false≢true}
use Rattle.odr_log.specs.declared.log.Pos.{Pos}
use Rattle.guided_walk.specs.Orders.{In, Keeps, Distinct, Stands}

-- ---- members

pub in_right : (p : Pos) (xs ys : List Pos) → In p ys → In p (xs ++ ys)
in_right p [] ys i = i
in_right p (x ∷ xs) ys i = inr (in_right p xs ys i)

filter_in_by : (test : Pos → Bool) (x p : Pos) (xs : List Pos) → (b : Bool) → test x ≡ b → In p (cond b (x ∷ filter test xs) (filter test xs))
    → (In p (filter test xs) → In p xs × (test p ≡ true)) → In p (x ∷ xs) × (test p ≡ true)
filter_in_by test x p xs true e (inl same) rest = (inl same, ap test (sym same) ∙ e)
filter_in_by test x p xs true e (inr i) rest = let found : In p xs × (test p ≡ true) = rest i in (inr found.0, found.1)
filter_in_by test x p xs false e i rest = let found : In p xs × (test p ≡ true) = rest i in (inr found.0, found.1)

pub in_filter : (test : Pos → Bool) (p : Pos) (xs : List Pos) → In p (filter test xs) → In p xs × (test p ≡ true)
in_filter test p [] i = absurd i
in_filter test p (x ∷ xs) i = filter_in_by test x p xs (test x) refl i (in_filter test p xs)

in_filter_by : (test : Pos → Bool) (x p : Pos) (xs : List Pos) → (b : Bool) → test x ≡ b → test p ≡ true → In p (x ∷ xs)
    → (In p xs → In p (filter test xs)) → In p (cond b (x ∷ filter test xs) (filter test xs))
in_filter_by test x p xs true e passes (inl same) rest = inl same
in_filter_by test x p xs true e passes (inr i) rest = inr (rest i)
in_filter_by test x p xs false e passes (inl same) rest = absurd (false≢true (sym e ∙ ap test same ∙ passes))
in_filter_by test x p xs false e passes (inr i) rest = rest i

pub filter_in : (test : Pos → Bool) (p : Pos) (xs : List Pos) → In p xs → test p ≡ true → In p (filter test xs)
filter_in test p [] i passes = absurd i
filter_in test p (x ∷ xs) i passes = in_filter_by test x p xs (test x) refl passes i (λ (j : In p xs). filter_in test p xs j passes)

-- ---- which stands before which

pub stands_left : (p q : Pos) (xs ys : List Pos) → Stands xs p q → Stands (xs ++ ys) p q
stands_left p q xs ys s = go xs s where
  in_more : (zs : List Pos) → In q zs → In q (zs ++ ys)
  in_more [] i = absurd i
  in_more (z ∷ zs) (inl e) = inl e
  in_more (z ∷ zs) (inr i) = inr (in_more zs i)

  go : (zs : List Pos) → Stands zs p q → Stands (zs ++ ys) p q
  go [] t = absurd t
  go (z ∷ zs) (inl t) = inl (t.0, in_more zs t.1)
  go (z ∷ zs) (inr t) = inr (go zs t)

pub stands_right : (p q : Pos) (xs ys : List Pos) → Stands ys p q → Stands (xs ++ ys) p q
stands_right p q [] ys s = s
stands_right p q (x ∷ xs) ys s = inr (stands_right p q xs ys s)

pub stands_across : (p q : Pos) (xs ys : List Pos) → In p xs → In q ys → Stands (xs ++ ys) p q
stands_across p q [] ys i j = absurd i
stands_across p q (x ∷ xs) ys (inl e) j = inl (e, in_right q xs ys j)
stands_across p q (x ∷ xs) ys (inr i) j = inr (stands_across p q xs ys i j)

pub stands_first : (p q : Pos) (xs : List Pos) → Stands xs p q → In p xs
stands_first p q [] s = absurd s
stands_first p q (x ∷ xs) (inl s) = inl s.0
stands_first p q (x ∷ xs) (inr s) = inr (stands_first p q xs s)

pub stands_second : (p q : Pos) (xs : List Pos) → Stands xs p q → In q xs
stands_second p q [] s = absurd s
stands_second p q (x ∷ xs) (inl s) = inr s.1
stands_second p q (x ∷ xs) (inr s) = inr (stands_second p q xs s)

-- where each step stands once, what stands before is a strict order

pub stands_then : (p q r : Pos) (xs : List Pos) → Distinct xs → Stands xs p q → Stands xs q r → Stands xs p r
stands_then p q r [] distinct s t = absurd s
stands_then p q r (x ∷ xs) distinct (inl s) (inl t) = inl (s.0, t.1)
stands_then p q r (x ∷ xs) distinct (inl s) (inr t) = inl (s.0, stands_second q r xs t)
stands_then p q r (x ∷ xs) distinct (inr s) (inl t) = absurd (distinct.0 (subst (λ (y : Pos). In y xs) (sym t.0) (stands_second p q xs s)))
stands_then p q r (x ∷ xs) distinct (inr s) (inr t) = inr (stands_then p q r xs distinct.1 s t)

pub stands_once : (p : Pos) (xs : List Pos) → Distinct xs → Stands xs p p → ⊥
stands_once p [] distinct s = absurd s
stands_once p (x ∷ xs) distinct (inl s) = distinct.0 (subst (λ (y : Pos). In y xs) (sym s.0) s.1)
stands_once p (x ∷ xs) distinct (inr s) = stands_once p xs distinct.1 s

pub stands_or : (p q : Pos) (xs : List Pos) → In p xs → In q xs → (p ≡ q → ⊥) → Stands xs p q ⊎ Stands xs q p
stands_or p q [] i j ne = absurd i
stands_or p q (x ∷ xs) (inl e) (inl f) ne = absurd (ne (sym e ∙ f))
stands_or p q (x ∷ xs) (inl e) (inr j) ne = inl (inl (e, j))
stands_or p q (x ∷ xs) (inr i) (inl f) ne = inr (inl (f, i))
stands_or p q (x ∷ xs) (inr i) (inr j) ne = elim (stands_or p q xs i j ne) [ inl s ↦ inl (inr s) | inr s ↦ inr (inr s) ]

-- a list in which a relation stands keeps it
pub keeps_standing : (R : Pos → Pos → Type 0) (xs : List Pos) → Distinct xs → ((p q : Pos) → In p xs → In q xs → R p q → Stands xs p q) → Keeps R xs
keeps_standing R [] distinct stands = tt
keeps_standing R (x ∷ xs) distinct stands = (
  λ (q : Pos) (i : In q xs) (r : R q x). elim (stands q x (inr i) (inl refl) r) [
    | inl s ↦ distinct.0 s.1
    | inr s ↦ distinct.0 (stands_second q x xs s)
  ],
  keeps_standing R xs distinct.1 (λ (p q : Pos) (i : In p xs) (j : In q xs) (r : R p q). elim (stands p q (inr i) (inr j) r) [
    | inl s ↦ absurd (distinct.0 (subst (λ (y : Pos). In y xs) (sym s.0) i))
    | inr s ↦ s
  ]),
)

pub keeps_stands : (R : Pos → Pos → Type 0) (p q : Pos) (xs : List Pos) → Keeps R xs → Stands xs p q → R q p → ⊥
keeps_stands R p q [] keeps s r = s
keeps_stands R p q (x ∷ xs) keeps (inl s) r = keeps.0 q s.1 (subst (λ (y : Pos). R q y) (sym s.0) r)
keeps_stands R p q (x ∷ xs) keeps (inr s) r = keeps_stands R p q xs keeps.1 s r
