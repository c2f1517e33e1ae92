-- Chosen steps in their order.
use Rattle.std.specs.Prelude.{◌≡◌, ◌⊎◌, Bool, true, false, cond, List, [], ◌∷◌, if◌then◌else◌, refl}
use Rattle.std.proofs.Common.{sym, ◌∙◌, subst, inl, inr}
use Rattle.std.proofs.lemmas.Bool.{false≢true}
use Rattle.odr_log.specs.declared.log.Log.{Log}
use Rattle.odr_log.specs.declared.log.Pos.{Pos}
use Rattle.guided_walk.specs.Orders.{In, Keeps}
use Rattle.guided_walk.specs.Law.{holds}
use Rattle.walk_orders.specs.Total.{IsTotal}

abbrev insert_step : (Pos → Pos → Bool) → Pos → List Pos → List Pos
insert_step before x [] = x ∷ []
insert_step before x (y ∷ ys) = if before x y then x ∷ y ∷ ys else y ∷ insert_step before x ys

abbrev pub sorted_by : (Pos → Pos → Bool) → List Pos → List Pos
sorted_by before [] = []
sorted_by before (x ∷ xs) = insert_step before x (sorted_by before xs)

in_insert_by : (before : Pos → Pos → Bool) (x y p : Pos) (ys : List Pos) → (b : Bool) → In p (cond b (x ∷ y ∷ ys) (y ∷ insert_step before x ys))
    → (In p (insert_step before x ys) → (x ≡ p) ⊎ In p ys) → (x ≡ p) ⊎ In p (y ∷ ys)
in_insert_by before x y p ys true i rest = i
in_insert_by before x y p ys false (inl e) rest = inr (inl e)
in_insert_by before x y p ys false (inr i) rest = elim (rest i) [ inl e ↦ inl e | inr j ↦ inr (inr j) ]

in_insert : (before : Pos → Pos → Bool) (x p : Pos) (ys : List Pos) → In p (insert_step before x ys) → (x ≡ p) ⊎ In p ys
in_insert before x p [] i = i
in_insert before x p (y ∷ ys) i = in_insert_by before x y p ys (before x y) i (in_insert before x p ys)

insert_in_by : (before : Pos → Pos → Bool) (x y p : Pos) (ys : List Pos) → (b : Bool) → (x ≡ p) ⊎ In p (y ∷ ys)
    → ((x ≡ p) ⊎ In p ys → In p (insert_step before x ys)) → In p (cond b (x ∷ y ∷ ys) (y ∷ insert_step before x ys))
insert_in_by before x y p ys true i rest = i
insert_in_by before x y p ys false (inl e) rest = inr (rest (inl e))
insert_in_by before x y p ys false (inr (inl e)) rest = inl e
insert_in_by before x y p ys false (inr (inr i)) rest = inr (rest (inr i))

insert_in : (before : Pos → Pos → Bool) (x p : Pos) (ys : List Pos) → (x ≡ p) ⊎ In p ys → In p (insert_step before x ys)
insert_in before x p [] i = i
insert_in before x p (y ∷ ys) i = insert_in_by before x y p ys (before x y) i (insert_in before x p ys)

pub in_sorted : (before : Pos → Pos → Bool) (p : Pos) (xs : List Pos) → In p (sorted_by before xs) → In p xs
in_sorted before p [] i = i
in_sorted before p (x ∷ xs) i = elim (in_insert before x p (sorted_by before xs) i) [ inl e ↦ inl e | inr j ↦ inr (in_sorted before p xs j) ]

pub sorted_in : (before : Pos → Pos → Bool) (p : Pos) (xs : List Pos) → In p xs → In p (sorted_by before xs)
sorted_in before p [] i = i
sorted_in before p (x ∷ xs) (inl e) = insert_in before x p (sorted_by before xs) (inl e)
sorted_in before p (x ∷ xs) (inr i) = insert_in before x p (sorted_by before xs) (inr (sorted_in before p xs i))

-- what is inserted into a list that keeps the order stands in it
insert_keeps_by : (log : Log) (chosen : List Pos) (before : Pos → Pos → Bool) → IsTotal log chosen (holds before) → (x y : Pos) (ys : List Pos) → In x chosen
    → ((p : Pos) → In p (y ∷ ys) → In p chosen) → Keeps (holds before) (y ∷ ys) → (b : Bool) → before x y ≡ b → Keeps (holds before) (insert_step before x ys)
    → Keeps (holds before) (cond b (x ∷ y ∷ ys) (y ∷ insert_step before x ys))
insert_keeps_by log chosen before total x y ys here within keeps true e rest = (
  λ (q : Pos) (i : In q (y ∷ ys)) (back : before q x ≡ true). elim i [
    | inl same ↦ total.no_ring x here (total.transitive x y x here (within y (inl refl)) here e (subst (λ (z : Pos). before z x ≡ true) (sym same) back))
    | inr j ↦ keeps.0 q j (total.transitive q x y (within q (inr j)) here (within y (inl refl)) back e)
  ],
  keeps,
)
insert_keeps_by log chosen before total x y ys here within keeps false e rest = (
  λ (q : Pos) (i : In q (insert_step before x ys)) (back : before q y ≡ true). elim (in_insert before x q ys i) [
    | inl same ↦ false≢true (sym e ∙ subst (λ (z : Pos). before z y ≡ true) (sym same) back)
    | inr j ↦ keeps.0 q j back
  ],
  rest,
)

insert_keeps : (log : Log) (chosen : List Pos) (before : Pos → Pos → Bool) → IsTotal log chosen (holds before) → (x : Pos) (ys : List Pos) → In x chosen
    → ((p : Pos) → In p ys → In p chosen) → Keeps (holds before) ys → Keeps (holds before) (insert_step before x ys)
insert_keeps log chosen before total x [] here within keeps = (λ (q : Pos) (i : In q []) (back : before q x ≡ true). absurd i, tt)
insert_keeps log chosen before total x (y ∷ ys) here within keeps =
    insert_keeps_by log chosen before total x y ys here within keeps (before x y) refl
    (insert_keeps log chosen before total x ys here (λ (p : Pos) (i : In p ys). within p (inr i)) keeps.1)

pub sorted_keeps : (log : Log) (chosen : List Pos) (before : Pos → Pos → Bool) → IsTotal log chosen (holds before) → (xs : List Pos) → ((p : Pos) → In p xs → In p chosen)
    → Keeps (holds before) (sorted_by before xs)
sorted_keeps log chosen before total [] within = tt
sorted_keeps log chosen before total (x ∷ xs) within =
    insert_keeps log chosen before total x (sorted_by before xs) (within x (inl refl)) (λ (p : Pos) (i : In p (sorted_by before xs)). within p (inr (in_sorted before p xs i)))
    (sorted_keeps log chosen before total xs (λ (p : Pos) (i : In p xs). within p (inr i)))
