-- Accesses by their numbers and by their positions.
use Rattle.std.proofs.Common.{◌≡◌, ℕ, ◌<◌, ◌⊎◌, Bool, true, false, ◌&&◌, List, length, refl, sym, ◌∙◌, ap, subst, inl, inr}
use Rattle.std.specs.Prelude.{nat_eq, None, Contains}
use Rattle.std.proofs.lemmas.Bool.{false≢true, and_parts, and_from, eqb-true, eq-eqb, cases_order}
use Rattle.std.proofs.lemmas.List.{get_or_default}
use Rattle.std.proofs.lemmas.List.Elements.{Contains-get_or}
use Rattle.odr_log.specs.declared.log.Pos.{Pos}
use Rattle.order_clauses.proofs.Counts.{find-below}
use Rattle.race_set.specs.declared.shape.AccessShape.{AccessShape}
use Rattle.race_set.specs.Accesses.{AreDifferent, shape_at}

abbrev pub no_shape : AccessShape
no_shape = record { pos = record { thread = 0; step = 0 }; reads = false; writes = false; place = None; link = None }

pub listed_at : (shapes : List AccessShape) (i : ℕ) → i < length shapes → Contains shapes (shape_at shapes i)
listed_at shapes i within = Contains-get_or shapes i no_shape within

-- each listed access has a number
pub number_of_listed : (shapes : List AccessShape) (z : AccessShape) → Contains shapes z → (i : ℕ) × (i < length shapes) × (shape_at shapes i ≡ z)
number_of_listed shapes z h = (h.0, h.1, get_or_default shapes h.0 no_shape z h.1 ∙ h.2)

-- no two numbers are of the same step
pub same_number : (shapes : List AccessShape) → AreDifferent shapes → (i j : ℕ) → i < length shapes → j < length shapes
    → (shape_at shapes i).pos ≡ (shape_at shapes j).pos → i ≡ j
same_number shapes differ i j i_in j_in e = go (cases_order i j)
  where
    go : (i ≡ j) ⊎ ((i < j) ⊎ (j < i)) → i ≡ j
    go (inl same) = same
    go (inr (inl less)) = absurd (differ i j no_shape less j_in e)
    go (inr (inr more)) = absurd (differ j i no_shape more i_in (sym e))

pub same_pos : (p q : Pos) → p.thread ≡ q.thread → p.step ≡ q.step → p ≡ q
same_pos p q e f = ap (λ (t : ℕ). let r : Pos = record { thread = t; step = p.step } in r) e ∙ ap (λ (s : ℕ). let r : Pos = record { thread = q.thread; step = s } in r) f

pos_eq : Pos → Pos → Bool
pos_eq p q = nat_eq p.thread q.thread && nat_eq p.step q.step

pos_eq-true : (p q : Pos) → pos_eq p q ≡ true → p ≡ q
unfolding pos_eq
pos_eq-true p q e =
    let parts = and_parts (nat_eq p.thread q.thread) (nat_eq p.step q.step) e in
    same_pos p q (eqb-true p.thread q.thread parts.0) (eqb-true p.step q.step parts.1)

pos_eq-same : (p : Pos) → pos_eq p p ≡ true
unfolding pos_eq
pos_eq-same p = and_from (nat_eq p.thread p.thread) (nat_eq p.step p.step) (eq-eqb p.thread p.thread refl) (eq-eqb p.step p.step refl)

abbrev Found : List AccessShape → Pos → Type 0
Found shapes p =
    ((m : ℕ) × (m < length shapes) × (pos_eq (shape_at shapes m).pos p ≡ true)) ⊎ ((m : ℕ) → m < length shapes → pos_eq (shape_at shapes m).pos p ≡ false)

found : (shapes : List AccessShape) (p : Pos) → Found shapes p
found shapes p = find-below (length shapes) (λ m. pos_eq (shape_at shapes m).pos p)

number_in : (shapes : List AccessShape) (p : Pos) → Found shapes p → ℕ
number_in shapes p (inl some) = some.0
number_in shapes p (inr none) = length shapes

-- the number of the access at a position
pub number_of : List AccessShape → Pos → ℕ
number_of shapes p = number_in shapes p (found shapes p)

number_in-is : (shapes : List AccessShape) → AreDifferent shapes → (i : ℕ) → i < length shapes → (f : Found shapes (shape_at shapes i).pos)
    → number_in shapes (shape_at shapes i).pos f ≡ i
unfolding number_in
number_in-is shapes differ i within (inl some) =
    same_number shapes differ some.0 i some.1 within (pos_eq-true (shape_at shapes some.0).pos (shape_at shapes i).pos some.2)
number_in-is shapes differ i within (inr none) = absurd (false≢true (sym (none i within) ∙ pos_eq-same (shape_at shapes i).pos))

pub number_of-is : (shapes : List AccessShape) → AreDifferent shapes → (i : ℕ) → i < length shapes → number_of shapes (shape_at shapes i).pos ≡ i
unfolding number_of
number_of-is shapes differ i within = number_in-is shapes differ i within (found shapes (shape_at shapes i).pos)

pub number_of-pos : (shapes : List AccessShape) → AreDifferent shapes → (i : ℕ) → i < length shapes → (p : Pos) → (shape_at shapes i).pos ≡ p
    → number_of shapes p ≡ i
number_of-pos shapes differ i within p e = subst (λ (q : Pos). number_of shapes q ≡ i) e (number_of-is shapes differ i within)
