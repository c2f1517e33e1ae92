-- Rivals that are gathered one access after the other.
use Rattle.std.specs.Prelude.{◌≡◌, ℕ, ◌+◌, ◌<◌, List, [], ◌∷◌, ◌++◌, length, refl}
use Rattle.std.proofs.Common.{sym, ◌∙◌, ap, subst, inl, inr, arith}
use Rattle.std.proofs.lemmas.Bool.{cases_lt}
use Rattle.std.proofs.lemmas.List.{get_or_append_left, get_or_push, length-append}
use Rattle.order_clauses.specs.declared.order_lit.OrderLit.TheVariants as order_lit
use Rattle.outcome_parts.specs.declared.rival.Rival.{Rival}
use Rattle.outcome_parts.specs.Rivals.{rival_at}
use Rattle.rivals.specs.Between.{AreRivalsBelow, HasRival, IsRivalOf, MayEnd, Placed}

abbrev no_rival : Rival
no_rival = record { access = 0; after = order_lit.Always; before = order_lit.Always }

pub none_yet : (s : Placed) (lr x : ℕ) → AreRivalsBelow s lr x 0 []
none_yet s lr x = record {
  only = λ (k : ℕ) (less : k < 0). absurd (omega (arith, less));
  below = λ (k : ℕ) (less : k < 0). absurd (omega (arith, less));
  rising = λ (j k : ℕ) (before : j < k) (less : k < 0). absurd (omega (arith, less));
  each = λ (y : ℕ) (less : y < 0). absurd (omega (arith, less));
}

pub all_done : (s : Placed) (lr x upto count : ℕ) (rivals : List Rival) → upto ≡ count → AreRivalsBelow s lr x upto rivals → AreRivalsBelow s lr x count rivals
all_done s lr x upto count rivals done are = subst (λ (n : ℕ). AreRivalsBelow s lr x n rivals) done are

-- an access that may not end the reservation is no rival
pub none_more : (s : Placed) (lr x y : ℕ) (rivals : List Rival) → (MayEnd s.log s.shapes lr x y → ⊥)
    → AreRivalsBelow s lr x y rivals → AreRivalsBelow s lr x (y + 1) rivals
none_more s lr x y rivals never are = record {
  only = are.only;
  below = λ (k : ℕ) (less : k < length rivals). let before : (rival_at rivals k).access < y = are.below k less in omega (arith, before);
  rising = are.rising;
  each = λ (z : ℕ) (less : z < y + 1) (may : MayEnd s.log s.shapes lr x z). elim (cases_lt z y) [
    | inl before ↦ are.each z before may
    | inr past ↦ let same : z ≡ y = omega (arith, less, past) in absurd (never (subst (MayEnd s.log s.shapes lr x) same may))
  ];
}

-- ---- one more rival

each_pushed : (P : Rival → Type 0) (rivals : List Rival) (rival : Rival) → ((k : ℕ) → k < length rivals → P (rival_at rivals k)) → P rival
    → (k : ℕ) → k < length (rivals ++ rival ∷ []) → P (rival_at (rivals ++ rival ∷ []) k)
each_pushed P rivals rival each last k less = elim (cases_lt k (length rivals)) [
  | inl before ↦ subst P (sym (get_or_append_left rivals (rival ∷ []) no_rival k before)) (each k before)
  | inr past ↦
      let size : length (rivals ++ rival ∷ []) ≡ length rivals + 1 = length-append rivals (rival ∷ []) in
      let at_end : k ≡ length rivals = omega (arith, less, past, size) in
      subst (λ (n : ℕ). P (rival_at (rivals ++ rival ∷ []) n)) (sym at_end) (subst P (sym (get_or_push rivals rival no_rival (length rivals) refl)) last)
]

older : (rivals : List Rival) (rival : Rival) (k : ℕ) → k < length rivals → rival_at (rivals ++ rival ∷ []) k ≡ rival_at rivals k
older rivals rival k less = get_or_append_left rivals (rival ∷ []) no_rival k less

newest : (rivals : List Rival) (rival : Rival) (k : ℕ) → k ≡ length rivals → rival_at (rivals ++ rival ∷ []) k ≡ rival
newest rivals rival k at_end = ap (rival_at (rivals ++ rival ∷ [])) at_end ∙ get_or_push rivals rival no_rival (length rivals) refl

rising_pushed : (s : Placed) (lr x : ℕ) (rivals : List Rival) (rival : Rival) → AreRivalsBelow s lr x rival.access rivals
    → (j k : ℕ) → j < k → k < length (rivals ++ rival ∷ [])
    → (rival_at (rivals ++ rival ∷ []) j).access < (rival_at (rivals ++ rival ∷ []) k).access
rising_pushed s lr x rivals rival are j k before less =
    let size : length (rivals ++ rival ∷ []) ≡ length rivals + 1 = length-append rivals (rival ∷ []) in
    let low : j < length rivals = omega (arith, before, less, size) in
    subst (λ (r : Rival). r.access < (rival_at (rivals ++ rival ∷ []) k).access) (sym (older rivals rival j low))
    (elim (cases_lt k (length rivals)) [
      | inl low_k ↦ subst (λ (r : Rival). (rival_at rivals j).access < r.access) (sym (older rivals rival k low_k)) (are.rising j k before low_k)
      | inr past ↦ subst (λ (r : Rival). (rival_at rivals j).access < r.access) (sym (newest rivals rival k (omega (arith, less, past, size)))) (are.below j low)
    ])

has_pushed : (rivals : List Rival) (rival : Rival) (y : ℕ) → HasRival rivals y → HasRival (rivals ++ rival ∷ []) y
has_pushed rivals rival y found =
    let size : length (rivals ++ rival ∷ []) ≡ length rivals + 1 = length-append rivals (rival ∷ []) in
    let less : found.0 < length rivals = found.1 in
    (found.0, omega (arith, less, size), ap (λ (r : Rival). r.access) (older rivals rival found.0 less) ∙ found.2)

has_last : (rivals : List Rival) (rival : Rival) → HasRival (rivals ++ rival ∷ []) rival.access
has_last rivals rival =
    let size : length (rivals ++ rival ∷ []) ≡ length rivals + 1 = length-append rivals (rival ∷ []) in
    (length rivals, omega (arith, size), ap (λ (r : Rival). r.access) (newest rivals rival (length rivals) refl))

one_after : (s : Placed) (lr x : ℕ) (rivals : List Rival) (rival : Rival) → IsRivalOf s lr x rival
    → AreRivalsBelow s lr x rival.access rivals → AreRivalsBelow s lr x (rival.access + 1) (rivals ++ rival ∷ [])
one_after s lr x rivals rival is are = record {
  only = each_pushed (IsRivalOf s lr x) rivals rival are.only is;
  below = each_pushed (λ (r : Rival). r.access < rival.access + 1) rivals rival
      (λ (k : ℕ) (less : k < length rivals). let before : (rival_at rivals k).access < rival.access = are.below k less in omega (arith, before))
      (omega arith);
  rising = rising_pushed s lr x rivals rival are;
  each = λ (z : ℕ) (less : z < rival.access + 1) (may : MayEnd s.log s.shapes lr x z). elim (cases_lt z rival.access) [
    | inl before ↦ has_pushed rivals rival z (are.each z before may)
    | inr past ↦ let same : rival.access ≡ z = omega (arith, less, past) in subst (HasRival (rivals ++ rival ∷ [])) same (has_last rivals rival)
  ];
}

pub one_more : (s : Placed) (lr x y : ℕ) (rival : Rival) (rivals pushed : List Rival) → pushed ≡ rivals ++ rival ∷ [] → rival.access ≡ y
    → IsRivalOf s lr x rival → AreRivalsBelow s lr x y rivals → AreRivalsBelow s lr x (y + 1) pushed
one_more s lr x y rival rivals pushed same number is are =
    subst (λ (list : List Rival). AreRivalsBelow s lr x (y + 1) list) (sym same)
    (subst (λ (n : ℕ). AreRivalsBelow s lr x (n + 1) (rivals ++ rival ∷ [])) number
    (one_after s lr x rivals rival is (subst (λ (n : ℕ). AreRivalsBelow s lr x n rivals) (sym number) are)))
