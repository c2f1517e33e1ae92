-- Places that are told one access after the other.
use Rattle.std.specs.Prelude.{◌≡◌, ℕ, ◌+◌, ◌<◌, ◌≤◌, List, [], ◌∷◌, ◌++◌, length, Option, Some, None, IfSome, IfNone, Contains, refl}
use Rattle.std.proofs.Common.{sym, ◌∙◌, ap, subst, inl, inr, arith}
use Rattle.std.proofs.lemmas.Bool.{cases_lt}
use Rattle.std.proofs.lemmas.List.{get_or_append_left, get_or_push, length-append}
use Rattle.odr_log.specs.declared.log.Pos.{Pos}
use Rattle.order_vars.specs.Chosen.{IsFirstPlace}
use Rattle.thread_terms.specs.declared.access.Access.{Access}
use Rattle.term_sources.specs.Sees.{access_at}
use Rattle.order_places.specs.Placed.{ArePlacesOf, IsPlaceOf, place_at}

-- the first so many accesses have their places
pub record PlacesUpTo (chosen : List Pos) (accesses : List Access) (at : List (Option ℕ)) (upto : ℕ) : Type 0 where
  pub bounded : upto ≤ length accesses
  pub count : length at ≡ upto
  pub each : (x : ℕ) → x < upto → IsPlaceOf chosen (access_at accesses x).pos (place_at at x)

pub told_none : (chosen : List Pos) (accesses : List Access) → PlacesUpTo chosen accesses [] 0
told_none chosen accesses = record { bounded = omega arith; count = refl; each = λ (x : ℕ) (within : x < 0). absurd (omega (arith, within)) }

place_found : (chosen : List Pos) (p : Pos) (o : Option ℕ) → IfSome o (λ (k : ℕ). IsFirstPlace chosen p k) → IfNone o (Contains chosen p → ⊥) → IsPlaceOf chosen p o
place_found chosen p None found missing = missing
place_found chosen p (Some k) found missing = found

pub told_more : (chosen : List Pos) (accesses : List Access) (at pushed : List (Option ℕ)) (o : Option ℕ) (upto : ℕ) (access : Access)
    → upto < length accesses → access ≡ access_at accesses upto
    → IfSome o (λ (k : ℕ). IsFirstPlace chosen access.pos k) → IfNone o (Contains chosen access.pos → ⊥)
    → pushed ≡ at ++ o ∷ [] → PlacesUpTo chosen accesses at upto → PlacesUpTo chosen accesses pushed (upto + 1)
told_more chosen accesses at pushed o upto access within is found missing same told =
    subst (λ (list : List (Option ℕ)). PlacesUpTo chosen accesses list (upto + 1)) (sym same) (record {
      bounded = omega (arith, within);
      count = length-append at (o ∷ []) ∙ ap (λ (n : ℕ). n + 1) told.count;
      each = λ (x : ℕ) (less : x < upto + 1). elim (cases_lt x upto) [
        | inl before ↦
            subst (IsPlaceOf chosen (access_at accesses x).pos) (sym (get_or_append_left at (o ∷ []) None x (omega (arith, before, told.count)))) (told.each x before)
        | inr past ↦
            let last : x ≡ upto = omega (arith, less, past) in
            subst (λ (k : ℕ). IsPlaceOf chosen (access_at accesses k).pos (place_at (at ++ o ∷ []) k)) (sym last)
            (subst (IsPlaceOf chosen (access_at accesses upto).pos) (sym (get_or_push at o None upto told.count))
            (subst (λ (a : Access). IsPlaceOf chosen a.pos o) is (place_found chosen access.pos o found missing)))
      ];
    })

pub told_all : (chosen : List Pos) (accesses : List Access) (at : List (Option ℕ)) (upto : ℕ) → length accesses ≤ upto → PlacesUpTo chosen accesses at upto
    → ArePlacesOf chosen accesses at
told_all chosen accesses at upto done told = record {
  count = omega (arith, done, told.bounded, told.count);
  each = λ (x : ℕ) (within : x < length accesses). told.each x (omega (arith, within, done));
}
