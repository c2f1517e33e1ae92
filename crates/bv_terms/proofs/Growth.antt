-- What a pool keeps, after one more node.
use Rattle.std.proofs.Common.{◌≡◌, ℕ, ◌<◌, Bool, true, false, cond, List, [], ◌∷◌, ◌++◌, length, Some, slice_get, refl, sym, ◌∙◌, ap, subst, arith, length-append, inl, inr}
use Rattle.std.specs.Prelude.{option_map}
use Rattle.std.proofs.lemmas.Bool.{cases_lt}
use Rattle.std.proofs.lemmas.List.{map_push, length-map}
use Rattle.std.proofs.lemmas.Option.{slice_get_within, slice_get-map}
use Rattle.bv_terms.specs.declared.term.Term.{Term}
use Rattle.bv_terms.specs.Shapes.{Shape, shape_of}
use Rattle.bv_terms.specs.Values.{width_at, node_width, KeepsTerms}
use Rattle.bv_terms.specs.Fitting.{IsFitting}
use Rattle.bv_terms.specs.Placed.{AreFitting, ArePlaced, shapes_of}
use Rattle.bv_terms.specs.Shared.{GainsAtMost}
use Rattle.bv_terms.specs.Variables.{IsTermOf}
use Rattle.bv_terms.proofs.Terms.{keeps-append, keeps-same, AreFitting-push, is_term_of, width_at-push}
use Rattle.bv_terms.proofs.Gathered.{slice_get-append, slice_get-push}

-- the terms after a node was found or added
pub data Grown (old : List Term) (term : Term) : List Term → Type 0 where
  Found : Grown old term old
  Added : Grown old term (old ++ term ∷ [])

pub grown : (old : List Term) (term : Term) (found : Bool) → Grown old term (cond found old (old ++ term ∷ []))
grown old term true = Found
grown old term false = Added

pub keeps_grown : (old new : List Term) (term : Term) → Grown old term new → KeepsTerms (shapes_of old) (shapes_of new)
keeps_grown old _ term Found = keeps-same (shapes_of old)
keeps_grown old _ term Added = subst (λ l. KeepsTerms (shapes_of old) l) (sym (map_push (λ (t : Term). shape_of t.node) old term)) (keeps-append (shapes_of old) (shape_of term.node ∷ []))

same_term : (a b : Term) → Some a ≡ Some b → a ≡ b
same_term a b e = cc

pub placed_grown : (old new : List Term) (term : Term) → Grown old term new → ArePlaced old
    → IsFitting (width_at (shapes_of old)) (length (shapes_of old)) (shape_of term.node) → term.width ≡ node_width (width_at (shapes_of old)) (shape_of term.node) → ArePlaced new
placed_grown old _ term Found placed fits width = placed
placed_grown old _ term Added placed fits width =
    let keeps = keeps_grown old (old ++ term ∷ []) term Added in
    let all = map_push (λ (t : Term). shape_of t.node) old term in
    let fitting = subst AreFitting (sym all) (AreFitting-push (shapes_of old) (shape_of term.node) placed.fitting fits) in
    record {
      fitting = fitting;
      widths = λ id found at. elim (cases_lt id (length old)) [
        | inl h ↦
            let there : slice_get old id ≡ Some found = sym (slice_get-append old (term ∷ []) term id h) ∙ at in
            placed.widths id found there ∙ sym (keeps.width id (subst (λ n. id < n) (sym (length-map old (λ (t : Term). shape_of t.node))) h))
        | inr h ↦
            let inside = slice_get_within (old ++ term ∷ []) id found at in
            let e : id ≡ length old = omega (arith, inside, length-append old (term ∷ [])) in
            let here : term ≡ found = same_term term found (sym (slice_get-push old term) ∙ subst (λ i. slice_get (old ++ term ∷ []) i ≡ Some found) e at) in
            let count = length-map old (λ (t : Term). shape_of t.node) in
            let known = ap (λ l. width_at l (length old)) all ∙ ap (λ i. width_at (shapes_of old ++ shape_of term.node ∷ []) i) (sym count) ∙ width_at-push (shapes_of old) (shape_of term.node) in
            ap (λ (t : Term). t.width) (sym here) ∙ width ∙ sym known ∙ ap (λ i. width_at (shapes_of (old ++ term ∷ [])) i) (sym e)
      ];
    }

-- where the term was found or added
pub found_grown : (new : List Term) (term : Term) (id : ℕ) (found : Term) → slice_get new id ≡ Some found → shape_of term.node ≡ shape_of found.node → slice_get (shapes_of new) id ≡ Some (shape_of term.node)
found_grown new term id found at same = slice_get-map (λ (t : Term). shape_of t.node) new id ∙ ap (option_map (λ (t : Term). shape_of t.node)) at ∙ ap (λ (n : Shape). Some n) (sym same)

-- what `store` ensures of the term that it answers
pub term_grown : (old new : List Term) (term : Term) → Grown old term new → ArePlaced old
    → IsFitting (width_at (shapes_of old)) (length (shapes_of old)) (shape_of term.node) → term.width ≡ node_width (width_at (shapes_of old)) (shape_of term.node)
    → (id : ℕ) (found : Term) → slice_get new id ≡ Some found → shape_of term.node ≡ shape_of found.node → IsTermOf (shapes_of old) (shapes_of new) (shape_of term.node) id
term_grown old new term grown placed fits width id found at same =
    is_term_of (shapes_of old) (shapes_of new) (keeps_grown old new term grown) placed.fitting (placed_grown old new term grown placed fits width).fitting id (shape_of term.node)
    (found_grown new term id found at same) fits

pub gains_grown : (old new : List Term) (term : Term) → Grown old term new → (id : ℕ) → slice_get (shapes_of new) id ≡ Some (shape_of term.node) → GainsAtMost (shapes_of old) (shapes_of new) id
gains_grown old _ term Found id at = inl refl
gains_grown old _ term Added id at = inr (shape_of term.node, at, map_push (λ (t : Term). shape_of t.node) old term)
