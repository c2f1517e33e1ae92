-- Constraints that are required one after another.
use Rattle.std.specs.Prelude.{◌≡◌, ◌<◌, List, [], ◌∷◌, ◌++◌, All, length}
use Rattle.std.proofs.Common.{sym, ◌∙◌, ap, subst, refl}
use Rattle.std.proofs.lemmas.List.Elements.{All-contains}
use Rattle.bv_terms.specs.declared.node.TermId.{TermId}
use Rattle.clause_store.proofs.Members.{All-left, All-right, Contains-head}
use Rattle.encoder.specs.declared.encoder.Encoder.{Encoder}
use Rattle.encoder.specs.Encodes.{IsKnown, Keeps, Requires}
use Rattle.encoder.proofs.Encoding.{encodes_none, keeps_then}
use Rattle.formula_parts.specs.Order.{Setting}
use Rattle.formula_parts.specs.Facts.{Fact, Is}
use Rattle.formula_parts.specs.Parts.{Adds, StandsOn}
use Rattle.formula_parts.proofs.Composing.{nothing, parts_then, stands_later}
use Rattle.formula_parts.proofs.Required.{required}
use Rattle.formula_facts.specs.Constraints.{AddsConstraints, facts_of}

-- so many constraints were required
pub record HasRequired (old now : Encoder) (constraints : List TermId) : Type 0 where
  pub keeps : Keeps old now
  pub adds : AddsConstraints old now constraints
  pub same : now.pool ≡ old.pool

pub none_required : (old : Encoder) → IsKnown old → HasRequired old old []
none_required old known = record {
  keeps = (encodes_none old [] known).keeps;
  adds = λ (setting : Setting) (stands : StandsOn setting old) (inside : All (λ (id : TermId). id.number < length setting.nodes) []). nothing setting old stands;
  same = refl;
}

facts_push : (constraints : List TermId) (id : TermId) → facts_of (constraints ++ id ∷ []) ≡ facts_of constraints ++ Is id.number ∷ []
facts_push [] id = refl
facts_push (first ∷ more) id = ap (λ (facts : List Fact). Is first.number ∷ facts) (facts_push more id)

pub one_required : (old now new : Encoder) (constraints : List TermId) (id : TermId) → HasRequired old now constraints → Requires now new id.number → new.pool ≡ now.pool
    → HasRequired old new (constraints ++ id ∷ [])
one_required old now new constraints id so_far requires_it same = record {
  keeps = keeps_then old now new so_far.keeps requires_it.keeps;
  adds = λ (setting : Setting) (stands : StandsOn setting old) (inside : All (λ (term : TermId). term.number < length setting.nodes) (constraints ++ id ∷ [])).
      let first : Adds setting old now (facts_of constraints) =
      so_far.adds setting stands (All-left (λ (term : TermId). term.number < length setting.nodes) constraints (id ∷ []) inside) in
      let last : All (λ (term : TermId). term.number < length setting.nodes) (id ∷ []) =
      All-right (λ (term : TermId). term.number < length setting.nodes) constraints (id ∷ []) inside in
      subst (Adds setting old new) (sym (facts_push constraints id))
      (parts_then setting old now new (facts_of constraints) (Is id.number ∷ []) stands first
      (required setting now new id.number (stands_later setting old now (facts_of constraints) stands first)
      (All-contains (λ (term : TermId). term.number < length setting.nodes) (id ∷ []) id last (Contains-head id [])) requires_it));
  same = same ∙ so_far.same;
}
