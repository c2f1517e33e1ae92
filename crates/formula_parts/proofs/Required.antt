-- A term that is required to be 1.
use Rattle.std.specs.Prelude.{ℕ, ◌<◌, ◌≤◌, Bool, [], ◌∷◌, All}
use Rattle.std.proofs.Common.{sym, ◌∙◌, subst, arith}
use Rattle.std.proofs.lemmas.List.Elements.{All-cons, All-contains, All-nil}
use Rattle.bv_terms.specs.Values.{Assignment as TermAssignment}
use Rattle.clause_store.specs.Literals.{Assignment}
use Rattle.clause_store.specs.UnitRule.{Partial}
use Rattle.clause_store.proofs.Members.{Contains-head}
use Rattle.encoder.specs.declared.encoder.Encoder.{Encoder}
use Rattle.encoder.specs.Encodes.{AllVariablesDecided}
use Rattle.encoder.proofs.Encoding.{one_of}
use Rattle.formula_parts.specs.Facts.{AreGiven, Gives, Holds, Is, IsGivenFact, IsGivenTerm}
use Rattle.formula_parts.specs.Laws.{RequiredTermsAreParts}
use Rattle.formula_parts.specs.Parts.{AtRest, SpellsAll}

-- what is decided of one term is so of a list of it alone
pub decided_of_one : (encoder : Encoder) (v : Partial) (id : ℕ) → IsGivenTerm encoder v id → AllVariablesDecided encoder v (id ∷ [])
decided_of_one encoder v id given other listed = subst (IsGivenTerm encoder v) (one_of id other listed) given

pub required : RequiredTermsAreParts
required setting old new term stands within requires = record {
  keeps = requires.keeps;
  sound = λ (w : Assignment) (t : TermAssignment) (lt : ℕ → ℕ → Bool) (s : SpellsAll setting new t w lt).
      All-cons (Holds setting t lt) (Is term) []
      (sym (stands.terms.value t term within) ∙ sym (requires.keeps.terms.value t term (let longer = stands.terms.grows in omega (arith, within, longer))) ∙ requires.sound w t s.spells)
      (All-nil (Holds setting t lt));
  extends = λ (w : Assignment) (t : TermAssignment) (lt : ℕ → ℕ → Bool) (s : SpellsAll setting old t w lt) (holds : All (Holds setting t lt) (Is term ∷ [])).
      requires.extends w t s.spells (stands.terms.value t term within ∙ All-contains (Holds setting t lt) (Is term ∷ []) (Is term) holds (Contains-head (Is term) []));
  gives = λ (v : Partial) (lt : ℕ → ℕ → Bool) (rest : AtRest setting new v lt). All-cons (Gives setting new v lt) (Is term) [] tt (All-nil (Gives setting new v lt));
  decides = λ (v : Partial) (lt : ℕ → ℕ → Bool) (rest : AtRest setting new v lt) (given : AreGiven setting new v) (each : All (IsGivenFact new v) (Is term ∷ []))
      (x : ℕ) (from : old.clauses.vars ≤ x) (below : x < new.clauses.vars).
      requires.decides v rest.rest (decided_of_one new v term (All-contains (IsGivenFact new v) (Is term ∷ []) (Is term) each (Contains-head (Is term) []))) x from below;
}
