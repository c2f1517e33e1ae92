-- Written bytes get their literals, one access after the other.
use Rattle.std.specs.Prelude.{◌≡◌, ℕ, zero, suc, ◌<◌, ◌≤◌, Bool, List, [], ◌∷◌, ◌++◌, All, Contains, length, slice_index_or}
use Rattle.std.proofs.Common.{sym, ◌∙◌, ap, subst, refl, inl, inr, arith}
use Rattle.std.proofs.lemmas.List.{append_assoc}
use Rattle.std.proofs.lemmas.List.Elements.{All-nil, Contains-append_cases, Contains-append_left, Contains-append_right}
use Rattle.bv_terms.specs.declared.node.TermId.{TermId}
use Rattle.bv_terms.specs.Shapes.{Shape}
use Rattle.bv_terms.specs.Values.{width_at}
use Rattle.bv_terms.specs.Values.{Assignment as TermAssignment}
use Rattle.clause_store.specs.Literals.{Assignment}
use Rattle.clause_store.specs.Formula.{Grows}
use Rattle.clause_store.specs.UnitRule.{Partial}
use Rattle.clause_store.proofs.Growth.{growth_then}
use Rattle.bit_clauses.proofs.Blasted.{built_later}
use Rattle.encoder.specs.declared.encoder.Encoder.{Encoder}
use Rattle.encoder.specs.Encodes.{AllVariablesDecided, AreBuilt, Encodes, IsKnown}
use Rattle.encoder.proofs.Encoding.{encodes_none, encodes_then}
use Rattle.step_terms.specs.Bytes.{numbers}
use Rattle.thread_terms.specs.declared.access.Access.{Access}
use Rattle.term_sources.specs.Sees.{access_at, no_access, no_id}
use Rattle.read_clauses.specs.Readers.{AreWritten}
use Rattle.reader_parts.specs.Conditions.{HasTerms}
use Rattle.formula_parts.specs.Order.{Setting}
use Rattle.formula_parts.specs.Facts.{AreGiven, Gives, Holds, IsGivenFact, IsGivenTerm}
use Rattle.formula_parts.specs.Parts.{AtRest, SpellsAll}
use Rattle.written_parts.specs.Written.{WriteBytes, WrittenBytesAreParts, written_terms}

-- ---- which terms they are

-- byte m that access y may write
abbrev pub written_at : List Access → (y m : ℕ) → ℕ
written_at accesses y m = (slice_index_or (access_at accesses y).writes m no_id).number

number_listed : (ids : List TermId) (m : ℕ) → m < length ids → Contains (numbers ids) (slice_index_or ids m no_id).number
number_listed [] m within = absurd (omega (arith, within))
number_listed (id ∷ more) zero within = (zero, omega arith, refl)
number_listed (id ∷ more) (suc m) within = let there = number_listed more m (omega (arith, within)) in let less = there.1 in (suc there.0, omega (arith, less), there.2)

number_of : (ids : List TermId) (number : ℕ) → Contains (numbers ids) number → (m : ℕ) × (m < length ids) × ((slice_index_or ids m no_id).number ≡ number)
number_of [] number (k, less, is) = absurd (omega (arith, less))
number_of (id ∷ more) number (zero, less, is) = (zero, omega arith, is)
number_of (id ∷ more) number (suc k, less, is) =
    let found = number_of more number (k, omega (arith, less), is) in let inside = found.1 in (suc found.0, omega (arith, inside), found.2)

-- each byte is one of the terms
pub byte_listed : (accesses : List Access) (y m : ℕ) → y < length accesses → m < length (access_at accesses y).writes → Contains (written_terms accesses) (written_at accesses y m)
byte_listed [] y m there within = absurd (omega (arith, there))
byte_listed (access ∷ more) zero m there within =
    Contains-append_left (numbers access.writes) (written_terms more) (slice_index_or access.writes m no_id).number (number_listed access.writes m within)
byte_listed (access ∷ more) (suc y) m there within =
    Contains-append_right (numbers access.writes) (written_terms more) (written_at more y m) (byte_listed more y m (omega (arith, there)) within)

-- a term is a byte that an access may write
pub record IsByteOf (accesses : List Access) (term : ℕ) : Type 0 where
  pub access : ℕ
  pub byte : ℕ
  pub there : access < length accesses
  pub within : byte < length (access_at accesses access).writes
  pub is : written_at accesses access byte ≡ term

-- each of the terms is such a byte
pub byte_of : (accesses : List Access) (term : ℕ) → Contains (written_terms accesses) term → IsByteOf accesses term
byte_of [] term (k, less, is) = absurd (omega (arith, less))
byte_of (access ∷ more) term listed = elim (Contains-append_cases (numbers access.writes) (written_terms more) term listed) [
  | inl here ↦ let found = number_of access.writes term here in
      record { access = zero; byte = found.0; there = omega arith; within = found.1; is = found.2 }
  | inr later ↦ let found : IsByteOf more term = byte_of more term later in let inside = found.there in
      record { access = suc found.access; byte = found.byte; there = omega (arith, inside); within = found.within; is = found.is }
]

-- ---- one access after the other

written_push : (accesses : List Access) (access : Access) → written_terms (accesses ++ access ∷ []) ≡ written_terms accesses ++ numbers access.writes
written_push [] access = append_nil (numbers access.writes) where
  append_nil : (xs : List ℕ) → xs ++ [] ≡ xs
  append_nil [] = refl
  append_nil (x ∷ xs) = ap (λ (ys : List ℕ). x ∷ ys) (append_nil xs)
written_push (first ∷ more) access =
    ap (λ (xs : List ℕ). numbers first.writes ++ xs) (written_push more access) ∙ sym (append_assoc (numbers first.writes) (written_terms more) (numbers access.writes))

-- those of the first accesses have literals
pub record SoFar (old now : Encoder) (accesses : List Access) : Type 0 where
  pub encodes : Encodes old now (written_terms accesses)
  pub built : AreBuilt now (written_terms accesses)
  pub same : now.pool ≡ old.pool

pub none_yet : (old : Encoder) → IsKnown old → SoFar old old []
none_yet old known = record {
  encodes = encodes_none old [] known;
  built = λ (id : ℕ) (listed : Contains [] id). absurd (omega (arith, listed.1));
  same = refl;
}

pub one_more : (old now new : Encoder) (accesses : List Access) (access : Access) → SoFar old now accesses → Encodes now new (numbers access.writes)
    → AreBuilt new (numbers access.writes) → new.pool ≡ now.pool → SoFar old new (accesses ++ access ∷ [])
one_more old now new accesses access so_far encodes built same = record {
  encodes = subst (Encodes old new) (sym (written_push accesses access)) (encodes_then old now new (written_terms accesses) (numbers access.writes) so_far.encodes encodes);
  built = λ (id : ℕ) (listed : Contains (written_terms (accesses ++ access ∷ [])) id).
      elim (Contains-append_cases (written_terms accesses) (numbers access.writes) id (subst (λ (xs : List ℕ). Contains xs id) (written_push accesses access) listed)) [
        | inl older ↦ built_later now.blaster new.blaster id encodes.keeps.bits (so_far.built id older)
        | inr here ↦ built id here
      ];
  same = same ∙ so_far.same;
}

-- the terms of an access stand in the pool of an encoder, which is that of the first one
pub bytes_inside : (old now : Encoder) (accesses : List Access) (k : ℕ) (access : Access) → All (HasTerms old.pool) accesses → now.pool ≡ old.pool → k < length accesses
    → access ≡ access_at accesses k → All (λ (id : TermId). id.number < length now.pool) access.writes
bytes_inside old now accesses k access terms same within is =
    subst (λ (a : Access). All (λ (id : TermId). id.number < length now.pool) a.writes) (sym is)
    (subst (λ (pool : List Shape). All (λ (id : TermId). id.number < length pool) (access_at accesses k).writes) (sym same) (terms k no_access within).writes)

-- a failure leaves what all accesses before left
pub grown_so_far : (old now new : Encoder) (accesses : List Access) → SoFar old now accesses → Grows now.clauses new.clauses → Grows old.clauses new.clauses
grown_so_far old now new accesses so_far grows = growth_then old.clauses now.clauses new.clauses so_far.encodes.keeps.grows grows

-- after all accesses readers find the bytes
pub are_written : (old new : Encoder) (accesses : List Access) → SoFar old new accesses → WriteBytes old.pool accesses → AreWritten new accesses
are_written old new accesses so_far bytes y m there within = (
  so_far.built (written_at accesses y m) (byte_listed accesses y m there within),
  subst (λ (pool : List Shape). width_at pool (written_at accesses y m) ≡ 8) (sym so_far.same) (bytes y no_access there m no_id within).width,
)

-- ---- the part

given_bytes : (setting : Setting) (new : Encoder) (v : Partial) → AreGiven setting new v → AllVariablesDecided new v (written_terms setting.accesses)
given_bytes setting new v given term listed =
    let byte : IsByteOf setting.accesses term = byte_of setting.accesses term listed in
    subst (IsGivenTerm new v) byte.is ((given byte.access byte.there).writes byte.byte byte.within)

pub parts : WrittenBytesAreParts
parts setting old new stands encodes = record {
  keeps = encodes.keeps;
  sound = λ (w : Assignment) (t : TermAssignment) (lt : ℕ → ℕ → Bool) (s : SpellsAll setting new t w lt). All-nil (Holds setting t lt);
  extends = λ (w : Assignment) (t : TermAssignment) (lt : ℕ → ℕ → Bool) (s : SpellsAll setting old t w lt) (holds : All (Holds setting t lt) []). encodes.extends w t s.spells;
  gives = λ (v : Partial) (lt : ℕ → ℕ → Bool) (rest : AtRest setting new v lt). All-nil (Gives setting new v lt);
  decides = λ (v : Partial) (lt : ℕ → ℕ → Bool) (rest : AtRest setting new v lt) (given : AreGiven setting new v) (each : All (IsGivenFact new v) [])
      (x : ℕ) (from : old.clauses.vars ≤ x) (below : x < new.clauses.vars). encodes.decides v rest.rest (given_bytes setting new v given) x from below;
}
