-- What was built stays where more is added.
use Rattle.std.specs.Prelude.{◌≡◌, ℕ, ◌<◌, ◌≤◌, Bool, List, [], ◌∷◌, All, Contains, length}
use Rattle.std.proofs.Common.{sym, ◌∙◌, subst, refl, inl, inr, arith}
use Rattle.std.proofs.lemmas.List.Elements.{All-contains}
use Rattle.bv_terms.specs.declared.node.TermId.{TermId}
use Rattle.bv_terms.specs.Shapes.{Shape}
use Rattle.bv_terms.specs.Values.{KeepsTerms}
use Rattle.bv_terms.specs.Values.{Assignment as TermAssignment}
use Rattle.bv_terms.specs.Variables.{Occurs}
use Rattle.clause_store.specs.declared.lit.Lit.{Lit}
use Rattle.clause_store.specs.Literals.{Assignment}
use Rattle.clause_store.specs.UnitRule.{Partial, AllAtRest}
use Rattle.clause_store.proofs.Growth.{older_at_rest}
use Rattle.clause_store.proofs.Members.{All-from_contains, Contains-head, Contains-tail}
use Rattle.order_clauses.specs.declared.order_lit.OrderLit.{OrderLit}
use Rattle.order_clauses.specs.declared.order_lit.OrderLit.TheVariants as order_lit
use Rattle.bit_clauses.proofs.Blasted.{built_later, keeps_none}
use Rattle.bit_clauses.proofs.Sure.{known_later}
use Rattle.encoder.specs.declared.encoder.Encoder.{Encoder}
use Rattle.encoder.specs.Encodes.{AllVariablesDecided, Encodes, IsKnown, Keeps, Spells}
use Rattle.encoder.proofs.Encoding.{all_older, grows_none, joined_later, occurs_more, one_of, spells_older}
use Rattle.step_terms.specs.Made.{Grows, IsMade, OccursAmong}
use Rattle.thread_terms.specs.declared.access.Access.{Access}
use Rattle.reader_parts.specs.Conditions.{HasTerms, IsCondition}
use Rattle.reader_parts.specs.Readings.{AreLiterals}

-- ---- conditions and literals

pub condition_later : (old new : Encoder) (parts : List ℕ) (test : TermAssignment → Bool) (condition : OrderLit) → Keeps old new
    → IsCondition old parts test condition → IsCondition new parts test condition
condition_later old new parts test condition keeps is = let more = keeps.grows.vars in record {
  known = λ (l : Lit) (e : condition ≡ order_lit.Is l). let older = is.known l e in omega (arith, older, more);
  tells = λ (w : Assignment) (t : TermAssignment) (s : Spells new t w). is.tells w t (spells_older old new t w keeps s);
  decided = λ (v : Partial) (rest : AllAtRest v new.clauses.clauses) (all : AllVariablesDecided new v parts).
      is.decided v (older_at_rest old.clauses new.clauses v keeps.grows rest) (all_older old new v parts keeps all);
}

-- a test with the same value, decided by terms that more variables decide
pub condition_reworded : (encoder : Encoder) (parts others : List ℕ) (test other : TermAssignment → Bool) (condition : OrderLit)
    → ((t : TermAssignment) → test t ≡ other t) → ((v : Partial) → AllVariablesDecided encoder v others → AllVariablesDecided encoder v parts)
    → IsCondition encoder parts test condition → IsCondition encoder others other condition
condition_reworded encoder parts others test other condition same more is = record {
  known = is.known;
  tells = λ (w : Assignment) (t : TermAssignment) (s : Spells encoder t w). is.tells w t s ∙ same t;
  decided = λ (v : Partial) (rest : AllAtRest v encoder.clauses.clauses) (all : AllVariablesDecided encoder v others). is.decided v rest (more v all);
}

pub literals_later : (old new : Encoder) (terms : List ℕ) (lits : List Lit) → Keeps old new → AreLiterals old terms lits → AreLiterals new terms lits
literals_later old new terms lits keeps are = record {
  built = λ (id : ℕ) (listed : Contains terms id). built_later old.blaster new.blaster id keeps.bits (are.built id listed);
  are = are.are ∙ sym (joined_later old.blaster new.blaster terms keeps.bits are.built);
}

-- ---- a pool that grew

pub grown_keeps : (old : Encoder) (pool : List Shape) → IsKnown old → Grows old.pool pool → Keeps old (record old { pool = pool })
grown_keeps old pool known grows = record {
  known = known_later old.blaster old.pool pool old.clauses old.clauses grows.terms (grows_none old.clauses) known;
  terms = grows.terms;
  variables = grows.variables;
  bits = keeps_none old.blaster;
  grows = grows_none old.clauses;
}

pub grown : (old : Encoder) (pool : List Shape) (terms : List ℕ) → IsKnown old → Grows old.pool pool → Encodes old (record old { pool = pool }) terms
grown old pool terms known grows = record {
  keeps = grown_keeps old pool known grows;
  extends = λ (w : Assignment) (t : TermAssignment) (s : Spells old t w). record { extended = w; agrees = λ x h. refl; satisfies = s.satisfies; spells = s.agrees };
  decides = λ (v : Partial) (rest : AllAtRest v old.clauses.clauses) (all : AllVariablesDecided (record old { pool = pool }) v terms) (x : ℕ)
      (from : old.clauses.vars ≤ x) (below : x < old.clauses.vars). absurd (omega (arith, from, below));
}

-- terms whose variables others have too
pub encodes_by : (old new : Encoder) (terms others : List ℕ) → ((v : Partial) → AllVariablesDecided new v others → AllVariablesDecided new v terms)
    → Encodes old new terms → Encodes old new others
encodes_by old new terms others more encodes = record {
  keeps = encodes.keeps;
  extends = encodes.extends;
  decides = λ (v : Partial) (rest : AllAtRest v new.clauses.clauses) (all : AllVariablesDecided new v others). encodes.decides v rest (more v all);
}

-- which of some terms a variable occurs in
among : (old : List Shape) (width number : ℕ) (parts : List ℕ) → OccursAmong old width number parts → (id : ℕ) × Contains parts id × Occurs old width number id
among old width number [] there = absurd there
among old width number (part ∷ parts) there = elim there [
  | inl here ↦ (part, Contains-head part parts, here)
  | inr rest ↦ let is = among old width number parts rest in (is.0, Contains-tail part parts is.0 is.1, is.2)
]

-- what was made has no variable but those of its parts
pub made_decided : (old mid : List Shape) (new : Encoder) (v : Partial) (parts : List ℕ) (bits : ℕ) (value : TermAssignment → ℕ) (id : ℕ) → KeepsTerms old new.pool
    → Grows mid new.pool → IsMade old mid parts bits value id → AllVariablesDecided new v parts → AllVariablesDecided new v (id ∷ [])
made_decided old mid new v parts bits value id keeps grows made all other listed width number first there found =
    let same : id ≡ other = one_of id other listed in
    let inside : Occurs mid width number id = grows.variables width number id made.term.inside (subst (Occurs new.pool width number) (sym same) there) in
    let is = among old width number parts (made.occurs width number inside) in
    all is.0 is.1 width number first (occurs_more old new.pool width number is.0 keeps is.2) found

-- ---- terms of accesses

pub has_later : (old new : List Shape) (access : Access) → KeepsTerms old new → HasTerms old access → HasTerms new access
has_later old new access keeps has = let more = keeps.grows in record {
  address = record { inside = let within = has.address.inside in omega (arith, within, more); width = keeps.width access.address.number has.address.inside ∙ has.address.width };
  guard = record { inside = let within = has.guard.inside in omega (arith, within, more); width = keeps.width access.guard.number has.guard.inside ∙ has.guard.width };
  reads = all_inside old new access.reads keeps has.reads;
  writes = all_inside old new access.writes keeps has.writes;
} where
  all_inside : (old new : List Shape) (ids : List TermId) → KeepsTerms old new → All (λ (id : TermId). id.number < length old) ids → All (λ (id : TermId). id.number < length new) ids
  all_inside old new ids keeps all =
      All-from_contains (λ (id : TermId). id.number < length new) ids
      (λ (id : TermId) listed. let within = All-contains (λ (k : TermId). k.number < length old) ids id all listed in let more = keeps.grows in omega (arith, within, more))

pub all_have_later : (old new : List Shape) (accesses : List Access) → KeepsTerms old new → All (HasTerms old) accesses → All (HasTerms new) accesses
all_have_later old new accesses keeps all =
    All-from_contains (HasTerms new) accesses (λ (access : Access) listed. has_later old new access keeps (All-contains (HasTerms old) accesses access all listed))
