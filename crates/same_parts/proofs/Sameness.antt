-- Clauses that make bits the same are a part.
use Rattle.std.specs.Prelude.{◌≡◌, ◌↔◌, ℕ, ◌<◌, ◌≤◌, Bool, true, false, IsSome, List, [], ◌∷◌, All, length}
use Rattle.std.proofs.Common.{sym, ◌∙◌, subst, refl, inl, inr, arith}
use Rattle.std.proofs.lemmas.List.Elements.{All-cons, All-contains, All-nil}
use Rattle.bv_terms.specs.Values.{KeepsTerms, value_at}
use Rattle.bv_terms.specs.Values.{Assignment as TermAssignment}
use Rattle.clause_store.specs.declared.lit.Lit.{Lit}
use Rattle.clause_store.specs.Literals.{Assignment}
use Rattle.clause_store.specs.Formula.{Formula}
use Rattle.clause_store.specs.UnitRule.{Partial}
use Rattle.clause_store.proofs.Growth.{older_at_rest}
use Rattle.clause_store.proofs.Members.{Contains-cons_cases, Contains-head, Contains-nil, Contains-tail}
use Rattle.source_clauses.specs.Same.{AddsSame, AreSame}
use Rattle.bit_clauses.specs.Bits.{HasBits, IsBuilt, TermExtension}
use Rattle.bit_clauses.specs.Nodes.{lits_at}
use Rattle.bit_clauses.proofs.Blasted.{keeps_none}
use Rattle.bit_clauses.proofs.Sure.{known_later}
use Rattle.encoder.specs.declared.encoder.Encoder.{Encoder}
use Rattle.encoder.specs.Encodes.{AllVariablesDecided, AreBuilt, Encodes, Keeps, Spells}
use Rattle.encoder.proofs.Encoding.{get_or_any, keeps_then, terms_same, terms_then, variables_same}
use Rattle.read_clauses.specs.Readers.{AreBitsOf}
use Rattle.read_clauses.proofs.Bits.{eight_bits, same_values}
use Rattle.formula_parts.specs.Order.{Setting}
use Rattle.formula_parts.specs.Facts.{AreGiven, Gives, Holds, IsGivenFact, IsGivenTerm, IsReady, Reads}
use Rattle.formula_parts.specs.Parts.{Adds, AtRest, SpellsAll, StandsOn}
use Rattle.formula_parts.proofs.Composing.{all_older, ready_older, spells_later}
use Rattle.same_parts.specs.Same.{HasOneSource, SameBytesAreParts, read_id}

pub record Scene : Type 0 where
  pub setting : Setting
  pub old : Encoder
  pub mid : Encoder
  pub after : Formula
  pub x : ℕ
  pub i : ℕ
  pub source : ℕ
  pub stands : StandsOn setting old
  pub encodes : Encodes old mid (read_id setting x i ∷ source ∷ [])
  pub built : AreBuilt mid (read_id setting x i ∷ source ∷ [])
  pub is : HasOneSource setting mid x i source
  pub adds : AddsSame mid.clauses after (lits_at mid.blaster.terms source) (lits_at mid.blaster.terms (read_id setting x i))

abbrev new_of : Scene → Encoder
new_of s = record s.mid { clauses = s.after }

abbrev read : Scene → ℕ
read s = read_id s.setting s.x s.i

abbrev lits_of : Scene → ℕ → List Lit
lits_of s id = lits_at s.mid.blaster.terms id

mid_to_new : (s : Scene) → Keeps s.mid (new_of s)
mid_to_new s = record {
  known = known_later s.mid.blaster s.mid.pool s.mid.pool s.mid.clauses s.after (terms_same s.mid.pool) s.adds.grows s.encodes.keeps.known;
  terms = terms_same s.mid.pool;
  variables = variables_same s.mid.pool;
  bits = keeps_none s.mid.blaster;
  grows = s.adds.grows;
}

keeps_mid : (s : Scene) → KeepsTerms s.setting.nodes s.mid.pool
keeps_mid s = terms_then s.setting.nodes s.old.pool s.mid.pool s.stands.terms s.encodes.keeps.terms

read_built : (s : Scene) → IsBuilt s.mid.blaster (read s)
read_built s = s.built (read s) (Contains-head (read s) (s.source ∷ []))

source_built : (s : Scene) → IsBuilt s.mid.blaster s.source
source_built s = s.built s.source (Contains-tail (read s) (s.source ∷ []) s.source (Contains-head s.source []))

read_bits : (s : Scene) → AreBitsOf s.mid (read s) (lits_of s (read s))
read_bits s = record { built = read_built s; width = (keeps_mid s).width (read s) s.is.read.inside ∙ s.is.read.width; are = refl }

source_bits : (s : Scene) → AreBitsOf s.mid s.source (lits_of s s.source)
source_bits s = record { built = source_built s; width = s.is.width; are = refl }

-- the bits are the same exactly where the terms have one value
same_terms : (s : Scene) (w : Assignment) (t : TermAssignment) → Spells s.mid t w
    → AreSame w (lits_of s s.source) (lits_of s (read s)) ↔ (value_at t s.setting.nodes (read s) ≡ value_at t s.mid.pool s.source)
same_terms s w t spells =
    let values = same_values s.mid (read s) s.source (lits_of s (read s)) (lits_of s s.source) w t s.encodes.keeps.known spells (read_bits s) (source_bits s) in
    let moved : value_at t s.mid.pool (read s) ≡ value_at t s.setting.nodes (read s) = (keeps_mid s).value t (read s) s.is.read.inside in (
      λ (same : AreSame w (lits_of s s.source) (lits_of s (read s))). sym moved ∙ values.0 same,
      λ (e : value_at t s.setting.nodes (read s) ≡ value_at t s.mid.pool s.source). values.1 (moved ∙ e),
    )

sound : (s : Scene) (w : Assignment) (t : TermAssignment) (lt : ℕ → ℕ → Bool) → SpellsAll s.setting (new_of s) t w lt → Holds s.setting t lt (Reads s.x s.i)
sound s w t lt spells =
    let mid = spells_later s.setting s.mid (new_of s) t w lt (mid_to_new s) spells in
    (s.is.holds t lt spells.is_order).1 ((same_terms s w t mid.spells).0 (s.adds.sound w spells.spells.satisfies))

extends : (s : Scene) (w : Assignment) (t : TermAssignment) (lt : ℕ → ℕ → Bool) → SpellsAll s.setting s.old t w lt → Holds s.setting t lt (Reads s.x s.i)
    → TermExtension s.mid.blaster t s.old.clauses.vars w s.after.clauses
extends s w t lt spells holds =
    let e : TermExtension s.mid.blaster t s.old.clauses.vars w s.mid.clauses.clauses = s.encodes.extends w t spells.spells in
    let same = (same_terms s e.extended t (record { satisfies = e.satisfies; agrees = e.spells })).1 ((s.is.holds t lt spells.is_order).0 holds) in record {
      extended = e.extended;
      agrees = e.agrees;
      satisfies = s.adds.complete e.extended e.satisfies same;
      spells = e.spells;
    }

gives : (s : Scene) (v : Partial) (lt : ℕ → ℕ → Bool) → AtRest s.setting (new_of s) v lt → Gives s.setting (new_of s) v lt (Reads s.x s.i)
gives s v lt rest ready = record {
  built = read_built s;
  decided = λ (b : ℕ) (d : Lit) (inside : b < length (lits_of s (read s))).
      let earlier : IsReady s.setting s.mid v lt s.x = ready_older s.setting s.mid (new_of s) v lt s.x (mid_to_new s) ready in
      let has : HasBits s.mid.blaster s.mid.pool s.mid.clauses s.source = s.encodes.keeps.known.terms s.source (source_built s) in
      let eight = eight_bits s.mid (read s) (lits_of s (read s)) s.encodes.keeps.known (read_bits s) in
      let wide = eight_bits s.mid s.source (lits_of s s.source) s.encodes.keeps.known (source_bits s) in
      subst (λ (l : Lit). IsSome (v l.var)) (get_or_any (lits_of s (read s)) b (record { var = 0; positive = false }) d inside)
      (s.adds.reads v rest.rest b inside
      (has.decided v (older_at_rest s.mid.clauses s.after v s.adds.grows rest.rest) (s.is.given v lt rest.is_order earlier) b (record { var = 0; positive = false })
      (omega (arith, inside, eight, wide))));
}

two_given : (encoder : Encoder) (v : Partial) (a b : ℕ) → IsGivenTerm encoder v a → IsGivenTerm encoder v b → AllVariablesDecided encoder v (a ∷ b ∷ [])
two_given encoder v a b of_a of_b id listed = elim (Contains-cons_cases a (b ∷ []) id listed) [
  | inl e ↦ subst (IsGivenTerm encoder v) e of_a
  | inr more ↦ elim (Contains-cons_cases b [] id more) [
    | inl e ↦ subst (IsGivenTerm encoder v) e of_b
    | inr none ↦ absurd (Contains-nil id none)
  ]
]

decides : (s : Scene) (v : Partial) (lt : ℕ → ℕ → Bool) → AtRest s.setting (new_of s) v lt → AreGiven s.setting (new_of s) v → (x : ℕ) → s.old.clauses.vars ≤ x → x < s.after.vars → IsSome (v x)
decides s v lt rest given x from below =
    let earlier : AreGiven s.setting s.mid v = all_older s.setting s.mid (new_of s) v (mid_to_new s) given in
    let ready : IsReady s.setting s.mid v lt s.x = record {
      older = λ (y : ℕ) (there : y < length s.setting.accesses) (before : lt y s.x ≡ true). earlier y there;
      address = (earlier s.x s.is.there).address;
    } in
    let same = s.adds.vars in
    s.encodes.decides v (older_at_rest s.mid.clauses s.after v s.adds.grows rest.rest)
    (two_given s.mid v (read s) s.source ((earlier s.x s.is.there).reads s.i s.is.within) (s.is.given v lt rest.is_order ready)) x from (omega (arith, below, same))

whole : (s : Scene) → Adds s.setting s.old (new_of s) (Reads s.x s.i ∷ [])
whole s = record {
  keeps = keeps_then s.old s.mid (new_of s) s.encodes.keeps (mid_to_new s);
  sound = λ (w : Assignment) (t : TermAssignment) (lt : ℕ → ℕ → Bool) (spells : SpellsAll s.setting (new_of s) t w lt).
      All-cons (Holds s.setting t lt) (Reads s.x s.i) [] (sound s w t lt spells) (All-nil (Holds s.setting t lt));
  extends = λ (w : Assignment) (t : TermAssignment) (lt : ℕ → ℕ → Bool) (spells : SpellsAll s.setting s.old t w lt) (holds : All (Holds s.setting t lt) (Reads s.x s.i ∷ [])).
      extends s w t lt spells (All-contains (Holds s.setting t lt) (Reads s.x s.i ∷ []) (Reads s.x s.i) holds (Contains-head (Reads s.x s.i) []));
  gives = λ (v : Partial) (lt : ℕ → ℕ → Bool) (rest : AtRest s.setting (new_of s) v lt).
      All-cons (Gives s.setting (new_of s) v lt) (Reads s.x s.i) [] (gives s v lt rest) (All-nil (Gives s.setting (new_of s) v lt));
  decides = λ (v : Partial) (lt : ℕ → ℕ → Bool) (rest : AtRest s.setting (new_of s) v lt) (given : AreGiven s.setting (new_of s) v)
      (each : All (IsGivenFact (new_of s) v) (Reads s.x s.i ∷ [])) (x : ℕ) (from : s.old.clauses.vars ≤ x) (below : x < s.after.vars). decides s v lt rest given x from below;
}

pub same_bytes : SameBytesAreParts
same_bytes setting old mid after x i source stands encodes built is adds = whole (record {
  setting = setting;
  old = old;
  mid = mid;
  after = after;
  x = x;
  i = i;
  source = source;
  stands = stands;
  encodes = encodes;
  built = built;
  is = is;
  adds = adds;
})
