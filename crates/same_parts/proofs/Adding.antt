-- Literals of a byte and of its source, and the clauses that make them the same.
use Rattle.std.specs.Prelude.{◌≡◌, ℕ, ◌<◌, ◌≤◌, Bool, List, [], ◌∷◌, ◌++◌, All, Contains, length, slice_index_or, Some, None}
use Rattle.std.proofs.Common.{sym, ◌∙◌, ap, subst, refl, inl, inr, arith}
use Rattle.std.proofs.lemmas.List.Elements.{All-nil}
use Rattle.elf_image.specs.Layout.{Layout}
use Rattle.bv_terms.specs.declared.node.TermId.{TermId}
use Rattle.bv_terms.specs.Shapes.{Shape}
use Rattle.bv_terms.specs.Values.{KeepsTerms, value_at, width_at}
use Rattle.bv_terms.specs.Values.{Assignment as TermAssignment}
use Rattle.clause_store.specs.declared.lit.Lit.{Lit}
use Rattle.clause_store.specs.Formula.{Formula, IsKnown as AreKnown}
use Rattle.clause_store.specs.Literals.{Assignment}
use Rattle.clause_store.specs.UnitRule.{Partial}
use Rattle.clause_store.proofs.Members.{Contains-cons_cases, Contains-nil}
use Rattle.source_clauses.specs.Same.{AddsSame}
use Rattle.bit_clauses.specs.Bits.{HasBits, IsBuilt}
use Rattle.bit_clauses.specs.Nodes.{lits_at}
use Rattle.bit_clauses.proofs.Blasted.{built_later}
use Rattle.encoder.specs.declared.encoder.Encoder.{Encoder}
use Rattle.encoder.specs.Encodes.{AreBuilt, Encodes, IsKnown}
use Rattle.encoder.proofs.Encoding.{encodes_then, get_or_any}
use Rattle.step_terms.specs.Made.{Grows, IsMade}
use Rattle.thread_terms.specs.declared.access.Access.{Access}
use Rattle.race_set.specs.declared.shape.AccessShape.{AccessShape}
use Rattle.term_sources.specs.Sees.{access_at, no_id}
use Rattle.formula_parts.specs.Order.{Setting}
use Rattle.formula_parts.specs.Facts.{AreGiven, Fact, Gives, Holds, IsGivenFact, Reads}
use Rattle.formula_parts.specs.Parts.{Adds, AtRest, SpellsAll, StandsOn}
use Rattle.formula_parts.proofs.Composing.{parts_then, stands_later}
use Rattle.reader_parts.specs.Readings.{opening_byte}
use Rattle.reader_parts.proofs.Later.{grown}
use Rattle.same_parts.specs.Same.{HasOneSource, IsFixedByte, IsWrittenThere, read_id, written_id}
use Rattle.same_parts.specs.Adding.{SaysInitial, SaysSame, SaysWritten}
use Rattle.same_parts.proofs.Sameness.{same_bytes}
use Rattle.same_parts.proofs.Sources.{initial_sources, writes_sources}

-- ---- literals of a byte

pub lits_known : (encoder : Encoder) (id : ℕ) (lits : List Lit) → IsKnown encoder → IsBuilt encoder.blaster id → lits ≡ lits_at encoder.blaster.terms id
    → AreKnown encoder.clauses.vars lits
lits_known encoder id lits known built are =
    let has : HasBits encoder.blaster encoder.pool encoder.clauses id = known.terms id built in subst (AreKnown encoder.clauses.vars) (sym are) has.known

pub lits_width : (encoder : Encoder) (id : ℕ) (lits : List Lit) → IsKnown encoder → IsBuilt encoder.blaster id → lits ≡ lits_at encoder.blaster.terms id
    → width_at encoder.pool id ≡ 8 → length lits ≡ 8
lits_width encoder id lits known built are wide =
    let has : HasBits encoder.blaster encoder.pool encoder.clauses id = known.terms id built in ap (length {A = Lit}) are ∙ has.count ∙ wide

-- literals of a byte, and then of its source
pub record Steps : Type 0 where
  pub old : Encoder
  pub one : Encoder
  pub two : Encoder
  pub read : ℕ
  pub source : ℕ
  pub read_bits : List Lit
  pub source_bits : List Lit
  pub first : Encodes old one (read ∷ [])
  pub first_built : IsBuilt one.blaster read
  pub first_pool : one.pool ≡ old.pool
  pub first_bits : read_bits ≡ lits_at one.blaster.terms read
  pub second : Encodes one two (source ∷ [])
  pub second_built : IsBuilt two.blaster source
  pub second_pool : two.pool ≡ one.pool
  pub second_bits : source_bits ≡ lits_at two.blaster.terms source

pub read_still : (s : Steps) → IsBuilt s.two.blaster s.read
read_still s = built_later s.one.blaster s.two.blaster s.read s.second.keeps.bits s.first_built

pub read_same : (s : Steps) → s.read_bits ≡ lits_at s.two.blaster.terms s.read
read_same s = s.first_bits ∙ sym (s.second.keeps.bits.terms s.read s.first_built)

both_built : (s : Steps) → AreBuilt s.two (s.read ∷ s.source ∷ [])
both_built s id listed = elim (Contains-cons_cases s.read (s.source ∷ []) id listed) [
  | inl e ↦ subst (IsBuilt s.two.blaster) e (read_still s)
  | inr more ↦ elim (Contains-cons_cases s.source [] id more) [
    | inl e ↦ subst (IsBuilt s.two.blaster) e s.second_built
    | inr none ↦ absurd (Contains-nil id none)
  ]
]

pub says_same : (s : Steps) (after : Formula) → AddsSame s.two.clauses after s.source_bits s.read_bits → SaysSame s.old (record s.two { clauses = after }) s.read s.source
says_same s after adds setting x i stands is has =
    let bits : AddsSame s.two.clauses after (lits_at s.two.blaster.terms s.source) (lits_at s.two.blaster.terms s.read) =
    subst (λ (lits : List Lit). AddsSame s.two.clauses after lits (lits_at s.two.blaster.terms s.read)) s.second_bits
    (subst (AddsSame s.two.clauses after s.source_bits) (read_same s) adds) in
    let encodes : Encodes s.old s.two (s.read ∷ s.source ∷ []) = encodes_then s.old s.one s.two (s.read ∷ []) (s.source ∷ []) s.first s.second in
    same_bytes setting s.old s.two after x i s.source stands
    (subst (λ (id : ℕ). Encodes s.old s.two (id ∷ s.source ∷ [])) (sym is) encodes)
    (subst (λ (id : ℕ). AreBuilt s.two (id ∷ s.source ∷ [])) (sym is) (both_built s))
    (has s.two (s.second_pool ∙ s.first_pool))
    (subst (λ (id : ℕ). AddsSame s.two.clauses after (lits_at s.two.blaster.terms s.source) (lits_at s.two.blaster.terms id)) (sym is) bits)

-- ---- the two kinds of source

pub says_written : (old new : Encoder) (accesses : List Access) (x i y m : ℕ) (read written : ℕ) → read ≡ (slice_index_or (access_at accesses x).reads i no_id).number
    → written ≡ (slice_index_or (access_at accesses y).writes m no_id).number → SaysSame old new read written → SaysWritten old new accesses x i y m
says_written old new accesses x i y m read written is_read is_written says setting shapes are stands fixed there =
    says setting x i stands (ap (λ (all : List Access). (slice_index_or (access_at all x).reads i no_id).number) are ∙ sym is_read)
    (λ (encoder : Encoder) (same : encoder.pool ≡ old.pool).
    subst (HasOneSource setting encoder x i) (ap (λ (all : List Access). (slice_index_or (access_at all y).writes m no_id).number) are ∙ sym is_written)
    (writes_sources setting encoder shapes x i y m (subst (KeepsTerms setting.nodes) (sym same) stands.terms)
    (subst (λ (all : List Access). IsFixedByte setting shapes x i (Some (access_at all y).pos)) (sym are) fixed) there))

-- literals alone say nothing
encodes_nothing : (setting : Setting) (old new : Encoder) → Encodes old new [] → Adds setting old new []
encodes_nothing setting old new encodes = record {
  keeps = encodes.keeps;
  sound = λ (w : Assignment) (t : TermAssignment) (lt : ℕ → ℕ → Bool) (spells : SpellsAll setting new t w lt). All-nil (Holds setting t lt);
  extends = λ (w : Assignment) (t : TermAssignment) (lt : ℕ → ℕ → Bool) (spells : SpellsAll setting old t w lt) (holds : All (Holds setting t lt) []). encodes.extends w t spells.spells;
  gives = λ (v : Partial) (lt : ℕ → ℕ → Bool) (rest : AtRest setting new v lt). All-nil (Gives setting new v lt);
  decides = λ (v : Partial) (lt : ℕ → ℕ → Bool) (rest : AtRest setting new v lt) (given : AreGiven setting new v) (each : All (IsGivenFact new v) []) (x : ℕ)
      (from : old.clauses.vars ≤ x) (below : x < new.clauses.vars). encodes.decides v rest.rest (λ (id : ℕ) (listed : Contains [] id). absurd (Contains-nil id listed)) x from below;
}

pub says_initial : (old : Encoder) (pool : List Shape) (new : Encoder) (image : Layout) (accesses : List Access) (x i : ℕ) (read source : ℕ) → IsKnown old → Grows old.pool pool
    → read ≡ (slice_index_or (access_at accesses x).reads i no_id).number
    → IsMade old.pool pool ((access_at accesses x).address.number ∷ []) 8 (λ t. opening_byte image (value_at t old.pool (access_at accesses x).address.number) i) source
    → SaysSame (record old { pool = pool }) new read source → SaysInitial old new image accesses x i
says_initial old pool new image accesses x i read source known grows is_read made says setting shapes is_image are stands fixed =
    let mid : Encoder = record old { pool = pool } in
    let first : Adds setting old mid [] = encodes_nothing setting old mid (grown old pool [] known grows) in
    let stands_mid : StandsOn setting mid = stands_later setting old mid [] stands first in
    parts_then setting old mid new [] (Reads x i ∷ []) stands first
    (says setting x i stands_mid (ap (λ (all : List Access). (slice_index_or (access_at all x).reads i no_id).number) are ∙ sym is_read)
    (λ (encoder : Encoder) (same : encoder.pool ≡ pool).
    initial_sources setting old.pool encoder shapes x i source stands.terms (subst (Grows old.pool) (sym same) grows) fixed
    (subst (λ (nodes : List Shape). IsMade old.pool nodes ((access_at setting.accesses x).address.number ∷ []) 8
    (λ t. opening_byte setting.image (value_at t old.pool (access_at setting.accesses x).address.number) i) source) (sym same)
    (subst (λ (all : List Access). IsMade old.pool pool ((access_at all x).address.number ∷ []) 8
    (λ t. opening_byte setting.image (value_at t old.pool (access_at all x).address.number) i) source) (sym are)
    (subst (λ (opening : Layout). IsMade old.pool pool ((access_at accesses x).address.number ∷ []) 8
    (λ t. opening_byte opening (value_at t old.pool (access_at accesses x).address.number) i) source) (sym is_image) made)))))

-- a term that was looked up in a list
pub term_read : (slice ids : List TermId) (i : ℕ) (d : TermId) → slice ≡ ids → i < length ids → (slice_index_or slice i d).number ≡ (slice_index_or ids i no_id).number
term_read slice ids i d same within =
    ap (λ (all : List TermId). (slice_index_or all i d).number) same ∙ ap (λ (id : TermId). id.number) (get_or_any ids i d no_id within)
