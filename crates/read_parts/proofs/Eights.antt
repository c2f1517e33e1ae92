-- Literals of bytes: eight for each, all of known variables.
use Rattle.std.specs.Prelude.{◌≡◌, ℕ, ◌+◌, ◌<◌, List, [], ◌∷◌, Contains, length, slice_index_or}
use Rattle.std.proofs.Common.{sym, ◌∙◌, subst, arith}
use Rattle.std.proofs.lemmas.List.Elements.{All-append, All-nil}
use Rattle.bv_terms.specs.declared.node.TermId.{TermId}
use Rattle.bv_terms.specs.Values.{width_at}
use Rattle.clause_store.specs.declared.lit.Lit.{Lit}
use Rattle.clause_store.specs.Formula.{IsKnown as AreKnown}
use Rattle.clause_store.proofs.Members.{Contains-head, Contains-tail}
use Rattle.bit_clauses.specs.Bits.{HasBits, IsBuilt}
use Rattle.bit_clauses.specs.Nodes.{lits_at}
use Rattle.encoder.specs.declared.encoder.Encoder.{Encoder}
use Rattle.encoder.specs.Encodes.{AreBuilt, IsKnown, joined}
use Rattle.step_terms.specs.Bytes.{numbers}
use Rattle.term_sources.specs.Sees.{no_id}
use Rattle.reader_parts.specs.Readings.{AreLiterals, run_of, term_in}
use Rattle.read_parts.proofs.Pieces.{AreEights, numbers_at, numbers_length, run_at, run_length}

-- a term has literals, and eight bits
pub record IsByte (encoder : Encoder) (id : ℕ) : Type 0 where
  pub built : IsBuilt encoder.blaster id
  pub width : width_at encoder.pool id ≡ 8

pub byte_lits : (encoder : Encoder) (id : ℕ) → IsKnown encoder → IsByte encoder id → length (lits_at encoder.blaster.terms id) ≡ 8
byte_lits encoder id known byte = let has : HasBits encoder.blaster encoder.pool encoder.clauses id = known.terms id byte.built in has.count ∙ byte.width

pub run_eights : (encoder : Encoder) (ids : List TermId) (first count : ℕ) → IsKnown encoder
    → ((j : ℕ) → j < count → IsByte encoder (slice_index_or ids (first + j) no_id).number) → AreEights encoder.blaster.terms (run_of ids first count)
run_eights encoder ids first count known bytes j inside =
    let many = run_length ids first count in
    let below : j < count = omega (arith, inside, many) in
    subst (λ (id : ℕ). length (lits_at encoder.blaster.terms id) ≡ 8) (sym (run_at ids first count j below))
    (byte_lits encoder (slice_index_or ids (first + j) no_id).number known (bytes j below))

pub numbers_eights : (encoder : Encoder) (ids : List TermId) (count : ℕ) → length ids ≡ count → IsKnown encoder
    → ((j : ℕ) → j < count → IsByte encoder (term_in ids j)) → AreEights encoder.blaster.terms (numbers ids)
numbers_eights encoder ids count many known bytes j inside =
    let wide = numbers_length ids in
    let below : j < count = omega (arith, inside, many, wide) in
    subst (λ (id : ℕ). length (lits_at encoder.blaster.terms id) ≡ 8) (sym (numbers_at ids j (omega (arith, below, many))))
    (byte_lits encoder (term_in ids j) known (bytes j below))

-- the literals of terms are of known variables
joined_known : (encoder : Encoder) (terms : List ℕ) → IsKnown encoder → AreBuilt encoder terms → AreKnown encoder.clauses.vars (joined encoder.blaster.terms terms)
joined_known encoder [] known built = All-nil (λ (l : Lit). l.var < encoder.clauses.vars)
joined_known encoder (id ∷ more) known built =
    All-append (λ (l : Lit). l.var < encoder.clauses.vars) (lits_at encoder.blaster.terms id) (joined encoder.blaster.terms more)
    (known.terms id (built id (Contains-head id more))).known
    (joined_known encoder more known (λ (other : ℕ) (listed : Contains more other). built other (Contains-tail id more other listed)))

pub literals_known : (encoder : Encoder) (terms : List ℕ) (lits : List Lit) → IsKnown encoder → AreLiterals encoder terms lits → AreKnown encoder.clauses.vars lits
literals_known encoder terms lits known are = subst (AreKnown encoder.clauses.vars) (sym are.are) (joined_known encoder terms known are.built)
