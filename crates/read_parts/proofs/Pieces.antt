-- The bits of terms one after another, and the reader of each byte of a reading.
use Rattle.std.specs.Prelude.{◌≡◌, ℕ, zero, suc, ◌+◌, ◌*◌, ◌<◌, List, [], ◌∷◌, ◌++◌, length, get_or, slice_index_or}
use Rattle.std.proofs.Common.{false, sym, ◌∙◌, ap, refl, inl, inr, arith}
use Rattle.std.proofs.lemmas.Bool.{cases_lt}
use Rattle.std.proofs.lemmas.List.{get_or_append_left, get_or-append-add, length-append}
use Rattle.bv_terms.specs.declared.node.TermId.{TermId}
use Rattle.clause_store.specs.declared.lit.Lit.{Lit}
use Rattle.source_clauses.specs.declared.reader.Candidate.{Candidate}
use Rattle.source_clauses.specs.Sees.{bit_at, candidate_at}
use Rattle.bit_clauses.specs.Nodes.{lits_at}
use Rattle.encoder.specs.Encodes.{joined}
use Rattle.step_terms.specs.Bytes.{numbers}
use Rattle.term_sources.specs.Sees.{no_id}
use Rattle.reader_parts.specs.declared.reading.Spot.{Spot}
use Rattle.reader_parts.specs.Readings.{run_of, spot_at, term_in}

-- the number of a term of a list
abbrev pub number_in : List ℕ → ℕ → ℕ
number_in terms j = get_or terms j 0

-- each of some terms has eight literals
abbrev pub AreEights : List (List Lit) → List ℕ → Type 0
AreEights lits terms = (j : ℕ) → j < length terms → length (lits_at lits (number_in terms j)) ≡ 8

tail_eights : (lits : List (List Lit)) (id : ℕ) (more : List ℕ) → AreEights lits (id ∷ more) → AreEights lits more
tail_eights lits id more eights j less = eights (suc j) (omega (arith, less))

pub joined_bit : (lits : List (List Lit)) (terms : List ℕ) (j b : ℕ) → AreEights lits terms → j < length terms → b < 8
    → bit_at (joined lits terms) (8 * j + b) ≡ bit_at (lits_at lits (number_in terms j)) b
joined_bit lits [] j b eights less few = absurd (omega (arith, less))
joined_bit lits (id ∷ more) zero b eights less few =
    let first : length (lits_at lits id) ≡ 8 = eights zero (omega arith) in
    let place : 8 * 0 + b ≡ b = omega arith in
    ap (bit_at (lits_at lits id ++ joined lits more)) place
    ∙ get_or_append_left (lits_at lits id) (joined lits more) (record { var = 0; positive = false }) b (omega (arith, few, first))
joined_bit lits (id ∷ more) (suc j) b eights less few =
    let first : length (lits_at lits id) ≡ 8 = eights zero (omega arith) in
    let place : 8 * suc j + b ≡ length (lits_at lits id) + (8 * j + b) = omega (arith, first) in
    ap (bit_at (lits_at lits id ++ joined lits more)) place
    ∙ get_or-append-add (lits_at lits id) (joined lits more) (8 * j + b) (record { var = 0; positive = false })
    ∙ joined_bit lits more j b (tail_eights lits id more eights) (omega (arith, less)) few

pub joined_length : (lits : List (List Lit)) (terms : List ℕ) → AreEights lits terms → length (joined lits terms) ≡ 8 * length terms
joined_length lits [] eights = refl
joined_length lits (id ∷ more) eights =
    let first : length (lits_at lits id) ≡ 8 = eights zero (omega arith) in
    let rest : length (joined lits more) ≡ 8 * length more = joined_length lits more (tail_eights lits id more eights) in
    let long = length-append (lits_at lits id) (joined lits more) in
    omega (arith, first, rest, long)

-- ---- runs of terms

pub run_length : (ids : List TermId) (first count : ℕ) → length (run_of ids first count) ≡ count
run_length ids first zero = refl
run_length ids first (suc count) =
    let rest = run_length ids first count in
    let long = length-append (run_of ids first count) ((slice_index_or ids (first + count) no_id).number ∷ []) in
    omega (arith, rest, long)

pub run_at : (ids : List TermId) (first count j : ℕ) → j < count → number_in (run_of ids first count) j ≡ (slice_index_or ids (first + j) no_id).number
run_at ids first zero j less = absurd (omega (arith, less))
run_at ids first (suc count) j less =
    let many = run_length ids first count in
    let last = (slice_index_or ids (first + count) no_id).number in
    elim (cases_lt j count) [
      | inl inside ↦ get_or_append_left (run_of ids first count) (last ∷ []) 0 j (omega (arith, inside, many)) ∙ run_at ids first count j inside
      | inr above ↦
          let same : j ≡ count = omega (arith, above, less) in
          let place : j ≡ length (run_of ids first count) + 0 = omega (arith, same, many) in
          ap (number_in (run_of ids first count ++ last ∷ [])) place ∙ get_or-append-add (run_of ids first count) (last ∷ []) 0 0
          ∙ ap (λ (n : ℕ). (slice_index_or ids (first + n) no_id).number) (sym same)
    ]

pub numbers_length : (ids : List TermId) → length (numbers ids) ≡ length ids
numbers_length [] = refl
numbers_length (id ∷ more) = ap suc (numbers_length more)

pub numbers_at : (ids : List TermId) (j : ℕ) → j < length ids → number_in (numbers ids) j ≡ term_in ids j
numbers_at [] j less = absurd (omega (arith, less))
numbers_at (id ∷ more) zero less = refl
numbers_at (id ∷ more) (suc j) less = numbers_at more j (omega (arith, less))

-- ---- candidates with other bits

abbrev pub pieces : List Candidate → List Spot → (Spot → List Lit) → List Candidate
pieces [] spots bits = []
pieces (candidate ∷ more) [] bits = []
pieces (candidate ∷ more) (spot ∷ spots) bits = record candidate { bits = bits spot } ∷ pieces more spots bits

pub pieces_length : (candidates : List Candidate) (spots : List Spot) (bits : Spot → List Lit) → length candidates ≡ length spots
    → length (pieces candidates spots bits) ≡ length candidates
pieces_length [] spots bits many = refl
pieces_length (candidate ∷ more) [] bits many = absurd (omega (arith, many))
pieces_length (candidate ∷ more) (spot ∷ spots) bits many = ap suc (pieces_length more spots bits (omega (arith, many)))

pub pieces_place : (candidates : List Candidate) (spots : List Spot) (bits : Spot → List Lit) (k : ℕ) → length candidates ≡ length spots
    → (candidate_at (pieces candidates spots bits) k).at ≡ (candidate_at candidates k).at
pieces_place [] spots bits k many = refl
pieces_place (candidate ∷ more) [] bits k many = absurd (omega (arith, many))
pieces_place (candidate ∷ more) (spot ∷ spots) bits zero many = refl
pieces_place (candidate ∷ more) (spot ∷ spots) bits (suc k) many = pieces_place more spots bits k (omega (arith, many))

pub pieces_hit : (candidates : List Candidate) (spots : List Spot) (bits : Spot → List Lit) (k : ℕ) → length candidates ≡ length spots
    → (candidate_at (pieces candidates spots bits) k).hit ≡ (candidate_at candidates k).hit
pieces_hit [] spots bits k many = refl
pieces_hit (candidate ∷ more) [] bits k many = absurd (omega (arith, many))
pieces_hit (candidate ∷ more) (spot ∷ spots) bits zero many = refl
pieces_hit (candidate ∷ more) (spot ∷ spots) bits (suc k) many = pieces_hit more spots bits k (omega (arith, many))

pub pieces_bits : (candidates : List Candidate) (spots : List Spot) (bits : Spot → List Lit) (k : ℕ) → length candidates ≡ length spots → k < length candidates
    → (candidate_at (pieces candidates spots bits) k).bits ≡ bits (spot_at spots k)
pieces_bits [] spots bits k many less = absurd (omega (arith, less))
pieces_bits (candidate ∷ more) [] bits k many less = absurd (omega (arith, many))
pieces_bits (candidate ∷ more) (spot ∷ spots) bits zero many less = refl
pieces_bits (candidate ∷ more) (spot ∷ spots) bits (suc k) many less = pieces_bits more spots bits k (omega (arith, many)) (omega (arith, less))
