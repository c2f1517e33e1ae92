-- Literals are the same one by one exactly where the numbers that they spell are.
use Rattle.std.specs.Prelude.{◌≡◌, ◌↔◌, ℕ, zero, suc, ◌+◌, ◌*◌, ◌<◌, Bool, true, false, List, [], ◌∷◌, length, refl}
use Rattle.std.proofs.Common.{sym, ◌∙◌, ap, arith}
use Rattle.bv_terms.specs.BitVectors.{bit_of}
use Rattle.bv_terms.specs.Values.{value_at}
use Rattle.bv_terms.specs.Values.{Assignment as TermAssignment}
use Rattle.clause_store.specs.declared.lit.Lit.{Lit}
use Rattle.clause_store.specs.Literals.{Assignment, literal_value}
use Rattle.bit_clauses.specs.Bits.{HasBits}
use Rattle.bit_clauses.specs.Spelled.{spelled}
use Rattle.source_clauses.specs.Sees.{bit_at}
use Rattle.encoder.specs.declared.encoder.Encoder.{Encoder}
use Rattle.encoder.specs.Encodes.{IsKnown, Spells}
use Rattle.read_clauses.specs.Readers.{AreBitsOf}

-- the literals of one list have the values of the other's
abbrev pub SameBits : Assignment → (count : ℕ) → List Lit → List Lit → Type 0
SameBits w count xs ys = (b : ℕ) → b < count → literal_value w (bit_at xs b) ≡ literal_value w (bit_at ys b)

bit_one : (p q : Bool) (m n : ℕ) → bit_of p + 2 * m ≡ bit_of q + 2 * n → p ≡ q
bit_one true true m n e = refl
bit_one false false m n e = refl
bit_one true false m n e = absurd (omega (arith, e))
bit_one false true m n e = absurd (omega (arith, e))

half_one : (p q : Bool) (m n : ℕ) → bit_of p + 2 * m ≡ bit_of q + 2 * n → m ≡ n
half_one true true m n e = omega (arith, e)
half_one false false m n e = omega (arith, e)
half_one true false m n e = absurd (omega (arith, e))
half_one false true m n e = absurd (omega (arith, e))

pub same_from : (w : Assignment) (xs ys : List Lit) → length xs ≡ length ys → spelled w xs ≡ spelled w ys → SameBits w (length xs) xs ys
same_from w [] ys many e b less = absurd (omega (arith, less))
same_from w (x ∷ xs) [] many e b less = absurd (omega (arith, many))
same_from w (x ∷ xs) (y ∷ ys) many e zero less = bit_one (literal_value w x) (literal_value w y) (spelled w xs) (spelled w ys) e
same_from w (x ∷ xs) (y ∷ ys) many e (suc b) less =
    same_from w xs ys (omega (arith, many)) (half_one (literal_value w x) (literal_value w y) (spelled w xs) (spelled w ys) e) b (omega (arith, less))

pub same_to : (w : Assignment) (xs ys : List Lit) → length xs ≡ length ys → SameBits w (length xs) xs ys → spelled w xs ≡ spelled w ys
same_to w [] [] many same = refl
same_to w [] (y ∷ ys) many same = absurd (omega (arith, many))
same_to w (x ∷ xs) [] many same = absurd (omega (arith, many))
same_to w (x ∷ xs) (y ∷ ys) many same =
    ap (λ (b : Bool). bit_of b + 2 * spelled w xs) (same zero (omega arith))
    ∙ ap (λ (n : ℕ). bit_of (literal_value w y) + 2 * n) (same_to w xs ys (omega (arith, many)) (λ (b : ℕ) (less : b < length xs). same (suc b) (omega (arith, less))))

-- the literals of a term spell its value, and are 8
pub value_of_bits : (encoder : Encoder) (id : ℕ) (lits : List Lit) (w : Assignment) (t : TermAssignment) → IsKnown encoder → Spells encoder t w
    → AreBitsOf encoder id lits → spelled w lits ≡ value_at t encoder.pool id
value_of_bits encoder id lits w t known spells bits =
    let has : HasBits encoder.blaster encoder.pool encoder.clauses id = known.terms id bits.built in
    ap (spelled w) bits.are ∙ has.value w t spells.satisfies spells.agrees

pub eight_bits : (encoder : Encoder) (id : ℕ) (lits : List Lit) → IsKnown encoder → AreBitsOf encoder id lits → length lits ≡ 8
eight_bits encoder id lits known bits =
    let has : HasBits encoder.blaster encoder.pool encoder.clauses id = known.terms id bits.built in
    ap (length {A = Lit}) bits.are ∙ has.count ∙ bits.width

-- literals of two terms are the same one by one exactly where the terms have one value
pub same_values : (encoder : Encoder) (a b : ℕ) (xs ys : List Lit) (w : Assignment) (t : TermAssignment) → IsKnown encoder → Spells encoder t w
    → AreBitsOf encoder a xs → AreBitsOf encoder b ys → SameBits w (length xs) xs ys ↔ (value_at t encoder.pool a ≡ value_at t encoder.pool b)
same_values encoder a b xs ys w t known spells of_a of_b =
    let many : length xs ≡ length ys = eight_bits encoder a xs known of_a ∙ sym (eight_bits encoder b ys known of_b) in (
      λ (same : SameBits w (length xs) xs ys).
          sym (value_of_bits encoder a xs w t known spells of_a) ∙ same_to w xs ys many same ∙ value_of_bits encoder b ys w t known spells of_b,
      λ (e : value_at t encoder.pool a ≡ value_at t encoder.pool b).
          same_from w xs ys many (value_of_bits encoder a xs w t known spells of_a ∙ e ∙ sym (value_of_bits encoder b ys w t known spells of_b)),
    )
