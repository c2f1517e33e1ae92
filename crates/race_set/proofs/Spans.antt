-- The bytes of a span, by their numbers in it and by their addresses modulo 2^32.
use Rattle.std.proofs.Common.{◌≡◌, ◌↔◌, ℕ, ◌<◌, ◌+◌, ◌-◌, ◌%◌, ◌^◌, Bool, true, ◌&&◌, refl, sym, ◌∙◌, subst, arith}
use Rattle.std.specs.Prelude.{nat_lt}
use Rattle.std.proofs.lemmas.Bool.{and_parts, and_from, ltb-true, lt-ltb}
use Rattle.race_set.specs.declared.shape.Span.{Span}
use Rattle.race_set.specs.Bytes.{byte_of, number_in, covers, HasByte}

-- ---- numbers modulo 2^32

there_and_back : (first i : ℕ) → first < 2 ^ 32 → i < 2 ^ 32 → ((first + i) % 2 ^ 32 + (2 ^ 32 - first)) % 2 ^ 32 ≡ i
there_and_back first i first_in i_in = omega (arith, first_in, i_in)

back_and_there : (first byte : ℕ) → first < 2 ^ 32 → byte < 2 ^ 32 → (first + (byte + (2 ^ 32 - first)) % 2 ^ 32) % 2 ^ 32 ≡ byte
back_and_there first byte first_in byte_in = omega (arith, first_in, byte_in)

in_range : (n : ℕ) → n % 2 ^ 32 < 2 ^ 32
in_range n = omega arith

-- ---- spans

pub number_is : (span : Span) (i : ℕ) → span.first < 2 ^ 32 → i < 2 ^ 32 → number_in span (byte_of span i) ≡ i
number_is span i first_in i_in = there_and_back span.first i first_in i_in

pub byte_is : (span : Span) (byte : ℕ) → span.first < 2 ^ 32 → byte < 2 ^ 32 → byte_of span (number_in span byte) ≡ byte
byte_is span byte first_in byte_in = back_and_there span.first byte first_in byte_in

-- different numbers are of different bytes
pub numbers_differ : (span : Span) (i k : ℕ) → span.first < 2 ^ 32 → i < 2 ^ 32 → k < 2 ^ 32 → byte_of span i ≡ byte_of span k → i ≡ k
numbers_differ span i k first_in i_in k_in same =
    sym (number_is span i first_in i_in) ∙ subst (λ (b : ℕ). number_in span b ≡ k) (sym same) (number_is span k first_in k_in)

pub covers_number : (span : Span) (i : ℕ) → span.first < 2 ^ 32 → span.len < 2 ^ 32 → i < span.len → covers (byte_of span i) span ≡ true
covers_number span i first_in len_in within =
    and_from (nat_lt (byte_of span i) (2 ^ 32)) (nat_lt (number_in span (byte_of span i)) span.len)
    (lt-ltb (byte_of span i) (2 ^ 32) (in_range (span.first + i)))
    (lt-ltb (number_in span (byte_of span i)) span.len
    (subst (λ (n : ℕ). n < span.len) (sym (number_is span i first_in (omega (arith, within, len_in)))) within))

pub number_below : (span : Span) (byte : ℕ) → covers byte span ≡ true → number_in span byte < span.len
number_below span byte e = ltb-true (number_in span byte) span.len (and_parts (nat_lt byte (2 ^ 32)) (nat_lt (number_in span byte) span.len) e).1

pub byte_below : (span : Span) (byte : ℕ) → covers byte span ≡ true → byte < 2 ^ 32
byte_below span byte e = ltb-true byte (2 ^ 32) (and_parts (nat_lt byte (2 ^ 32)) (nat_lt (number_in span byte) span.len) e).0

pub covers_exactly : (span : Span) (byte : ℕ) → span.first < 2 ^ 32 → span.len < 2 ^ 32 → (covers byte span ≡ true) ↔ HasByte span byte
covers_exactly span byte first_in len_in = (
  λ e. (number_in span byte, number_below span byte e, byte_is span byte first_in (byte_below span byte e)),
  λ h. subst (λ (b : ℕ). covers b span ≡ true) h.2 (covers_number span h.0 first_in len_in h.1),
)

pub covers_is : (span : Span) (byte : ℕ) → byte < 2 ^ 32 → nat_lt (number_in span byte) span.len ≡ covers byte span
covers_is span byte byte_in = subst (λ (b : Bool). nat_lt (number_in span byte) span.len ≡ (b && nat_lt (number_in span byte) span.len)) (sym (lt-ltb byte (2 ^ 32) byte_in)) refl

pub has_exactly : (span : Span) (byte : ℕ) → span.first < 2 ^ 32 → span.len < 2 ^ 32 → byte < 2 ^ 32
    → (nat_lt (number_in span byte) span.len ≡ true) ↔ HasByte span byte
has_exactly span byte first_in len_in byte_in =
    subst (λ (b : Bool). (b ≡ true) ↔ HasByte span byte) (sym (covers_is span byte byte_in)) (covers_exactly span byte first_in len_in)
