-- An access that writes to a word may write one of its bytes, by what is known of it.
use Rattle.std.specs.Prelude.{◌≡◌, ◌⊎◌, ℕ, zero, suc, ◌+◌, ◌-◌, ◌*◌, ◌/◌, ◌%◌, ◌<◌, ◌≤◌, ◌^◌, ◌||◌, Bool, true, false, List, length, nat_eq, nat_lt, Option, Some, None, refl}
use Rattle.std.proofs.Common.{sym, ◌∙◌, ap, subst, inl, inr, arith}
use Rattle.std.proofs.lemmas.Bool.{and_from, and_parts, eqb-true, lt-ltb, or_left, or_right}
use Rattle.bv_terms.specs.Shapes.{Shape}
use Rattle.bv_terms.specs.Values.{Assignment}
use Rattle.thread_terms.specs.declared.access.Access.{Access}
use Rattle.hit_terms.specs.Hits.{is_in_word, place_of, reaches_word}
use Rattle.race_set.specs.declared.shape.AccessShape.{AccessShape}
use Rattle.race_set.specs.declared.shape.Span.{Span}
use Rattle.race_set.specs.Bytes.{byte_of, covers, may_be_at, may_write, may_write_at, may_write_word, number_in}
use Rattle.term_sources.specs.Sees.{address_value, guard_value}
use Rattle.fixed_reads.specs.Shapes.{IsShapeOf}
use Rattle.outcome_parts.specs.Rivals.{touches}

-- ---- bytes of spans

there_and_back : (first i : ℕ) → first < 2 ^ 32 → i < 2 ^ 32 → ((first + i) % 2 ^ 32 + (2 ^ 32 - first)) % 2 ^ 32 ≡ i
there_and_back first i first_in i_in = omega (arith, first_in, i_in)

in_range : (n : ℕ) → n % 2 ^ 32 < 2 ^ 32
in_range n = omega arith

covers_own : (span : Span) (i : ℕ) → span.first < 2 ^ 32 → i < 2 ^ 32 → i < span.len → covers (byte_of span i) span ≡ true
covers_own span i first_in i_in within =
    and_from (nat_lt (byte_of span i) (2 ^ 32)) (nat_lt (number_in span (byte_of span i)) span.len)
    (lt-ltb (byte_of span i) (2 ^ 32) (in_range (span.first + i)))
    (lt-ltb (number_in span (byte_of span i)) span.len
    (subst (λ (n : ℕ). n < span.len) (sym (there_and_back span.first i first_in i_in)) within))

-- ---- words

either : (p q : Bool) → (p || q) ≡ true → (p ≡ true) ⊎ (q ≡ true)
either true q e = inl refl
either false q e = inr e

-- one of the bytes is in the word
reached : (count a l : ℕ) → reaches_word count a l ≡ true → (m : ℕ) × (m < count) × (is_in_word (place_of a m) l ≡ true)
reached zero a l e = absurd (let h : false ≡ true = e in cc)
reached (suc m) a l e = elim (either (reaches_word m a l) (is_in_word (place_of a m) l) e) [
  | inl before ↦ let found : (i : ℕ) × (i < m) × (is_in_word (place_of a i) l ≡ true) = reached m a l before in (found.0, omega (arith, found.1), found.2)
  | inr here ↦ (m, omega arith, here)
]

one_of_four : (word b : ℕ) → b / 4 * 4 ≡ word → (b ≡ word) ⊎ ((b ≡ word + 1) ⊎ ((b ≡ word + 2) ⊎ (b ≡ word + 3)))
one_of_four word b e = by_rest (b % 4) (omega arith) refl
  where
    by_rest : (r : ℕ) → r < 4 → b % 4 ≡ r → (b ≡ word) ⊎ ((b ≡ word + 1) ⊎ ((b ≡ word + 2) ⊎ (b ≡ word + 3)))
    by_rest zero less f = inl (omega (arith, e, f))
    by_rest (suc zero) less f = inr (inl (omega (arith, e, f)))
    by_rest (suc (suc zero)) less f = inr (inr (inl (omega (arith, e, f))))
    by_rest (suc (suc (suc zero))) less f = inr (inr (inr (omega (arith, e, f))))
    by_rest (suc (suc (suc (suc r)))) less f = absurd (omega (arith, less))

-- one of the four bytes is enough
one_is_enough : (word b : ℕ) (shape : AccessShape) → may_write b shape ≡ true
    → (b ≡ word) ⊎ ((b ≡ word + 1) ⊎ ((b ≡ word + 2) ⊎ (b ≡ word + 3))) → may_write_at word shape ≡ true
one_is_enough word b shape may (inl e) =
    or_left (may_write word shape) (may_write (word + 1) shape || (may_write (word + 2) shape || may_write (word + 3) shape))
    (subst (λ (n : ℕ). may_write n shape ≡ true) e may)
one_is_enough word b shape may (inr (inl e)) =
    or_right (may_write word shape) (may_write (word + 1) shape || (may_write (word + 2) shape || may_write (word + 3) shape))
    (or_left (may_write (word + 1) shape) (may_write (word + 2) shape || may_write (word + 3) shape)
    (subst (λ (n : ℕ). may_write n shape ≡ true) e may))
one_is_enough word b shape may (inr (inr (inl e))) =
    or_right (may_write word shape) (may_write (word + 1) shape || (may_write (word + 2) shape || may_write (word + 3) shape))
    (or_right (may_write (word + 1) shape) (may_write (word + 2) shape || may_write (word + 3) shape)
    (or_left (may_write (word + 2) shape) (may_write (word + 3) shape)
    (subst (λ (n : ℕ). may_write n shape ≡ true) e may)))
one_is_enough word b shape may (inr (inr (inr e))) =
    or_right (may_write word shape) (may_write (word + 1) shape || (may_write (word + 2) shape || may_write (word + 3) shape))
    (or_right (may_write (word + 1) shape) (may_write (word + 2) shape || may_write (word + 3) shape)
    (or_right (may_write (word + 2) shape) (may_write (word + 3) shape)
    (subst (λ (n : ℕ). may_write n shape ≡ true) e may)))

by_byte : (word b : ℕ) (shape : AccessShape) → b / 4 * 4 ≡ word → may_write b shape ≡ true → may_write_at word shape ≡ true
by_byte word b shape e may = one_is_enough word b shape may (one_of_four word b e)

-- ---- an access that writes to the word of another one

-- byte m of an access is written in the word of another one
record Touch : Type 0 where
  nodes : List Shape
  t : Assignment
  writer : Access
  reserved : Access
  shape : AccessShape
  other : AccessShape
  m : ℕ
  is : IsShapeOf nodes writer shape
  other_is : IsShapeOf nodes reserved other
  few : length writer.writes ≤ 2 ^ 32
  within : m < length writer.writes
  guard : guard_value t nodes writer ≡ 1
  hit : place_of (address_value t nodes writer) m / 4 ≡ address_value t nodes reserved / 4

abbrev byte : Touch → ℕ
byte s = place_of (address_value s.t s.nodes s.writer) s.m

small : (s : Touch) → s.m < 2 ^ 32
small s =
    let most : length s.writer.writes ≤ 2 ^ 32 = s.few in
    let less : s.m < length s.writer.writes = s.within in omega (arith, most, less)

writes_by : (s : Touch) (b : Bool) → s.shape.writes ≡ b → b ≡ true
writes_by s true e = refl
writes_by s false e = absurd (s.is.silent e s.t s.m s.within s.guard)

wrote : (s : Touch) → s.shape.writes ≡ true
wrote s = writes_by s s.shape.writes refl

may_be_by : (s : Touch) (place : Option Span) → s.shape.place ≡ place → may_be_at (byte s) place ≡ true
may_be_by s None e = refl
may_be_by s (Some from) e =
    subst (λ (n : ℕ). covers (place_of n s.m) from ≡ true) (sym (s.is.address from e s.t))
    (covers_own from s.m (s.is.first from e) (small s) (subst (λ (n : ℕ). s.m < n) (s.is.many from e (wrote s)) s.within))

may_byte : (s : Touch) → may_write (byte s) s.shape ≡ true
may_byte s = and_from s.shape.writes (may_be_at (byte s) s.shape.place) (wrote s) (may_be_by s s.shape.place refl)

may_by : (s : Touch) (place : Option Span) → s.other.place ≡ place → may_write_word place s.shape ≡ true
may_by s None e = wrote s
may_by s (Some to) e =
    by_byte (to.first / 4 * 4) (byte s) s.shape
    (ap (λ (n : ℕ). n * 4) s.hit ∙ ap (λ (n : ℕ). n / 4 * 4) (s.other_is.address to e s.t)) (may_byte s)

pub may_touch : (nodes : List Shape) (t : Assignment) (writer reserved : Access) (shape other : AccessShape) → IsShapeOf nodes writer shape
    → IsShapeOf nodes reserved other → length writer.writes ≤ 2 ^ 32 → touches t nodes writer reserved ≡ true → may_write_word other.place shape ≡ true
may_touch nodes t writer reserved shape other is other_is few e =
    let parts = and_parts (nat_eq (guard_value t nodes writer) 1) (reaches_word (length writer.writes) (address_value t nodes writer) (address_value t nodes reserved)) e in
    let found : (m : ℕ) × (m < length writer.writes) × (is_in_word (place_of (address_value t nodes writer) m) (address_value t nodes reserved) ≡ true) =
    reached (length writer.writes) (address_value t nodes writer) (address_value t nodes reserved) parts.1 in
    let s : Touch = record {
      nodes = nodes;
      t = t;
      writer = writer;
      reserved = reserved;
      shape = shape;
      other = other;
      m = found.0;
      is = is;
      other_is = other_is;
      few = few;
      within = found.1;
      guard = eqb-true (guard_value t nodes writer) 1 parts.0;
      hit = eqb-true (place_of (address_value t nodes writer) found.0 / 4) (address_value t nodes reserved / 4) found.2;
    } in
    may_by s other.place refl
