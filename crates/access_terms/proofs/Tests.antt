-- Tests as bits, and the comparisons that decide whether an address is in a span, in a stack, or a multiple of four.
use Rattle.std.proofs.Common.{◌≡◌, ℕ, ◌+◌, ◌-◌, ◌/◌, ◌%◌, ◌^◌, ◌<◌, ◌≤◌, Bool, true, false, ◌&&◌, refl, sym, ◌∙◌, ap, inl, inr, arith, nat_eq, nat_lt}
use Rattle.std.specs.Prelude.{◌⊎◌, nat_le, bit_and}
use Rattle.std.proofs.lemmas.Bool.{and_parts, cases_eq, cases_lt, eq-eqb, leb-true, ne_eqb}
use Rattle.elf_image.specs.Memory.{in_stack}
use Rattle.bv_terms.specs.BitVectors.{bit_of}
use Rattle.rv_model.specs.Instruction.{is_aligned}
use Rattle.step_terms.proofs.Signs.{lt_yes, lt_no, le_yes, le_no, same_lt}

pub both_hold : (p q : Bool) → bit_and (bit_of p) (bit_of q) ≡ bit_of (p && q)
both_hold true true = refl
both_hold true false = refl
both_hold false true = refl
both_hold false false = refl

-- a distance modulo 2 ^ 32 is less than the size of a span exactly where the number is in the span
pub in_span : (a first count : ℕ) → a < 2 ^ 32 → first + count ≤ 2 ^ 32 → nat_lt ((a + (2 ^ 32 - first)) % 2 ^ 32) count ≡ (nat_le first a && nat_lt a (first + count))
in_span a first count below span = by_order (cases_lt a first)
  where
    by_order : (a < first) ⊎ (first ≤ a) → nat_lt ((a + (2 ^ 32 - first)) % 2 ^ 32) count ≡ (nat_le first a && nat_lt a (first + count))
    by_order (inl less) = lt_no ((a + (2 ^ 32 - first)) % 2 ^ 32) count (omega (arith, below, span, less)) ∙ sym (ap (λ t. t && nat_lt a (first + count)) (le_no first a less))
    by_order (inr more) =
        let away : (a + (2 ^ 32 - first)) % 2 ^ 32 ≡ a - first = omega (arith, below, span, more) in
        ap (λ n. nat_lt n count) away ∙ same_lt (a - first) count a (first + count) (λ h. omega (arith, h, more)) (λ h. omega (arith, h, more))
        ∙ sym (ap (λ t. t && nat_lt a (first + count)) (le_yes first a more))

same_where : (near y z : Bool) → (near ≡ true → y ≡ z) → (near && y) ≡ (near && z)
same_where true y z same = same refl
same_where false y z same = refl

-- the low 16 KiB of each 64 KiB from the first stack on
lowest : (a : ℕ) → 0x70000000 ≤ a → nat_eq (a / 2 ^ 14 % 2 ^ 2) 0 ≡ nat_lt ((a - 0x70000000) % 0x10000) 16384
lowest a above = by_bits (cases_eq (a / 2 ^ 14 % 2 ^ 2) 0)
  where
    by_bits : (a / 2 ^ 14 % 2 ^ 2 ≡ 0) ⊎ (a / 2 ^ 14 % 2 ^ 2 ≡ 0 → ⊥) → nat_eq (a / 2 ^ 14 % 2 ^ 2) 0 ≡ nat_lt ((a - 0x70000000) % 0x10000) 16384
    by_bits (inl e) = eq-eqb (a / 2 ^ 14 % 2 ^ 2) 0 e ∙ sym (lt_yes ((a - 0x70000000) % 0x10000) 16384 (omega (arith, above, e)))
    by_bits (inr other) = ne_eqb (a / 2 ^ 14 % 2 ^ 2) 0 other ∙ sym (lt_no ((a - 0x70000000) % 0x10000) 16384 (omega (arith, above, other)))

pub stack_test : (a : ℕ) → bit_and (bit_of (nat_le 0x70000000 a && nat_lt a 0x70080000)) (bit_of (nat_eq (a / 2 ^ 14 % 2 ^ 2) 0)) ≡ bit_of (in_stack a)
stack_test a =
    let near = nat_le 0x70000000 a && nat_lt a 0x70080000 in
    both_hold near (nat_eq (a / 2 ^ 14 % 2 ^ 2) 0)
    ∙ ap bit_of (same_where near (nat_eq (a / 2 ^ 14 % 2 ^ 2) 0) (nat_lt ((a - 0x70000000) % 0x10000) 16384)
    (λ h. lowest a (leb-true 0x70000000 a ((and_parts (nat_le 0x70000000 a) (nat_lt a 0x70080000) h).0))))

pub aligned_test : (a : ℕ) → nat_eq (a / 2 ^ 0 % 2 ^ 2) 0 ≡ is_aligned a
aligned_test a = let same : a / 2 ^ 0 ≡ a = omega arith in ap (λ n. nat_eq (n % 4) 0) same
