-- Operands of a written line are read again.
use Rattle.std.proofs.Common.{◌≡◌, ℕ, ◌*◌, ◌^◌, ◌<◌, true, false, List, [], ◌∷◌, ◌++◌, Option, Some, refl, sym, ap, ◌∙◌, arith, append-nil, ℤ, pos, negsuc}
use Rattle.std.specs.Prelude.{decimal}
use Rattle.std.specs.List.{list_all}
use Rattle.std.specs.Fmt.{signed_decimal}
use Rattle.std.proofs.lemmas.Bool.{and_parts}
use Rattle.std.proofs.lemmas.Bool.Decides.{nat_tests}
use Rattle.rv32_asm.specs.Numbers.{in_range}
use Rattle.rv32_asm.specs.Reading.{is_letter, is_name, word_at, mark_front, mark_at}
use Rattle.rv32_asm.specs.Operands.{Offset, reaches, target_at, next_register_at, next_number_at, next_unsigned_at, next_target_at, two_registers_at, base_at, next_base_at, indexed_at, upper_at, exchange_at}
use Rattle.rv32_text.specs.Text.{register, base}
use Rattle.rv32_text.proofs.ReadWords.{ends_word, skip-space, mark_at-mark, word_at-space, register_at-space, number_at-space, is_decimal, digits_of_decimal}
use Rattle.rv32_text.proofs.ReadNumbers.{word_at-any, register_at-register, number_at-signed, number_of-signed, signed_word, signed_some, IsSmall}

pub mark_at-space : (mark : ℕ) (bytes : List ℕ) → mark_at mark (32 ∷ bytes) ≡ mark_at mark bytes
unfolding mark_at
mark_at-space mark bytes = ap (mark_front mark) (skip-space bytes)

-- what is read of a list is read of it with nothing behind it
pub at_end : {T : Type 0} (read : List ℕ → Option T) (bytes : List ℕ) (x : T) → read (bytes ++ []) ≡ Some x → read bytes ≡ Some x
at_end read bytes x e = ap read (sym (append-nil bytes)) ∙ e

pub next_register : (n : ℕ) (rest : List ℕ) → n < 32 → ends_word rest ≡ true → next_register_at (44 ∷ 32 ∷ (register n ++ rest)) ≡ Some (n, rest)
unfolding next_register_at
next_register n rest lt ends =
    let there = register_at-register n rest lt ends in
    rw (mark_at-mark 44 (32 ∷ (register n ++ rest)) refl, register_at-space (register n ++ rest), there) refl

pub last_register : (n : ℕ) → n < 32 → next_register_at (44 ∷ 32 ∷ register n) ≡ Some (n, [])
last_register n lt = at_end (λ bytes. next_register_at (44 ∷ 32 ∷ bytes)) (register n) (n, []) (next_register n [] lt refl)

pub next_number : (low high z : ℤ) (rest : List ℕ) → IsSmall z → in_range low high z ≡ true → ends_word rest ≡ true
    → next_number_at low high (44 ∷ 32 ∷ (signed_decimal z ++ rest)) ≡ Some (z, rest)
unfolding next_number_at
next_number low high z rest small within ends =
    let there = number_at-signed low high z rest small within ends in
    rw (mark_at-mark 44 (32 ∷ (signed_decimal z ++ rest)) refl, number_at-space low high (signed_decimal z ++ rest), there) refl

pub last_number : (low high z : ℤ) → IsSmall z → in_range low high z ≡ true → next_number_at low high (44 ∷ 32 ∷ signed_decimal z) ≡ Some (z, [])
last_number low high z small within =
    at_end (λ bytes. next_number_at low high (44 ∷ 32 ∷ bytes)) (signed_decimal z) (z, []) (next_number low high z [] small within refl)

pub last_unsigned : (most n : ℕ) → n < 2 ^ 32 → in_range (pos 0) (pos most) (pos n) ≡ true → next_unsigned_at most (44 ∷ 32 ∷ decimal n) ≡ Some (n, [])
unfolding next_unsigned_at
last_unsigned most n small within = let there = last_number (pos 0) (pos most) (pos n) small within in rw there refl

-- a number is no name
digits_no_name : (ds : List ℕ) → list_all is_decimal ds ≡ true → is_name ds ≡ false
unfolding is_name
digits_no_name [] all = refl
digits_no_name (a ∷ ds) all =
    let parts = and_parts (is_decimal a) (list_all is_decimal ds) all in
    let other : is_letter a ≡ false = grind (arith, nat_tests, parts.0) in
    rw other refl

number_no_name : (z : ℤ) → IsSmall z → is_name (signed_decimal z) ≡ false
unfolding is_name
number_no_name (pos n) small = digits_no_name (decimal n) (digits_of_decimal n (omega arith))
number_no_name (negsuc n) small = refl

pub last_target : (reach : ℕ) (z : ℤ) → IsSmall z → reaches reach z ≡ true → next_target_at reach (44 ∷ 32 ∷ signed_decimal z) ≡ Some (Offset z, [])
unfolding next_target_at target_at
last_target reach z small within =
    let word = at_end word_at (signed_decimal z) (signed_decimal z, []) (word_at-any (signed_decimal z) [] (signed_some z small) (signed_word z small) refl) in
    let no_name = number_no_name z small in
    let value = number_of-signed z small in
    rw (mark_at-mark 44 (32 ∷ signed_decimal z) refl, word_at-space (signed_decimal z), word, no_name, value, within) refl

pub two_registers : (a b : ℕ) (rest : List ℕ) → a < 32 → b < 32 → ends_word rest ≡ true
    → two_registers_at (32 ∷ (register a ++ (44 ∷ 32 ∷ (register b ++ rest)))) ≡ Some ((a, b), rest)
unfolding two_registers_at
two_registers a b rest fa fb ends =
    let first = register_at-register a (44 ∷ 32 ∷ (register b ++ rest)) fa refl in
    let second = next_register b rest fb ends in
    rw (register_at-space (register a ++ (44 ∷ 32 ∷ (register b ++ rest))), first, second) refl

pub base_in : (n : ℕ) → n < 32 → base_at (base n) ≡ Some (n, [])
unfolding base_at
base_in n lt =
    let there = register_at-register n (41 ∷ []) lt refl in
    rw (mark_at-mark 40 (register n ++ (41 ∷ [])) refl, there, mark_at-mark 41 [] refl) refl

base_at-space : (bytes : List ℕ) → base_at (32 ∷ bytes) ≡ base_at bytes
unfolding base_at
base_at-space bytes = rw (mark_at-space 40 bytes) refl

pub last_base : (n : ℕ) → n < 32 → next_base_at (44 ∷ 32 ∷ base n) ≡ Some (n, [])
unfolding next_base_at
last_base n lt = let there = base_in n lt in rw (mark_at-mark 44 (32 ∷ base n) refl, base_at-space (base n), there) refl

pub indexed : (a n : ℕ) (z : ℤ) → a < 32 → n < 32 → IsSmall z → in_range (negsuc 2047) (pos 2047) z ≡ true
    → indexed_at (32 ∷ (register a ++ (44 ∷ 32 ∷ (signed_decimal z ++ base n)))) ≡ Some ((a, z, n), [])
unfolding indexed_at
indexed a n z fa fn small within =
    let first = register_at-register a (44 ∷ 32 ∷ (signed_decimal z ++ base n)) fa refl in
    let second = next_number (negsuc 2047) (pos 2047) z (base n) small within refl in
    let third = base_in n fn in
    rw (register_at-space (register a ++ (44 ∷ 32 ∷ (signed_decimal z ++ base n))), first, second, third) refl

pub upper : (a n : ℕ) → a < 32 → n < 2 ^ 20 → in_range (pos 0) (pos 1048575) (pos n) ≡ true
    → upper_at (32 ∷ (register a ++ (44 ∷ 32 ∷ decimal n))) ≡ Some ((a, n * 4096), [])
unfolding upper_at
upper a n fa fn within =
    let first = register_at-register a (44 ∷ 32 ∷ decimal n) fa refl in
    let second = last_unsigned 1048575 n (omega arith) within in
    rw (register_at-space (register a ++ (44 ∷ 32 ∷ decimal n)), first, second) refl

pub exchange : (a b n : ℕ) → a < 32 → b < 32 → n < 32
    → exchange_at (32 ∷ (register a ++ (44 ∷ 32 ∷ (register b ++ (44 ∷ 32 ∷ base n))))) ≡ Some ((a, b, n), [])
unfolding exchange_at
exchange a b n fa fb fn =
    let first = two_registers a b (44 ∷ 32 ∷ base n) fa fb refl in
    let second = last_base n fn in
    rw (first, second) refl
