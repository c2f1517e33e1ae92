-- Decimal texts and what `parse` gives of them.
use Rattle.std.proofs.Common.{◌≡◌, ◌≢◌, ℕ, suc, zero, ◌^◌, ◌<◌, ◌≤◌, List, [], ◌∷◌, length, get_or, Result, Ok, Err, Some, None, slice_get, refl, ap, ◌∙◌, sym, subst, lit<, arith}
use Rattle.std.specs.Fmt.{decimal}
use Rattle.std.specs.Str.{IsUtf8}
use Rattle.std.specs.Str.Parse.{AllDigits, digits_value, ParsesUnsigned}
use Rattle.std.proofs.lemmas.Fmt.{IsAscii-decimal, decimal-digits_value, parse-decimal, decimal_digit, decimal_nonempty, first_decimal}
use Rattle.std.proofs.lemmas.Str.{IsUtf8-from_ascii}
use Rattle.std.proofs.lemmas.Str.Parse.{IsNumeralModel, numerals_by_value, tells_digits, parse_plain}

own : IsNumeralModel (AllDigits 10) (digits_value 10)
own = numerals_by_value (AllDigits 10) tells_digits

-- what was parsed, with no sign and no zero in front, is what is written
pub ok_is_decimal : (n : ℕ) (digits text : List ℕ) → digits ≡ text → 48 < get_or text 0 0 → ParsesUnsigned {E = ℕ} 64 10 digits (Ok n) → text ≡ decimal n
ok_is_decimal n digits text same above parses =
    let P : List ℕ → Type 0 = λ bytes. ParsesUnsigned {E = ℕ} 64 10 bytes (Ok n) in
    let no_sign : get_or text 0 0 ≢ 43 = λ plus. omega arith in
    let known = parse_plain own {E = ℕ} 64 text (Ok n) (subst P same parses) no_sign in
    let written = decimal-digits_value own text known.0.0 known.0.1 (λ zero. absurd (omega arith)) (let small = known.0.2 in omega arith) in
    sym written ∙ ap decimal (sym known.1)

-- what is written is parsed
pub decimal_is_ok : (m n : ℕ) (digits text : List ℕ) → digits ≡ text → n < 2 ^ 64 → text ≡ decimal n → ParsesUnsigned {E = ℕ} 64 10 digits (Ok m) → m ≡ n
decimal_is_ok m n digits text same few e parses =
    let found : ◌≡◌ {A = Result ℕ ℕ} (Ok m) (Ok n) = parse-decimal {E = ℕ} 64 n digits (Ok m) few (omega arith) (same ∙ e) parses in cc

pub decimal_not_err : (n : ℕ) (digits text : List ℕ) → digits ≡ text → n < 2 ^ 64 → text ≡ decimal n → ParsesUnsigned {E = ℕ} 64 10 digits (Err 0) → ⊥
decimal_not_err n digits text same few e parses =
    let found : ◌≡◌ {A = Result ℕ ℕ} (Err 0) (Ok n) = parse-decimal {E = ℕ} 64 n digits (Err 0) few (omega arith) (same ∙ e) parses in cc

pub decimal_is_text : (text : List ℕ) (n : ℕ) → n < 2 ^ 64 → text ≡ decimal n → IsUtf8 text
decimal_is_text text n few e = subst IsUtf8 (sym e) (IsUtf8-from_ascii (decimal n) (IsAscii-decimal n (omega arith)))

-- how the text of a number begins: with a zero only if that is all
pub record Begins (text : List ℕ) : Type 0 where
  pub some : 0 < length text
  pub zero : get_or text 0 0 ≤ 48 → (get_or text 0 0 ≡ 48) × (length text ≡ 1)

decimal_begins : (n : ℕ) → n < 2 ^ 64 → Begins (decimal n)
decimal_begins zero fits = subst Begins (sym (decimal_digit 0 (lit< tt))) (record { some = lit< tt; zero = λ low. (refl, refl) })
decimal_begins (suc n) fits =
    let above = first_decimal (suc n) (omega arith) fits in
    record { some = decimal_nonempty (suc n) fits; zero = λ low. absurd (omega arith) }

pub begins : (text : List ℕ) (n : ℕ) → n < 2 ^ 64 → text ≡ decimal n → Begins text
begins text n few e = subst Begins (sym e) (decimal_begins n (omega arith))

-- the text of zero
pub zero_is_decimal : (text : List ℕ) → get_or text 0 0 ≡ 48 → length text ≡ 1 → text ≡ decimal 0
zero_is_decimal [] first one = absurd (omega arith)
zero_is_decimal (c ∷ []) first one = ap (λ (b : ℕ). b ∷ []) first ∙ sym (decimal_digit 0 (lit< tt))
zero_is_decimal (c ∷ d ∷ text) first one = absurd (omega arith)

-- the first byte, by `first`
pub first_is : (text : List ℕ) (byte : ℕ) → Some byte ≡ slice_get text 0 → get_or text 0 0 ≡ byte
first_is [] byte e = cc
first_is (c ∷ text) byte e = cc

pub no_first : (text : List ℕ) → None ≡ slice_get text 0 → length text ≡ 0
no_first [] e = refl
no_first (c ∷ text) e = cc
