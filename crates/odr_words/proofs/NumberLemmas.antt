-- What `parse` makes of a decimal text.
use Rattle.std.proofs.Common.{◌≡◌, ℕ, ◌<◌, ◌≤◌, ◌^◌, ◌&&◌, Bool, true, false, List, [], ◌∷◌, length, Result, Ok, Err, MatchResult, MatchOption, refl, arith, rules}
use Rattle.std.specs.Char.{is_ascii_digit}
use Rattle.std.specs.List.{list_all}
use Rattle.std.specs.Result.{result_ok}
use Rattle.std.specs.Str.Parse.{ParsesUnsigned, digits_value}
use Rattle.std.proofs.lemmas.Str.Parse.{IsNumeralModel, numerals_by_value, parse_digits}
use Rattle.odr_words.specs.Numbers.{is_decimal}

digits : IsNumeralModel (λ ds. list_all is_ascii_digit ds ≡ true) (digits_value 10)
digits = numerals_by_value _ (search rules)

and_left : (a b : Bool) → (a && b) ≡ true → a ≡ true
and_left true b e = refl
and_left false b e = e

decimal_parts : (text : List ℕ) → is_decimal text ≡ true → (list_all is_ascii_digit text ≡ true) × (0 < length text)
decimal_parts [] e = cc
decimal_parts (first ∷ rest) e = (and_left _ _ e, omega arith)

result_parts : {E : Type 0} (n : ℕ) (r : Result ℕ E) → MatchResult r (λ number. number ≡ n) (λ _. 2 ^ 64 ≤ n) → MatchOption (result_ok r) (2 ^ 64 ≤ n) (λ number. number ≡ n)
result_parts n (Ok number) h = h
result_parts n (Err e) h = h

parse_parts : {E : Type 0} (text : List ℕ) (r : Result ℕ E) → ParsesUnsigned 64 10 text r → (list_all is_ascii_digit text ≡ true) × (0 < length text)
    → MatchResult r (λ number. number ≡ digits_value 10 text) (λ _. 2 ^ 64 ≤ digits_value 10 text)
parse_parts {E = E} text (Ok number) h d = let p = parse_digits digits {E = E} 64 text (Ok number) h d.0 in cc (p.1)
parse_parts {E = E} text (Err e) h d = let p = parse_digits digits {E = E} 64 text (Err e) h d.0 in
    let below : digits_value 10 text < 2 ^ 64 → ⊥ = λ fits. p (d.1, fits) in omega arith

pub value-decimal : {E : Type 0} (text : List ℕ) (r : Result ℕ E) → ParsesUnsigned 64 10 text r → is_decimal text ≡ true
    → MatchOption (result_ok r) (2 ^ 64 ≤ digits_value 10 text) (λ number. number ≡ digits_value 10 text)
value-decimal text r h e = result_parts _ r (parse_parts text r h (decimal_parts text e))
