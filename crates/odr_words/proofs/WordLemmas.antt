-- What a search for the sign of an option's value says.
use Rattle.std.proofs.Common.{◌≡◌, ℕ, ◌+◌, ◌<◌, ◌||◌, cond, Bool, true, false, not, List, [], ◌∷◌, length, refl, arith}
use Rattle.std.specs.List.{list_any, position_or_len}

none-step : (b any : Bool) (place size : ℕ) → (place ≡ size → any ≡ false) → cond (not b) (1 + place) 0 ≡ size + 1 → (b || any) ≡ false
none-step true any place size rest e = absurd (omega arith)
none-step false any place size rest e = rest (omega arith)

pub list_any-none : (p : ℕ → Bool) (xs : List ℕ) → position_or_len p xs ≡ length xs → list_any p xs ≡ false
list_any-none p [] e = refl
list_any-none p (x ∷ xs) e = none-step (p x) (list_any p xs) (position_or_len p xs) (length xs) (list_any-none p xs) (omega arith)

some-step : (b any : Bool) (place size : ℕ) → (place < size → any ≡ true) → cond (not b) (1 + place) 0 < size + 1 → (b || any) ≡ true
some-step true any place size rest e = refl
some-step false any place size rest e = rest (omega arith)

pub list_any-some : (p : ℕ → Bool) (xs : List ℕ) → position_or_len p xs < length xs → list_any p xs ≡ true
list_any-some p [] e = absurd (omega arith)
list_any-some p (x ∷ xs) e = some-step (p x) (list_any p xs) (position_or_len p xs) (length xs) (list_any-some p xs) (omega arith)
