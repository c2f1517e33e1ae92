-- Reading a line from left to right. A reader gives what it read and the bytes after it, or none.
use Rattle.std.specs.Prelude.{◌≡◌, ℕ, ℤ, Bool, false, not, ◌||◌, ◌==◌, nat_le, ◌&&◌, List, [], ◌∷◌, length, take, drop, Option, Some, None, if◌then◌else◌}
use Rattle.std.specs.List.{prefix_len, list_all}
use Rattle.rv32_asm.specs.Names.{register_of}
use Rattle.rv32_asm.specs.Numbers.{number_of, in_range}

infixl 10 ◌>>=◌
abbrev pub ◌>>=◌ : {A B : Type 0} → Option A → (A → Option B) → Option B
(Some x) >>= f = f x
None >>= f = None

-- What a function returned, seen by view, is what reading gives.
abbrev pub Gives : {X Y : Type 0} → (X → Y) → Option X → Option Y → Type 0
Gives view (Some x) read = read ≡ Some (view x)
Gives view None read = read ≡ None

-- space and tab
abbrev pub is_blank : ℕ → Bool
is_blank b = (b == 32) || (b == 9)

-- comma, parentheses and colon
abbrev pub is_mark : ℕ → Bool
is_mark b = (b == 44) || (b == 40) || (b == 41) || (b == 58)

-- what words are made of
abbrev pub is_word : ℕ → Bool
is_word b = not (is_blank b || is_mark b)

unfoldable pub without_blanks : List ℕ → List ℕ
without_blanks bytes = drop (prefix_len is_blank bytes) bytes

-- only blanks are left
abbrev pub is_over : List ℕ → Bool
is_over bytes = length (without_blanks bytes) == 0

abbrev pub word_front : List ℕ → Option (List ℕ × List ℕ)
word_front bytes = if prefix_len is_word bytes == 0 then None else Some (take (prefix_len is_word bytes) bytes, drop (prefix_len is_word bytes) bytes)

-- a word, as long as it goes
unfoldable pub word_at : List ℕ → Option (List ℕ × List ℕ)
word_at bytes = word_front (without_blanks bytes)

abbrev pub mark_front : ℕ → List ℕ → Option (List ℕ)
mark_front mark [] = None
mark_front mark (b ∷ rest) = if b == mark then Some rest else None

-- this mark
unfoldable pub mark_at : ℕ → List ℕ → Option (List ℕ)
mark_at mark bytes = mark_front mark (without_blanks bytes)

-- a letter or an underscore
abbrev pub is_letter : ℕ → Bool
is_letter b = (nat_le 97 b && nat_le b 122) || (nat_le 65 b && nat_le b 90) || (b == 95)

abbrev pub is_digit : ℕ → Bool
is_digit b = nat_le 48 b && nat_le b 57

abbrev pub begins_name : List ℕ → Bool
begins_name [] = false
begins_name (b ∷ bytes) = is_letter b

-- a letter or an underscore, then these and digits, at most 64
unfoldable pub is_name : List ℕ → Bool
is_name word = begins_name word && list_all (λ b. is_letter b || is_digit b) word && nat_le (length word) 64

unfoldable pub register_at : List ℕ → Option (ℕ × List ℕ)
register_at bytes = do
  word ← word_at bytes
  register ← register_of word.0
  Some (register, word.1)

-- a number from low to high
unfoldable pub number_at : ℤ → ℤ → List ℕ → Option (ℤ × List ℕ)
number_at low high bytes = do
  word ← word_at bytes
  number ← number_of word.0
  if in_range low high number then Some (number, word.1) else None

unfoldable pub name_at : List ℕ → Option (List ℕ × List ℕ)
name_at bytes = do
  word ← word_at bytes
  if is_name word.0 then Some word else None
