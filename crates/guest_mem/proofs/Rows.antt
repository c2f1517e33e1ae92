-- Bytes that stand in a row, none of them past the top address.
use Rattle.std.proofs.Common.{◌≡◌, ◌≢◌, ℕ, zero, suc, ◌+◌, ◌-◌, ◌^◌, ◌<◌, ◌≤◌, Bool, true, false, cond, nat_eq, List, [], ◌∷◌, length, get_or, refl, sym, ap, ◌∙◌, ◌⊎◌, inl, inr, arith, Option, Some, None}
use Rattle.std.specs.Option.{option_map}
use Rattle.std.proofs.lemmas.Bool.{cond-true, cond-false, and_from, eq-eqb, ne_eqb, cases_lt}
use Rattle.std.proofs.Math.Nat.{mod-eq_of_lt}
use Rattle.elf_image.specs.declared.write.Write.{Write}
use Rattle.elf_image.specs.declared.cell.Cell.{Cell}
use Rattle.elf_image.specs.Memory.{Cells, cells_after, Stands, with_byte, next, is_readable, is_writable, byte_in, all_readable, all_writable, bytes_from, writes_of}

pub next_is : (address : ℕ) → address + 1 < 2 ^ 32 → next address ≡ address + 1
next_is address small = mod-eq_of_lt small

pub all_readable-row : (cells : Cells) (address count : ℕ) → address + count < 2 ^ 32 → ((at : ℕ) → address ≤ at → at < address + count → is_readable (cells at) ≡ true) → all_readable cells address count ≡ true
all_readable-row cells address zero small each = refl
all_readable-row cells address (suc count) small each =
    let e : next address ≡ address + 1 = next_is address (omega arith) in
    and_from (is_readable (cells address)) (all_readable cells (next address) count) (each address (omega arith) (omega arith))
    (all_readable-row cells (next address) count (omega (arith, e)) (λ at from to. each at (omega (arith, e, from)) (omega (arith, e, to))))

pub all_writable-row : (cells : Cells) (address count : ℕ) → address + count < 2 ^ 32 → ((at : ℕ) → address ≤ at → at < address + count → is_writable (cells at) ≡ true) → all_writable cells address count ≡ true
all_writable-row cells address zero small each = refl
all_writable-row cells address (suc count) small each =
    let e : next address ≡ address + 1 = next_is address (omega arith) in
    and_from (is_writable (cells address)) (all_writable cells (next address) count) (each address (omega arith) (omega arith))
    (all_writable-row cells (next address) count (omega (arith, e)) (λ at from to. each at (omega (arith, e, from)) (omega (arith, e, to))))

pub bytes_from-row : (cells : Cells) (address : ℕ) (bytes : List ℕ) → address + length bytes < 2 ^ 32 → ((k at : ℕ) → k < length bytes → at ≡ address + k → byte_in (cells at) ≡ get_or bytes k 0) → bytes_from cells address (length bytes) ≡ bytes
bytes_from-row cells address [] small each = refl
bytes_from-row cells address (byte ∷ bytes) small each =
    let e : next address ≡ address + 1 = next_is address (omega arith) in
    let first : byte_in (cells address) ≡ byte = each 0 address (omega arith) (omega arith) in
    ap (λ (b : ℕ). b ∷ bytes_from cells (next address) (length bytes)) first
    ∙ ap (λ (bs : List ℕ). byte ∷ bs) (bytes_from-row cells (next address) bytes (omega (arith, e)) (λ k at within is. each (suc k) at (omega arith) (omega (arith, e, is))))

same_byte : (b c : ℕ) (cell : Option Cell) → option_map (with_byte b) (option_map (with_byte c) cell) ≡ option_map (with_byte b) cell
same_byte b c None = refl
same_byte b c (Some cell) = refl

hidden_by : (b c : ℕ) (test : Bool) (cell first : Option Cell) → option_map (with_byte b) cell ≡ option_map (with_byte b) first
    → option_map (with_byte b) (cond test (option_map (with_byte c) cell) cell) ≡ option_map (with_byte b) first
hidden_by b c true cell first e = same_byte b c cell ∙ e
hidden_by b c false cell first e = e

-- a byte that is written hides those that were written there before
pub hidden : (before : Cells) (writes : List Write) (at byte : ℕ) → option_map (with_byte byte) (cells_after before writes at) ≡ option_map (with_byte byte) (before at)
hidden before [] at byte = refl
hidden before (w ∷ ws) at byte = hidden_by byte w.byte (nat_eq w.address at) (cells_after before ws at) (before at) (hidden before ws at byte)

-- the writes of a row change nothing below it or past it
outside : (before : Cells) (address : ℕ) (bytes : List ℕ) (older : List Write) (at : ℕ) → address + length bytes < 2 ^ 32 → (at < address) ⊎ (address + length bytes ≤ at)
    → cells_after before (writes_of address bytes older) at ≡ cells_after before older at
outside before address [] older at small out = refl
outside before address (byte ∷ bytes) older at small out =
    let e : next address ≡ address + 1 = next_is address (omega arith) in
    let other : address ≢ at = λ same. elim out [ inl below ↦ omega arith | inr past ↦ omega arith ] in
    let later : (at < next address) ⊎ (next address + length bytes ≤ at) = elim out [ inl below ↦ inl (omega (arith, e, below)) | inr past ↦ inr (omega (arith, e, past)) ] in
    outside before (next address) bytes (record { address = address; byte = byte } ∷ older) at (omega (arith, e)) later
    ∙ cond-false (nat_eq address at) (option_map (with_byte byte) (cells_after before older at)) (cells_after before older at) (ne_eqb address at other)

-- and leave each of its bytes at its place
inside : (before : Cells) (address : ℕ) (bytes : List ℕ) (older : List Write) (k at : ℕ) → address + length bytes < 2 ^ 32 → k < length bytes → at ≡ address + k
    → cells_after before (writes_of address bytes older) at ≡ option_map (with_byte (get_or bytes k 0)) (before at)
inside before address [] older k at small within is = absurd (omega arith)
inside before address (byte ∷ bytes) older zero at small within is =
    let e : next address ≡ address + 1 = next_is address (omega arith) in
    outside before (next address) bytes (record { address = address; byte = byte } ∷ older) at (omega (arith, e)) (inl (omega (arith, e, is)))
    ∙ cond-true (nat_eq address at) (option_map (with_byte byte) (cells_after before older at)) (cells_after before older at) (eq-eqb address at (omega arith))
    ∙ hidden before older at byte
inside before address (byte ∷ bytes) older (suc k) at small within is =
    let e : next address ≡ address + 1 = next_is address (omega arith) in
    inside before (next address) bytes (record { address = address; byte = byte } ∷ older) k at (omega (arith, e)) (omega arith) (omega (arith, e, is))

-- what the memory is after a row was written
pub Stands-row : (before after : Cells) (address : ℕ) (bytes : List ℕ) → address + length bytes < 2 ^ 32
    → ((k at : ℕ) → k < length bytes → at ≡ address + k → after at ≡ option_map (with_byte (get_or bytes k 0)) (before at))
    → ((at : ℕ) → (at < address) ⊎ (address + length bytes ≤ at) → after at ≡ before at)
    → Stands before (writes_of address bytes []) after
Stands-row before after address bytes small here there at =
    elim (cases_lt at address) [
      | inl below ↦ there at (inl below) ∙ sym (outside before address bytes [] at small (inl below))
      | inr from ↦ elim (cases_lt at (address + length bytes)) [
        | inl within ↦ here (at - address) at (omega arith) (omega arith) ∙ sym (inside before address bytes [] (at - address) at small (omega arith) (omega arith))
        | inr past ↦ there at (inr past) ∙ sym (outside before address bytes [] at small (inr past))
      ]
    ]
