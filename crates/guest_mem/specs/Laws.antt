-- Laws of memory: of a list of writes, and of accesses to fewer bytes.
use Rattle.std.proofs.Common.{◌≡◌, ℕ, zero, suc, ◌≤◌, Bool, true, false, cond, ◌&&◌, nat_eq, List, [], ◌∷◌, ◌++◌, length, take, refl, ap, ◌∙◌, arith, Option, Some, None}
use Rattle.std.proofs.lemmas.Bool.{and_parts, and_from}
use Rattle.std.specs.Option.{option_map}
use Rattle.elf_image.specs.declared.write.Write.{Write}
use Rattle.elf_image.specs.declared.cell.Cell.{Cell}
use Rattle.elf_image.specs.Memory.{Cells, cells_after, Stands, with_byte, next, is_readable, is_writable, byte_in, all_readable, all_writable, bytes_from}

-- The writes of two calls, one after the other, are the writes of both.
abbrev pub WritesChain : Type 0
WritesChain = (before between after : Cells) (older newer : List Write) → Stands before older between → Stands between newer after → Stands before (newer ++ older) after

-- Writes change no right.
abbrev pub RightsStay : Type 0
RightsStay =
    (before after : Cells) (writes : List Write) (address count : ℕ) → Stands before writes after
    → (all_readable after address count ≡ all_readable before address count) × (all_writable after address count ≡ all_writable before address count)

-- writes over a memory that is itself the memory after older writes
cells_after-append : (before between : Cells) (older newer : List Write) (address : ℕ) → Stands before older between
    → cells_after between newer address ≡ cells_after before (newer ++ older) address
cells_after-append before between older [] address stands = stands address
cells_after-append before between older (write ∷ newer) address stands =
    ap (λ (cell : Option Cell). cond (nat_eq write.address address) (option_map (with_byte write.byte) cell) cell) (cells_after-append before between older newer address stands)

pub Stands-then : WritesChain
Stands-then before between after older newer first second address = second address ∙ cells_after-append before between older newer address first

same_rights : (byte : ℕ) (test : Bool) (right : Option Cell → Bool) (cell : Option Cell) → right (option_map (with_byte byte) cell) ≡ right cell → right (cond test (option_map (with_byte byte) cell) cell) ≡ right cell
same_rights byte true right cell same = same
same_rights byte false right cell same = refl

readable_stays : (byte : ℕ) (cell : Option Cell) → is_readable (option_map (with_byte byte) cell) ≡ is_readable cell
readable_stays byte None = refl
readable_stays byte (Some cell) = refl

writable_stays : (byte : ℕ) (cell : Option Cell) → is_writable (option_map (with_byte byte) cell) ≡ is_writable cell
writable_stays byte None = refl
writable_stays byte (Some cell) = refl

readable_after : (before : Cells) (writes : List Write) (address : ℕ) → is_readable (cells_after before writes address) ≡ is_readable (before address)
readable_after before [] address = refl
readable_after before (write ∷ writes) address =
    let cell : Option Cell = cells_after before writes address in
    same_rights write.byte (nat_eq write.address address) (λ (c : Option Cell). is_readable c) cell (readable_stays write.byte cell) ∙ readable_after before writes address

writable_after : (before : Cells) (writes : List Write) (address : ℕ) → is_writable (cells_after before writes address) ≡ is_writable (before address)
writable_after before [] address = refl
writable_after before (write ∷ writes) address =
    let cell : Option Cell = cells_after before writes address in
    same_rights write.byte (nat_eq write.address address) (λ (c : Option Cell). is_writable c) cell (writable_stays write.byte cell) ∙ writable_after before writes address

pub is_readable-Stands : (before after : Cells) (writes : List Write) (address : ℕ) → Stands before writes after → is_readable (after address) ≡ is_readable (before address)
is_readable-Stands before after writes address stands = ap (λ (c : Option Cell). is_readable c) (stands address) ∙ readable_after before writes address

pub is_writable-Stands : (before after : Cells) (writes : List Write) (address : ℕ) → Stands before writes after → is_writable (after address) ≡ is_writable (before address)
is_writable-Stands before after writes address stands = ap (λ (c : Option Cell). is_writable c) (stands address) ∙ writable_after before writes address

pub all_readable-Stands : (before after : Cells) (writes : List Write) (address count : ℕ) → Stands before writes after → all_readable after address count ≡ all_readable before address count
all_readable-Stands before after writes address zero stands = refl
all_readable-Stands before after writes address (suc count) stands =
    ap (λ (b : Bool). b && all_readable after (next address) count) (is_readable-Stands before after writes address stands)
    ∙ ap (λ (b : Bool). is_readable (before address) && b) (all_readable-Stands before after writes (next address) count stands)

pub all_writable-Stands : (before after : Cells) (writes : List Write) (address count : ℕ) → Stands before writes after → all_writable after address count ≡ all_writable before address count
all_writable-Stands before after writes address zero stands = refl
all_writable-Stands before after writes address (suc count) stands =
    ap (λ (b : Bool). b && all_writable after (next address) count) (is_writable-Stands before after writes address stands)
    ∙ ap (λ (b : Bool). is_writable (before address) && b) (all_writable-Stands before after writes (next address) count stands)

pub Stands-rights : RightsStay
Stands-rights before after writes address count stands = (all_readable-Stands before after writes address count stands, all_writable-Stands before after writes address count stands)

-- An access to fewer bytes may be made too, and meets the first of them.
pub all_readable-fewer : (cells : Cells) (address m n : ℕ) → m ≤ n → all_readable cells address n ≡ true → all_readable cells address m ≡ true
all_readable-fewer cells address zero n fewer all = refl
all_readable-fewer cells address (suc m) zero fewer all = absurd (omega arith)
all_readable-fewer cells address (suc m) (suc n) fewer all =
    let parts = and_parts (is_readable (cells address)) (all_readable cells (next address) n) all in
    and_from (is_readable (cells address)) (all_readable cells (next address) m) parts.0 (all_readable-fewer cells (next address) m n (omega arith) parts.1)

pub all_writable-fewer : (cells : Cells) (address m n : ℕ) → m ≤ n → all_writable cells address n ≡ true → all_writable cells address m ≡ true
all_writable-fewer cells address zero n fewer all = refl
all_writable-fewer cells address (suc m) zero fewer all = absurd (omega arith)
all_writable-fewer cells address (suc m) (suc n) fewer all =
    let parts = and_parts (is_writable (cells address)) (all_writable cells (next address) n) all in
    and_from (is_writable (cells address)) (all_writable cells (next address) m) parts.0 (all_writable-fewer cells (next address) m n (omega arith) parts.1)

pub bytes_from-fewer : (cells : Cells) (address m n : ℕ) → m ≤ n → bytes_from cells address m ≡ take m (bytes_from cells address n)
bytes_from-fewer cells address zero n fewer = refl
bytes_from-fewer cells address (suc m) zero fewer = absurd (omega arith)
bytes_from-fewer cells address (suc m) (suc n) fewer = ap (λ (bytes : List ℕ). byte_in (cells address) ∷ bytes) (bytes_from-fewer cells (next address) m n (omega arith))

pub length-bytes_from : (cells : Cells) (address count : ℕ) → length (bytes_from cells address count) ≡ count
length-bytes_from cells address zero = refl
length-bytes_from cells address (suc count) = ap suc (length-bytes_from cells (next address) count)
