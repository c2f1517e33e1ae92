-- Bytes from an address on, a run or a byte at a time.
use Rattle.std.proofs.Common.{◌≡◌, ℕ, zero, suc, ◌+◌, ◌-◌, ◌^◌, ◌<◌, ◌≤◌, Bool, true, false, ◌&&◌, List, ◌∷◌, length, take, ap, ◌∙◌, arith}
use Rattle.std.proofs.lemmas.Bool.{and_parts, and_left}
use Rattle.elf_image.specs.Memory.{Cells, next, is_readable, is_writable, byte_in, all_readable, all_writable, bytes_from}
use Rattle.guest_mem.specs.Runs.{AreReadable, AreWritable}
use Rattle.guest_mem.specs.Laws.{all_readable-fewer, all_writable-fewer, bytes_from-fewer}
use Rattle.guest_mem.proofs.Rows.{next_is}

-- bytes of a row that may be read leave the question to the rest
all_readable-split : (cells : Cells) (address m n at left : ℕ) → address + m < 2 ^ 32 → at ≡ address + m → left + m ≡ n → all_readable cells address m ≡ true → all_readable cells address n ≡ all_readable cells at left
all_readable-split cells address zero n at left small same count row =
    ap (λ (k : ℕ). all_readable cells address k) (let e : n ≡ left = omega arith in e) ∙ ap (λ (a : ℕ). all_readable cells a left) (let e : address ≡ at = omega arith in e)
all_readable-split cells address (suc m) zero at left small same count row = absurd (omega arith)
all_readable-split cells address (suc m) (suc n) at left small same count row =
    let parts = and_parts (is_readable (cells address)) (all_readable cells (next address) m) row in
    let e : next address ≡ address + 1 = next_is address (omega arith) in
    ap (λ (b : Bool). b && all_readable cells (next address) n) parts.0
    ∙ all_readable-split cells (next address) m n at left (omega (arith, e)) (omega (arith, e)) (omega arith) parts.1

all_writable-split : (cells : Cells) (address m n at left : ℕ) → address + m < 2 ^ 32 → at ≡ address + m → left + m ≡ n → all_writable cells address m ≡ true → all_writable cells address n ≡ all_writable cells at left
all_writable-split cells address zero n at left small same count row =
    ap (λ (k : ℕ). all_writable cells address k) (let e : n ≡ left = omega arith in e) ∙ ap (λ (a : ℕ). all_writable cells a left) (let e : address ≡ at = omega arith in e)
all_writable-split cells address (suc m) zero at left small same count row = absurd (omega arith)
all_writable-split cells address (suc m) (suc n) at left small same count row =
    let parts = and_parts (is_writable (cells address)) (all_writable cells (next address) m) row in
    let e : next address ≡ address + 1 = next_is address (omega arith) in
    ap (λ (b : Bool). b && all_writable cells (next address) n) parts.0
    ∙ all_writable-split cells (next address) m n at left (omega (arith, e)) (omega (arith, e)) (omega arith) parts.1

-- what the bytes up to the end of a block say of an access
pub all_readable-within : (cells : Cells) (address count : ℕ) (bytes : List ℕ) → AreReadable cells address bytes → count ≤ length bytes → all_readable cells address count ≡ true
all_readable-within cells address count bytes run within = all_readable-fewer cells address count (length bytes) within run.all

pub all_readable-past : (cells : Cells) (address count at left : ℕ) (bytes : List ℕ) → AreReadable cells address bytes → at ≡ address + length bytes → left + length bytes ≡ count → all_readable cells address count ≡ all_readable cells at left
all_readable-past cells address count at left bytes run same rest = all_readable-split cells address (length bytes) count at left run.below same rest run.all

pub all_readable-none : (cells : Cells) (address count : ℕ) (bytes : List ℕ) → AreReadable cells address bytes → length bytes ≡ 0 → 0 < count → all_readable cells address count ≡ false
all_readable-none cells address zero bytes run none some = absurd (omega arith)
all_readable-none cells address (suc count) bytes run none some = and_left (is_readable (cells address)) (all_readable cells (next address) count) (run.none none)

pub all_writable-within : (cells : Cells) (address count run : ℕ) → AreWritable cells address run → count ≤ run → all_writable cells address count ≡ true
all_writable-within cells address count run fits within = all_writable-fewer cells address count run within fits.all

pub all_writable-past : (cells : Cells) (address count at left run : ℕ) → AreWritable cells address run → at ≡ address + run → left + run ≡ count → all_writable cells address count ≡ all_writable cells at left
all_writable-past cells address count at left run fits same rest = all_writable-split cells address run count at left fits.below same rest fits.all

pub all_writable-none : (cells : Cells) (address count run : ℕ) → AreWritable cells address run → run ≡ 0 → 0 < count → all_writable cells address count ≡ false
all_writable-none cells address zero run fits none some = absurd (omega arith)
all_writable-none cells address (suc count) run fits none some = and_left (is_writable (cells address)) (all_writable cells (next address) count) (fits.none none)

pub bytes_from-more : (cells : Cells) (address n i : ℕ) → i < n → bytes_from cells address (n - i) ≡ byte_in (cells address) ∷ bytes_from cells (next address) (n - (i + 1))
bytes_from-more cells address n i within = let e : n - i ≡ suc (n - (i + 1)) = omega arith in ap (bytes_from cells address) e

pub all_writable-more : (cells : Cells) (address n i : ℕ) → i < n → all_writable cells address (n - i) ≡ (is_writable (cells address) && all_writable cells (next address) (n - (i + 1)))
all_writable-more cells address n i within = let e : n - i ≡ suc (n - (i + 1)) = omega arith in ap (all_writable cells address) e

pub bytes_from-within : (cells : Cells) (address count : ℕ) (bytes : List ℕ) → AreReadable cells address bytes → count ≤ length bytes → bytes_from cells address count ≡ take count bytes
bytes_from-within cells address count bytes run within = bytes_from-fewer cells address count (length bytes) within ∙ ap (λ (bs : List ℕ). take count bs) run.same

pub ruleset spans = (all_readable-within, all_readable-past, all_readable-none, all_writable-within, all_writable-past, all_writable-none, bytes_from-more, bytes_from-within, all_writable-more)
