-- What an access meets in a memory that writes left: the rights are those before the writes, and bytes that are given one by
-- one make up its list.
use Rattle.std.specs.Prelude.{◌≡◌, ℕ, zero, suc, ◌+◌, ◌<◌, ◌&&◌, Bool, true, false, cond, List, [], ◌∷◌, map, nat_eq, Option, Some, None, option_map, is_some, refl}
use Rattle.std.specs.List.{range_with_len}
use Rattle.std.proofs.Common.{sym, ◌∙◌, ap, arith}
use Rattle.std.proofs.lemmas.Option.{none-some, same_Some}
use Rattle.elf_image.specs.declared.write.Write.{Write}
use Rattle.elf_image.specs.declared.cell.Cell.{Cell}
use Rattle.elf_image.specs.Memory.{Cells, cells_after, with_byte, next, is_readable, is_writable, byte_in, all_readable, all_writable, bytes_from, load_bytes}
use Rattle.guided_walk.specs.Fits.{byte_address}

-- ---- rights

readable_map : (byte : ℕ) (c : Option Cell) → is_readable (option_map (with_byte byte) c) ≡ is_readable c
readable_map byte None = refl
readable_map byte (Some cell) = refl

readable_cond : (b : Bool) (byte : ℕ) (c d : Option Cell) → is_readable c ≡ is_readable d → is_readable (cond b (option_map (with_byte byte) c) c) ≡ is_readable d
readable_cond true byte c d e = readable_map byte c ∙ e
readable_cond false byte c d e = e

readable_after : (before : Cells) (ws : List Write) (a : ℕ) → is_readable (cells_after before ws a) ≡ is_readable (before a)
readable_after before [] a = refl
readable_after before (w ∷ ws) a = readable_cond (nat_eq w.address a) w.byte (cells_after before ws a) (before a) (readable_after before ws a)

writable_map : (byte : ℕ) (c : Option Cell) → is_writable (option_map (with_byte byte) c) ≡ is_writable c
writable_map byte None = refl
writable_map byte (Some cell) = refl

writable_cond : (b : Bool) (byte : ℕ) (c d : Option Cell) → is_writable c ≡ is_writable d → is_writable (cond b (option_map (with_byte byte) c) c) ≡ is_writable d
writable_cond true byte c d e = writable_map byte c ∙ e
writable_cond false byte c d e = e

writable_after : (before : Cells) (ws : List Write) (a : ℕ) → is_writable (cells_after before ws a) ≡ is_writable (before a)
writable_after before [] a = refl
writable_after before (w ∷ ws) a = writable_cond (nat_eq w.address a) w.byte (cells_after before ws a) (before a) (writable_after before ws a)

both_same : (a b c d : Bool) → a ≡ b → c ≡ d → (a && c) ≡ (b && d)
both_same a b c d p q = ap (λ (x : Bool). x && c) p ∙ ap (λ (x : Bool). b && x) q

pub all_readable_after : (before : Cells) (ws : List Write) (a n : ℕ) → all_readable (cells_after before ws) a n ≡ all_readable before a n
all_readable_after before ws a zero = refl
all_readable_after before ws a (suc n) =
    both_same (is_readable (cells_after before ws a)) (is_readable (before a)) (all_readable (cells_after before ws) (next a) n) (all_readable before (next a) n)
    (readable_after before ws a) (all_readable_after before ws (next a) n)

pub all_writable_after : (before : Cells) (ws : List Write) (a n : ℕ) → all_writable (cells_after before ws) a n ≡ all_writable before a n
all_writable_after before ws a zero = refl
all_writable_after before ws a (suc n) =
    both_same (is_writable (cells_after before ws a)) (is_writable (before a)) (all_writable (cells_after before ws) (next a) n) (all_writable before (next a) n)
    (writable_after before ws a) (all_writable_after before ws (next a) n)

-- ---- bytes

is_some_cond : {A : Type 0} (b : Bool) (x : A) → is_some (cond b (Some x) None) ≡ b
is_some_cond true x = refl
is_some_cond false x = refl

pub some_cond : {A : Type 0} (b : Bool) (x y : A) → cond b (Some x) None ≡ Some y → x ≡ y
some_cond true x y e = same_Some x y e
some_cond false x y e = absurd (none-some y e)

-- bytes given one by one are those of a memory
pub bytes_are : (cells : Cells) (a n from : ℕ) (f : ℕ → ℕ) → ((i : ℕ) → i < n → f (from + i) ≡ byte_in (cells (byte_address a i)))
    → bytes_from cells a n ≡ map f (range_with_len from n)
bytes_are cells a zero from f same = refl
bytes_are cells a (suc n) from f same =
    let first : f from ≡ byte_in (cells a) = ap f (let e : from ≡ from + 0 = omega arith in e) ∙ same 0 (omega arith) in
    let rest : bytes_from cells (next a) n ≡ map f (range_with_len (from + 1) n) =
    bytes_are cells (next a) n (from + 1) f (λ (i : ℕ) (less : i < n).
    ap f (let e : from + 1 + i ≡ from + suc i = omega arith in e) ∙ same (suc i) (omega arith)) in
    ap (λ (x : ℕ). x ∷ bytes_from cells (next a) n) (sym first) ∙ ap (λ (xs : List ℕ). f from ∷ xs) rest

-- whether an access may be read is the same before and after writes, whatever the bytes
pub readable_same : (before : Cells) (ws : List Write) (a n : ℕ) (given : List ℕ)
    → is_some (load_bytes (cells_after before ws) a n) ≡ is_some (cond (all_readable before a n) (Some given) None)
readable_same before ws a n given =
    is_some_cond (all_readable (cells_after before ws) a n) (bytes_from (cells_after before ws) a n)
    ∙ all_readable_after before ws a n ∙ sym (is_some_cond (all_readable before a n) given)
