-- The memory after a list of writes, by the newest write to an address.
use Rattle.std.specs.Prelude.{◌≡◌, ℕ, Bool, true, false, cond, nat_eq, List, [], ◌∷◌, find, Option, Some, None, option_map, refl}
use Rattle.std.proofs.Common.{◌∙◌, ap}
use Rattle.elf_image.specs.declared.write.Write.{Write}
use Rattle.elf_image.specs.declared.cell.Cell.{Cell}
use Rattle.elf_image.specs.Memory.{Cells, cells_after, with_byte}
use Rattle.guest_mem.proofs.Rows.{hidden}
use Rattle.rv_model.specs.Newest.{newest_to}

abbrev by_newest : Cells → ℕ → Option ℕ → Option Cell
by_newest before a None = before a
by_newest before a (Some b) = option_map (with_byte b) (before a)

newest_by : (before : Cells) (a : ℕ) (w : Write) (ws : List Write) (test : Bool) → option_map (with_byte w.byte) (cells_after before ws a) ≡ option_map (with_byte w.byte) (before a)
    → cells_after before ws a ≡ by_newest before a (newest_to ws a)
    → cond test (option_map (with_byte w.byte) (cells_after before ws a)) (cells_after before ws a)
    ≡ by_newest before a (option_map (λ (x : Write). x.byte) (cond test (Some w) (find (λ (x : Write). nat_eq x.address a) ws)))
newest_by before a w ws true same later = same
newest_by before a w ws false same later = later

cells_after-newest : (before : Cells) (writes : List Write) (a : ℕ) → cells_after before writes a ≡ by_newest before a (newest_to writes a)
cells_after-newest before [] a = refl
cells_after-newest before (w ∷ ws) a = newest_by before a w ws (nat_eq w.address a) (hidden before ws a w.byte) (cells_after-newest before ws a)

pub never_written : (before : Cells) (writes : List Write) (a : ℕ) → newest_to writes a ≡ None → cells_after before writes a ≡ before a
never_written before writes a e = cells_after-newest before writes a ∙ ap (by_newest before a) e

pub last_written : (before : Cells) (writes : List Write) (a b : ℕ) → newest_to writes a ≡ Some b → cells_after before writes a ≡ option_map (with_byte b) (before a)
last_written before writes a b e = cells_after-newest before writes a ∙ ap (by_newest before a) e

none_stays : (before : Cells) (o : Option ℕ) (a : ℕ) → before a ≡ None → by_newest before a o ≡ None
none_stays before None a e = e
none_stays before (Some b) a e = ap (option_map (with_byte b)) e

-- outside all regions nothing is ever there
pub nothing_there : (before : Cells) (writes : List Write) (a : ℕ) → before a ≡ None → cells_after before writes a ≡ None
nothing_there before writes a e = cells_after-newest before writes a ∙ none_stays before (newest_to writes a) a e
