-- The memory that blocks hold where no two share an address.
use Rattle.std.proofs.Common.{◌≡◌, ℕ, zero, suc, ◌+◌, ◌-◌, ◌^◌, ◌<◌, ◌≤◌, Bool, true, false, cond, ◌&&◌, leb, ltb, List, [], ◌∷◌, length, get_or, set, drop, refl, sym, ap, subst, ◌∙◌, ◌⊎◌, inl, inr, arith, Option, Some}
use Rattle.std.proofs.lemmas.Bool.{cond-true, cond-false, cases_Bool, cases_eq}
use Rattle.std.proofs.lemmas.Bool.Decides.{nat_tests}
use Rattle.std.proofs.lemmas.List.{length-append, length-take, length-drop, length-set, get_or-drop, get_or-set_same, get_or-set_other, get_or_read, get_or_default, places}
use Rattle.std.specs.List.{AllPairs}
use Rattle.elf_image.specs.declared.cell.Cell.{Cell}
use Rattle.std.specs.Option.{option_map}
use Rattle.elf_image.specs.Memory.{Cells, Stands, with_byte, is_readable, is_writable, byte_in, writes_of}
use Rattle.guest_mem.specs.Blocks.{Block, covers, cell_in, cells_of, AreApart, written}
use Rattle.guest_mem.specs.Runs.{IsIn, AreReadable, AreWritable}
use Rattle.guest_mem.proofs.Rows.{all_readable-row, all_writable-row, bytes_from-row, Stands-row}

-- blocks after the first are apart too
apart_rest : (block : Block) (blocks : List Block) → AllPairs AreApart (block ∷ blocks) → AllPairs AreApart blocks
apart_rest block blocks apart = λ i j d before within. apart (suc i) (suc j) d (omega arith) (omega arith)

-- an address that a block has is in no block before it
pub cells_of-covered : (blocks : List Block) (place : ℕ) (default : Block) (at : ℕ) → AllPairs AreApart blocks → place < length blocks → covers (get_or blocks place default) at ≡ true
    → cells_of blocks at ≡ Some (cell_in (get_or blocks place default) at)
unfolding cells_of
cells_of-covered [] place default at apart within covered = absurd (omega arith)
cells_of-covered (block ∷ blocks) zero default at apart within covered = cond-true (covers block at) (Some (cell_in block at)) (cells_of blocks at) covered
cells_of-covered (block ∷ blocks) (suc place) default at apart within covered =
    elim (cases_Bool (covers block at)) [
      | inl first ↦ absurd (apart 0 (suc place) default (omega arith) within at first covered)
      | inr later ↦ cond-false (covers block at) (Some (cell_in block at)) (cells_of blocks at) later
          ∙ cells_of-covered blocks place default at (apart_rest block blocks apart) (omega arith) covered
    ]

-- a change of one block changes nothing at the addresses of others
pub cells_of-set_other : (blocks : List Block) (place : ℕ) (new default : Block) (at : ℕ) → covers new at ≡ false → covers (get_or blocks place default) at ≡ false
    → cells_of (set blocks place new) at ≡ cells_of blocks at
unfolding cells_of
cells_of-set_other [] place new default at other_new other_old = refl
cells_of-set_other (block ∷ blocks) zero new default at other_new other_old =
    cond-false (covers new at) (Some (cell_in new at)) (cells_of blocks at) other_new ∙ sym (cond-false (covers block at) (Some (cell_in block at)) (cells_of blocks at) other_old)
cells_of-set_other (block ∷ blocks) (suc place) new default at other_new other_old =
    ap (λ (rest : Option Cell). cond (covers block at) (Some (cell_in block at)) rest) (cells_of-set_other blocks place new default at other_new other_old)

-- where an address stands in a block
placed : (block : Block) (at : ℕ) → covers block at ≡ true → (block.start ≤ at) × (at < block.start + length block.bytes)
placed block at covered = grind (arith, nat_tests)

covers_from : (block : Block) (at : ℕ) → block.start ≤ at → at < block.start + length block.bytes → covers block at ≡ true
covers_from block at from to = grind (arith, nat_tests)

-- the cells of a block
record IsHeld (cells : Cells) (block : Block) : Type 0 where
  pub at : (address : ℕ) → covers block address ≡ true → cells address ≡ Some (cell_in block address)

held_in : (blocks : List Block) (place : ℕ) (block : Block) → AllPairs AreApart blocks → place < length blocks → block ≡ get_or blocks place block → IsHeld (cells_of blocks) block
held_in blocks place block apart within is =
    let P : Block → Type 0 = λ b. IsHeld (cells_of blocks) b in
    subst P (sym is) (record { at = λ address covered. cells_of-covered blocks place block address apart within covered })

readable_run : (cells : Cells) (block : Block) (address : ℕ) → IsHeld cells block → covers block address ≡ true → block.start + length block.bytes < 2 ^ 32
    → (readable : Bool) → block.readable ≡ readable → AreReadable cells address (cond readable (drop (address - block.start) block.bytes) [])
readable_run cells block address held covered below false right =
    let inside = placed block address covered in
    record { all = refl; same = refl; below = omega arith; none = λ _. ap is_readable (held.at address covered) ∙ right }
readable_run cells block address held covered below true right =
    let inside = placed block address covered in
    let rest : List ℕ = drop (address - block.start) block.bytes in
    let size : length rest ≡ length block.bytes - (address - block.start) = length-drop (address - block.start) block.bytes in
    record {
      all = all_readable-row cells address (length rest) (omega (arith, size)) (λ at from to. ap is_readable (held.at at (covers_from block at (omega (arith, from)) (omega (arith, size, from, to)))) ∙ right);
      same = bytes_from-row cells address rest (omega (arith, size)) (λ k at within is.
          ap byte_in (held.at at (covers_from block at (omega (arith, is)) (omega (arith, size, is, within))))
          ∙ ap (λ (i : ℕ). get_or block.bytes i 0) (let e : at - block.start ≡ (address - block.start) + k = omega (arith, is) in e)
          ∙ sym (get_or-drop (address - block.start) block.bytes k 0));
      below = omega (arith, size);
      none = λ empty. absurd (omega (arith, size, empty));
    }

-- the block at the place of an address has it
covered_in : (blocks : List Block) (place address : ℕ) (block : Block) → IsIn blocks place address → block ≡ get_or blocks place block → covers block address ≡ true
covered_in blocks place address block found is = ap (λ (b : Block). covers b address) is ∙ found.covered block

-- the bytes of a block that may be read, from an address on
pub AreReadable-in : (blocks : List Block) (place address : ℕ) (block : Block) (bytes : List ℕ) → AllPairs AreApart blocks → IsIn blocks place address → block ≡ get_or blocks place block
    → block.start + length block.bytes < 2 ^ 32 → bytes ≡ cond block.readable (drop (address - block.start) block.bytes) [] → AreReadable (cells_of blocks) address bytes
AreReadable-in blocks place address block bytes apart found is below e =
    let P : List ℕ → Type 0 = λ bs. AreReadable (cells_of blocks) address bs in
    subst P (sym e) (readable_run (cells_of blocks) block address (held_in blocks place block apart found.within is) (covered_in blocks place address block found is) below block.readable refl)

writable_run : (cells : Cells) (block : Block) (address : ℕ) → IsHeld cells block → covers block address ≡ true → block.start + length block.bytes < 2 ^ 32
    → (writable : Bool) → block.writable ≡ writable → AreWritable cells address (cond writable (block.start + length block.bytes - address) 0)
writable_run cells block address held covered below false right =
    let inside = placed block address covered in
    record { all = refl; below = omega arith; none = λ _. ap is_writable (held.at address covered) ∙ right }
writable_run cells block address held covered below true right =
    let inside = placed block address covered in
    record {
      all = all_writable-row cells address (block.start + length block.bytes - address) (omega arith) (λ at from to. ap is_writable (held.at at (covers_from block at (omega (arith, from)) (omega (arith, from, to)))) ∙ right);
      below = omega arith;
      none = λ empty. absurd (omega (arith, empty));
    }

-- how many bytes of a block may be written, from an address on
pub AreWritable-in : (blocks : List Block) (place address : ℕ) (block : Block) (count : ℕ) → AllPairs AreApart blocks → IsIn blocks place address → block ≡ get_or blocks place block
    → block.start + length block.bytes < 2 ^ 32 → count ≡ cond block.writable (block.start + length block.bytes - address) 0 → AreWritable (cells_of blocks) address count
AreWritable-in blocks place address block count apart found is below e =
    let P : ℕ → Type 0 = λ n. AreWritable (cells_of blocks) address n in
    subst P (sym e) (writable_run (cells_of blocks) block address (held_in blocks place block apart found.within is) (covered_in blocks place address block found is) below block.writable refl)

-- bytes written into a block
length-written : (block : Block) (address : ℕ) (bytes : List ℕ) → block.start ≤ address → address + length bytes ≤ block.start + length block.bytes → length (written block address bytes).bytes ≡ length block.bytes
length-written block address bytes from to = simp (length-append, length-take, length-drop) (omega arith)

-- the addresses of a block stay its own
covers-written : (block : Block) (address : ℕ) (bytes : List ℕ) (at : ℕ) → block.start ≤ address → address + length bytes ≤ block.start + length block.bytes → covers (written block address bytes) at ≡ covers block at
covers-written block address bytes at from to = ap (λ (size : ℕ). leb block.start at && ltb at (block.start + size)) (length-written block address bytes from to)

pub AllPairs-set : (blocks : List Block) (place : ℕ) (old new : Block) → place < length blocks → old ≡ get_or blocks place old → ((at : ℕ) → covers new at ≡ covers old at) → AllPairs AreApart blocks → AllPairs AreApart (set blocks place new)
AllPairs-set blocks place old new within is same apart = λ i j d before later at first second.
    let size : length (set blocks place new) ≡ length blocks = length-set blocks place new in
    apart i j d before (omega (arith, size)) at (shape i d at ∙ first) (shape j d at ∙ second)
  where
    at_place : (i : ℕ) (d : Block) (at : ℕ) → i ≡ place → covers (get_or blocks i d) at ≡ covers (get_or (set blocks place new) i d) at
    at_place i d at here =
        let was : get_or blocks i d ≡ old = ap (λ (k : ℕ). get_or blocks k d) here ∙ sym (get_or_read blocks place old within is d) in
        let now : get_or (set blocks place new) i d ≡ new = ap (λ (k : ℕ). get_or (set blocks place new) k d) here ∙ get_or-set_same blocks place new d within in
        ap (λ (b : Block). covers b at) was ∙ sym (same at) ∙ sym (ap (λ (b : Block). covers b at) now)

    shape : (i : ℕ) (d : Block) (at : ℕ) → covers (get_or blocks i d) at ≡ covers (get_or (set blocks place new) i d) at
    shape i d at = elim (cases_eq i place) [ inl here ↦ at_place i d at here | inr other ↦ sym (ap (λ (b : Block). covers b at) (get_or-set_other blocks place i new d other)) ]

-- the byte of a block that was written, and the others
byte-written : (block : Block) (address : ℕ) (bytes : List ℕ) (k at : ℕ) → block.start ≤ address → address + length bytes ≤ block.start + length block.bytes → k < length bytes → at ≡ address + k
    → get_or (written block address bytes).bytes (at - block.start) 0 ≡ get_or bytes k 0
byte-written block address bytes k at from to within is = grind (arith, places)

byte-kept : (block : Block) (address : ℕ) (bytes : List ℕ) (at : ℕ) → block.start ≤ address → address + length bytes ≤ block.start + length block.bytes → block.start ≤ at → (at < address) ⊎ (address + length bytes ≤ at)
    → get_or (written block address bytes).bytes (at - block.start) 0 ≡ get_or block.bytes (at - block.start) 0
byte-kept block address bytes at from to above out = grind (arith, places)

-- the cell of a block that was written, at an address of a byte that was, and at another
here : (block : Block) (address : ℕ) (bytes : List ℕ) (k at : ℕ) → block.start ≤ address → address + length bytes ≤ block.start + length block.bytes → k < length bytes → at ≡ address + k
    → Some (cell_in (written block address bytes) at) ≡ option_map (with_byte (get_or bytes k 0)) (Some (cell_in block at))
here block address bytes k at from to within is =
    ap (λ (b : ℕ). Some (with_byte b (cell_in block at))) (byte-written block address bytes k at from to within is)

there : (block : Block) (address : ℕ) (bytes : List ℕ) (at : ℕ) → block.start ≤ address → address + length bytes ≤ block.start + length block.bytes → covers block at ≡ true → (at < address) ⊎ (address + length bytes ≤ at)
    → Some (cell_in (written block address bytes) at) ≡ Some (cell_in block at)
there block address bytes at from to covered out =
    ap (λ (b : ℕ). Some (with_byte b (cell_in block at))) (byte-kept block address bytes at from to (placed block at covered).0 out)

-- the memory after a block was written is the memory after the writes
Stands-written : (blocks : List Block) (place : ℕ) (block : Block) (address : ℕ) (bytes : List ℕ) → AllPairs AreApart blocks → place < length blocks → block ≡ get_or blocks place block
    → block.start ≤ address → address + length bytes ≤ block.start + length block.bytes → block.start + length block.bytes < 2 ^ 32
    → Stands (cells_of blocks) (writes_of address bytes []) (cells_of (set blocks place (written block address bytes)))
Stands-written blocks place block address bytes apart within is from to below =
    Stands-row (cells_of blocks) (cells_of (set blocks place new)) address bytes (omega arith)
    (λ k at in_row same. after at (covered_at k at in_row same) ∙ here block address bytes k at from to in_row same ∙ ap (λ (c : Option Cell). option_map (with_byte (get_or bytes k 0)) c) (sym (before at (covered_at k at in_row same))))
    (λ at out. elim (cases_Bool (covers block at)) [
      | inl covered ↦ after at covered ∙ there block address bytes at from to covered out ∙ sym (before at covered)
      | inr other ↦ cells_of-set_other blocks place new block at (covers-written block address bytes at from to ∙ other) (ap (λ (b : Block). covers b at) (sym is) ∙ other)
    ])
  where
    new : Block
    new = written block address bytes

    covered_at : (k at : ℕ) → k < length bytes → at ≡ address + k → covers block at ≡ true
    covered_at k at in_row same = covers_from block at (omega arith) (omega arith)

    before : (at : ℕ) → covers block at ≡ true → cells_of blocks at ≡ Some (cell_in block at)
    before at covered = (held_in blocks place block apart within is).at at covered

    apart_after : AllPairs AreApart (set blocks place new)
    apart_after = AllPairs-set blocks place block new within is (λ a. covers-written block address bytes a from to) apart

    after : (at : ℕ) → covers block at ≡ true → cells_of (set blocks place new) at ≡ Some (cell_in new at)
    after at covered =
        let size : length (set blocks place new) ≡ length blocks = length-set blocks place new in
        let same : new ≡ get_or (set blocks place new) place new = sym (get_or-set_same blocks place new new within) in
        (held_in (set blocks place new) place new apart_after (omega (arith, size, within)) same).at at (covers-written block address bytes at from to ∙ covered)

-- the block at the place of an address, whatever stands past the end of the list
whole : (blocks : List Block) (place address : ℕ) (default : Block) → IsIn blocks place address → get_or blocks place default ≡ get_or blocks place (get_or blocks place default)
whole blocks place address default found = get_or_default blocks place default (get_or blocks place default) found.within

pub AreWritable-at : (blocks : List Block) (place address : ℕ) (default : Block) (count : ℕ) → AllPairs AreApart blocks → IsIn blocks place address
    → (get_or blocks place default).start + length (get_or blocks place default).bytes < 2 ^ 32
    → count ≡ cond (get_or blocks place default).writable ((get_or blocks place default).start + length (get_or blocks place default).bytes - address) 0
    → AreWritable (cells_of blocks) address count
AreWritable-at blocks place address default count apart found below e =
    AreWritable-in blocks place address (get_or blocks place default) count apart found (whole blocks place address default found) below e

-- where an address stands in its block
inside : (blocks : List Block) (place address : ℕ) (default : Block) → IsIn blocks place address
    → ((get_or blocks place default).start ≤ address) × (address < (get_or blocks place default).start + length (get_or blocks place default).bytes)
inside blocks place address default found = placed (get_or blocks place default) address (found.covered default)

-- bytes that fit where so many may be written end in the block
pub fits_in : (blocks : List Block) (place address : ℕ) (default : Block) (run count : ℕ) → IsIn blocks place address
    → run ≡ cond (get_or blocks place default).writable ((get_or blocks place default).start + length (get_or blocks place default).bytes - address) 0
    → count ≤ run → address + count ≤ (get_or blocks place default).start + length (get_or blocks place default).bytes
fits_in blocks place address default run count found same within = pick (get_or blocks place default).writable same
  where
    pick : (writable : Bool) → run ≡ cond writable ((get_or blocks place default).start + length (get_or blocks place default).bytes - address) 0
        → address + count ≤ (get_or blocks place default).start + length (get_or blocks place default).bytes
    pick true e = omega (arith, inside blocks place address default found)
    pick false e = omega (arith, inside blocks place address default found)

pub one_fits : (blocks : List Block) (place address : ℕ) (default : Block) → IsIn blocks place address → address + 1 ≤ (get_or blocks place default).start + length (get_or blocks place default).bytes
one_fits blocks place address default found = omega (arith, inside blocks place address default found)

-- what a write into the block of an address leaves
pub AllPairs-in : (blocks : List Block) (place address : ℕ) (default new : Block) (bytes : List ℕ) → AllPairs AreApart blocks → IsIn blocks place address
    → address + length bytes ≤ (get_or blocks place default).start + length (get_or blocks place default).bytes → new ≡ written (get_or blocks place default) address bytes
    → AllPairs AreApart (set blocks place new)
AllPairs-in blocks place address default new bytes apart found to e =
    AllPairs-set blocks place (get_or blocks place default) new found.within (whole blocks place address default found)
    (λ at. ap (λ (b : Block). covers b at) e ∙ covers-written (get_or blocks place default) address bytes at (inside blocks place address default found).0 to) apart

pub Stands-in : (blocks : List Block) (place address : ℕ) (default new : Block) (bytes : List ℕ) → AllPairs AreApart blocks → IsIn blocks place address
    → address + length bytes ≤ (get_or blocks place default).start + length (get_or blocks place default).bytes → (get_or blocks place default).start + length (get_or blocks place default).bytes < 2 ^ 32
    → new ≡ written (get_or blocks place default) address bytes → Stands (cells_of blocks) (writes_of address bytes []) (cells_of (set blocks place new))
Stands-in blocks place address default new bytes apart found to below e =
    let P : Block → Type 0 = λ b. Stands (cells_of blocks) (writes_of address bytes []) (cells_of (set blocks place b)) in
    subst P (sym e) (Stands-written blocks place (get_or blocks place default) address bytes apart found.within (whole blocks place address default found) (inside blocks place address default found).0 to below)

pub ruleset accesses = (cells_of-covered)
