-- The blocks of a memory before the first step hold the image's opening, and share no address.
use Rattle.std.proofs.Common.{◌≡◌, ℕ, zero, suc, ◌+◌, ◌-◌, ◌*◌, ◌%◌, ◌<◌, ◌≤◌, Bool, true, false, cond, ◌&&◌, leb, ltb, List, [], ◌∷◌, ◌++◌, length, map, slice_index, replicate, refl, sym, ap, subst, ◌∙◌, inl, inr, arith, Some, None}
use Rattle.std.proofs.lemmas.Bool.{cond-true, cond-false, cases_Bool, cases_lt}
use Rattle.std.proofs.lemmas.Bool.Decides.{nat_tests}
use Rattle.std.proofs.lemmas.List.{length-replicate, get_or-replicate, get_or_past}
use Rattle.std.proofs.lemmas.List.Elements.{All-nil, All-cons, All-head, All-tail, All-append, All-map}
use Rattle.std.proofs.lemmas.List.Kept.{AllPairs-cons}
use Rattle.std.specs.List.{All, AllPairs}
use Rattle.elf_image.specs.declared.cell.Cell.{Cell}
use Rattle.elf_image.specs.declared.region.Region.{Region}
use Rattle.elf_image.specs.Layout as layout
use Rattle.elf_image.specs.Layout.{Layout, IsPlaced, IsSound, region_at}
use Rattle.elf_image.specs.Memory.{Stands, in_stack, stack_cell, opening_cells}
use Rattle.elf_image.specs.Memory as memory
use Rattle.guest_mem.specs.Blocks.{Block, covers, cell_in, cells_of, AreApart}
use Rattle.guest_mem.specs.Opening.{block_of, zero_block, stack_block, stacks_from}

-- a byte of a stack
abbrev zeros : Cell
zeros = record { byte = 0; readable = true; writable = true }

covers-zero_block : (start size at : ℕ) → covers (zero_block start size) at ≡ (leb start at && ltb at (start + size))
unfolding zero_block
covers-zero_block start size at = ap (λ (n : ℕ). leb start at && ltb at (start + n)) (length-replicate size 0)

zero_in : (size i : ℕ) → slice_index (replicate size 0) i ≡ 0
zero_in size i =
    let none : ℕ = 0 in
    let n : length (replicate size none) ≡ size = length-replicate size none in
    elim (cases_lt i size) [ inl within ↦ get_or-replicate size i none none within | inr past ↦ get_or_past (replicate size none) i none (omega (arith, n, past)) ]

cell_in-zero_block : (start size at : ℕ) → cell_in (zero_block start size) at ≡ zeros
unfolding zero_block
cell_in-zero_block start size at = ap (λ (b : ℕ). record zeros { byte = b }) (zero_in size (at - start))

-- an address in one of so many stacks, from one on
record IsInStacks (thread count at : ℕ) : Type 0 where
  pub from : 0x70000000 + thread * 0x10000 ≤ at
  pub to : at < 0x70000000 + (thread + count) * 0x10000
  pub low : (at - 0x70000000) % 0x10000 < 16384

in_first : (thread count at : ℕ) → covers (stack_block thread) at ≡ true → IsInStacks thread (suc count) at
in_first thread count at covered =
    let test = sym (covers-zero_block (0x70000000 + thread * 0x10000) 16384 at) ∙ covered in
    let from : 0x70000000 + thread * 0x10000 ≤ at = grind (arith, nat_tests, test) in
    let to : at < 0x70000000 + thread * 0x10000 + 16384 = grind (arith, nat_tests, test) in
    record { from = from; to = omega arith; low = omega arith }

in_later : (thread count at : ℕ) → covers (stack_block thread) at ≡ false → IsInStacks thread (suc count) at → IsInStacks (thread + 1) count at
in_later thread count at other inside =
    let test = sym (covers-zero_block (0x70000000 + thread * 0x10000) 16384 at) ∙ other in
    let past : 0x70000000 + thread * 0x10000 + 16384 ≤ at = grind (arith, nat_tests, test, inside.from) in
    record { from = omega (arith, inside.low, past); to = omega (arith, inside.to); low = inside.low }

later_in : (thread count at : ℕ) → IsInStacks (thread + 1) count at → IsInStacks thread (suc count) at
later_in thread count at inside = record { from = omega (arith, inside.from); to = omega (arith, inside.to); low = inside.low }

in_stacks : (thread count at : ℕ) → IsInStacks thread count at → cells_of (stacks_from thread count) at ≡ Some zeros
unfolding cells_of
in_stacks thread zero at inside = absurd (omega (arith, inside.from, inside.to))
in_stacks thread (suc count) at inside =
    elim (cases_Bool (covers (stack_block thread) at)) [
      | inl covered ↦ cond-true (covers (stack_block thread) at) (Some (cell_in (stack_block thread) at)) (cells_of (stacks_from (thread + 1) count) at) covered
          ∙ ap (λ (c : Cell). Some c) (cell_in-zero_block (0x70000000 + thread * 0x10000) 16384 at)
      | inr other ↦ cond-false (covers (stack_block thread) at) (Some (cell_in (stack_block thread) at)) (cells_of (stacks_from (thread + 1) count) at) other
          ∙ in_stacks (thread + 1) count at (in_later thread count at other inside)
    ]

out_of_stacks : (thread count at : ℕ) → (IsInStacks thread count at → ⊥) → cells_of (stacks_from thread count) at ≡ None
unfolding cells_of
out_of_stacks thread zero at outside = refl
out_of_stacks thread (suc count) at outside =
    elim (cases_Bool (covers (stack_block thread) at)) [
      | inl covered ↦ absurd (outside (in_first thread count at covered))
      | inr other ↦ cond-false (covers (stack_block thread) at) (Some (cell_in (stack_block thread) at)) (cells_of (stacks_from (thread + 1) count) at) other
          ∙ out_of_stacks (thread + 1) count at (λ inside. outside (later_in thread count at inside))
    ]

-- the eight stacks hold what the memory has outside the regions
cells_of-stacks : (at : ℕ) → cells_of (stacks_from 0 8) at ≡ stack_cell at
cells_of-stacks at =
    elim (cases_Bool (in_stack at)) [
      | inl inside ↦ in_stacks 0 8 at (record { from = grind (arith, nat_tests, inside); to = grind (arith, nat_tests, inside); low = grind (arith, nat_tests, inside) })
          ∙ sym (cond-true (in_stack at) (Some zeros) None inside)
      | inr outside ↦ out_of_stacks 0 8 at (λ inside. grind (arith, nat_tests, outside, inside.from, inside.to, inside.low))
          ∙ sym (cond-false (in_stack at) (Some zeros) None outside)
    ]

cells_of-regions : (regions : List Region) (stacks : List Block) (at : ℕ) → cells_of stacks at ≡ stack_cell at → cells_of (map block_of regions ++ stacks) at ≡ memory.cell_in (region_at regions at) at
unfolding cells_of
cells_of-regions [] stacks at same = same
cells_of-regions (region ∷ regions) stacks at same = pick (layout.covers region at) (cells_of-regions regions stacks at same)
  where
    pick : (b : Bool) → cells_of (map block_of regions ++ stacks) at ≡ memory.cell_in (region_at regions at) at
        → cond b (Some (cell_in (block_of region) at)) (cells_of (map block_of regions ++ stacks) at) ≡ memory.cell_in (cond b (Some region) (region_at regions at)) at
    pick true rest = refl
    pick false rest = rest

-- the memory of the blocks is the image's, with no write yet
pub Stands-opening : (image : Layout) (blocks : List Block) → blocks ≡ map block_of image.regions ++ stacks_from 0 8 → Stands (opening_cells image) [] (cells_of blocks)
Stands-opening image blocks same at = ap (λ (bs : List Block). cells_of bs at) same ∙ cells_of-regions image.regions (stacks_from 0 8) at (cells_of-stacks at)

-- stacks share no address
apart_stacks : (first second : ℕ) → first < second → AreApart (stack_block first) (stack_block second)
apart_stacks first second before = λ at in_first in_second.
    let a = sym (covers-zero_block (0x70000000 + first * 0x10000) 16384 at) ∙ in_first in
    let b = sym (covers-zero_block (0x70000000 + second * 0x10000) 16384 at) ∙ in_second in
    let to : at < 0x70000000 + first * 0x10000 + 16384 = grind (arith, nat_tests, a) in
    let from : 0x70000000 + second * 0x10000 ≤ at = grind (arith, nat_tests, b) in
    omega arith

apart_later : (first thread count : ℕ) → first < thread → All (AreApart (stack_block first)) (stacks_from thread count)
apart_later first thread zero before = All-nil (AreApart (stack_block first))
apart_later first thread (suc count) before =
    All-cons (AreApart (stack_block first)) (stack_block thread) (stacks_from (thread + 1) count) (apart_stacks first thread before) (apart_later first (thread + 1) count (omega arith))

AllPairs-stacks : (thread count : ℕ) → AllPairs AreApart (stacks_from thread count)
AllPairs-stacks thread zero = λ i j d before within. absurd (omega arith)
AllPairs-stacks thread (suc count) =
    AllPairs-cons AreApart (stack_block thread) (stacks_from (thread + 1) count) (apart_later thread (thread + 1) count (omega arith)) (AllPairs-stacks (thread + 1) count)

-- a region stands below each stack
below_stack : (region : Region) (thread : ℕ) → IsPlaced region → AreApart (block_of region) (stack_block thread)
below_stack region thread placed = λ at in_region in_stack.
    let b = sym (covers-zero_block (0x70000000 + thread * 0x10000) 16384 at) ∙ in_stack in
    let from : 0x70000000 + thread * 0x10000 ≤ at = grind (arith, nat_tests, b) in
    let to : at < region.start + length region.bytes = grind (arith, nat_tests, in_region) in
    omega (arith, placed.below)

below_stacks : (region : Region) (thread count : ℕ) → IsPlaced region → All (AreApart (block_of region)) (stacks_from thread count)
below_stacks region thread zero placed = All-nil (AreApart (block_of region))
below_stacks region thread (suc count) placed =
    All-cons (AreApart (block_of region)) (stack_block thread) (stacks_from (thread + 1) count) (below_stack region thread placed) (below_stacks region (thread + 1) count placed)

AllPairs-regions : (regions : List Region) → All IsPlaced regions → AllPairs layout.AreApart regions → AllPairs AreApart (map block_of regions ++ stacks_from 0 8)
AllPairs-regions [] placed apart = AllPairs-stacks 0 8
AllPairs-regions (region ∷ regions) placed apart =
    AllPairs-cons AreApart (block_of region) (map block_of regions ++ stacks_from 0 8)
    (All-append (AreApart (block_of region)) (map block_of regions) (stacks_from 0 8)
    (All-map (AreApart (block_of region)) block_of regions (λ k d within. apart 0 (suc k) d (omega arith) (omega arith)))
    (below_stacks region 0 8 (All-head IsPlaced region regions placed)))
    (AllPairs-regions regions (All-tail IsPlaced region regions placed) (λ i j d before within. apart (suc i) (suc j) d (omega arith) (omega arith)))

pub AllPairs-opening : (image : Layout) (blocks : List Block) → IsSound image → blocks ≡ map block_of image.regions ++ stacks_from 0 8 → AllPairs AreApart blocks
AllPairs-opening image blocks sound same =
    let P : List Block → Type 0 = λ bs. AllPairs AreApart bs in
    subst P (sym same) (AllPairs-regions image.regions sound.placed sound.apart)
