-- Laws of images and of the memory in the beginning.
use Rattle.std.proofs.Common.{◌≡◌, ℕ, ◌+◌, ◌-◌, ◌^◌, ◌<◌, Bool, true, false, cond, ◌&&◌, leb, ltb, List, [], ◌∷◌, length, refl, subst, slice_index, arith, lit<, Option, Some, None}
use Rattle.std.proofs.lemmas.Bool.{and_parts, both_ways, leb-true, ltb-true}
use Rattle.std.proofs.lemmas.Bool.Decides.{nat_tests}
use Rattle.std.specs.List.{All}
use Rattle.std.proofs.lemmas.List.Elements.{All-head, All-tail}
use Rattle.elf_image.specs.declared.region.Region.{Region}
use Rattle.elf_image.specs.declared.cell.Cell.{Cell}
use Rattle.elf_image.specs.Layout.{Layout, covers, region_at, code_byte, code_of, IsPlaced, IsSound}
use Rattle.elf_image.specs.Memory.{in_stack, cell_in, opening_cells, is_writable}

abbrev zeros : Cell
zeros = record { byte = 0; readable = true; writable = true }

abbrev cell_of : Region → ℕ → Cell
cell_of region address = record { byte = slice_index region.bytes (address - region.start); readable = region.perm.r; writable = region.perm.w }

-- the region of an address is one of the regions, and has the address
pub record IsRegionAt (P : Region → Type 0) (address : ℕ) (region : Region) : Type 0 where
  pub is_one : P region
  pub covered : covers region address ≡ true

pub region_at-Some : (P : Region → Type 0) (regions : List Region) (address : ℕ) (region : Region) → All P regions → region_at regions address ≡ Some region → IsRegionAt P address region
region_at-Some P [] address region all e = cc
region_at-Some P (first ∷ regions) address region all e = pick (covers first address) refl (λ later. region_at-Some P regions address region (All-tail P first regions all) later) e
  where
    here : covers first address ≡ true → first ≡ region → IsRegionAt P address region
    here covered same = let Q : Region → Type 0 = λ r. IsRegionAt P address r in subst Q same (record { is_one = All-head P first regions all; covered = covered })

    pick : (b : Bool) → covers first address ≡ b → (region_at regions address ≡ Some region → IsRegionAt P address region) → cond b (Some first) (region_at regions address) ≡ Some region → IsRegionAt P address region
    pick true covered later found = here covered (let same : first ≡ region = cc in same)
    pick false covered later found = later found

-- what a sound image keeps of the region of an address
placed_at : (image : Layout) (address : ℕ) (region : Region) → IsSound image → region_at image.regions address ≡ Some region → IsRegionAt IsPlaced address region
placed_at image address region sound e = region_at-Some IsPlaced image.regions address region sound.placed e

-- A byte that may be fetched is never written, so the code of an image stays as it is.
pub code_of-fixed : (image : Layout) (address byte : ℕ) → IsSound image → code_of image address ≡ Some byte → is_writable (opening_cells image address) ≡ false
code_of-fixed image address byte sound = pick (region_at image.regions address) refl
  where
    kept : (w x : Bool) → (w && x) ≡ false → x ≡ true → w ≡ false
    kept false x both executable = refl
    kept true x both executable = absurd (both_ways x both executable)

    executes : (b : Bool) (n : ℕ) → cond b (Some n) None ≡ Some byte → b ≡ true
    executes true n e = refl
    executes false n e = cc

    pick : (o : Option Region) → region_at image.regions address ≡ o → code_byte o address ≡ Some byte → is_writable (cell_in o address) ≡ false
    pick None at e = cc
    pick (Some region) at e = kept region.perm.w region.perm.x (placed_at image address region sound at).is_one.fixed_code (executes region.perm.x (slice_index region.bytes (address - region.start)) e)

-- a byte of memory with its place
pub record IsOpening (address : ℕ) (cell : Cell) : Type 0 where
  pub below : address < 0x70080000
  pub fits : cell.byte < 2 ^ 8

in_region : (address : ℕ) (region : Region) → IsRegionAt IsPlaced address region → (address < 0x70080000) × (slice_index region.bytes (address - region.start) < 2 ^ 8)
in_region address region at =
    let inside = and_parts (leb region.start address) (ltb address (region.start + length region.bytes)) at.covered in
    let from = leb-true region.start address inside.0 in
    let to = ltb-true address (region.start + length region.bytes) inside.1 in
    (omega (arith, at.is_one.below), at.is_one.fits (address - region.start) 0 (omega arith))

in_zeros : (address : ℕ) → in_stack address ≡ true → address < 0x70080000
in_zeros address inside = grind (arith, nat_tests)

same_cell : (address : ℕ) (cell known : Cell) → known ≡ cell → address < 0x70080000 → known.byte < 2 ^ 8 → IsOpening address cell
same_cell address cell known same below fits = let P : Cell → Type 0 = λ c. IsOpening address c in subst P same (record { below = below; fits = fits })

-- Every byte of a sound image's memory stands below 0x70080000.
pub opening_cells-Some : (image : Layout) (address : ℕ) (cell : Cell) → IsSound image → opening_cells image address ≡ Some cell → IsOpening address cell
opening_cells-Some image address cell sound = pick (region_at image.regions address) refl
  where
    stacked : (b : Bool) → in_stack address ≡ b → cond b (Some zeros) None ≡ Some cell → IsOpening address cell
    stacked true inside e = same_cell address cell zeros (let same : zeros ≡ cell = cc in same) (in_zeros address inside) (lit< tt)
    stacked false inside e = cc

    pick : (o : Option Region) → region_at image.regions address ≡ o → cell_in o address ≡ Some cell → IsOpening address cell
    pick None at e = stacked (in_stack address) refl e
    pick (Some region) at e =
        let place = in_region address region (placed_at image address region sound at) in
        same_cell address cell (cell_of region address) (let same : cell_of region address ≡ cell = cc in same) place.0 place.1
