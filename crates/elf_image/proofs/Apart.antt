-- The word at an address of regions that stand apart: a region that has the word's first byte and its last has all four.
use Rattle.std.proofs.Common.{◌≡◌, ℕ, suc, ◌+◌, ◌%◌, ◌≤◌, Bool, true, false, cond, List, [], ◌∷◌, refl, arith, Option, Some}
use Rattle.std.proofs.lemmas.Bool.Decides.{nat_tests}
use Rattle.std.specs.List.{All, AllPairs}
use Rattle.elf_image.specs.declared.region.Region.{Region}
use Rattle.elf_image.specs.Layout.{covers, region_at, code_byte, little_endian, fetch_of, AreApart}
use Rattle.elf_image.specs.ImageLaws.{IsRegionAt, region_at-Some}

-- a region of one address is that of each address that it has
pub region_at-same : (regions : List Region) (address other : ℕ) (region : Region) → AllPairs AreApart regions → region_at regions address ≡ Some region → covers region other ≡ true
    → region_at regions other ≡ Some region
region_at-same [] address other region apart e inside = cc
region_at-same (first ∷ regions) address other region apart e inside = pick (covers first address) (λ found. region_at-same regions address other region later found inside) e
  where
    later : AllPairs AreApart regions
    later = λ i j d before within. apart (suc i) (suc j) d (omega arith) (omega arith)

    from_first : All (AreApart first) regions
    from_first = λ k d within. apart 0 (suc k) d (omega arith) (omega arith)

    same_first : first ≡ region → region_at (first ∷ regions) other ≡ Some region
    same_first same = rw (same, inside)

    none_first : (b : Bool) → covers first other ≡ b → IsRegionAt (AreApart first) address region → region_at regions other ≡ Some region → cond b (Some first) (region_at regions other) ≡ Some region
    none_first true here at rest = absurd (at.is_one other here inside)
    none_first false here at rest = rest

    pick : (b : Bool) → (region_at regions address ≡ Some region → region_at regions other ≡ Some region) → cond b (Some first) (region_at regions address) ≡ Some region → region_at (first ∷ regions) other ≡ Some region
    pick true rest found = let same : first ≡ region = cc in same_first same
    pick false rest found = none_first (covers first other) refl (region_at-Some (AreApart first) regions address region from_first found) (rest found)

has_between : (region : Region) (address last other : ℕ) → covers region address ≡ true → covers region last ≡ true → address ≤ other → other ≤ last → covers region other ≡ true
has_between region address last other first end from to = grind (arith, nat_tests)

-- the word of a region that has its first byte and its last
abbrev word_of : Region → ℕ → Option ℕ
word_of region pc = little_endian (code_byte (Some region) pc) (code_byte (Some region) (pc + 1)) (code_byte (Some region) (pc + 2)) (code_byte (Some region) (pc + 3))

pub fetch_whole : (regions : List Region) (pc : ℕ) (region : Region) → AllPairs AreApart regions → region_at regions pc ≡ Some region → covers region pc ≡ true → covers region (pc + 3) ≡ true → pc % 4 ≡ 0
    → fetch_of (record { regions = regions; entry = pc }) pc ≡ word_of region pc
fetch_whole regions pc region apart found first end aligned =
    let at : (other : ℕ) → pc ≤ other → other ≤ pc + 3 → region_at regions other ≡ Some region = λ other from to. region_at-same regions pc other region apart found (has_between region pc (pc + 3) other first end from to) in
    rw (aligned, found, at (pc + 1) (omega arith) (omega arith), at (pc + 2) (omega arith) (omega arith), at (pc + 3) (omega arith) (omega arith))
