-- What the checks keep of the image of a file.
use Rattle.std.proofs.Common.{◌≡◌, ℕ, ◌+◌, ◌-◌, ◌^◌, ◌<◌, ◌≤◌, true, false, not, eqb, List, [], ◌∷◌, length, map, take, drop, replicate, get_or, refl, arith, None, is_some, lit<, ltb, length-append, length-drop}
use Rattle.std.proofs.lemmas.List.{length-take, length-replicate, length-map}
use Rattle.std.proofs.lemmas.Bool.{or_parts, ltb-false, eqb-false, not-false}
use Rattle.std.proofs.lemmas.Bool.Decides.{nat_tests}
use Rattle.std.specs.List.{All, AllPairs, list_any, filter, sum_by}
use Rattle.std.proofs.lemmas.List.Elements.{All-head, All-tail, All-map, All-filter, All-append, All-take, All-drop, All-replicate, filter_passes}
use Rattle.std.proofs.lemmas.List.Sums.{sum_by-cons}
use Rattle.std.proofs.lemmas.List.Kept.{AllPairs-cons}
use Rattle.elf_image.specs.declared.header.ProgramHeader.{ProgramHeader}
use Rattle.elf_image.specs.declared.region.Region.{Region}
use Rattle.elf_image.specs.declared.fault.Check.TheVariants as check
use Rattle.elf_image.specs.Layout.{fetch_of, IsPlaced, AreApart, IsSound}
use Rattle.elf_image.specs.Fields.{headers_of, e_entry}
use Rattle.elf_image.specs.Segments.{is_load, loads_of, segment_bytes, region_of, image_of}
use Rattle.elf_image.specs.Checks.{is_out_of_range, is_writable_code, shares_address, overlap, is_short, has_bad_table, checks, first_check}
use Rattle.elf_image.specs.Table.{HasTable, IsHeld}
use Rattle.elf_image.specs.Laws.{list_any-none, first_of-none}

-- what the checks say of one segment that is loaded
record IsChecked (size : ℕ) (header : ProgramHeader) : Type 0 where
  pub held : IsHeld size header
  pub some : 0 < header.p_memsz
  pub below : header.p_vaddr + header.p_memsz ≤ 0x70000000

checked : (size : ℕ) (header : ProgramHeader) → is_load header ≡ true → is_out_of_range size header ≡ false → IsChecked size header
checked size header load range = grind (arith, nat_tests)

checked_loads : (size : ℕ) (headers : List ProgramHeader) → list_any (is_out_of_range size) headers ≡ false → All (IsChecked size) (filter is_load headers)
checked_loads size headers none = λ k d lt.
    checked size (get_or (filter is_load headers) k d) (filter_passes is_load headers k d lt) (All-filter is_load (λ h. is_out_of_range size h ≡ false) headers (list_any-none (is_out_of_range size) headers none) k d lt)

-- the segments that are loaded have their bytes
pub held_loads : (size : ℕ) (headers : List ProgramHeader) → list_any (is_out_of_range size) headers ≡ false → All (IsHeld size) (filter is_load headers)
held_loads size headers none = λ k d lt. (checked_loads size headers none k d lt).held

-- a segment has as many bytes as it has in memory
length-segment_bytes : (file : List ℕ) (header : ProgramHeader) → IsHeld (length file) header → length (segment_bytes file header) ≡ header.p_memsz
length-segment_bytes file header held = simp (length-append, length-take, length-drop, length-replicate) (omega arith)

segment_fits : (file : List ℕ) (header : ProgramHeader) → All (λ byte. byte < 2 ^ 8) file → All (λ byte. byte < 2 ^ 8) (segment_bytes file header)
segment_fits file header bytes =
    let P : ℕ → Type 0 = λ byte. byte < 2 ^ 8 in
    All-append P (take header.p_filesz (drop header.p_offset file)) (replicate (header.p_memsz - header.p_filesz) 0)
    (All-take P header.p_filesz (drop header.p_offset file) (All-drop P header.p_offset file bytes)) (All-replicate P (header.p_memsz - header.p_filesz) 0 (lit< tt))

placed : (file : List ℕ) (header : ProgramHeader) → All (λ byte. byte < 2 ^ 8) file → IsChecked (length file) header → is_writable_code header ≡ false → IsPlaced (region_of file header)
placed file header bytes ok code =
    let size = length-segment_bytes file header ok.held in
    record { some = omega arith; fits = segment_fits file header bytes; below = omega arith; fixed_code = code }

apart : (file : List ℕ) (a b : ProgramHeader) → IsHeld (length file) a → IsHeld (length file) b → shares_address a b ≡ false → AreApart (region_of file a) (region_of file b)
apart file a b held_a held_b none = λ address in_a in_b.
    let size_a = length-segment_bytes file a held_a in
    let size_b = length-segment_bytes file b held_b in
    grind (arith, nat_tests)

apart_regions : (file : List ℕ) (loads : List ProgramHeader) → All (IsHeld (length file)) loads → overlap loads ≡ false → AllPairs AreApart (map (region_of file) loads)
apart_regions file [] held none = λ i j d before in'. absurd (omega arith)
apart_regions file (load ∷ loads) held none =
    let parts = or_parts (list_any (shares_address load) loads) (overlap loads) none in
    let here = All-head (IsHeld (length file)) load loads held in
    let later = All-tail (IsHeld (length file)) load loads held in
    let from_here = list_any-none (shares_address load) loads parts.0 in
    let first : All (AreApart (region_of file load)) (map (region_of file) loads) =
    All-map (AreApart (region_of file load)) (region_of file) loads (λ k d lt. apart file load (get_or loads k d) here (later k d lt) (from_here k d lt)) in
    AllPairs-cons AreApart (region_of file load) (map (region_of file) loads) first (apart_regions file loads later parts.1)

size_regions : (file : List ℕ) (loads : List ProgramHeader) → All (IsHeld (length file)) loads
    → sum_by (λ (r : Region). length r.bytes) (map (region_of file) loads) ≡ sum_by (λ (h : ProgramHeader). h.p_memsz) loads
size_regions file [] held = refl
size_regions file (load ∷ loads) held =
    let here = length-segment_bytes file load (All-head (IsHeld (length file)) load loads held) in
    let rest = size_regions file loads (All-tail (IsHeld (length file)) load loads held) in
    let left = sum_by-cons (λ (r : Region). length r.bytes) (region_of file load) (map (region_of file) loads) in
    let right = sum_by-cons (λ (h : ProgramHeader). h.p_memsz) load loads in
    omega (arith, here, rest, left, right)

-- the image of a file that fails no check is sound
pub sound_image : (file : List ℕ) → All (λ byte. byte < 2 ^ 8) file → first_check file ≡ None → IsSound (image_of file)
sound_image file bytes passes =
    let holds = first_of-none checks file passes in
    let loads = loads_of file in
    let some : eqb (length loads) 0 ≡ false = holds 8 check.Short (lit< tt) in
    let few : ltb 16 (length loads) ≡ false = holds 9 check.Short (lit< tt) in
    let range : list_any (is_out_of_range (length file)) (headers_of file) ≡ false = holds 10 check.Short (lit< tt) in
    let code : list_any is_writable_code loads ≡ false = holds 11 check.Short (lit< tt) in
    let lap : overlap loads ≡ false = holds 12 check.Short (lit< tt) in
    let large : ltb 1048576 (sum_by (λ (h : ProgramHeader). h.p_memsz) loads) ≡ false = holds 13 check.Short (lit< tt) in
    let entry : not (is_some (fetch_of (image_of file) (e_entry file))) ≡ false = holds 14 check.Short (lit< tt) in
    let ok = checked_loads (length file) (headers_of file) range in
    let held = held_loads (length file) (headers_of file) range in
    let fixed = list_any-none is_writable_code loads code in
    let size = length-map loads (region_of file) in
    record {
      some = omega (arith, size, eqb-false _ _ some);
      few = omega (arith, size, ltb-false _ _ few);
      placed = All-map IsPlaced (region_of file) loads (λ k d lt. placed file (get_or loads k d) bytes (ok k d lt) (fixed k d lt));
      apart = apart_regions file loads held lap;
      small = omega (arith, size_regions file loads held, ltb-false _ _ large);
      entry = not-false _ entry;
    }

-- a file that fails no check has its table of headers
pub table_of : (file : List ℕ) → first_check file ≡ None → HasTable file
table_of file passes =
    let holds = first_of-none checks file passes in
    let long : is_short file ≡ false = holds 0 check.Short (lit< tt) in
    let table : has_bad_table file ≡ false = holds 6 check.Short (lit< tt) in
    grind (arith, nat_tests)
