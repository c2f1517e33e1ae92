-- The first check that fails, from the parts in which the checks are made.
use Rattle.std.proofs.Common.{◌≡◌, ℕ, ◌^◌, ◌<◌, Fits, arith, get_or, Bool, true, false, cond, not, List, [], ◌∷◌, ◌++◌, refl, sym, ap, subst, ◌∙◌, Option, Some, None, is_some, IfSome, map, Result, Ok, Err, IfErr, IsErrAnd}
use Rattle.std.specs.Int.{w8}
use Rattle.std.specs.Option.{option_or}
use Rattle.std.proofs.lemmas.List.Elements.{All-from_get_or}
use Rattle.elf_image.specs.declared.fault.Check.{Check}
use Rattle.elf_image.specs.declared.fault.Check.TheVariants as check
use Rattle.elf_image.specs.declared.fault.ElfFault.{ElfFault}
use Rattle.elf_image.specs.Checks.{fails, first_of, header_checks, segment_checks, first_check}
use Rattle.elf_image.specs.declared.region.Region.{Region}
use Rattle.elf_image.specs.Segments.{loads_of, region_of, image_of}
use Rattle.elf_image.specs.Fields.{e_entry}
use Rattle.elf_image.specs.Fault.{check_of, IsFirstFault}
use Rattle.elf_image.specs.Layout.{Layout, fetch_of, IsSound}
use Rattle.elf_image.specs.Laws.{first_of-append}
use Rattle.elf_image.proofs.SoundImages.{sound_image}

-- a check that is made alone
first_of-one : (c : Check) (file : List ℕ) → first_of (c ∷ []) file ≡ cond (fails c file) (Some c) None
unfolding first_of
first_of-one c file = refl

parts : (file : List ℕ) → first_check file ≡ option_or (option_or (first_of header_checks file) (first_of segment_checks file)) (cond (fails check.EntryOutside file) (Some check.EntryOutside) None)
parts file =
    first_of-append (header_checks ++ segment_checks) (check.EntryOutside ∷ []) file
    ∙ ap (λ (o : Option Check). option_or o (first_of (check.EntryOutside ∷ []) file)) (first_of-append header_checks segment_checks file)
    ∙ ap (λ (o : Option Check). option_or (option_or (first_of header_checks file) (first_of segment_checks file)) o) (first_of-one check.EntryOutside file)

pub in_header : (file : List ℕ) (c : Check) → Some c ≡ first_of header_checks file → first_check file ≡ Some c
in_header file c header = parts file ∙ ap (λ (o : Option Check). option_or (option_or o (first_of segment_checks file)) (cond (fails check.EntryOutside file) (Some check.EntryOutside) None)) (sym header)

pub in_segments : (file : List ℕ) (c : Check) → None ≡ first_of header_checks file → Some c ≡ first_of segment_checks file → first_check file ≡ Some c
in_segments file c header segments =
    parts file
    ∙ ap (λ (o : Option Check). option_or (option_or o (first_of segment_checks file)) (cond (fails check.EntryOutside file) (Some check.EntryOutside) None)) (sym header)
    ∙ ap (λ (o : Option Check). option_or o (cond (fails check.EntryOutside file) (Some check.EntryOutside) None)) (sym segments)

pub in_entry : (file : List ℕ) (b : Bool) → None ≡ first_of header_checks file → None ≡ first_of segment_checks file → fails check.EntryOutside file ≡ b → first_check file ≡ cond b (Some check.EntryOutside) None
in_entry file b header segments entry =
    parts file
    ∙ ap (λ (o : Option Check). option_or (option_or o (first_of segment_checks file)) (cond (fails check.EntryOutside file) (Some check.EntryOutside) None)) (sym header)
    ∙ ap (λ (o : Option Check). option_or o (cond (fails check.EntryOutside file) (Some check.EntryOutside) None)) (sym segments)
    ∙ ap (λ (t : Bool). cond t (Some check.EntryOutside) None) entry

-- a fault that names the first failing check
pub fault_names : (file : List ℕ) (fault : ElfFault) (c : Check) → check_of fault ≡ Some c → first_check file ≡ Some c → IsFirstFault file fault
fault_names file fault c named first = let P : Option Check → Type 0 = λ o. IfSome o (λ d. first_check file ≡ Some d) in subst P (sym named) first

pub exit_names : (file : List ℕ) (r : Result Layout ElfFault) (c : Check) → IsErrAnd r (λ fault. check_of fault ≡ Some c) → first_check file ≡ Some c → IfErr r (IsFirstFault file)
exit_names file (Ok image) c named first = absurd named
exit_names file (Err fault) c named first = fault_names file fault c named first

abbrev pub image_with : List Region → ℕ → Layout
image_with regions entry = record { regions = regions; entry = entry }

-- the regions and the entry that are read make the file's image
pub same_image : (file : List ℕ) (regions : List Region) (entry : ℕ) → regions ≡ map (region_of file) (loads_of file) → entry ≡ e_entry file → image_with regions entry ≡ image_of file
same_image file regions entry regions_are entry_is =
    ap (λ (l : List Region). image_with l entry) regions_are ∙ ap (λ (n : ℕ). image_with (map (region_of file) (loads_of file)) n) entry_is

-- the entry decides what is left
pub entry_decides : (file : List ℕ) (regions : List Region) (entry : ℕ) (outside : Bool) → None ≡ first_of header_checks file → None ≡ first_of segment_checks file
    → regions ≡ map (region_of file) (loads_of file) → entry ≡ e_entry file → is_some (fetch_of (image_with regions entry) entry) ≡ not outside
    → first_check file ≡ cond outside (Some check.EntryOutside) None
entry_decides file regions entry outside header segments regions_are entry_is fetched =
    let same = same_image file regions entry regions_are entry_is in
    let found : is_some (fetch_of (image_of file) (e_entry file)) ≡ not outside = ap (λ (i : Layout). is_some (fetch_of i i.entry)) (sym same) ∙ fetched in
    in_entry file outside header segments (ap not found ∙ twice outside)
  where
    twice : (b : Bool) → not (not b) ≡ b
    twice true = refl
    twice false = refl

-- the image that is read is sound
pub sound_of : (file : List ℕ) (image : Layout) → ((i : ℕ) → Fits w8 (get_or file i 0)) → image ≡ image_of file → first_check file ≡ None → IsSound image
sound_of file image bytes same passes =
    let P : Layout → Type 0 = λ i. IsSound i in
    subst P (sym same) (sound_image file (All-from_get_or (λ byte. byte < 2 ^ 8) file 0 (λ i lt. omega (arith, bytes i))) passes)
