use Rattle.std.proofs.Common.{ℕ, true, false, not, List, Option, map, sym, ap, ◌∙◌}
use Rattle.std.specs.Option.{is_some}
use Rattle.std.specs.List.{filter}
use Rattle.elf_image.specs.declared.fault.Check.TheVariants as check
use Rattle.elf_image.specs.declared.header.ProgramHeader.{ProgramHeader}
use Rattle.elf_image.specs.Segments.{is_load, region_of}
use Rattle.elf_image.proofs.Faults.{in_header, in_segments, exit_names, fault_names, same_image, entry_decides, sound_of}
use Rattle.elf_image.proofs.image.Image.read.Goals as goal

pub returns-in_err-check_header-clause-fault : goal.returns-in_err-check_header-clause-fault
returns-in_err-check_header-clause-fault c =
    let check = c.in_err-check_header.field-0.0 in
    let first = in_header c.args.bytes.now check c.in_err-check_header.ensures.first in
    exit_names c.args.bytes.now c.from_residual.result check c.from_residual.ensures.1 first

pub returns-in_err-check_segments-clause-fault : goal.returns-in_err-check_segments-clause-fault
returns-in_err-check_segments-clause-fault c =
    let check = c.in_err-check_segments.field-0.0 in
    let first = in_segments c.args.bytes.now check c.in_ok-check_header.ensures.first c.in_err-check_segments.ensures.first in
    exit_names c.args.bytes.now c.from_residual-in_err-check_segments.result check c.from_residual-in_err-check_segments.ensures.1 first

pub returns-then-is_none-clause-fault : goal.returns-then-is_none-clause-fault
returns-then-is_none-clause-fault c =
    let file = c.args.bytes.now in
    let headers = c.as_slice.ensures.value ∙ c.in_ok-headers.ensures in
    let loads = c.as_slice-4.ensures.value ∙ c.in_ok-loads.ensures ∙ ap (λ (l : List ProgramHeader). filter is_load l) headers in
    let fetched = c.as_slice-5.ensures.value ∙ c.in_ok-regions.ensures ∙ ap (λ (l : List ProgramHeader). map (region_of file) l) loads in
    let found = ap (λ (o : Option ℕ). is_some o) (sym c.fetch.ensures) ∙ c.is_none.ensures ∙ ap not c.if-is_none.true in
    let first = entry_decides file c.as_slice-5.result.now c.u32_at-entry.result true c.in_ok-check_header.ensures.first c.in_ok-check_segments.ensures.first fetched c.u32_at-entry.ensures found in
    fault_names file c.from.result check.EntryOutside c.from.ensures first

pub invariant_of-result : goal.invariant_of-result
invariant_of-result c =
    let file = c.args.bytes.now in
    let headers = c.as_slice.ensures.value ∙ c.in_ok-headers.ensures in
    let loads = c.as_slice-4.ensures.value ∙ c.in_ok-loads.ensures ∙ ap (λ (l : List ProgramHeader). filter is_load l) headers in
    let fetched = c.as_slice-5.ensures.value ∙ c.in_ok-regions.ensures ∙ ap (λ (l : List ProgramHeader). map (region_of file) l) loads in
    let found = ap (λ (o : Option ℕ). is_some o) (sym c.fetch.ensures) ∙ c.is_none.ensures ∙ ap not c.if-is_none.false in
    let first = entry_decides file c.as_slice-5.result.now c.u32_at-entry.result false c.in_ok-check_header.ensures.first c.in_ok-check_segments.ensures.first fetched c.u32_at-entry.ensures found in
    let image = same_image file c.of.result c.u32_at-entry.result (c.of.ensures ∙ sym c.as_slice-5.ensures.value ∙ fetched) c.u32_at-entry.ensures in
    sound_of file _ c.type_inv.bytes image first

pub returns-clause-image : goal.returns-clause-image
returns-clause-image c =
    let file = c.args.bytes.now in
    let headers = c.as_slice.ensures.value ∙ c.in_ok-headers.ensures in
    let loads = c.as_slice-4.ensures.value ∙ c.in_ok-loads.ensures ∙ ap (λ (l : List ProgramHeader). filter is_load l) headers in
    let fetched = c.as_slice-5.ensures.value ∙ c.in_ok-regions.ensures ∙ ap (λ (l : List ProgramHeader). map (region_of file) l) loads in
    let found = ap (λ (o : Option ℕ). is_some o) (sym c.fetch.ensures) ∙ c.is_none.ensures ∙ ap not c.if-is_none.false in
    let first = entry_decides file c.as_slice-5.result.now c.u32_at-entry.result false c.in_ok-check_header.ensures.first c.in_ok-check_segments.ensures.first fetched c.u32_at-entry.ensures found in
    let image = same_image file c.of.result c.u32_at-entry.result (c.of.ensures ∙ sym c.as_slice-5.ensures.value ∙ fetched) c.u32_at-entry.ensures in
    record { passes = first; gives = image }
