use Rattle.std.proofs.Common.{◌≡◌, None, sym, ◌∙◌, ap}
use Rattle.std.specs.Option.{option_map}
use Rattle.elf_image.specs.Memory.{opening_cells, with_byte}
use Rattle.plain_machine.proofs.NewestLemmas.{never_written, last_written, nothing_there}
use Rattle.plain_machine.proofs.memory.cell.Goals as goal

pub returns-in_err-opening : goal.returns-in_err-opening
returns-in_err-opening c =
    let absent : opening_cells c.args.image.now c.args.address ≡ None = sym c.opening.ensures ∙ c.in_err-opening.was in
    c.from_residual.ensures ∙ sym (nothing_there (opening_cells c.args.image.now) c.args.writes.now c.args.address absent)

pub returns-in-None : goal.returns-in-None
returns-in-None c =
    sym c.in_ok-opening.was ∙ (c.opening.ensures
    ∙ sym (never_written (opening_cells c.args.image.now) c.args.writes.now c.args.address (sym c.newest.ensures ∙ c.in-None.is)))

pub returns-in-Some : goal.returns-in-Some
returns-in-Some c =
    ap (option_map (with_byte c.in-Some.byte)) (sym c.in_ok-opening.was ∙ c.opening.ensures)
    ∙ sym (last_written (opening_cells c.args.image.now) c.args.writes.now c.args.address c.in-Some.byte (sym c.newest.ensures ∙ c.in-Some.is))
