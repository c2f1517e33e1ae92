use Rattle.std.proofs.Common.{length, sym, ◌∙◌}
use Rattle.elf_image.proofs.SoundImages.{held_loads}
use Rattle.elf_image.proofs.checks.check_segments.Goals as goal

pub returns-clause-held : goal.returns-clause-held
returns-clause-held c =
    let none = sym c.any_out_of_range.ensures ∙ c.if-any_out_of_range.false in
    rw (c.requires.loads, ← c.requires.headers) (held_loads (length c.args.file.now) c.args.headers.now none)
