use Rattle.std.proofs.Common.{◌≡◌}
use Rattle.elf_image.specs.Fields.{headers_from}
use Rattle.elf_image.proofs.table.program_headers.Given as goal

-- the headers so far
abbrev pub invariant-loop-index : goal.invariant-loop-index
invariant-loop-index l = l.headers.items ≡ headers_from l.file l.first l.index
