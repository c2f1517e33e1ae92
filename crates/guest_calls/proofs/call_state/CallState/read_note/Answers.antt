use Rattle.std.proofs.Common.{rules, ◌≡◌, ◌≤◌, length, true}
use Rattle.elf_image.specs.Memory.{all_writable}
use Rattle.guest_mem.specs.Blocks.{cells_of}
use Rattle.guest_mem.specs.Laws.{all_writable-fewer}
use Rattle.guest_calls.proofs.call_state.CallState.read_note.Goals as goal

-- A read gets no more bytes than its buffer has.
pub returns-clause-buffer : goal.returns-clause-buffer
returns-clause-buffer c =
    let few : length c.of.result ≤ c.args.args.a1 = search rules in
    let all : all_writable (cells_of c.args.mem.now) c.args.args.a0 c.args.args.a1 ≡ true = search rules in
    all_writable-fewer (cells_of c.args.mem.now) c.args.args.a0 (length c.of.result) c.args.args.a1 few all
