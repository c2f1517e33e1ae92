use Rattle.std.proofs.Common.{◌≡◌, length}
use Rattle.rv32_asm.specs.Statement.{words_of, numbers_bytes}
use Rattle.rv32_asm.proofs.Words.{with_front}
use Rattle.rv32_asm.proofs.stored.numbers.Given as goal

-- what is stored, before what is left, is the whole
abbrev pub invariant-loop-word : goal.invariant-loop-word
invariant-loop-word l = with_front l.stored.items (numbers_bytes l.size (words_of l.rest)) ≡ numbers_bytes l.size (words_of l.bytes)

abbrev pub decreases-loop-word : goal.decreases-loop-word
decreases-loop-word l = length l.rest
