use Rattle.rv32_asm.proofs.Words.{next_none, next_first, next_shorter}
use Rattle.rv32_asm.proofs.stored.next_word.Goals as goal

pub returns-then-len-eq0-clause-none : goal.returns-then-len-eq0-clause-none
returns-then-len-eq0-clause-none c =
    next_none c.args.bytes.now c.skip_blanks-bytes.result.now c.plain_len-len.result c.skip_blanks-bytes.ensures c.plain_len-len.ensures.count c.if-len-eq0.true

pub returns-clause-first : goal.returns-clause-first
returns-clause-first c = rw (c.split_at.ensures.front, c.split_at.ensures.back)
    (next_first c.args.bytes.now c.skip_blanks-bytes.result.now c.plain_len-len.result c.skip_blanks-bytes.ensures c.plain_len-len.ensures.count c.if-len-eq0.false)

pub returns-clause-shorter : goal.returns-clause-shorter
returns-clause-shorter c = rw c.split_at.ensures.back
    (next_shorter c.args.bytes.now c.skip_blanks-bytes.result.now c.plain_len-len.result c.skip_blanks-bytes.ensures c.plain_len-len.ensures.within c.if-len-eq0.false)
