use Rattle.std.proofs.Common.{ap, sym, ◌∙◌}
use Rattle.elf_image.specs.Memory.{number_of}
use Rattle.rv32_decode.specs.declared.instr.LoadOp.{LoadOp}
use Rattle.rv_model.specs.Values.{extended}
use Rattle.step_terms.specs.Bytes.{numbers, values}
use Rattle.step_terms.proofs.Making.{said}
use Rattle.step_terms.proofs.Words.{whole_word, zero_byte, zero_half}
use Rattle.step_terms.proofs.memory.loaded.Goals as goal

pub returns-in-Lw-clause-made : goal.returns-in-Lw-clause-made
returns-in-Lw-clause-made g c =
    let old = c.args.pool.now in
    let ids = c.args.bytes.now in
    said c.word_of.result old c.word_of.new.pool (numbers ids) 32 (λ w. number_of (values w old ids)) (λ w. extended c.args.op (number_of (values w old ids))) c.word_of.ensures.made
    (λ w. whole_word (number_of (values w old ids)) ∙ ap (λ (o : LoadOp). extended o (number_of (values w old ids))) (sym c.in-Lw.is))

pub returns-in-Lbu-clause-made : goal.returns-in-Lbu-clause-made
returns-in-Lbu-clause-made g c =
    let old = c.args.pool.now in
    let ids = c.args.bytes.now in
    said c.byte.result old c.byte.new.pool (numbers ids) 32 (λ w. number_of (values w old ids)) (λ w. extended c.args.op (number_of (values w old ids))) c.byte.ensures.made
    (λ w. zero_byte (number_of (values w old ids)) ∙ ap (λ (o : LoadOp). extended o (number_of (values w old ids))) (sym c.in-Lbu.is))

pub returns-in-Lhu-clause-made : goal.returns-in-Lhu-clause-made
returns-in-Lhu-clause-made g c =
    let old = c.args.pool.now in
    let ids = c.args.bytes.now in
    said c.unsigned_half.result old c.unsigned_half.new.pool (numbers ids) 32 (λ w. number_of (values w old ids)) (λ w. extended c.args.op (number_of (values w old ids))) c.unsigned_half.ensures.made
    (λ w. zero_half (number_of (values w old ids)) ∙ ap (λ (o : LoadOp). extended o (number_of (values w old ids))) (sym c.in-Lhu.is))
