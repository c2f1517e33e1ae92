use Rattle.rv32_asm.proofs.Emitting.{one_word}
use Rattle.rv32_asm.proofs.emit.push_instr.Goals as goal

pub returns : goal.returns
returns c = one_word c.args.i.now c.encode-word.result c.args.text.now.items c.put_word.new.out.items c.encode-word.type_inv c.encode-word.ensures c.in_ok-put_word.ensures
