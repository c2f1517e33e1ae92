use Rattle.std.proofs.Common.{sym, ◌∙◌, ap, subst}
use Rattle.rv32_decode.specs.declared.instr.Instr.TheVariants as instr
use Rattle.odr_log.specs.declared.log.Call.{Call}
use Rattle.rv_model.specs.declared.hearing.Kind.{Kind}
use Rattle.plain_machine.specs.Short.{IsShort}
use Rattle.rv_model.specs.Calls.{record_of, number_of_call, first_argument, second_argument}
use Rattle.rv_model.specs.Instruction.{access_of}
use Rattle.plain_machine.proofs.ShortCalls.{short_call}
use Rattle.plain_machine.proofs.act.call_of.Goals as goal

pub returns-clause-short : goal.returns-clause-short
returns-clause-short c =
    let P : Call → Type 0 = λ (x : Call). IsShort x in
    subst P (sym (c.record_of.ensures ∙ ap (λ (k : Kind). record_of k c.args.heard.reply) c.kind_at-kind.ensures))
    (short_call (number_of_call c.args.local.now) (first_argument c.args.local.now) (second_argument c.args.local.now)
    (access_of c.args.local.now instr.Ecall).count c.args.heard.reach c.args.heard.reply c.requires.reach c.requires.reply)
