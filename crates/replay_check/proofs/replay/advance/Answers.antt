use Rattle.std.proofs.Common.{sym, ◌∙◌}
use Rattle.replay_check.proofs.AlongLemmas.{advanced}
use Rattle.replay_check.proofs.replay.advance.Goals as goal

pub returns : goal.returns
returns c = λ state happened stands has.
    advanced c.args.log.now state happened c.args.tid c.retired-at.result c.args.machine.now c.step-note.new.self c.args.met.now c.meets.new.self
    c.step-note.result c.meets.result c.requires.log (sym (c.enabled.ensures.state state stands) ∙ c.if-not-enabled.false) c.retired-at.ensures c.step-note.ensures.effect.image
    (c.step-note.ensures.state state stands) stands has c.meets.ensures.next c.meets.ensures.past
