use Rattle.std.proofs.Common.{sym}
use Rattle.walk_notes.proofs.NoteLemmas.{ahead_at, ahead_none}
use Rattle.walk_notes.proofs.note.calls_from.Goals as goal

pub returns-in-None : goal.returns-in-None
returns-in-None c = ahead_none c.args.calls.now c.args.at.thread c.args.at.step (sym c.in-None.ensures.value)

pub returns-in-Some : goal.returns-in-Some
returns-in-Some c = ahead_at c.args.calls.now c.args.at.thread c.args.at.step c.in-Some.place (sym c.in-Some.ensures.value)
