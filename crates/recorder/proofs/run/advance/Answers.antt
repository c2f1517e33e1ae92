use Rattle.std.proofs.Common.{◌<◌, length, arith}
use Rattle.recorder.proofs.Choice.{picked_enabled, picked_within, picked_chosen, within_after}
use Rattle.recorder.proofs.run.advance.Goals as goal

pub retired-at-requires : goal.retired-at-requires
retired-at-requires c = picked_within c.args.machine.now _ c.in-Some.tid c.in-Some.ensures.chosen

pub step-note-requires-clause-enabled : goal.step-note-requires-clause-enabled
step-note-requires-clause-enabled c = picked_enabled c.args.machine.now _ c.in-Some.tid c.in-Some.ensures.chosen

pub retired-retired-requires : goal.retired-retired-requires
retired-retired-requires c =
    within_after c.args.machine.now c.step-note.new.self c.in-Some.tid c.step-note.result c.step-note.ensures.effect
    (picked_within c.args.machine.now _ c.in-Some.tid c.in-Some.ensures.chosen)

pub put-requires : goal.put-requires
put-requires c =
    let within : c.in-Some.tid < length c.args.machine.now.core.threads = picked_within c.args.machine.now _ c.in-Some.tid c.in-Some.ensures.chosen in
    omega (arith, within, c.requires.logs)

pub returns-in-None-clause-chosen : goal.returns-in-None-clause-chosen
returns-in-None-clause-chosen c = picked_chosen c.args.machine.now c.args.chooser.now _ c.in-None.ensures.chosen

pub returns-in_ok-put-in-Some-clause-chosen : goal.returns-in_ok-put-in-Some-clause-chosen
returns-in_ok-put-in-Some-clause-chosen c = picked_chosen c.args.machine.now c.args.chooser.now _ c.in-Some.ensures.chosen
