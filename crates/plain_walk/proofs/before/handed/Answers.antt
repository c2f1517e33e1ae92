use Rattle.std.proofs.Common.{List, sym, ◌∙◌, subst, IfNone}
use Rattle.rv_model.specs.declared.state.Note.{Note}
use Rattle.walk_lists.specs.Data.{told_of, noted_in}
use Rattle.plain_walk.specs.Begun.{HandsOn}
use Rattle.plain_walk.proofs.BegunLemmas.{handed_none}
use Rattle.plain_walk.proofs.before.handed.Goals as goal

pub returns-clause-none : goal.returns-clause-none
returns-clause-none c =
    handed_none c.handed_by.result (told_of c.args.notes.now c.args.calls.now) c.args.thread c.in_ok-spawn.spawn (sym c.maker_of.ensures ∙ c.in_ok-spawn.was)
    (subst (λ (row : List Note). IfNone c.handed_by.result (HandsOn (noted_in row c.in_ok-spawn.spawn.step) → ⊥)) c.notes_of.ensures c.handed_by.ensures.none)
