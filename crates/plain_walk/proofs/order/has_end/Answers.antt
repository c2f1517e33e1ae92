use Rattle.std.proofs.Common.{◌≡◌, ℕ, Option, Some, List, sym, ◌∙◌, ap}
use Rattle.rv_model.specs.declared.state.Note.{Note}
use Rattle.guided_walk.specs.Told.{Told, noted}
use Rattle.guided_walk.specs.Guided.{joins}
use Rattle.walk_lists.specs.Data.{told_of, noted_in}
use Rattle.plain_walk.proofs.OrderLemmas.{end_before, end_needed}
use Rattle.plain_walk.proofs.order.has_end.Goals as goal

pub returns-in-Some-ender_of : goal.returns-in-Some-ender_of
returns-in-Some-ender_of c =
    let told : Told = told_of c.args.notes.now c.args.calls.now in
    let joined : Option ℕ = joins (noted told c.args.at) in
    let target : Some c.in-Some.target ≡ joined = sym c.in-Some.is ∙ c.joined_by.ensures ∙ ap (λ (row : List Note). joins (noted_in row c.args.at.step)) c.notes_of.ensures in
    let ends : Some c.in-Some-ender_of.end ≡ told.ender c.in-Some.target = sym c.in-Some-ender_of.is ∙ c.ender_of.ensures in (
      λ t. end_before told c.args.done.now joined c.in-Some.target c.in-Some-ender_of.end target ends (c.contains.ensures.0 t),
      λ all. c.contains.ensures.1 (end_needed told c.args.done.now joined c.in-Some.target c.in-Some-ender_of.end target ends all),
    )
