use Rattle.std.proofs.Common.{◌≡◌, None, Some, List, reverse, refl, sym, ◌∙◌, ap}
use Rattle.std.specs.List.{find}
use Rattle.std.specs.Option.{option_copied}
use Rattle.guided_walk.specs.Guided.{Visit}
use Rattle.plain_walk.specs.declared.table.Visited.{Visited}
use Rattle.plain_walk.specs.Data.{is_place}
use Rattle.plain_walk.proofs.TableLemmas.{holds_at}
use Rattle.plain_walk.proofs.table.Table.at.Goals as goal

pub returns-in-None-clause-seen : goal.returns-in-None-clause-seen
returns-in-None-clause-seen c =
    let found : find (λ (v : Visited). is_place c.args.place v.at) (reverse c.self.inside.oldest_first.items) ≡ None =
    ap (λ (vs : List Visited). find (λ (v : Visited). is_place c.args.place v.at) (reverse vs)) (sym c.as_slice.ensures.value) ∙ sym c.newest.ensures ∙ ap option_copied c.in-None.is in
    ap (λ (v : Visit). v.seen)
    (holds_at c.self.inside.nothing c.self.inside.nothing (reverse c.self.inside.oldest_first.items) c.args.self.now c.args.place None c.self.view_is found refl)

pub returns-in-None-clause-outcome : goal.returns-in-None-clause-outcome
returns-in-None-clause-outcome c =
    let found : find (λ (v : Visited). is_place c.args.place v.at) (reverse c.self.inside.oldest_first.items) ≡ None =
    ap (λ (vs : List Visited). find (λ (v : Visited). is_place c.args.place v.at) (reverse vs)) (sym c.as_slice.ensures.value) ∙ sym c.newest.ensures ∙ ap option_copied c.in-None.is in
    ap (λ (v : Visit). v.outcome)
    (holds_at c.self.inside.nothing c.self.inside.nothing (reverse c.self.inside.oldest_first.items) c.args.self.now c.args.place None c.self.view_is found refl)

pub returns-in-Some-clause-seen : goal.returns-in-Some-clause-seen
returns-in-Some-clause-seen c =
    let visited : Visited = c.in-Some.visited.now in
    let found : find (λ (v : Visited). is_place c.args.place v.at) (reverse c.self.inside.oldest_first.items) ≡ Some visited =
    ap (λ (vs : List Visited). find (λ (v : Visited). is_place c.args.place v.at) (reverse vs)) (sym c.as_slice.ensures.value) ∙ sym c.newest.ensures ∙ ap option_copied c.in-Some.is in
    ap (λ (v : Visit). v.seen)
    (holds_at c.self.inside.nothing visited (reverse c.self.inside.oldest_first.items) c.args.self.now c.args.place (Some visited) c.self.view_is found refl)

pub returns-in-Some-clause-outcome : goal.returns-in-Some-clause-outcome
returns-in-Some-clause-outcome c =
    let visited : Visited = c.in-Some.visited.now in
    let found : find (λ (v : Visited). is_place c.args.place v.at) (reverse c.self.inside.oldest_first.items) ≡ Some visited =
    ap (λ (vs : List Visited). find (λ (v : Visited). is_place c.args.place v.at) (reverse vs)) (sym c.as_slice.ensures.value) ∙ sym c.newest.ensures ∙ ap option_copied c.in-Some.is in
    ap (λ (v : Visit). v.outcome)
    (holds_at c.self.inside.nothing visited (reverse c.self.inside.oldest_first.items) c.args.self.now c.args.place (Some visited) c.self.view_is found refl)
