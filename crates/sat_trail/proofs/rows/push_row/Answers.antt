use Rattle.std.proofs.Common.{List, [], ◌∷◌, ◌++◌, Vec, Global, ap, ◌∙◌}
use Rattle.sat_trail.specs.declared.watcher.Watcher.{Watcher}
use Rattle.sat_trail.specs.Packing.{place_of}
use Rattle.sat_trail.proofs.RowViews.{on_err, view-set, view-at, view-same}
use Rattle.sat_trail.proofs.rows.push_row.Goals as goal

pub returns-in_err-push-clause-err : goal.returns-in_err-push-clause-err
returns-in_err-push-clause-err c =
    on_err _ _ (view-same (λ (r : Vec Watcher Global). r.items) _ _ c.index_mut.result.now c.push.new.self c.index_mut.ensures.value c.in_err-push.ensures.items)

pub returns-clause-ok : goal.returns-clause-ok
returns-clause-ok c =
    let items : Vec Watcher Global → List Watcher = λ r. r.items in
    view-set items c.args.rows.now.items c.place.result (place_of c.args.of) c.push.new.self _ c.place.ensures
    (c.in_ok-push.ensures.items ∙ ap (λ (row : List Watcher). row ++ c.args.watcher ∷ [])
    (view-at items c.args.rows.now.items c.place.result (place_of c.args.of) c.index_mut.result.now [] c.place.ensures c.requires c.index_mut.ensures.value))
