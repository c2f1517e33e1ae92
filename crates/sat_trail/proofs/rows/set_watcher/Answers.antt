use Rattle.std.proofs.Common.{List, [], Vec, Global, set, ap}
use Rattle.std.specs.Vec.{with_item}
use Rattle.sat_trail.specs.declared.watcher.Watcher.{Watcher}
use Rattle.sat_trail.specs.Packing.{place_of}
use Rattle.sat_trail.proofs.RowViews.{view-set, view-at}
use Rattle.sat_trail.proofs.rows.set_watcher.Goals as goal

pub returns : goal.returns
returns c =
    let items : Vec Watcher Global → List Watcher = λ r. r.items in
    view-set items c.args.rows.now.items c.place.result (place_of c.args.of) (with_item c.index_mut-row.result.now c.args.at c.args.watcher) _ c.place.ensures
    (ap (λ (row : List Watcher). set row c.args.at c.args.watcher)
    (view-at items c.args.rows.now.items c.place.result (place_of c.args.of) c.index_mut-row.result.now [] c.place.ensures c.requires.there c.index_mut-row.ensures.value))
