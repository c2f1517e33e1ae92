use Rattle.std.proofs.Common.{List, [], Vec, Global, arith, sym, subst, refl}
use Rattle.sat_trail.specs.declared.watcher.Watcher.{Watcher}
use Rattle.sat_trail.specs.Packing.{place_of}
use Rattle.sat_trail.specs.Watching.{IsWithout}
use Rattle.sat_trail.proofs.RowViews.{view-set, view-at, without-from}
use Rattle.sat_trail.proofs.rows.drop_from_row.Goals as goal

pub returns : goal.returns
returns c =
    let items : Vec Watcher Global → List Watcher = λ r. r.items in
    let old : List Watcher = (c.index_mut.result.now).items in
    let parts = without-from old (c.swap_remove-watcher.new.self).items c.args.at (c.index_mut.result.now).len (sym (c.index_mut.result.now).ok.0) (omega arith) (c.swap_remove-watcher.ensures.by_index).0 (c.swap_remove-watcher.ensures.by_index).1 in
    let without : IsWithout old (c.swap_remove-watcher.new.self).items c.args.at = record { shorter = omega arith; others = parts.0; moved = parts.1 } in
    record {
      row = (c.swap_remove-watcher.new.self).items;
      rest = view-set items c.args.rows.now.items c.place.result (place_of c.args.of) c.swap_remove-watcher.new.self _ c.place.ensures refl;
      without = subst (λ (r : List Watcher). IsWithout r (c.swap_remove-watcher.new.self).items c.args.at)
          (view-at items c.args.rows.now.items c.place.result (place_of c.args.of) c.index_mut.result.now [] c.place.ensures c.requires.there c.index_mut.ensures.value) without;
    }
