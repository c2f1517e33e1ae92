use Rattle.std.proofs.Common.{◌≡◌, ◌↔◌, ◌∙◌, All, Contains, List, length, map, sym, subst, ◌≢◌, AllPairs}
use Rattle.odr_log.specs.declared.log.Pos.{Pos}
use Rattle.rv_model.specs.RecordedOrder.{Counted}
use Rattle.bv_terms.specs.Values.{Assignment}
use Rattle.order_clauses.specs.Grid.{IsSquare}
use Rattle.order_vars.specs.Chosen.{ChosenOrder, IsOrderVars, PairsAreOpen}
use Rattle.race_set.specs.declared.reading.Seen.{Seen}
use Rattle.race_set.specs.declared.shape.AccessShape.{AccessShape}
use Rattle.race_set.specs.Accesses.{AreCounted, AreDifferent}
use Rattle.race_set.specs.Needs.{AreNeeded}
use Rattle.race_set.specs.Races.{IsFixedReading, NeedsOrderAt}
use Rattle.thread_terms.specs.declared.access.Access.{Access}
use Rattle.term_sources.specs.Law.{AreWords}
use Rattle.fixed_reads.specs.Shapes.{AreShapes}
use Rattle.access_shapes.specs.Shaped.{AreListed, IsNarrow, shape_in}
use Rattle.order_places.specs.Placed.{ArePlacesOf}
use Rattle.formula_base.specs.Asked.{is_asked}
use Rattle.formula_base.specs.Basis.{IsBase}
use Rattle.formula_base.proofs.Found.{Found, is_base}
use Rattle.formula_base.proofs.base.known_of.Goals as goal

pub returns-clause-base : goal.returns-clause-base
returns-clause-base c =
    λ image log walk paths has same order_of.
    let nodes = c.args.pool.now in
    let also = c.args.also.now in
    let shapes = c.in_ok-shapes.shapes in
    let seen = c.in_ok-ordered.field-0.seen in
    let needed = c.in_ok-ordered.field-0.ordered in
    let vars = c.in_ok-vars.vars in
    let places = c.in_ok-places.places in
    let old = c.args.clauses.now in
    let new = c.new.new.clauses in
    let first : c.as_slice.result.now ≡ paths.accesses = c.as_slice.ensures ∙ sym same in
    let chosen : c.as_slice-5.result.now ≡ vars.chosen = sym c.in_ok-vars.ensures.chosen in
    let listed : AreListed log walk nodes c.as_slice.result.now =
    subst (AreListed log walk nodes) (sym first) (record { each = has.are.each; once = has.are.lists.once }) in
    let f : Found = record {
      image = image;
      log = log;
      walk = walk;
      nodes = nodes;
      paths = paths;
      order = c.args.order;
      shapes = shapes;
      seen = seen;
      needed = needed;
      also = also;
      vars = vars;
      at = places;
      old = old;
      new = new;
      has = has;
      order_of = order_of;
      are = subst (λ (xs : List Access). AreShapes nodes xs shapes) first (c.in_ok-shapes.ensures.known log walk listed);
      shapes_are = subst (λ (xs : List Access). shapes ≡ map (shape_in nodes xs) xs) first c.in_ok-shapes.ensures.shapes;
      words = λ (t : Assignment). subst (AreWords t nodes) first (c.in_ok-shapes.ensures.words t);
      narrow = subst (All IsNarrow) (sym same) c.requires.narrow;
      exact = subst (λ (ss : List AccessShape). AreCounted log ss → AreDifferent ss → (s : Seen) → Contains seen s ↔ IsFixedReading log ss s) c.as_slice-2.ensures
          (c.in_ok-ordered.ensures.seen log order_of);
      needs = subst (λ (ss : List AccessShape). AreCounted log ss → AreDifferent ss → (p : Pos) → Contains needed p ↔ NeedsOrderAt log ss p) c.as_slice-2.ensures
          (c.in_ok-ordered.ensures.ordered log order_of);
      asked = subst (AreNeeded shapes (is_asked shapes needed also) (length shapes)) (sym c.as_slice-5.ensures ∙ chosen)
          (subst (λ (ps : List Pos). AreNeeded shapes (is_asked shapes ps also) (length shapes) c.in_ok-chosen.chosen) c.as_slice-4.ensures
          (subst (λ (ss : List AccessShape). AreNeeded ss (is_asked ss c.as_slice-4.result.now also) (length ss) c.in_ok-chosen.chosen) c.as_slice-3.ensures c.in_ok-chosen.ensures));
      orders = subst (λ (ps : List Pos). All (Counted log) ps → IsOrderVars log ps vars.ordered old new) chosen (c.in_ok-vars.ensures.orders log order_of);
      opens = subst (λ (ps : List Pos). All (Counted log) ps → AllPairs (λ (p q : Pos). p ≢ q) ps → PairsAreOpen log ps vars.ordered) chosen
          (c.in_ok-vars.ensures.pairs log order_of);
      variables = c.in_ok-vars.ensures.vars;
      square = subst (λ (v : ChosenOrder). IsSquare v.ordered.table) c.vars.view_is c.vars.invariant.square;
      count = subst (λ (v : ChosenOrder). v.ordered.table.count ≡ length v.chosen) c.vars.view_is c.vars.invariant.count;
      table = c.in_ok-vars.ensures.known;
      places = subst (λ (xs : List Access). ArePlacesOf vars.chosen xs places) (c.as_slice-6.ensures ∙ sym same) c.in_ok-places.ensures;
    } in
    subst (λ (xs : List Access). IsBase image log nodes also
    (record { order = c.args.order; accesses = xs; shapes = shapes; seen = seen; vars = vars; places = places }) old new) same (is_base f)
