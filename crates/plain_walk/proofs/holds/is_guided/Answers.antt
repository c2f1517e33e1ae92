use Rattle.std.proofs.Common.{◌≡◌, [], refl}
use Rattle.guided_walk.specs.Told.{Told}
use Rattle.guided_walk.specs.Guided.{Visits}
use Rattle.guided_walk.specs.Along.{walk_along}
use Rattle.plain_walk.specs.Data.{given_of, visits_of}
use Rattle.walk_lists.specs.Data.{told_of}
use Rattle.plain_walk.specs.Tables.{visits_in}
use Rattle.plain_walk.proofs.HoldsLemmas.{decides}
use Rattle.plain_walk.proofs.holds.is_guided.Goals as goal

pub returns-clause-some : goal.returns-clause-some
returns-clause-some c =
    let told : Told = told_of c.args.notes.now c.args.calls.now in
    let start : Visits = visits_of c.in-Some.table.nothing [] in
    let walked : visits_in c.in-Some.table ≡ walk_along c.args.image.now told (given_of c.args.rows.now) c.args.steps.now start = rw c.in-Some.is at c.in_ok-table.ensures.some in
    let d = decides c.args.image.now told (given_of c.args.rows.now) c.args.steps.now start (visits_in c.in-Some.table) (c.if-not-is_whole_order.ensures.order refl) (c.if-not-is_whole_order.ensures.all refl) walked in
    (λ t. d.0 (c.holds_at.ensures.0 t), λ g. c.holds_at.ensures.1 (d.1 g))
