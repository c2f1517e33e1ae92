use Rattle.std.proofs.Common.{◌≡◌, ◌+◌, ◌<◌, ◌∷◌, ◌++◌, ◌∙◌, [], List, take, length, sym, ap, subst, rules, arith}
use Rattle.std.proofs.lemmas.List.{take_more}
use Rattle.thread_terms.specs.declared.access.Access.{Access}
use Rattle.access_shapes.proofs.Shaping.{SoFar, one_more}
use Rattle.access_shapes.proofs.shape.shapes_of.Goals as goal

pub loop-x-preserved : goal.loop-x-preserved
loop-x-preserved c =
    let pool = c.args.pool.now in
    let accesses = c.args.accesses.now in
    let x = c.loop-x.x in
    let access = c.index-accesses-x.result in
    let within : x < length accesses = first_of (search rules, omega arith) in
    let next : take (x + 1) accesses ≡ take x accesses ++ access ∷ [] =
    take_more accesses x access within ∙ ap (λ (a : Access). take x accesses ++ a ∷ []) (sym c.index-accesses-x.is) in
    subst (λ (xs : List Access). SoFar pool accesses xs c.push.new.self) (sym next)
    (one_more pool accesses (take x accesses) access c.loop-x.shapes c.push.new.self c.shape_of.result c.loop-x.invariant
    c.shape_of.ensures.shape c.shape_of.ensures.known c.shape_of.ensures.word c.in_ok-push.ensures)
