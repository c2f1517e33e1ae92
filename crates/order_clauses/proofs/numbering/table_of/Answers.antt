use Rattle.std.proofs.Common.{ℕ, ◌<◌, ◌≤◌, ◌*◌, ◌+◌, ◌/◌, ◌%◌, Bool, List, [], ◌∷◌, ◌++◌, sym, subst, arith}
use Rattle.order_clauses.specs.declared.table.Table.{Table}
use Rattle.order_clauses.specs.Grid.{IsNumber, is_pair_at}
use Rattle.order_clauses.proofs.Numbered.{IsNumbered, numbered_more, numbered_all, numbered_grows, on_err}
use Rattle.order_clauses.proofs.numbering.table_of.Goals as goal

pub returns-in_err-push-clause-err : goal.returns-in_err-push-clause-err
returns-in_err-push-clause-err c =
    let count = c.args.count in
    let k = c.loop-k.k in
    let var = c.in_ok-var.var in
    let below : k < count * count = omega (arith, c.loop-k-test.true, c.requires.square, c.len-k-end.ensures) in
    let step = subst (λ (r : List Bool). IsNumber (is_pair_at r count (k / count) (k % count)) (record { first = k / count; second = k % count })
    c.loop-k.clauses c.number_places.new.clauses c.loop-k.pairs c.number_places.new.pairs var) c.as_slice.ensures c.in_ok-var.ensures.number in
    on_err c.from_residual-in_err-push.result
    (numbered_grows c.args.clauses.now c.number_places.new.clauses count c.args.recorded (c.loop-k.numbers ++ var ∷ []) c.number_places.new.pairs (k + 1)
    (numbered_more c.args.clauses.now c.loop-k.clauses c.number_places.new.clauses count c.args.recorded c.loop-k.numbers c.loop-k.pairs
    c.number_places.new.pairs var k below step c.loop-k.invariant))

pub loop-k-preserved : goal.loop-k-preserved
loop-k-preserved c =
    let count = c.args.count in
    let k = c.loop-k.k in
    let var = c.in_ok-var.var in
    let below : k < count * count = omega (arith, c.loop-k-test.true, c.requires.square, c.len-k-end.ensures) in
    let step = subst (λ (r : List Bool). IsNumber (is_pair_at r count (k / count) (k % count)) (record { first = k / count; second = k % count })
    c.loop-k.clauses c.number_places.new.clauses c.loop-k.pairs c.number_places.new.pairs var) c.as_slice.ensures c.in_ok-var.ensures.number in
    subst (λ (ns : List ℕ). IsNumbered c.args.clauses.now c.number_places.new.clauses count c.args.recorded ns c.number_places.new.pairs (k + 1))
    (sym c.in_ok-push.ensures)
    (numbered_more c.args.clauses.now c.loop-k.clauses c.number_places.new.clauses count c.args.recorded c.loop-k.numbers c.loop-k.pairs
    c.number_places.new.pairs var k below step c.loop-k.invariant)

pub returns-clause-table : goal.returns-clause-table
returns-clause-table c =
    let t : Table = record { count = c.args.count; recorded = c.args.recorded; numbers = c.loop-k.numbers; pairs = c.loop-k.pairs } in
    let done : t.count * t.count ≤ c.loop-k.k = omega (arith, c.loop-k-test.false, c.requires.square, c.len-k-end.ensures) in
    numbered_all c.args.clauses.now c.loop-k.clauses t c.loop-k.k done c.loop-k.invariant
