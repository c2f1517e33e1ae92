use Rattle.std.proofs.Common.{◌≡◌, [], length, slice_index_or, ap, arith}
use Rattle.rv_model.specs.declared.state.Note.{Note}
use Rattle.plain_walk.proofs.order.has_steps_of.Goals as goal

pub returns-then-count-clause-has : goal.returns-then-count-clause-has
returns-then-count-clause-has c = λ t step less.
    let same : length c.notes_of-count.result.now ≡ length (slice_index_or c.args.notes.now c.args.thread []) = ap (length {A = Note}) c.notes_of-count.ensures in
    c.has_row.ensures.0 t step (omega (arith, less, same, c.if-count.true))

pub returns-then-count-clause-misses : goal.returns-then-count-clause-misses
returns-then-count-clause-misses c = λ small row.
    let same : length c.notes_of-count.result.now ≡ length (slice_index_or c.args.notes.now c.args.thread []) = ap (length {A = Note}) c.notes_of-count.ensures in
    c.has_row.ensures.1 (λ step less. row step (omega (arith, less, same, c.if-count.true)))
