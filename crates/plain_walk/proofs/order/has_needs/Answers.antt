use Rattle.std.proofs.Common.{refl, sym, ◌∙◌, inl, inr}
use Rattle.std.proofs.lemmas.Bool.{false≢true}
use Rattle.guided_walk.specs.Told.{noted}
use Rattle.guided_walk.specs.Guided.{joins}
use Rattle.walk_lists.specs.Data.{told_of}
use Rattle.plain_walk.proofs.OrderLemmas.{both_done}
use Rattle.plain_walk.proofs.order.has_needs.Goals as goal

pub returns-then-has_thread : goal.returns-then-has_thread
returns-then-has_thread c = (
  λ t. both_done (told_of c.args.notes.now c.args.calls.now) c.args.done.now c.args.at (joins (noted (told_of c.args.notes.now c.args.calls.now) c.args.at))
      (c.if-has_thread.ensures.0 refl) (c.has_end.ensures.0 t),
  λ all. c.has_end.ensures.1 (λ q need. all q (inr need)),
)

pub returns-else-has_thread : goal.returns-else-has_thread
returns-else-has_thread c = (
  λ t. absurd (false≢true (sym c.if-has_thread.false ∙ t)),
  λ all. absurd (false≢true (c.if-has_thread.ensures.1 (λ q need. all q (inl need)))),
)
