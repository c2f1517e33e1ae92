use Rattle.std.proofs.Common.{◌∙◌, ap}
use Rattle.access_shapes.specs.Shaped.{has_bytes}
use Rattle.access_shapes.proofs.Shaping.{shape_read}
use Rattle.access_shapes.proofs.shape.shape_of.Goals as goal

pub returns-clause-known : goal.returns-clause-known
returns-clause-known c log walk listed =
    shape_read log walk c.args.pool.now c.args.accesses.now c.args.access.now c.has_bytes.result c.may_write.result c.place_of.result c.linked_step.result
    (c.has_bytes.ensures ∙ ap has_bytes c.as_slice.ensures) c.may_write.ensures.writes c.place_of.ensures.place c.linked_step.ensures
    (record {
      guard = c.may_write.ensures.constant;
      first = λ span e. c.place_of.ensures.first span (c.place_of.ensures.place ∙ e);
      address = λ span e. c.place_of.ensures.address span (c.place_of.ensures.place ∙ e);
    }) listed
