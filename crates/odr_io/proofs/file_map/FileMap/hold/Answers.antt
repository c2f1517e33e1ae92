use Rattle.std.proofs.Common.{◌∙◌}
use Rattle.odr_io.proofs.HeldIn.{held_in-insert}
use Rattle.odr_io.proofs.file_map.FileMap.hold.Goals as goal

pub returns : goal.returns
returns c =
    held_in-insert c.self.inside.files c.insert.new.self c.in_ok-key.key c.in_ok-value.value c.in_ok-insert.ensures.updates
    ∙ rw (c.in_ok-key.ensures.ok, c.in_ok-value.ensures.items, c.self.view_is)
