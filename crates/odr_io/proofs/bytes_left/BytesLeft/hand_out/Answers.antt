use Rattle.odr_io.proofs.Pieces.{left-handed}
use Rattle.odr_io.proofs.bytes_left.BytesLeft.hand_out.Goals as goal

pub returns-clause-handed : goal.returns-clause-handed
returns-clause-handed c =
    rw (← c.self.view_is)
    (left-handed c.self.inside.bytes.items c.copy_from_slice.new.self c.args.into.now c.self.inside.at c.min-count.result
    (rw c.deref.ensures.value at c.copy_from_slice.ensures.after)
    (rw c.deref.ensures.value at c.min-count.ensures))
