use Rattle.std.proofs.Common.{refl}
use Rattle.odr_io.proofs.HeldIn.{held_at-held_in}
use Rattle.odr_io.proofs.file_map.FileMap.look.Goals as goal

pub returns-in-Some : goal.returns-in-Some
returns-in-Some c =
    rw (← c.self.view_is, held_at-held_in, ← c.in-Some.ensures.value, c.as_slice.ensures.value) refl

pub returns-in-None : goal.returns-in-None
returns-in-None c =
    rw (← c.self.view_is, held_at-held_in, ← c.in-None.ensures.value) refl
