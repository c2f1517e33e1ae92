use Rattle.std.proofs.Common.{◌≤◌, length, subst, arith}
use Rattle.rv_model.specs.CallsFit.{IsPossible}
use Rattle.call_terms.proofs.answer.answer.Goals as goal

pub overflow_cast-len : goal.overflow_cast-len
overflow_cast-len c =
    let few : length c.in-Write.bytes ≤ 256 = subst IsPossible c.in-Write.is c.requires.possible in
    omega (arith, few, c.len.ensures)
