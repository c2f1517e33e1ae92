use Rattle.std.proofs.Common.{length}
use Rattle.std.proofs.lemmas.Result.{IfOk-weaker}
use Rattle.call_terms.proofs.Buffers.{handed_where}
use Rattle.call_terms.proofs.buffer.handed.Goals as goal

pub returns-clause-handed : goal.returns-clause-handed
returns-clause-handed g c =
    IfOk-weaker c.conjunction.result _ _
    (λ id both. handed_where c.args.image.now c.args.pool.now c.bytes_equal.new.pool c.rights.new.pool c.conjunction.new.pool c.args.address.number (length c.args.recorded.now)
    c.in_ok-same.same.number c.in_ok-allowed.allowed.number id.number c.args.reads.now c.args.recorded.now c.bytes_equal.ensures.grows c.rights.ensures.grows c.requires.address
    c.in_ok-same.ensures.equal c.in_ok-allowed.ensures.made both)
    c.conjunction.ensures.both
