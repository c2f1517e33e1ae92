use Rattle.std.proofs.Common.{length}
use Rattle.std.proofs.lemmas.Result.{IfOk-weaker}
use Rattle.thread_terms.specs.Given.{given_by}
use Rattle.thread_terms.specs.Variables.{IsByteOf}
use Rattle.call_terms.proofs.Buffers.{bad_read, bad_write, handed, writable}
use Rattle.call_terms.proofs.buffer.buffer.Goals as goal

pub returns-in-Write-clause-tests : goal.returns-in-Write-clause-tests
returns-in-Write-clause-tests g c =
    IfOk-weaker c.handed.result _ _
    (λ id both. handed c.args.image.now c.args.pos c.args.pool.now c.handed.new.pool c.args.registers.now c.args.reads.now c.read-address.result.number id.number c.args.call.now
    c.in-Write.bytes c.as_slice.result.now c.in-Write.is c.as_slice.ensures c.read-address.ensures c.requires.variables c.requires.count both)
    c.handed.ensures.handed

pub returns-in-Read-clause-tests : goal.returns-in-Read-clause-tests
returns-in-Read-clause-tests g c =
    IfOk-weaker c.rights.result _ _
    (λ id made. writable (IsByteOf c.args.pos (length c.args.reads.now)) c.args.image.now c.args.pool.now c.rights.new.pool c.args.registers.now c.read-address.result.number c.in-Read.want id.number
    (λ w. (given_by w).bytes c.args.pos.thread c.args.pos.step) c.args.call.now c.in-Read.bytes c.in-Read.is c.read-address.ensures made)
    c.rights.ensures.made

pub returns-in-WriteBad-clause-tests : goal.returns-in-WriteBad-clause-tests
returns-in-WriteBad-clause-tests g c =
    IfOk-weaker c.refused.result _ _
    (λ id made. bad_write (IsByteOf c.args.pos (length c.args.reads.now)) c.args.image.now c.args.pool.now c.refused.new.pool c.args.registers.now c.read-address.result.number c.read-count.result.number id.number
    (λ w. (given_by w).bytes c.args.pos.thread c.args.pos.step) c.args.call.now c.in-WriteBad.is c.read-address.ensures c.read-count.ensures made)
    c.refused.ensures.made

pub returns-in-ReadBad-clause-tests : goal.returns-in-ReadBad-clause-tests
returns-in-ReadBad-clause-tests g c =
    IfOk-weaker c.refused-in-ReadBad.result _ _
    (λ id made. bad_read (IsByteOf c.args.pos (length c.args.reads.now)) c.args.image.now c.args.pool.now c.refused-in-ReadBad.new.pool c.args.registers.now c.read-address.result.number c.read-count.result.number
    id.number (λ w. (given_by w).bytes c.args.pos.thread c.args.pos.step) c.args.call.now c.in-ReadBad.is c.read-address.ensures c.read-count.ensures made)
    c.refused-in-ReadBad.ensures.made
