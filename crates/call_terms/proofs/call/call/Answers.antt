use Rattle.std.proofs.Common.{◌∙◌, length, ap, rules}
use Rattle.call_terms.proofs.Calling.{call_made}
use Rattle.call_terms.proofs.call.call.Goals as goal

pub returns-clause-step : goal.returns-clause-step
returns-clause-step g c =
    call_made c.args.image.now c.args.pos c.args.call.now c.args.joined.number c.read-a0.result.number c.in_ok-asked.asked.number c.in_ok-met.met.number c.in_ok-value.value.number
    c.args.pool.now c.asks.new.pool c.bytes.new.pool c.buffer.new.pool c.conjunction.new.pool c.moved.new.pool c.answer.new.pool c.args.registers.now c.put.new.registers c.in_ok-reads.reads c.as_slice.result.now _
    (record { constraint = c.in_ok-constraint.constraint; access = c.in_ok-access.access })
    c.requires.possible c.requires.registers c.requires.joined c.read-a0.ensures
    c.asks.ensures.grows c.bytes.ensures.grows c.buffer.ensures.grows c.conjunction.ensures.grows c.moved.ensures.grows c.answer.ensures.grows
    c.in_ok-asked.ensures.says (c.in_ok-reads.ensures.count ∙ ap (λ l. length l) c.read_in.ensures) c.in_ok-reads.ensures.variables c.as_slice.ensures
    c.in_ok-met.ensures.tests c.in_ok-constraint.ensures.both c.in_ok-access.ensures.moved (first_of (search rules, cc)) c.in_ok-value.ensures.made c.put.ensures.puts
