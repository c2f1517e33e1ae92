use Rattle.std.proofs.Common.{length}
use Rattle.bv_terms.specs.BitVectors.{bit_of}
use Rattle.bv_terms.specs.Values.{value_at}
use Rattle.hit_terms.specs.Hits.{is_touch}
use Rattle.step_terms.proofs.Making.{bounded, reworded}
use Rattle.outcome_parts.specs.Rivals.{touch_parts, touches}
use Rattle.outcome_parts.proofs.Reaching.{touch_counted}
use Rattle.outcome_parts.proofs.touching.touching.Goals as goal

pub returns-clause-made : goal.returns-clause-made
returns-clause-made g c =
    let old = c.args.pool.now in
    let writer = c.args.writer.now in
    let reserved = c.args.reserved.now in
    reworded old c.touch.new.pool (touch_parts writer reserved) 1
    (λ t. bit_of (is_touch (value_at t old writer.guard.number) c.reaching-count.result (value_at t old writer.address.number) (value_at t old reserved.address.number)))
    (λ t. bit_of (touches t old writer reserved)) c.in_ok-touched.touched.number c.in_ok-touched.ensures.made
    (λ t. touch_counted (value_at t old writer.guard.number) c.reaching-count.result (length writer.writes) (value_at t old writer.address.number) (value_at t old reserved.address.number)
    (bounded old writer.address.number 32 c.width-own_width.result c.requires.writer.address c.width-own_width.ensures.width c.width-own_width.ensures.below t)
    (bounded old reserved.address.number 32 c.width-word_width.result c.requires.reserved.address c.width-word_width.ensures.width c.width-word_width.ensures.below t)
    c.len.result c.len.ensures c.reaching-count.ensures.few c.reaching-count.ensures.many)
