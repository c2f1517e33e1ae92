use Rattle.std.proofs.Common.{◌∙◌}
use Rattle.encoder.proofs.Encoding.{get_or_any}
use Rattle.term_sources.specs.Sees.{no_access}
use Rattle.outcome_parts.proofs.Building.{ender_made}
use Rattle.outcome_parts.proofs.built.ender_of.Goals as goal

pub returns-clause-encodes : goal.returns-clause-encodes
returns-clause-encodes g c =
    (ender_made c.args.encoder.now c.touch_condition.new.encoder c.args.accesses.now c.args.reserved c.args.rival c.index-accesses-rival.result c.index-accesses-reserved.result
    c.in_ok-hit.hit (c.index-accesses-rival.is ∙ get_or_any c.args.accesses.now c.args.rival.access c.index-accesses-rival.result no_access c.requires.rival)
    (c.index-accesses-reserved.is ∙ get_or_any c.args.accesses.now c.args.reserved c.index-accesses-reserved.result no_access c.requires.reserved)
    c.in_ok-hit.ensures.encodes c.in_ok-hit.ensures.condition).0

pub returns-clause-ender : goal.returns-clause-ender
returns-clause-ender g c =
    (ender_made c.args.encoder.now c.touch_condition.new.encoder c.args.accesses.now c.args.reserved c.args.rival c.index-accesses-rival.result c.index-accesses-reserved.result
    c.in_ok-hit.hit (c.index-accesses-rival.is ∙ get_or_any c.args.accesses.now c.args.rival.access c.index-accesses-rival.result no_access c.requires.rival)
    (c.index-accesses-reserved.is ∙ get_or_any c.args.accesses.now c.args.reserved c.index-accesses-reserved.result no_access c.requires.reserved)
    c.in_ok-hit.ensures.encodes c.in_ok-hit.ensures.condition).1
