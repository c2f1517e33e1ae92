use Rattle.std.proofs.Common.{◌∙◌}
use Rattle.encoder.proofs.Encoding.{get_or_any}
use Rattle.term_sources.specs.Sees.{no_access}
use Rattle.outcome_parts.proofs.Building.{conditional_built, conditional_encodes}
use Rattle.outcome_parts.proofs.built.built_conditional.Goals as goal

pub returns-clause-encodes : goal.returns-clause-encodes
returns-clause-encodes g c = conditional_encodes (record {
  old = c.args.encoder.now;
  one = c.enders_of.new.encoder;
  two = c.address_condition.new.encoder;
  new = c.literal_of.new.encoder;
  accesses = c.args.accesses.now;
  lr = c.args.reserved;
  x = c.args.access;
  rivals = c.args.rivals.now;
  enders = c.in_ok-enders.enders;
  same = c.in_ok-same.same;
  outcome = c.in_ok-outcome.outcome;
  terms = c.requires.terms;
  reserved_there = c.requires.reserved;
  there = c.requires.access;
  reserved = c.index-accesses-reserved.result;
  reserved_is = c.index-accesses-reserved.is ∙ get_or_any c.args.accesses.now c.args.reserved c.index-accesses-reserved.result no_access c.requires.reserved;
  access = c.index-accesses-access.result;
  access_is = c.index-accesses-access.is ∙ get_or_any c.args.accesses.now c.args.access c.index-accesses-access.result no_access c.requires.access;
  first = c.in_ok-enders.ensures.encodes;
  are = c.in_ok-enders.ensures.enders;
  second = c.in_ok-same.ensures.encodes;
  condition = c.in_ok-same.ensures.condition;
  third = c.in_ok-outcome.ensures.encodes;
  guard = c.in_ok-outcome.ensures.built;
  literal = c.in_ok-outcome.ensures.literal;
})

pub returns-clause-built : goal.returns-clause-built
returns-clause-built g c = conditional_built (record {
  old = c.args.encoder.now;
  one = c.enders_of.new.encoder;
  two = c.address_condition.new.encoder;
  new = c.literal_of.new.encoder;
  accesses = c.args.accesses.now;
  lr = c.args.reserved;
  x = c.args.access;
  rivals = c.args.rivals.now;
  enders = c.in_ok-enders.enders;
  same = c.in_ok-same.same;
  outcome = c.in_ok-outcome.outcome;
  terms = c.requires.terms;
  reserved_there = c.requires.reserved;
  there = c.requires.access;
  reserved = c.index-accesses-reserved.result;
  reserved_is = c.index-accesses-reserved.is ∙ get_or_any c.args.accesses.now c.args.reserved c.index-accesses-reserved.result no_access c.requires.reserved;
  access = c.index-accesses-access.result;
  access_is = c.index-accesses-access.is ∙ get_or_any c.args.accesses.now c.args.access c.index-accesses-access.result no_access c.requires.access;
  first = c.in_ok-enders.ensures.encodes;
  are = c.in_ok-enders.ensures.enders;
  second = c.in_ok-same.ensures.encodes;
  condition = c.in_ok-same.ensures.condition;
  third = c.in_ok-outcome.ensures.encodes;
  guard = c.in_ok-outcome.ensures.built;
  literal = c.in_ok-outcome.ensures.literal;
})
