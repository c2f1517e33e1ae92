use Rattle.outcome_parts.proofs.Building.{conditional_known, success_added}
use Rattle.outcome_parts.proofs.built.add_success.Goals as goal

pub add_outcome-requires : goal.add_outcome-requires
add_outcome-requires g c = record {
  known =
      conditional_known c.args.encoder.now c.built_conditional.new.encoder c.args.accesses.now c.args.reserved c.args.access c.args.rivals.now c.in_ok-sc.sc
      c.requires.terms c.requires.access c.requires.rivals c.in_ok-sc.ensures.encodes c.in_ok-sc.ensures.built;
}

pub returns-clause-adds : goal.returns-clause-adds
returns-clause-adds g c setting same can =
    success_added setting c.args.encoder.now c.built_conditional.new.encoder c.add_outcome.new.clauses c.args.accesses.now c.args.reserved c.args.access c.args.rivals.now c.in_ok-sc.sc
    same can c.in_ok-sc.ensures.encodes c.in_ok-sc.ensures.built c.in_ok-add_outcome.ensures.ok
