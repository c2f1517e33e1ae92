use Rattle.std.proofs.Common.{◌≤◌, arith}
use Rattle.odr_limits.specs.declared.TheConstants.{MOST_ACCESSES}
use Rattle.read_from.proofs.Building.{few_accesses}
use Rattle.read_from.proofs.build.build_wide.Goals as goal

pub returns-in_default-2-clause-few : goal.returns-in_default-2-clause-few
returns-in_default-2-clause-few g c =
    let few : c.access_count-count.result ≤ MOST_ACCESSES = omega arith in
    few_accesses c.args.image.now c.args.log.now c.in_ok-traces.field-0 c.in-Some.traces c.access_count-count.result c.in-Some.is c.in_ok-traces.ensures.traced
    c.access_count-count.ensures few

pub returns-clause-few : goal.returns-clause-few
returns-clause-few g c =
    let few : c.access_count-count.result ≤ MOST_ACCESSES = omega arith in
    few_accesses c.args.image.now c.args.log.now c.in_ok-traces.field-0 c.in-Some.traces c.access_count-count.result c.in-Some.is c.in_ok-traces.ensures.traced
    c.access_count-count.ensures few
