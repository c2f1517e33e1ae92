use Rattle.std.proofs.Common.{◌≤◌, ◌∙◌, length, sym, subst, arith}
use Rattle.std.proofs.lemmas.Bool.{false≢true}
use Rattle.sat_trail.specs.Engines.{State}
use Rattle.clause_check.specs.Bases.{IsCalm}
use Rattle.clause_check.proofs.Judging as judging
use Rattle.clause_check.proofs.verdict.first_gap.Goals as goal

pub returns-in_default : goal.returns-in_default
returns-in_default c =
    judging.derived-none (c.args.clauses.now).clauses c.args.lines.now
    (judging.base-none (c.args.clauses.now).vars (c.args.clauses.now).clauses c.in_ok-engine.field-0 c.in_ok-engine.ensures c.in_default.is)

pub loop-at-init : goal.loop-at-init
loop-at-init c =
    record {
      stands = judging.base-start (c.args.clauses.now).vars (c.args.clauses.now).clauses c.args.lines.now c.in-Some.engine
          (judging.base-some (c.args.clauses.now).vars (c.args.clauses.now).clauses c.in_ok-engine.field-0 c.in-Some.engine c.in_ok-engine.ensures c.in-Some.is);
      derived = judging.derived-start (c.args.clauses.now).clauses c.args.lines.now;
    }

pub pack-requires : goal.pack-requires
pack-requires c =
    judging.known-fits (c.args.clauses.now).vars c.vars-vars.result c.args.lines.now c.loop-at.at c.line.result.now c.requires c.line.ensures
    (c.vars-vars.ensures.number ∙ c.loop-at.invariant.stands.same_vars) c.vars-vars.ensures.fits

pub follows-requires-clause-calm : goal.follows-requires-clause-calm
follows-requires-clause-calm c = c.loop-at.invariant.stands.calm

pub follows-requires-clause-known : goal.follows-requires-clause-known
follows-requires-clause-known c =
    judging.known-line (c.args.clauses.now).vars c.loop-at.base.vars c.args.lines.now c.loop-at.at c.line.result.now c.as_slice-line.result.now c.requires c.line.ensures
    (c.as_slice-line.ensures.value ∙ c.in_ok-pack.ensures) c.loop-at.invariant.stands.same_vars

pub returns-then-not-good : goal.returns-then-not-good
returns-then-not-good c =
    judging.next-gap (c.args.clauses.now).vars (c.args.clauses.now).clauses c.args.lines.now c.loop-at.at c.line.result.now c.as_slice-line.result.now c.loop-at.base c.loop-at.invariant.stands c.loop-at.invariant.derived c.line.ensures
    (c.as_slice-line.ensures.value ∙ c.in_ok-pack.ensures) (λ follows. false≢true (sym c.if-not-good.true ∙ (c.in_ok-tried.ensures.exact).1 follows))

pub add_line-requires-clause-calm : goal.add_line-requires-clause-calm
add_line-requires-clause-calm c = subst (λ (s : State). IsCalm s) (sym c.in_ok-tried.ensures.same) c.loop-at.invariant.stands.calm

pub add_line-requires-clause-known : goal.add_line-requires-clause-known
add_line-requires-clause-known c =
    judging.known-line (c.args.clauses.now).vars c.in_ok-tried.tried.vars c.args.lines.now c.loop-at.at c.line.result.now c.as_slice-line.result.now c.requires c.line.ensures
    (c.as_slice-line.ensures.value ∙ c.in_ok-pack.ensures) (judging.vars-along c.loop-at.base c.in_ok-tried.tried (c.args.clauses.now).vars c.in_ok-tried.ensures.same c.loop-at.invariant.stands.same_vars)

pub returns-in_default-2 : goal.returns-in_default-2
returns-in_default-2 c =
    judging.next-closed (c.args.clauses.now).vars (c.args.clauses.now).clauses c.args.lines.now c.loop-at.at c.line.result.now c.as_slice-line.result.now c.loop-at.base c.in_ok-tried.tried c.in_ok-next.field-0 c.loop-at.invariant.stands
    c.loop-at.invariant.derived c.line.ensures (c.as_slice-line.ensures.value ∙ c.in_ok-pack.ensures) c.in_ok-tried.ensures.same ((c.in_ok-tried.ensures.exact).0 c.if-not-good.false) c.in_ok-next.ensures c.in_default-2.is

pub loop-at-preserved : goal.loop-at-preserved
loop-at-preserved c =
    record {
      stands = judging.next-stands (c.args.clauses.now).vars (c.args.clauses.now).clauses c.args.lines.now c.loop-at.at c.line.result.now c.as_slice-line.result.now c.loop-at.base c.in_ok-tried.tried c.in_ok-next.field-0 c.in-Some-2.next
          c.loop-at.invariant.stands c.line.ensures (c.as_slice-line.ensures.value ∙ c.in_ok-pack.ensures) c.in_ok-tried.ensures.same c.in_ok-next.ensures c.in-Some-2.is;
      derived = judging.next-derived (c.args.clauses.now).vars (c.args.clauses.now).clauses c.args.lines.now c.loop-at.at c.line.result.now c.as_slice-line.result.now c.loop-at.base c.loop-at.invariant.stands
          c.loop-at.invariant.derived c.line.ensures (c.as_slice-line.ensures.value ∙ c.in_ok-pack.ensures) ((c.in_ok-tried.ensures.exact).0 c.if-not-good.false);
    }

pub returns : goal.returns
returns c =
    let done : length c.args.lines.now ≤ c.loop-at.at = omega arith in
    judging.derived-end (c.args.clauses.now).clauses c.args.lines.now c.loop-at.at c.loop-at.invariant.derived done
