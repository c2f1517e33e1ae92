use Rattle.std.proofs.Common.{◌≡◌, ℕ, ◌+◌, ◌-◌, List, [], Bool, sym, subst, ◌∙◌, arith}
use Rattle.sat_core.specs.Analyses.{IsLeft, IsKey}
use Rattle.sat_core.proofs.Leaving.{left-expand, left-key}
use Rattle.sat_core.proofs.analysis.find_cut.Goals as goal

pub loop-at-preserved : goal.loop-at-preserved
loop-at-preserved c =
    let up : (c.loop-at.at - 1) + 1 ≡ c.loop-at.at = omega arith in
    record {
      bound = omega arith;
      sized = c.mark_all.ensures.same_length ∙ c.loop-at.invariant.sized;
      left =
          left-expand (c.args.engine.now).clauses (c.args.engine.now).steps c.loop-at.marks.items c.mark_all.new.marks.items (c.loop-at.at - 1) c.in-Expand.clause c.clause.result.now []
          (subst (λ (n : ℕ). IsLeft (c.args.engine.now).clauses (c.args.engine.now).steps c.loop-at.marks.items n []) (sym up) c.loop-at.invariant.left)
          c.len-at.ensures.walk c.in-Expand.ensures c.clause.ensures.clause c.mark_all.ensures;
    }

pub returns-in-Key-clause-found : goal.returns-in-Key-clause-found
returns-in-Key-clause-found c =
    let up : (c.loop-at.at - 1) + 1 ≡ c.loop-at.at = omega arith in
    let key : IsKey (c.args.engine.now).steps c.args.is_first.now c.loop-at.marks.items (c.loop-at.at - 1) c.in-Key.decision =
    subst (λ (marks : List Bool). IsKey (c.args.engine.now).steps c.args.is_first.now marks (c.loop-at.at - 1) c.in-Key.decision) c.deref.ensures.value c.in-Key.ensures
    in
    record {
      step = key.step;
      there = key.there;
      decided = key.decided;
      upto = key.upto;
      allowed = key.allowed;
      left =
          left-key (c.args.engine.now).clauses (c.args.engine.now).steps c.args.is_first.now c.loop-at.marks.items (c.loop-at.at - 1) c.in-Key.decision
          (subst (λ (n : ℕ). IsLeft (c.args.engine.now).clauses (c.args.engine.now).steps c.loop-at.marks.items n []) (sym up) c.loop-at.invariant.left) key;
    }
