use Rattle.std.proofs.Common.{◌≡◌, ◌++◌, List, [], ◌∷◌, Bool, sym, ap, subst, ◌∙◌}
use Rattle.std.proofs.lemmas.Option.{same_Some}
use Rattle.clause_store.specs.declared.lit.Lit.{Lit}
use Rattle.clause_store.specs.Literals.{opposite}
use Rattle.sat_trail.specs.declared.step.Step.{Step}
use Rattle.sat_core.specs.Analyses.{IsUnmarked, IsGathered}
use Rattle.sat_core.proofs.Gathering.{gathered-skip, gathered-expand, gathered-keep}
use Rattle.sat_core.proofs.analysis.gather_step.Goals as goal

pub returns-in-Pass-clause-gathered : goal.returns-in-Pass-clause-gathered
returns-in-Pass-clause-gathered c =
    gathered-skip c.args.engine.now c.args.is_first.now (c.args.marks.now).items c.args.key c.args.place (c.args.line.now).items c.args.jump c.lowered.result c.len-steps.ensures.path c.requires.gathered
    (subst (λ (marks : List Bool). IsUnmarked (c.args.engine.now).steps marks c.args.place) c.deref.ensures.value c.in-Pass.ensures) c.lowered.ensures

pub returns-in-Widen-clause-gathered : goal.returns-in-Widen-clause-gathered
returns-in-Widen-clause-gathered c =
    gathered-expand c.args.engine.now c.args.is_first.now (c.args.marks.now).items c.mark_all.new.marks.items c.args.key c.args.place c.in-Widen.clause c.clause.result.now (c.args.line.now).items c.args.jump
    c.len-steps.ensures.walk c.requires.gathered c.in-Widen.ensures c.clause.ensures.clause c.mark_all.ensures

pub returns-in_ok-push-in-Keep-clause-gathered : goal.returns-in_ok-push-in-Keep-clause-gathered
returns-in_ok-push-in-Keep-clause-gathered c =
    let same : (c.in-Keep.ensures).0 ≡ c.step.result = same_Some (c.in-Keep.ensures).0 c.step.result (sym (c.in-Keep.ensures).1 ∙ c.step.ensures) in
    let lit : c.opposite.result ≡ opposite (c.in-Keep.ensures).0.lit = c.opposite.ensures ∙ ap (λ (s : Step). opposite s.lit) (sym same) in
    let items : c.push.new.self.items ≡ (c.args.line.now).items ++ opposite (c.in-Keep.ensures).0.lit ∷ [] = c.in_ok-push-in-Keep.ensures.items ∙ ap (λ (l : Lit). (c.args.line.now).items ++ l ∷ []) lit in
    subst (λ (line : List Lit). IsGathered c.args.engine.now c.args.is_first.now (c.args.marks.now).items c.args.key c.args.place line c.kept.result) (sym items)
    (gathered-keep c.args.engine.now c.args.is_first.now (c.args.marks.now).items c.args.key c.args.place (c.args.line.now).items c.args.jump c.kept.result (c.in-Keep.ensures).0 c.len-steps.ensures.path
    c.requires.gathered (c.in-Keep.ensures).1 (c.in-Keep.ensures).2 c.kept.ensures)
