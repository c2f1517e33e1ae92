use Rattle.std.proofs.Common.{◌≡◌, ℕ, ◌++◌, List, [], ◌∷◌, None, sym, ap, subst, ◌∙◌, arith}
use Rattle.std.proofs.lemmas.Option.{same_Some}
use Rattle.clause_store.specs.declared.lit.Lit.{Lit}
use Rattle.clause_store.specs.Literals.{opposite}
use Rattle.sat_trail.specs.declared.step.Step.{Step}
use Rattle.sat_core.specs.Analyses.{IsGathered}
use Rattle.sat_core.proofs.Gathering.{gathered-start, gathered-learned, top-within}
use Rattle.sat_core.proofs.analysis.gather.Goals as goal

pub loop-at-init : goal.loop-at-init
loop-at-init c =
    let same : c.requires.cut.step ≡ c.step.result = same_Some c.requires.cut.step c.step.result (sym c.requires.cut.there ∙ c.step.ensures) in
    let lit : c.opposite-key.result ≡ opposite c.requires.cut.step.lit = c.opposite-key.ensures ∙ ap (λ (s : Step). opposite s.lit) (sym same) in
    let items : c.push.new.self.items ≡ opposite c.requires.cut.step.lit ∷ [] = c.in_ok-push.ensures.items ∙ ap (λ (xs : List Lit). xs ++ c.opposite-key.result ∷ []) c.new-line.ensures.items ∙ ap (λ (l : Lit). l ∷ []) lit in
    record {
      sized = c.requires.sized;
      gathered =
          subst (λ (line : List Lit). IsGathered c.args.engine.now c.args.is_first.now (c.args.marks.now).items c.args.cut.key c.args.cut.decision line record { to = c.args.cut.decision; top = None }) (sym items)
          (gathered-start c.args.engine.now c.args.is_first.now (c.args.marks.now).items c.args.cut c.len-steps.ensures.path c.requires.cut);
    }

pub literal_at-second-requires : goal.literal_at-second-requires
literal_at-second-requires c =
    top-within c.args.engine.now c.args.is_first.now c.loop-at.marks.items c.args.cut.key c.loop-at.at c.loop-at.line.items c.loop-at.jump c.loop-at.invariant.gathered

pub returns : goal.returns
returns c =
    let zero' : c.loop-at.at ≡ 0 = omega arith in
    let is : IsGathered c.args.engine.now c.args.is_first.now c.loop-at.marks.items c.args.cut.key 0 c.loop-at.line.items c.loop-at.jump =
    subst (λ (n : ℕ). IsGathered c.args.engine.now c.args.is_first.now c.loop-at.marks.items c.args.cut.key n c.loop-at.line.items c.loop-at.jump) zero' c.loop-at.invariant.gathered
    in
    let same : c.step.result ≡ is.step = same_Some c.step.result is.step (sym c.step.ensures ∙ is.there) in
    gathered-learned c.args.engine.now c.args.is_first.now c.loop-at.marks.items c.args.cut.key c.loop-at.line.items c.loop-at.jump c.opposite-key.result c.literal_at-second.result c.len-steps.ensures.path is
    (c.opposite-key.ensures ∙ ap (λ (s : Step). opposite s.lit) same) c.literal_at-second.ensures
