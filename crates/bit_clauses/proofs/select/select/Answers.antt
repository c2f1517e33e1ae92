use Rattle.std.proofs.Common.{◌≡◌, false, cond, get_or, arith, ◌∙◌}
use Rattle.clause_store.specs.declared.lit.Lit.{Lit}
use Rattle.clause_store.specs.Literals.{literal_value}
use Rattle.bit_clauses.specs.Circuit.{Decides, DecidesAll}
use Rattle.bit_clauses.specs.Spelled.{spelled}
use Rattle.std.proofs.lemmas.List.Elements.{All-get_or}
use Rattle.bit_clauses.proofs.Adders.{known_later}
use Rattle.bit_clauses.proofs.Gates.{by_mux}
use Rattle.bit_clauses.proofs.Built.{built-none, built-more, built-all, chosen_value, chosen-none, chosen-more, chosen-all}
use Rattle.bit_clauses.proofs.select.select.Goals as goal

pub loop-i-init : goal.loop-i-init
loop-i-init c = record {
  built = built-none c.args.clauses.now (λ v. Decides v c.args.when × DecidesAll v c.args.first.now × DecidesAll v c.args.second.now) c.new-bits.result (chosen_value c.args.when c.args.first.now c.args.second.now) c.new-bits.ensures
      (λ w. chosen-none c.args.when c.args.first.now c.args.second.now w);
  when_known = c.requires.when_known;
  first_known = c.requires.first_known;
  second_known = c.requires.second_known;
}

pub loop-i-preserved : goal.loop-i-preserved
loop-i-preserved c =
    let d : Lit = record { var = 0; positive = false } in
    let when = c.args.when in
    let first = c.args.first.now in
    let second = c.args.second.now in
    let i = c.loop-i.i in
    let step = by_mux c.loop-i.clauses c.mux.new.clauses when (get_or first i d) (get_or second i d) c.in_ok-bit.bit c.in_ok-bit.ensures.gate c.in_ok-bit.ensures.given in
    record {
      built = built-more c.args.clauses.now c.loop-i.clauses c.mux.new.clauses (λ v. Decides v when × DecidesAll v first × DecidesAll v second)
          (λ v. Decides v when × Decides v (get_or first i d) × Decides v (get_or second i d))
          (λ w. literal_value w c.in_ok-bit.bit ≡ cond (literal_value w when) (literal_value w (get_or first i d)) (literal_value w (get_or second i d)))
          c.loop-i.bits c.push.new.self c.in_ok-bit.bit (chosen_value when first second) i c.loop-i.invariant.built step
          (omega (arith, c.in_ok-bit.ensures.gate.fresh, c.in_ok-bit.ensures.gate.vars)) c.in_ok-push.ensures
          (λ v g. (g.0, All-get_or (Decides v) first i d c.loop-i-test.true g.1, All-get_or (Decides v) second i d (omega (arith, c.loop-i-test.true, c.requires.same_width)) g.2))
          (λ w e. chosen-more when c.in_ok-bit.bit first second w i d c.loop-i-test.true c.requires.same_width e);
      when_known = omega (arith, c.loop-i.invariant.when_known, step.grows.vars);
      first_known = known_later c.loop-i.clauses.vars c.mux.new.clauses.vars first step.grows.vars c.loop-i.invariant.first_known;
      second_known = known_later c.loop-i.clauses.vars c.mux.new.clauses.vars second step.grows.vars c.loop-i.invariant.second_known;
    }

pub returns-clause-circuit : goal.returns-clause-circuit
returns-clause-circuit c =
    built-all c.args.clauses.now c.loop-i.clauses (λ v. Decides v c.args.when × DecidesAll v c.args.first.now × DecidesAll v c.args.second.now) c.loop-i.bits (chosen_value c.args.when c.args.first.now c.args.second.now) c.loop-i.i
    (λ w. spelled w c.loop-i.bits ≡ cond (literal_value w c.args.when) (spelled w c.args.first.now) (spelled w c.args.second.now)) c.loop-i.invariant.built
    (λ w e. e ∙ chosen-all c.args.when c.args.first.now c.args.second.now w c.loop-i.i c.loop-i-test.false c.requires.same_width)
