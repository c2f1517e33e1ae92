use Rattle.std.proofs.Common.{◌≡◌, false}
use Rattle.clause_store.specs.declared.lit.Lit.{Lit}
use Rattle.clause_store.specs.Literals.{literal_value}
use Rattle.std.proofs.Common.{get_or, arith, ◌∙◌}
use Rattle.bit_clauses.specs.Bitwise.{gate_of, bitwise_value}
use Rattle.bit_clauses.specs.Circuit.{Decides, DecidesAll}
use Rattle.bit_clauses.specs.Spelled.{spelled}
use Rattle.std.proofs.lemmas.List.Elements.{All-get_or}
use Rattle.bit_clauses.proofs.Adders.{known_later}
use Rattle.bit_clauses.proofs.Built.{built-none, built-more, built-all, joined_value, joined-none, joined-more, joined-all}
use Rattle.bit_clauses.proofs.bitwise.bitwise.Goals as goal

pub loop-i-init : goal.loop-i-init
loop-i-init c = record {
  built = built-none c.args.clauses.now (λ v. DecidesAll v c.args.left.now × DecidesAll v c.args.right.now) c.new-bits.result (joined_value c.args.gate c.args.left.now c.args.right.now) c.new-bits.ensures
      (λ w. joined-none c.args.gate c.args.left.now c.args.right.now w);
  left_known = c.requires.left_known;
  right_known = c.requires.right_known;
}

pub loop-i-preserved : goal.loop-i-preserved
loop-i-preserved c =
    let d : Lit = record { var = 0; positive = false } in
    let left = c.args.left.now in
    let right = c.args.right.now in
    let i = c.loop-i.i in
    let step = c.in_ok-bit.ensures in
    record {
      built = built-more c.args.clauses.now c.loop-i.clauses c.one.new.clauses (λ v. DecidesAll v left × DecidesAll v right) (λ v. Decides v (get_or left i d) × Decides v (get_or right i d))
          (λ w. literal_value w c.in_ok-bit.bit ≡ gate_of c.args.gate (literal_value w (get_or left i d)) (literal_value w (get_or right i d)))
          c.loop-i.bits c.push.new.self c.in_ok-bit.bit (joined_value c.args.gate left right) i c.loop-i.invariant.built step.circuit step.known c.in_ok-push.ensures
          (λ v g. (All-get_or (Decides v) left i d c.loop-i-test.true g.0, All-get_or (Decides v) right i d (omega (arith, c.loop-i-test.true, c.requires.same_width)) g.1))
          (λ w e. joined-more c.args.gate c.in_ok-bit.bit left right w i d c.loop-i-test.true c.requires.same_width e);
      left_known = known_later c.loop-i.clauses.vars c.one.new.clauses.vars left step.circuit.grows.vars c.loop-i.invariant.left_known;
      right_known = known_later c.loop-i.clauses.vars c.one.new.clauses.vars right step.circuit.grows.vars c.loop-i.invariant.right_known;
    }

pub returns-clause-circuit : goal.returns-clause-circuit
returns-clause-circuit c =
    built-all c.args.clauses.now c.loop-i.clauses (λ v. DecidesAll v c.args.left.now × DecidesAll v c.args.right.now) c.loop-i.bits (joined_value c.args.gate c.args.left.now c.args.right.now) c.loop-i.i
    (λ w. spelled w c.loop-i.bits ≡ bitwise_value c.args.gate (spelled w c.args.left.now) (spelled w c.args.right.now)) c.loop-i.invariant.built
    (λ w e. e ∙ joined-all c.args.gate c.args.left.now c.args.right.now w c.loop-i.i c.loop-i-test.false c.requires.same_width)
