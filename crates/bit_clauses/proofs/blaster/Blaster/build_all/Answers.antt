use Rattle.std.proofs.Common.{◌∙◌, inl, inr, refl, sym, subst, arith}
use Rattle.std.proofs.lemmas.Bool.{cases_eq}
use Rattle.bit_clauses.specs.Bits.{IsBuilt}
use Rattle.bit_clauses.specs.Marks.{IsMarked}
use Rattle.bit_clauses.proofs.Blasted.{blasted_none, blasted_both, built_later}
use Rattle.bit_clauses.proofs.blaster.Blaster.build_all.Goals as goal

pub loop-number-init : goal.loop-number-init
loop-number-init c = record {
  blasted = blasted_none c.args.self.now c.args.pool.now c.args.clauses.now c.args.root.number c.requires.known;
  size = refl;
  built = λ j h m. absurd (omega (arith, h));
}

pub step-requires-clause-known : goal.step-requires-clause-known
step-requires-clause-known c = c.loop-number.invariant.blasted.known

pub step-requires-clause-sure : goal.step-requires-clause-sure
step-requires-clause-sure c = c.loop-number.invariant.blasted.keeps.sure c.args.yes c.requires.sure

pub step-requires-clause-within : goal.step-requires-clause-within
step-requires-clause-within c = omega (arith, c.requires.needed.count, c.requires.within, c.loop-number-test.true)

pub step-requires-clause-room : goal.step-requires-clause-room
step-requires-clause-room c = omega (arith, c.requires.needed.count, c.requires.room, c.loop-number.invariant.size, c.loop-number-test.true)

pub step-requires-clause-children : goal.step-requires-clause-children
step-requires-clause-children c = λ m node child found listed below. c.loop-number.invariant.built child below (c.requires.needed.closed c.loop-number.number child node m found listed)

pub loop-number-preserved : goal.loop-number-preserved
loop-number-preserved c =
    let before = c.loop-number.invariant in
    let number = c.loop-number.number in
    let root = c.args.root.number in
    let mid = c.loop-number.self in
    let new = c.step.new.self in
    let steps = c.in_ok-step.ensures.steps in
    let now = steps.blasted root (λ m. c.requires.needed.only number m) in
    record {
      blasted = blasted_both c.args.self.now mid new c.args.pool.now c.args.clauses.now c.loop-number.clauses c.step.new.clauses root before.blasted now;
      size = steps.size ∙ before.size;
      built = λ j h m. elim (cases_eq j number) [
        | inl e ↦ subst (λ n. IsBuilt new n) (sym e) (steps.built (subst (IsMarked c.args.marks.now) e m))
        | inr other ↦ built_later mid new j now.keeps (before.built j (omega (arith, h, other)) m)
      ];
    }

pub returns-clause-blasted : goal.returns-clause-blasted
returns-clause-blasted c = c.loop-number.invariant.blasted

pub returns-clause-built : goal.returns-clause-built
returns-clause-built c = c.loop-number.invariant.built c.args.root.number (omega (arith, c.requires.needed.count, c.loop-number-test.false)) c.requires.needed.root_marked
