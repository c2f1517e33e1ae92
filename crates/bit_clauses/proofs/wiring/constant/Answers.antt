use Rattle.std.proofs.Common.{◌≡◌, ◌+◌, ◌*◌, ◌/◌, ◌^◌, ◌<◌, List, [], ◌∷◌, length, length-append, ap, subst, sym, arith}
use Rattle.std.specs.Prelude.{All}
use Rattle.std.proofs.lemmas.List.Elements.{All-push}
use Rattle.clause_store.specs.declared.lit.Lit.{Lit}
use Rattle.bit_clauses.specs.Spelled.{spelled}
use Rattle.bit_clauses.proofs.Wires.{constant_step, none_left}
use Rattle.bit_clauses.proofs.wiring.constant.Goals as goal

pub loop-yes-preserved : goal.loop-yes-preserved
loop-yes-preserved c =
    let bits = c.loop-yes.bits in
    let l = c.lowest_digit-digit.result in
    let e = c.in_ok-push.ensures in
    record {
      room = omega (arith, ap (λ (x : List Lit). length x) e, length-append bits (l ∷ []), c.loop-yes-test.true);
      same_variable = subst (λ (x : List Lit). All (λ (k : Lit). k.var ≡ c.args.yes.var) x) (sym e)
          (All-push (λ (k : Lit). k.var ≡ c.args.yes.var) bits l c.loop-yes.invariant.same_variable c.lowest_digit-digit.ensures.same_variable);
      so_far = λ w t. subst (λ (x : List Lit). spelled w x + 2 ^ length x * (c.loop-yes.rest / 2) ≡ c.args.value) (sym e)
          (constant_step w bits l c.loop-yes.rest c.args.value (c.loop-yes.invariant.so_far w t) (c.lowest_digit-digit.ensures.digit w t));
    }

pub returns-clause-value : goal.returns-clause-value
returns-clause-value c = λ w t.
    let bits = c.loop-yes.bits in
    let all : length bits ≡ c.args.width = omega (arith, c.loop-yes.invariant.room, c.loop-yes-test.false) in
    none_left (spelled w bits) (2 ^ length bits) c.loop-yes.rest c.args.value (c.loop-yes.invariant.so_far w t) (subst (λ n. c.args.value < 2 ^ n) (sym all) c.requires)
