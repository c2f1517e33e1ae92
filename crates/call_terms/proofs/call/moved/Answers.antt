use Rattle.std.proofs.Common.{Some, ap, subst, refl, sym, ◌∙◌}
use Rattle.bv_terms.specs.BitVectors.{bit_of}
use Rattle.bv_terms.specs.Shapes.{Const}
use Rattle.call_terms.specs.Moved.{AreConstants}
use Rattle.call_terms.proofs.Access.{constants_stay}
use Rattle.call_terms.proofs.call.moved.Goals as goal

pub returns-clause-moved : goal.returns-clause-moved
returns-clause-moved c =
    let one = c.constants.new.pool in
    let new = c.constant_bit.new.pool in
    record {
      some = sym c.if-not-moves_bytes.false ∙ c.moves_bytes.ensures;
      is = record {
        pos = refl;
        link = refl;
        at = refl;
        guard = c.in_ok-guard.ensures.node ∙ ap (λ b. Some (Const 1 (bit_of b))) c.writes_buffer.ensures;
        guard_bit = c.in_ok-guard.ensures.made.term;
        guard_value = λ w. c.in_ok-guard.ensures.made.value w ∙ ap bit_of c.writes_buffer.ensures;
        reads_are = refl;
        writes = constants_stay one new _ c.in_ok-writes.writes c.constant_bit.ensures.grows (subst (λ l. AreConstants one l c.in_ok-writes.writes) c.written_in.ensures c.in_ok-writes.ensures.constants);
      };
    }
