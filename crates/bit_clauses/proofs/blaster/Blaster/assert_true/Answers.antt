use Rattle.std.proofs.Common.{◌∙◌, List, false, length, ap, sym}
use Rattle.clause_store.specs.declared.lit.Lit.{Lit}
use Rattle.bit_clauses.proofs.Building.{only_literal}
use Rattle.bit_clauses.proofs.blaster.Blaster.assert_true.Goals as goal

pub returns-clause-asserts : goal.returns-clause-asserts
returns-clause-asserts c =
    let d : Lit = record { var = 0; positive = false } in
    let made = c.in_ok-bits.ensures in
    record {
      between = c.bits.new.clauses;
      literal = c.bit-lit.result;
      blasted = made.blasted;
      built = made.built;
      bits = sym made.bits
          ∙ only_literal c.in_ok-bits.bits c.bit-lit.result d (ap (λ (l : List Lit). length l) made.bits ∙ made.built.count ∙ c.requires.one_bit) (c.bit-lit.ensures d);
      added = c.in_ok-add.ensures.ok;
    }
