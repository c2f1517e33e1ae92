use Rattle.std.proofs.Common.{subst, sym, ◌∙◌}
use Rattle.bv_terms.specs.Folded.{Itself, Constant}
use Rattle.bv_terms.specs.Placed.{AreFitting}
use Rattle.bv_terms.specs.Shapes.{shape_of}
use Rattle.bv_terms.proofs.Folding.{folded_bits}
use Rattle.bv_terms.proofs.pool.TermPool.folded.Goals as goal

pub returns-then-not-is_folded-clause-folds : goal.returns-then-not-is_folded-clause-folds
returns-then-not-is_folded-clause-folds c = Itself (sym c.is_folded.ensures ∙ c.if-not-is_folded.true)

pub returns-clause-folds : goal.returns-clause-folds
returns-clause-folds c =
    let fitting = subst AreFitting c.self.view_is c.self.invariant.fitting in
    let bits = folded_bits c.args.self.now (shape_of c.args.node) c.node_width-width.result c.value_of-value.result fitting c.requires c.node_width-width.ensures.width c.value_of-value.ensures in
    Constant c.node_width-width.result c.value_of-value.result (sym c.is_folded.ensures ∙ c.if-not-is_folded.false) c.node_width-width.ensures.width bits c.value_of-value.ensures

pub returns-clause-fitting : goal.returns-clause-fitting
returns-clause-fitting c =
    let fitting = subst AreFitting c.self.view_is c.self.invariant.fitting in
    let bits = folded_bits c.args.self.now (shape_of c.args.node) c.node_width-width.result c.value_of-value.result fitting c.requires c.node_width-width.ensures.width c.value_of-value.ensures in
    (bits.within, bits.below)
