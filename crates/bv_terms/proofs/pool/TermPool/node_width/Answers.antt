use Rattle.std.proofs.Common.{◌<◌, ◌^◌, subst, sym}
use Rattle.bv_terms.specs.Fitting.{IsWidth}
use Rattle.bv_terms.specs.Placed.{AreFitting}
use Rattle.bv_terms.specs.Shapes.{shape_of}
use Rattle.bv_terms.specs.Values.{node_value, term_at}
use Rattle.bv_terms.proofs.Bounds.{zeros}
use Rattle.bv_terms.proofs.Folding.{bits_of_node}
use Rattle.bv_terms.proofs.pool.TermPool.node_width.Goals as goal

pub returns-clause-within : goal.returns-clause-within
returns-clause-within c =
    let fitting = subst AreFitting c.self.view_is c.self.invariant.fitting in
    subst IsWidth (sym c.width_from.ensures) (bits_of_node zeros c.args.self.now (shape_of c.args.node) fitting c.requires).within

pub returns-clause-below : goal.returns-clause-below
returns-clause-below c w =
    let fitting = subst AreFitting c.self.view_is c.self.invariant.fitting in
    subst (λ n. node_value w (term_at w c.args.self.now) (shape_of c.args.node) < 2 ^ n) (sym c.width_from.ensures) (bits_of_node w c.args.self.now (shape_of c.args.node) fitting c.requires).below
