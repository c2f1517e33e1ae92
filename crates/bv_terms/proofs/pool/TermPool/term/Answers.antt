use Rattle.std.proofs.Common.{◌<◌, ◌^◌, List, length, subst, sym}
use Rattle.bv_terms.specs.Placed.{shapes_of}
use Rattle.bv_terms.specs.Shapes.{Shape}
use Rattle.bv_terms.specs.Values.{value_at, Assignment}
use Rattle.bv_terms.proofs.Bounds.{width_within, value_below}
use Rattle.bv_terms.proofs.pool.TermPool.term.Goals as goal

pub returns-clause-within : goal.returns-clause-within
returns-clause-within c =
    let nodes = shapes_of c.self.inside.terms.keys in
    let inside = subst (λ (l : List Shape). c.args.id.number < length l) (sym c.self.view_is) c.requires in
    width_within nodes c.self.invariant.fitting c.args.id.number c.in-Some.term.now.width inside
    (c.self.invariant.widths c.args.id.number c.in-Some.term.now (sym c.in-Some.ensures.key))

pub returns-clause-below : goal.returns-clause-below
returns-clause-below c =
    let nodes = shapes_of c.self.inside.terms.keys in
    let inside = subst (λ (l : List Shape). c.args.id.number < length l) (sym c.self.view_is) c.requires in
    subst (λ (l : List Shape). (w : Assignment) → value_at w l c.args.id.number < 2 ^ c.in-Some.term.now.width) c.self.view_is
    (value_below nodes c.self.invariant.fitting c.args.id.number c.in-Some.term.now.width inside
    (c.self.invariant.widths c.args.id.number c.in-Some.term.now (sym c.in-Some.ensures.key)))
