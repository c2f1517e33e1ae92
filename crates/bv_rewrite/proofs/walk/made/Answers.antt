use Rattle.std.proofs.Common.{ℕ, ◌<◌, arith, length, nat_eq, subst, sym}
use Rattle.std.proofs.lemmas.Result.{IfOk-weaker}
use Rattle.indexmap.specs.IndexMap.{get}
use Rattle.bv_terms.specs.Fitting.{IsFitting}
use Rattle.bv_terms.specs.Shapes.{Shape, shape_of}
use Rattle.bv_terms.specs.Values.{width_at}
use Rattle.bv_terms.specs.Variables.{IsTermOf}
use Rattle.bv_rewrite.specs.Simpler.{StandsFor}
use Rattle.bv_rewrite.specs.Walks.{standing}
use Rattle.bv_rewrite.proofs.Walking.{fits_remade, remade_stands, stands}
use Rattle.bv_rewrite.proofs.walk.made.Goals as goal

pub add_by-requires : goal.add_by-requires
add_by-requires g c =
    let old = c.args.pool.now in
    let done = get nat_eq c.args.done.now in
    let stand : (t : ℕ) → t < c.args.term.number → StandsFor old old t (standing done t) = λ t h. stands old done c.requires.done t (omega (arith, h, c.requires.within)) in
    subst (λ (s : Shape). IsFitting (width_at old) (length old) s) (sym c.remade.ensures)
    (fits_remade old (standing done) c.args.term.number (shape_of c.node-node.result) stand c.node-node.ensures.fitting)

pub returns-clause-stands : goal.returns-clause-stands
returns-clause-stands g c =
    let old = c.args.pool.now in
    let new = c.add_by.new.pool in
    let done = get nat_eq c.args.done.now in
    let stand : (t : ℕ) → t < c.args.term.number → StandsFor old old t (standing done t) = λ t h. stands old done c.requires.done t (omega (arith, h, c.requires.within)) in
    let node = c.node-node.ensures in
    IfOk-weaker c.add_by.result _ _
    (λ id h. remade_stands old new (standing done) c.args.term.number id.number (shape_of c.node-node.result) stand c.requires.within node.node node.fitting node.width node.value c.add_by.ensures.older
    (subst (λ (s : Shape). IsTermOf old new s id.number) c.remade.ensures h)) c.add_by.ensures.term
