use Rattle.std.proofs.lemmas.Result.{IfOk-weaker}
use Rattle.bv_terms.specs.Shapes.{shape_of}
use Rattle.bv_rewrite.proofs.Parts.{term_through}
use Rattle.bv_rewrite.proofs.add_by.add_by.Goals as goal

pub returns-in-New-clause-term : goal.returns-in-New-clause-term
returns-in-New-clause-term g c =
    IfOk-weaker c.by_book.result _ _
    (λ id h. term_through c.args.pool.now c.by_book.new.pool (shape_of c.args.node) (shape_of c.in-New.plain) id.number c.in-New.ensures h) c.by_book.ensures.term
