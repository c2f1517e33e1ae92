use Rattle.bv_terms.specs.Shapes.{shape_of}
use Rattle.bv_terms.proofs.Terms.{has_node}
use Rattle.bv_terms.proofs.pool.TermPool.node.Goals as goal

pub returns-clause-width : goal.returns-clause-width
returns-clause-width c = (has_node c.args.self.now c.args.id.number (shape_of c.term.result.node) c.term.ensures.node c.term.ensures.fitting).width

pub returns-clause-value : goal.returns-clause-value
returns-clause-value c = (has_node c.args.self.now c.args.id.number (shape_of c.term.result.node) c.term.ensures.node c.term.ensures.fitting).value
