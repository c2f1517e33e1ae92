use Rattle.std.proofs.Common.{List, sym, ◌∙◌, ap, subst}
use Rattle.order_clauses.specs.declared.order_lit.OrderLit.{OrderLit}
use Rattle.order_clauses.specs.Grid.{IsKnownOrder}
use Rattle.source_clauses.specs.declared.reader.Candidate.{Candidate}
use Rattle.source_clauses.specs.Sees.{between}
use Rattle.source_clauses.proofs.Alike.{between_known}
use Rattle.source_clauses.proofs.newest.add_newest.Goals as goal

pub add_implied-requires-clause-follows_known : goal.add_implied-requires-clause-follows_known
add_implied-requires-clause-follows_known c =
    subst (λ (o : OrderLit). IsKnownOrder c.args.clauses.now.vars o)
    (sym (c.between-follows.ensures ∙ ap (λ (cs : List Candidate). between c.args.table.now cs c.args.j c.args.i) c.as_slice-2.ensures))
    (between_known c.args.clauses.now.vars c.args.table.now c.args.reader.now c.requires.reader_known c.args.j c.args.i c.requires.j_in c.requires.i_in)
