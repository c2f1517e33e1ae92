use Rattle.std.proofs.Common.{List, ◌+◌, sym, subst}
use Rattle.order_clauses.specs.declared.order_lit.OrderLit.{OrderLit}
use Rattle.source_clauses.specs.Olders.{AreOlders}
use Rattle.source_clauses.proofs.Gathered.{olders_none, olders_more}
use Rattle.source_clauses.proofs.olders.olders_of.Goals as goal

pub loop-i-init : goal.loop-i-init
loop-i-init c =
    subst (λ (os : List OrderLit). AreOlders c.args.clauses.now c.args.clauses.now c.args.table.now c.args.reader.now 0 os) (sym c.new-olders.ensures)
    (olders_none c.args.clauses.now c.args.table.now c.args.reader.now)

pub loop-i-preserved : goal.loop-i-preserved
loop-i-preserved c =
    subst (λ (os : List OrderLit). AreOlders c.args.clauses.now c.older.new.clauses c.args.table.now c.args.reader.now (c.loop-i.i + 1) os)
    (sym c.in_ok-push.ensures)
    (olders_more c.args.clauses.now c.loop-i.clauses c.older.new.clauses c.args.table.now c.args.reader.now c.loop-i.i c.loop-i.olders
    c.in_ok-condition.condition c.loop-i.invariant c.in_ok-condition.ensures.both)
