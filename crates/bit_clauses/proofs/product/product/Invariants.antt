use Rattle.bit_clauses.proofs.Products.{IsMultiplied}
use Rattle.bit_clauses.proofs.product.product.Given as goal

abbrev pub invariant-loop-digit : goal.invariant-loop-digit
invariant-loop-digit l = IsMultiplied l.initial.clauses l.clauses l.left l.right l.low l.high l.fn.no l.digit-index
