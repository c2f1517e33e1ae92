use Rattle.std.proofs.Common.{◌≤◌, ◌+◌, length}
use Rattle.cert_text.proofs.ReadLines.{IsRead}
use Rattle.cert_text.proofs.read.read_cert.Given as goal

abbrev pub invariant-loop-rest : goal.invariant-loop-rest
invariant-loop-rest l = record {
  read : IsRead l.fn.bytes l.whole l.lines l.line l.rest;
  counted : l.line + length l.rest ≤ length l.fn.bytes + 2;
}

abbrev pub decreases-loop-rest : goal.decreases-loop-rest
decreases-loop-rest l = length l.rest
