use Rattle.std.proofs.Common.{◌∙◌, ℕ, arith, length-drop, length-take}
use Rattle.odr_io.proofs.Pieces.{append-piece}
use Rattle.odr_io.proofs.sink.write_all.Goals as goal

pub loop-done-preserved : goal.loop-done-preserved
loop-done-preserved g c = record {
  bounded = omega (arith, length-take {A = ℕ}, length-drop {A = ℕ}, c.in_ok-done.ensures.bound);
  appended =
      rw (c.in_ok-done.ensures.appended, c.loop-done.invariant.appended)
      (append-piece (g.O.Sink.written c.args.sink.now) c.args.bytes.now c.loop-done.done c.in_ok-done.field-0);
  steady = c.in_ok-done.ensures.steady (λ same. cc) ∙ c.loop-done.invariant.steady;
}
