use Rattle.std.proofs.Common.{◌≡◌, ℕ, ◌+◌, List, sym, ◌∙◌, subst, arith}
use Rattle.race_set.specs.declared.reading.Reading.{Reading}
use Rattle.race_set.specs.Places.{recorded_in}
use Rattle.race_set.specs.Readings.{AddsReadings, AreBefore}
use Rattle.race_set.proofs.Gathered.{Numbered, span_more, span_all}
use Rattle.race_set.proofs.InOrder.{one_more}
use Rattle.race_set.proofs.reading.add_span.Goals as goal

pub loop-i-preserved : goal.loop-i-preserved
loop-i-preserved c =
    let shapes = c.args.shapes.now in
    let recorded = recorded_in c.args.recorded.now in
    let byte : c.reading_of.result.byte ≡ _ = c.reading_of.ensures.byte ∙ c.byte.ensures in (
      subst (λ (rs : List Reading). AddsReadings shapes recorded (λ (x b : ℕ). (x ≡ c.args.reader) × Numbered c.args.span (c.loop-i.i + 1) b)
          c.args.readings.now rs) (sym c.in_ok-push.ensures)
          (span_more shapes recorded c.args.reader c.args.span c.loop-i.i c.reading_of.result c.args.readings.now c.loop-i.readings
          c.reading_of.ensures.reader byte c.reading_of.ensures.reading c.loop-i.invariant.0),
      λ are. subst (λ (rs : List Reading). AreBefore shapes c.args.reader (c.loop-i.i + 1) rs) (sym c.in_ok-push.ensures)
          (one_more shapes c.args.reader c.loop-i.i c.args.span c.reading_of.result c.loop-i.readings c.requires.place (omega arith) (omega arith) c.loop-i-test.true
          c.reading_of.ensures.reader byte (c.loop-i.invariant.1 are)),
    )

pub returns-clause-readings : goal.returns-clause-readings
returns-clause-readings c =
    span_all c.args.shapes.now (recorded_in c.args.recorded.now) c.args.reader c.loop-i.i c.args.span c.args.readings.now c.loop-i.readings
    (omega arith) (omega arith) (omega (arith, c.loop-i-test.false)) c.loop-i.invariant.0
