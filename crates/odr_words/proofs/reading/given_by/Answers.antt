use Rattle.std.proofs.Common.{Some, None}
use Rattle.odr_words.specs.Read.{seen_reading}
use Rattle.odr_words.proofs.GivenLemmas.{turn, at_first}
use Rattle.odr_words.proofs.reading.given_by.Goals as goal

pub loop-word-init : goal.loop-word-init
loop-word-init c = at_first c.args.command _

pub returns-in_err-reading : goal.returns-in_err-reading
returns-in_err-reading c =
    rw c.from_residual.ensures
    (turn c.args.command (seen_reading c.loop-word.reading) c.args.words.now c.loop-word.word-index c.word-item.result c.as_str.result.now
    None c.loop-word-test.true c.word-item.is c.as_str.ensures.value c.loop-word.invariant c.in_err-reading.ensures)

pub loop-word-preserved : goal.loop-word-preserved
loop-word-preserved c =
    turn c.args.command (seen_reading c.loop-word.reading) c.args.words.now c.loop-word.word-index c.word-item.result c.as_str.result.now
    (Some (seen_reading c.in_ok-reading.reading)) c.loop-word-test.true c.word-item.is c.as_str.ensures.value c.loop-word.invariant c.in_ok-reading.ensures
