use Rattle.std.proofs.Common.{map, drop}
use Rattle.std.specs.String.{string_bytes}
use Rattle.odr_words.specs.Arguments.{word_of}
use Rattle.odr_words.specs.Read.{IsRead, seen_reading}
use Rattle.odr_words.proofs.reading.given_by.Given as goal

abbrev pub invariant-loop-word : goal.invariant-loop-word
invariant-loop-word l =
    IsRead l.command (seen_reading l.reading) (map word_of (map string_bytes (drop l.word-index l.words)))
    (map word_of (map string_bytes l.words))
