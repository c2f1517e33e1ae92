use Rattle.std.proofs.Common.{◌≡◌, ℕ, ◌<◌, get_or}
use Rattle.race_set.specs.declared.reading.Seen.{Seen}
use Rattle.read_spots.proofs.source.find_seen.Given as goal

abbrev pub invariant-loop-i : goal.invariant-loop-i
invariant-loop-i l = (k : ℕ) (d : Seen) → k < l.i → (get_or l.seen k d).reader ≡ l.reader → (get_or l.seen k d).byte ≡ l.byte → ⊥
