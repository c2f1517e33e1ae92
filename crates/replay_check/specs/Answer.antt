-- What a replay answers: the output where the schedule differs nowhere from the log, else the first place where it does.
use Rattle.std.specs.Prelude.{ℕ, List, Option, Some, None}
use Rattle.replay_check.specs.declared.replay.Replayed.{Replayed}
use Rattle.replay_check.specs.declared.replay.Replayed.TheVariants.{Same, Differs}

abbrev pub answer_of : Option ℕ → List ℕ → Replayed
answer_of None output = Same output
answer_of (Some place) output = Differs place
