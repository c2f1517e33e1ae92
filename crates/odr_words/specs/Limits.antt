-- The numbers of options and words: their defaults, and the most that they may be. The most steps of a recording
-- are those of a log.
use Rattle.std.specs.Prelude.{ℕ}

abbrev pub default_seed : ℕ
default_seed = 42

-- steps of a recording
abbrev pub default_steps : ℕ
default_steps = 100000

-- derived lines of an inference
abbrev pub default_lines : ℕ
default_lines = 20000

abbrev pub most_lines : ℕ
most_lines = 1000000000

abbrev pub most_demo : ℕ
most_demo = 40
