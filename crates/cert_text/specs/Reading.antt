-- What the reader of certificates looks at.
use Rattle.std.specs.Prelude.{ℕ, Bool, true, false, not, ◌==◌, List, [], ◌∷◌}

-- a line that isn't empty begins here
abbrev pub begins_full : List ℕ → Bool
begins_full [] = false
begins_full (byte ∷ bytes) = not (byte == 10)
