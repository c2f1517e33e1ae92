-- The files that a map by names holds.
use Rattle.std.specs.Prelude.{ℕ, List, map, string_bytes, String, Vec}
use Rattle.std.specs.FinMap as finite
use Rattle.std.specs.declared.alloc.Global.{Global}
use Rattle.odr_io.specs.Outside.{Held}

-- the files of these entries
abbrev pub held_in : List (String Global × Vec ℕ Global) → Held
held_in entries = finite.from_entries (map (λ e. (string_bytes e.0, e.1.items)) entries)
