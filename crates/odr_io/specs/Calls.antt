-- The calls of a store or a stream in memory, some of which are to fail.
use Rattle.std.specs.Prelude.{ℕ, ◌+◌, ◌-◌, ◌^◌, ◌==◌, Bool, List, min, if◌then◌else◌}
use Rattle.std.specs.List.{list_any}

-- how many calls were made, the numbers of those that are to fail, the first being number 0, and how many failed
pub record CallCount : Type 0 where
  pub made : ℕ
  pub failing : List ℕ
  pub faults : ℕ

-- no call yet
abbrev pub no_calls : List ℕ → CallCount
no_calls failing = record { made = 0; failing = failing; faults = 0 }

-- one more, but for a counter that stands at its end
abbrev pub raised : ℕ → ℕ
raised count = min (count + 1) (2 ^ 64 - 1)

-- the next call is to fail
abbrev pub fails_next : CallCount → Bool
fails_next calls = list_any (λ number. number == calls.made) calls.failing

-- the count after one more call
abbrev pub after_call : CallCount → CallCount
after_call calls = record {
  made = raised calls.made;
  failing = calls.failing;
  faults = if fails_next calls then raised calls.faults else calls.faults;
}
