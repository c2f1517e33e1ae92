-- The calls through which a step is before those of other threads, or after them.
use Rattle.std.specs.Prelude.{◌≡◌, ℕ, ◌≤◌, ◌⊎◌, Bool, false, max, nat_le, slice_get, Option, Some, None, MatchOption}
use Rattle.odr_log.specs.declared.log.Call.TheVariants as call
use Rattle.odr_log.specs.declared.log.Log.{Log}
use Rattle.odr_log.specs.declared.log.Pos.{Pos}
use Rattle.rv_model.specs.RecordedOrder.{Counted, IsStepOf}

-- a counted call of a thread at this step, by the number of its record
abbrev pub IsCallAt : Log → ℕ → ℕ → ℕ → Type 0
IsCallAt log thread step number = Counted log (record { thread = thread; step = step }) × IsStepOf log number (record { thread = thread; step = step })

-- the number of a call of its thread at a step or after it
abbrev pub Leaves : Log → Pos → ℕ → Type 0
Leaves log p number = (step : ℕ) × (p.step ≤ step) × IsCallAt log p.thread step number

-- the number of a call of its thread at a step or before it
abbrev pub Called : Log → Pos → ℕ → Type 0
Called log p number = (step : ℕ) × (step ≤ p.step) × IsCallAt log p.thread step number

-- the number of a counted spawn that made the step's thread
abbrev pub Made : Log → ℕ → ℕ → Type 0
Made log thread number = (spawn : Pos) × (entry : ℕ) × Counted log spawn × (slice_get log.calls number ≡ Some (record { tid = spawn.thread; at = spawn.step; call = call.Spawn entry (Some thread) }))

-- either of the two
abbrev pub Reached : Log → Pos → ℕ → Type 0
Reached log p number = Called log p number ⊎ Made log p.thread number

-- the least number with a property, none where no number has it
abbrev pub IsLeast : (ℕ → Type 0) → Option ℕ → Type 0
IsLeast P least = MatchOption least ((n : ℕ) → P n → ⊥) (λ m. P m × ((n : ℕ) → P n → m ≤ n))

-- the greatest number with a property, none where no number has it
abbrev pub IsGreatest : (ℕ → Type 0) → Option ℕ → Type 0
IsGreatest P greatest = MatchOption greatest ((n : ℕ) → P n → ⊥) (λ m. P m × ((n : ℕ) → P n → n ≤ m))

-- the greater number, of those that are there
abbrev pub greater : Option ℕ → Option ℕ → Option ℕ
greater (Some m) (Some n) = Some (max m n)
greater (Some m) None = Some m
greater None n = n

-- whether a number is there and no later than another that is there
abbrev pub meets : Option ℕ → Option ℕ → Bool
meets (Some m) (Some n) = nat_le m n
meets (Some m) None = false
meets None n = false
