-- A schedule as a list of steps: each entry is the next step of its thread.
use Rattle.std.specs.Prelude.{ℕ, suc, List, [], ◌∷◌, nat_eq, if◌then◌else◌}
use Rattle.odr_log.specs.declared.log.Pos.{Pos}

-- how many of these steps are of a thread
abbrev pub count : ℕ → List Pos → ℕ
count thread [] = 0
count thread (p ∷ steps) = if nat_eq p.thread thread then suc (count thread steps) else count thread steps

-- the next step of a thread after these
abbrev pub next_of : ℕ → List Pos → Pos
next_of thread done = record { thread = thread; step = count thread done }

-- the steps of a schedule after others, of which the newest stands first
abbrev pub places_after : List Pos → List ℕ → List Pos
places_after done [] = []
places_after done (thread ∷ schedule) = next_of thread done ∷ places_after (next_of thread done ∷ done) schedule

-- the steps of a schedule in their order
abbrev pub places : List ℕ → List Pos
places schedule = places_after [] schedule

-- how often a schedule lists a thread
abbrev pub times : ℕ → List ℕ → ℕ
times thread [] = 0
times thread (next ∷ schedule) = if nat_eq next thread then suc (times thread schedule) else times thread schedule
