-- The recorded order as a test that only looks at the calls.
use Rattle.std.specs.Prelude.{Bool, false, ◌&&◌, ◌||◌, List, [], ◌∷◌, nat_eq, nat_lt, nat_le, if◌then◌else◌}
use Rattle.odr_log.specs.declared.log.CallRec.{CallRec}
use Rattle.odr_log.specs.declared.log.Log.{Log}
use Rattle.odr_log.specs.declared.log.Pos.{Pos}
use Rattle.rv_model.specs.Run.{logged}
use Rattle.rv_model.specs.Walk.{makes}
use Rattle.guided_walk.specs.Told.{place_of}

-- whether a step is another one of its thread, or stands before it there
abbrev pub up_to : Pos → Pos → Bool
up_to z p = nat_eq p.thread z.thread && nat_le p.step z.step

-- a call of the step's thread that stands up to it, or the spawn that made the thread
abbrev pub leads : Pos → CallRec → Bool
leads p r = up_to p (place_of r) || makes p.thread r.call

abbrev pub passes : (CallRec → Bool) → List CallRec → Bool
passes test [] = false
passes test (r ∷ records) = test r || passes test records

-- whether a step stands up to a call of its thread, and that call or a later one leads to another step
abbrev pub is_via : Pos → Pos → List CallRec → Bool
is_via p q [] = false
is_via p q (r ∷ records) = if up_to (place_of r) p then passes (leads q) (r ∷ records) else is_via p q records

abbrev pub is_counted_step : Log → Pos → Bool
is_counted_step log p = nat_lt p.step (logged log p.thread).steps

-- of two counted steps
abbrev pub counted_before : Log → Pos → Pos → Bool
counted_before log p q = if nat_eq p.thread q.thread then nat_lt p.step q.step else is_via p q log.calls

-- whether the log records that one step stands before another
abbrev pub recorded_before : Log → Pos → Pos → Bool
recorded_before log p q = is_counted_step log p && (is_counted_step log q && counted_before log p q)
