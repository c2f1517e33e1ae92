-- What an order keeps of a log: the counted calls of each thread, by the numbers of their records. Calls at steps that
-- the log doesn't count are in no order.
use Rattle.std.specs.Prelude.{◌≡◌, ℕ, Bool, ◌&&◌, List, [], length, map, filter, nat_eq, nat_lt, slice_index_or, Option, Some, None, fold, if◌then◌else◌}
use Rattle.std.specs.List.{enumerate_from, range_with_len}
use Rattle.odr_log.specs.declared.log.CallRec.{CallRec}
use Rattle.odr_log.specs.declared.log.Log.{Log}
use Rattle.rv_model.specs.Run.{logged}
use Rattle.rv_model.specs.Walk.{makes}
use Rattle.rv_model.specs.CallsFit.{CallsFit}
use Rattle.happens_before.specs.declared.table.Mark.{Mark}
use Rattle.happens_before.specs.declared.table.ThreadCalls.{ThreadCalls}

-- whether the log counts the step of a record
abbrev pub is_counted_record : Log → CallRec → Bool
is_counted_record log r = nat_lt r.at (logged log r.tid).steps

-- the records of a log with their numbers
abbrev pub numbered : Log → List (ℕ × CallRec)
numbered log = enumerate_from 0 log.calls

abbrev pub mark_of : ℕ × CallRec → Mark
mark_of r = record { step = r.1.at; number = r.0 }

-- a counted call of a thread, and a counted spawn that made it

abbrev pub is_call_of : Log → ℕ → CallRec → Bool
is_call_of log thread r = nat_eq r.tid thread && is_counted_record log r

abbrev pub is_maker : Log → ℕ → CallRec → Bool
is_maker log thread r = makes thread r.call && is_counted_record log r

-- the counted calls of a thread
abbrev pub calls_of : Log → ℕ → List Mark
calls_of log thread = map mark_of (filter (λ r. is_call_of log thread r.1) (numbered log))

abbrev pub maker_after : Log → ℕ → Option ℕ → ℕ × CallRec → Option ℕ
maker_after log thread maker r = if is_maker log thread r.1 then Some r.0 else maker

-- the number of the last counted spawn that made a thread
abbrev pub maker_number : Log → ℕ → Option ℕ
maker_number log thread = fold (maker_after log thread) None (numbered log)

abbrev pub calls_of_thread : Log → ℕ → ThreadCalls
calls_of_thread log thread = record { maker = maker_number log thread; calls = calls_of log thread }

-- the counted calls of each thread
abbrev pub order_of : Log → List ThreadCalls
order_of log = map (calls_of_thread log) (range_with_len 0 (length log.threads))

-- The calls of the log fit, and this is the table of its calls.
pub record IsOrderOf (order : List ThreadCalls) (log : Log) : Type 0 where
  pub fit : CallsFit log
  pub table : order ≡ order_of log

-- what an order keeps of a thread, nothing for one that it has not
abbrev pub thread_calls : List ThreadCalls → ℕ → ThreadCalls
thread_calls order thread = slice_index_or order thread (record { maker = None; calls = [] })
