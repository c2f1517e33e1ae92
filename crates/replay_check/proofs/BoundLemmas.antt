-- No thread of a replay retires more than the log's valid number of steps.
use Rattle.std.specs.Prelude.{◌≡◌, ◌≢◌, ℕ, zero, suc, ◌+◌, ◌-◌, ◌<◌, ◌≤◌, Bool, true, false, List, length, map, Option, Some, None, refl}
use Rattle.std.proofs.Common.{sym, ◌∙◌, ap, arith, get_or, set, eqb, eq-eqb, ltb}
use Rattle.std.proofs.lemmas.Bool.{and_parts, eqb-true, ltb-true, ltb-false, false≢true}
use Rattle.std.proofs.lemmas.List.{length-set, length-map, get_or-append_right}
use Rattle.std.proofs.lemmas.List.Sums.{get_or-le-sum_by}
use Rattle.elf_image.specs.declared.write.Write.{Write}
use Rattle.elf_image.specs.Layout.{Layout}
use Rattle.odr_log.specs.declared.log.Call.TheVariants as call
use Rattle.odr_log.specs.declared.log.Log.{Log}
use Rattle.odr_log.specs.declared.log.ThreadLog.{ThreadLog}
use Rattle.odr_log.specs.Grammar.{steps_of}
use Rattle.rv_model.specs.declared.state.Local.{Local}
use Rattle.rv_model.specs.declared.state.Thread.{Thread}
use Rattle.rv_model.specs.declared.state.Core.{Core}
use Rattle.rv_model.specs.declared.state.State.{State}
use Rattle.rv_model.specs.declared.state.Event.{Event}
use Rattle.rv_model.specs.declared.state.Note.{Note}
use Rattle.rv_model.specs.declared.state.Note.TheVariants as note
use Rattle.rv_model.specs.declared.hearing.Outcome.{Outcome}
use Rattle.rv_model.specs.declared.hearing.Outcome.TheVariants.{Faults, Goes}
use Rattle.rv_model.specs.Thread.{losing, no_thread}
use Rattle.rv_model.specs.Step.{thread_at, applied, child_of, effect, step, memory_of, next_instr, heard_at}
use Rattle.rv_model.specs.Run.{nothing_logged, logged, is_counted, agrees_by}
use Rattle.rv_model.proofs.Progress.{threads_then, own_then, other_then, IsQuiet, quiet-act_at}
use Rattle.rv_model.proofs.Bounds.{AtMost, child_zero, kept_then}

-- a step with this note leaves its thread below the bound
abbrev IsBelow : ℕ → ℕ → Note → Type 0
IsBelow n retired (note.Faulted fault) = Unit {0}
IsBelow n retired note.Nothing = retired < n
IsBelow n retired (note.Branch taken) = retired < n
IsBelow n retired (note.Jump target) = retired < n
IsBelow n retired (note.Called call) = retired < n

below_quiet : (n : ℕ) (local : Local) (writes : List Write) (shown : Note) (retired : ℕ) → IsQuiet (Goes local writes shown) → IsBelow n retired shown → retired < n
below_quiet n local writes (note.Faulted fault) retired quiet below = absurd quiet
below_quiet n local writes note.Nothing retired quiet below = below
below_quiet n local writes (note.Branch taken) retired quiet below = below
below_quiet n local writes (note.Jump target) retired quiet below = below
below_quiet n local writes (note.Called call) retired quiet below = below

outcome_kept : (n : ℕ) (core : Core) (t : ℕ) (reservation : Option ℕ) (o : Outcome) → IsQuiet o → t < length core.threads → AtMost n core
    → IsBelow n (thread_at core t).retired (applied core t reservation o).note → AtMost n (applied core t reservation o).core
outcome_kept n core t reservation (Faults fault) quiet within most below = record { each = most.each }
outcome_kept n core t reservation (Goes local writes shown) quiet within most below =
    let less : (thread_at core t).retired < n = below_quiet n local writes shown (thread_at core t).retired quiet below in
    record {
      each = λ (u : ℕ).
          kept_then t u n writes core.threads (child_of (thread_at core t).local shown)
          (record { local = local; reservation = reservation; retired = (thread_at core t).retired + 1 }) within most.each (omega arith)
          (child_zero (thread_at core t).local shown) (ltb u (length core.threads)) refl (eqb u t) refl;
    }

step_kept : (image : Layout) (state : State) (t n : ℕ) → t < length state.core.threads → AtMost n state.core
    → IsBelow n (thread_at state.core t).retired (step image state t).note → AtMost n (step image state t).state.core
unfolding step effect
step_kept image state t n within most below =
    outcome_kept n state.core t _ _
    (quiet-act_at (thread_at state.core t).local (next_instr image state.core t) (heard_at image (memory_of image state) state.core t)) within most below

-- a step that the log counts is below its steps

counted_below : (log : Log) (event : Event) (n : ℕ) → steps_of log ≤ n → is_counted log event ≡ true → event.at < n
counted_below log event n valid e =
    let parts : (ltb event.thread (length log.threads) ≡ true) × (ltb event.at (logged log event.thread).steps ≡ true) =
    and_parts (ltb event.thread (length log.threads)) (ltb event.at (logged log event.thread).steps) e in
    let there : event.thread < length log.threads = ltb-true event.thread (length log.threads) parts.0 in
    let less : event.at < (logged log event.thread).steps = ltb-true event.at (logged log event.thread).steps parts.1 in
    let part : (logged log event.thread).steps ≤ steps_of log = get_or-le-sum_by (λ (l : ThreadLog). l.steps) log.threads event.thread nothing_logged there in
    omega arith

agrees_below : (log : Log) (happened : List Event) (event : Event) (shown : Note) (n : ℕ) → steps_of log ≤ n → agrees_by log happened event shown ≡ true → IsBelow n event.at shown
agrees_below log happened event note.Nothing n valid e = counted_below log event n valid e
agrees_below log happened event (note.Branch taken) n valid e = counted_below log event n valid (and_parts _ _ e).0
agrees_below log happened event (note.Jump target) n valid e = counted_below log event n valid (and_parts _ _ e).0
agrees_below log happened event (note.Called call) n valid e = counted_below log event n valid (and_parts _ _ e).0
agrees_below log happened event (note.Faulted fault) n valid e = tt

pub agreed_kept : (image : Layout) (log : Log) (state : State) (happened : List Event) (t n : ℕ) → steps_of log ≤ n → t < length state.core.threads → AtMost n state.core
    → agrees_by log happened (record { thread = t; at = (thread_at state.core t).retired; note = (step image state t).note }) (step image state t).note ≡ true
    → AtMost n (step image state t).state.core
agreed_kept image log state happened t n valid within most e =
    step_kept image state t n within most
    (agrees_below log happened (record { thread = t; at = (thread_at state.core t).retired; note = (step image state t).note }) (step image state t).note n valid e)
