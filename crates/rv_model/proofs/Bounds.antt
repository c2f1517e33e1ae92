-- No thread retires more than one instruction a step.
use Rattle.std.specs.Prelude.{◌≡◌, ◌≢◌, ℕ, zero, suc, ◌+◌, ◌-◌, ◌<◌, ◌≤◌, Bool, true, false, List, length, map, Option, Some, None, refl}
use Rattle.std.proofs.Common.{sym, ◌∙◌, ap, arith, get_or, set, eqb, eq-eqb}
use Rattle.std.proofs.Common.{ltb}
use Rattle.std.proofs.lemmas.Bool.{eqb-true, ltb-true, ltb-false, false≢true}
use Rattle.std.proofs.lemmas.List.{length-set, length-map, get_or-append_right}
use Rattle.elf_image.specs.declared.write.Write.{Write}
use Rattle.elf_image.specs.Layout.{Layout}
use Rattle.odr_log.specs.declared.log.Call.TheVariants as call
use Rattle.rv_model.specs.declared.state.Local.{Local}
use Rattle.rv_model.specs.declared.state.Thread.{Thread}
use Rattle.rv_model.specs.declared.state.Core.{Core}
use Rattle.rv_model.specs.declared.state.State.{State}
use Rattle.rv_model.specs.declared.state.Note.{Note}
use Rattle.rv_model.specs.declared.state.Note.TheVariants as note
use Rattle.rv_model.specs.declared.hearing.Outcome.{Outcome}
use Rattle.rv_model.specs.declared.hearing.Outcome.TheVariants.{Faults, Goes}
use Rattle.rv_model.specs.Thread.{losing, no_thread}
use Rattle.rv_model.specs.Step.{thread_at, applied, child_of, effect, step}
use Rattle.rv_model.proofs.Progress.{threads_then, own_then, other_then}

pub record AtMost (n : ℕ) (core : Core) : Type 0 where
  pub each : (u : ℕ) → (thread_at core u).retired ≤ n

-- a new thread has retired nothing
pub child_zero : (local : Local) (shown : Note) (u : ℕ) → (get_or (child_of local shown) u no_thread).retired ≡ 0
child_zero local (note.Called (call.Spawn entry (Some child))) zero = refl
child_zero local (note.Called (call.Spawn entry (Some child))) (suc u) = refl
child_zero local (note.Called (call.Spawn entry None)) u = refl
child_zero local (note.Called (call.Exit code)) u = refl
child_zero local (note.Called call.EndThread) u = refl
child_zero local (note.Called (call.Join target ok)) u = refl
child_zero local (note.Called (call.Lock mutex ok)) u = refl
child_zero local (note.Called (call.Unlock mutex ok)) u = refl
child_zero local (note.Called (call.TryLock mutex got)) u = refl
child_zero local (note.Called (call.Write bytes)) u = refl
child_zero local (note.Called call.WriteBad) u = refl
child_zero local (note.Called (call.Read want bytes)) u = refl
child_zero local (note.Called call.ReadBad) u = refl
child_zero local (note.Called call.SelfId) u = refl
child_zero local (note.Called call.Yield) u = refl
child_zero local (note.Called (call.Unknown number)) u = refl
child_zero local note.Nothing u = refl
child_zero local (note.Branch taken) u = refl
child_zero local (note.Jump target) u = refl
child_zero local (note.Faulted fault) u = refl

-- a new thread stands behind the others
pub beyond : (t u : ℕ) (writes : List Write) (threads child : List Thread) (after : Thread) → length threads ≤ u
    → get_or (threads_then t writes threads child after) u no_thread ≡ get_or child (u - length threads) no_thread
beyond t u writes threads child after past =
    get_or-append_right (set (map (losing writes) threads) t after) child (length threads) u no_thread
    (length-set (map (losing writes) threads) t after ∙ length-map threads (losing writes)) past

-- after a step no thread has retired more than a bound that holds of the threads before it and of the one that stepped
pub kept_then : (t u n : ℕ) (writes : List Write) (threads child : List Thread) (after : Thread) → t < length threads
    → ((v : ℕ) → (get_or threads v no_thread).retired ≤ n) → after.retired ≤ n → ((v : ℕ) → (get_or child v no_thread).retired ≡ 0)
    → (within : Bool) → ltb u (length threads) ≡ within → (same : Bool) → eqb u t ≡ same
    → (get_or (threads_then t writes threads child after) u no_thread).retired ≤ n
kept_then t u n writes threads child after there all more none true w true e =
    let own : get_or (threads_then t writes threads child after) u no_thread ≡ after =
    ap (λ (k : ℕ). get_or (threads_then t writes threads child after) k no_thread) (eqb-true u t e) ∙ own_then t writes threads child after there in
    omega (arith, ap (λ (x : Thread). x.retired) own)
kept_then t u n writes threads child after there all more none true w false e =
    let ne : u ≢ t = λ (same : u ≡ t). false≢true (sym e ∙ eq-eqb u t same) in
    omega (arith, ap (λ (x : Thread). x.retired) (other_then t u writes threads child after (ltb-true u (length threads) w) ne), all u)
kept_then t u n writes threads child after there all more none false w same e =
    omega (arith, ap (λ (x : Thread). x.retired) (beyond t u writes threads child after (ltb-false u (length threads) w)), none (u - length threads))

outcome_bound : (n : ℕ) (core : Core) (t : ℕ) (reservation : Option ℕ) (o : Outcome) → t < length core.threads → AtMost n core → AtMost (n + 1) (applied core t reservation o).core
outcome_bound n core t reservation (Faults fault) within most = record { each = λ (u : ℕ). omega (arith, most.each u) }
outcome_bound n core t reservation (Goes local writes shown) within most = record {
  each = λ (u : ℕ).
      kept_then t u (n + 1) writes core.threads (child_of (thread_at core t).local shown)
      (record { local = local; reservation = reservation; retired = (thread_at core t).retired + 1 }) within (λ (v : ℕ). omega (arith, most.each v)) (omega (arith, most.each t))
      (child_zero (thread_at core t).local shown) (ltb u (length core.threads)) refl (eqb u t) refl;
}

pub step_bound : (image : Layout) (state : State) (t n : ℕ) → t < length state.core.threads → AtMost n state.core → AtMost (n + 1) (step image state t).state.core
unfolding step effect
step_bound image state t n within most = outcome_bound n state.core t _ _ within most
