-- The log of a run is the log exactly where all of the log has been met.
use Rattle.std.specs.Prelude.{◌≡◌, ◌↔◌, ℕ, zero, suc, ◌+◌, ◌<◌, Bool, true, List, [], ◌∷◌, length, refl}
use Rattle.std.proofs.Common.{sym, ◌∙◌, ap, arith, get_or}
use Rattle.std.proofs.lemmas.List.{take_all}
use Rattle.odr_log.specs.declared.log.Log.{Log}
use Rattle.odr_log.specs.declared.log.ThreadLog.{ThreadLog}
use Rattle.odr_log.specs.declared.log.CallRec.{CallRec}
use Rattle.odr_log.specs.declared.log.PathItem.{PathItem}
use Rattle.odr_log.specs.declared.log.End.{End}
use Rattle.odr_log.specs.Same.{same_log}
use Rattle.odr_log.specs.SameLaws.{same_log-exact}
use Rattle.rv_model.specs.declared.state.Thread.{Thread}
use Rattle.rv_model.specs.declared.state.State.{State}
use Rattle.rv_model.specs.declared.state.Event.{Event}
use Rattle.rv_model.specs.Thread.{no_thread}
use Rattle.rv_model.specs.Run.{nothing_logged, path_of, records_of, thread_logs, end_of, log_of, logged}
use Rattle.rv_model.proofs.LogParts.{length-thread_logs, thread_logs-at}
use Rattle.replay_check.specs.declared.met.Met.{Met}
use Rattle.replay_check.specs.Met.{IsFront, HasMet, IsAllMet}
use Rattle.replay_check.proofs.TestLemmas.{same_tests}
use Rattle.replay_check.proofs.MetLemmas.{front_count}

-- the logs of threads, one by one

log_is : (a b : ThreadLog) → a.steps ≡ b.steps → a.path ≡ b.path → a ≡ b
log_is a b steps path =
    ap (λ (s : ℕ). let made : ThreadLog = record { steps = s; path = a.path } in made) steps
    ∙ ap (λ (p : List PathItem). let made : ThreadLog = record { steps = b.steps; path = p } in made) path

logs_are : (n : ℕ) (threads : List Thread) (happened : List Event) (logs : List ThreadLog) → length threads ≡ length logs
    → ((i j : ℕ) → i < length threads → n + i ≡ j → ((get_or threads i no_thread).retired ≡ (get_or logs i nothing_logged).steps) × (path_of j happened ≡ (get_or logs i nothing_logged).path))
    → thread_logs n threads happened ≡ logs
logs_are n [] happened [] same each = refl
logs_are n [] happened (l ∷ ls) same each = absurd (omega arith)
logs_are n (x ∷ xs) happened [] same each = absurd (omega arith)
logs_are n (x ∷ xs) happened (l ∷ ls) same each =
    let first : (x.retired ≡ l.steps) × (path_of n happened ≡ l.path) = each 0 n (omega arith) (omega arith) in
    ap (λ (made : ThreadLog). made ∷ thread_logs (n + 1) xs happened) (log_is (record { steps = x.retired; path = path_of n happened }) l first.0 first.1)
    ∙ ap (λ (rest : List ThreadLog). l ∷ rest)
    (logs_are (n + 1) xs happened ls (omega arith)
    (λ (i j : ℕ) (within : i < length xs) (e : n + 1 + i ≡ j). each (suc i) j (omega arith) (omega arith)))

-- all of it

made_of : (log : Log) (threads : List ThreadLog) (calls : List CallRec) (end : End) → log.version ≡ 1 → threads ≡ log.threads → calls ≡ log.calls → end ≡ log.end
    → (let made : Log = record { version = 1; threads = threads; calls = calls; end = end } in made) ≡ log
made_of log threads calls end version a b c =
    ap (λ (v : ℕ). let made : Log = record { version = v; threads = threads; calls = calls; end = end } in made) (sym version)
    ∙ (ap (λ (t : List ThreadLog). let made : Log = record { version = log.version; threads = t; calls = calls; end = end } in made) a
    ∙ (ap (λ (r : List CallRec). let made : Log = record { version = log.version; threads = log.threads; calls = r; end = end } in made) b
    ∙ ap (λ (e : End). let made : Log = record { version = log.version; threads = log.threads; calls = log.calls; end = e } in made) c))

front_whole : {A : Type 0} (done : List A) (count : ℕ) (whole : List A) → IsFront done count whole → count ≡ length whole → done ≡ whole
front_whole done count whole front e = front.is ∙ take_all count whole (omega arith)

is_log : (log : Log) (state : State) (happened : List Event) (met : Met) → log.version ≡ 1 → HasMet log happened met → IsAllMet log state.core met
    → log_of state happened ≡ log
unfolding log_of
is_log log state happened met version has all =
    made_of log (thread_logs 0 state.core.threads happened) (records_of happened) (end_of state.core) version
    (logs_are 0 state.core.threads happened log.threads all.threads
    (λ (i j : ℕ) (within : i < length state.core.threads) (e : 0 + i ≡ j).
    let same : i ≡ j = omega arith in (
      (all.each i within).0,
      ap (λ (k : ℕ). path_of k happened) (sym same)
          ∙ front_whole (path_of i happened) (get_or met.items i 0) (logged log i).path (has.items i) (all.each i within).1,
    )))
    (front_whole (records_of happened) met.calls log.calls has.calls all.calls) all.end

has_all : (log : Log) (state : State) (happened : List Event) (met : Met) → HasMet log happened met → log_of state happened ≡ log → IsAllMet log state.core met
unfolding log_of
has_all log state happened met has e = record {
  threads = sym (length-thread_logs 0 state.core.threads happened) ∙ ap (λ (l : Log). length l.threads) e;
  each = λ (t : ℕ) (within : t < length state.core.threads). (
    sym (ap (λ (l : ThreadLog). l.steps) (thread_logs-at 0 t t state.core.threads happened nothing_logged within (omega arith)))
        ∙ ap (λ (l : Log). (get_or l.threads t nothing_logged).steps) e,
    sym (front_count (path_of t happened) (get_or met.items t 0) (logged log t).path (has.items t))
        ∙ (ap (λ (l : ThreadLog). length l.path) (sym (thread_logs-at 0 t t state.core.threads happened nothing_logged within (omega arith)))
        ∙ ap (λ (l : Log). length (get_or l.threads t nothing_logged).path) e),
  );
  calls = sym (front_count (records_of happened) met.calls log.calls has.calls) ∙ ap (λ (l : Log). length l.calls) e;
  end = ap (λ (l : Log). l.end) e;
}

pub same_if_all : (log : Log) (state : State) (happened : List Event) (met : Met) (all : Bool) → log.version ≡ 1 → HasMet log happened met
    → (all ≡ true) ↔ IsAllMet log state.core met → all ≡ same_log (log_of state happened) log
same_if_all log state happened met all version has tells =
    same_tests all (same_log (log_of state happened) log)
    (λ (h : all ≡ true). (same_log-exact (log_of state happened) log).1 (is_log log state happened met version has (tells.0 h)))
    (λ (h : same_log (log_of state happened) log ≡ true). tells.1 (has_all log state happened met has ((same_log-exact (log_of state happened) log).0 h)))
