-- The log so far can be spelled, and stays within the number of steps so far.
use Rattle.std.specs.Prelude.{◌≡◌, ℕ, zero, suc, ◌+◌, ◌<◌, ◌≤◌, Bool, true, false, cond, List, [], ◌∷◌, ◌++◌, length, nat_lt, option_to_list, All, IfSome, Option, Some, None, refl}
use Rattle.std.specs.List.{sum_by}
use Rattle.std.proofs.Common.{arith, get_or}
use Rattle.std.proofs.lemmas.List.{length-set, length-append}
use Rattle.std.proofs.lemmas.List.Elements.{All-append, All-set, All-weaker, All-nil}
use Rattle.std.proofs.lemmas.List.Sums.{sum_by-set, sum_by-append}
use Rattle.odr_limits.specs.declared.TheConstants.{MOST_STEPS}
use Rattle.odr_log.specs.declared.log.ThreadLog.{ThreadLog}
use Rattle.odr_log.specs.declared.log.CallRec.{CallRec}
use Rattle.odr_log.specs.Grammar.{IsItem, IsThread, IsCall, IsRecord, IsEnd, IsValid}
use Rattle.rv_model.specs.declared.state.Note.{Note}
use Rattle.rv_model.specs.declared.state.Note.TheVariants as note
use Rattle.rv_model.specs.Run.{nothing_logged, item_of, record_in, end_by}
use Rattle.rv_model.specs.declared.state.Halt.{Halt}
use Rattle.rv_model.specs.declared.state.Halt.TheVariants as halt
use Rattle.recorder.specs.Added.{gone_on, with_step, logs_after}
use Rattle.recorder.proofs.StepLogs.{HaltWithin}

-- a thread's log after so many steps of all threads
pub record FitsOne (place : ℕ) (log : ThreadLog) : Type 0 where
  pub steps : log.steps ≤ place
  pub items : length log.path ≤ place
  pub each : All IsItem log.path

pub record FitsRecord (place count : ℕ) (made : CallRec) : Type 0 where
  pub tid : made.tid < count
  pub at : made.at ≤ place
  pub call : IsCall made.call

pub record Fits (place : ℕ) (logs : List ThreadLog) (calls : List CallRec) : Type 0 where
  pub some : 1 ≤ length logs
  pub few : length logs ≤ 8
  pub threads : All (FitsOne place) logs
  pub total : sum_by (λ log. log.steps) logs ≤ place
  pub count : length calls ≤ place
  pub records : All (FitsRecord place (length logs)) calls

one_more : (place : ℕ) (log : ThreadLog) → FitsOne place log → FitsOne (place + 1) log
one_more place log fit = record { steps = omega (arith, fit.steps); items = omega (arith, fit.items); each = fit.each }

record_more : (place more count counted : ℕ) (made : CallRec) → place ≤ more → count ≤ counted → FitsRecord place count made → FitsRecord more counted made
record_more place more count counted made grows counts fit = record { tid = omega (arith, fit.tid); at = omega (arith, fit.at); call = fit.call }

all_one : {X : Type 0} (P : X → Type 0) (x : X) → P x → All P (x ∷ [])
all_one P x p zero d within = p
all_one P x p (suc k) d within = absurd (omega arith)

all_listed : {X : Type 0} (P : X → Type 0) (o : Option X) → IfSome o P → All P (option_to_list o)
all_listed P None p = All-nil P
all_listed P (Some x) p = all_one P x p

few_listed : {X : Type 0} (o : Option X) → length (option_to_list o) ≤ 1
few_listed None = omega arith
few_listed (Some x) = omega arith

fits_record : (place count t at : ℕ) (shown : Note) → t < count → at ≤ place → IfSome (record_in (record { thread = t; at = at; note = shown })) (λ made. IsCall made.call)
    → IfSome (record_in (record { thread = t; at = at; note = shown })) (FitsRecord place count)
fits_record place count t at note.Nothing within early spelled = tt
fits_record place count t at (note.Branch taken) within early spelled = tt
fits_record place count t at (note.Jump target) within early spelled = tt
fits_record place count t at (note.Faulted fault) within early spelled = tt
fits_record place count t at (note.Called made) within early spelled = record { tid = within; at = early; call = spelled }

-- what a step adds fits, one step later
abbrev grown : Bool → List ThreadLog → List ThreadLog
grown more logs = cond more (logs ++ nothing_logged ∷ []) logs

sum_by-append_one : (logs : List ThreadLog) → sum_by (λ log. log.steps) (logs ++ nothing_logged ∷ []) ≡ sum_by (λ log. log.steps) logs
sum_by-append_one logs = let e = sum_by-append (λ (log : ThreadLog). log.steps) logs (nothing_logged ∷ []) in omega (arith, e)

threads_grown : (place : ℕ) (more : Bool) (logs : List ThreadLog) → All (FitsOne place) logs → All (FitsOne place) (grown more logs)
threads_grown place true logs fit =
    All-append (FitsOne place) logs (nothing_logged ∷ []) fit
    (all_one (FitsOne place) nothing_logged (record { steps = omega arith; items = omega arith; each = All-nil IsItem }))
threads_grown place false logs fit = fit

total_grown : (more : Bool) (logs : List ThreadLog) → sum_by (λ log. log.steps) (grown more logs) ≡ sum_by (λ log. log.steps) logs
total_grown true logs = sum_by-append_one logs
total_grown false logs = refl

length_grown : (more : Bool) (logs : List ThreadLog) → length logs ≤ length (grown more logs)
length_grown true logs = let l = length-append logs (nothing_logged ∷ []) in omega (arith, l)
length_grown false logs = omega arith

fits_gone : (place t retired : ℕ) (logs : List ThreadLog) (shown : Note) → All (FitsOne place) logs → t < length logs
    → retired ≤ (get_or logs t nothing_logged).steps + 1 → IfSome (item_of shown) IsItem
    → FitsOne (place + 1) (gone_on (get_or logs t nothing_logged) retired shown)
fits_gone place t retired logs shown fit within more spelled =
    let old : ThreadLog = get_or logs t nothing_logged in
    let before : FitsOne place old = fit t nothing_logged within in
    record {
      steps = omega (arith, before.steps);
      items = omega (arith, before.items, length-append old.path (option_to_list (item_of shown)), few_listed (item_of shown));
      each = All-append IsItem old.path (option_to_list (item_of shown)) before.each (all_listed IsItem (item_of shown) spelled);
    }

pub fits_on : (place t at retired count : ℕ) (logs : List ThreadLog) (calls : List CallRec) (shown : Note) → Fits place logs calls → t < length logs
    → retired ≤ (get_or logs t nothing_logged).steps + 1 → at ≤ place → IfSome (item_of shown) IsItem → IfSome (record_in (record { thread = t; at = at; note = shown })) (λ made. IsCall made.call)
    → length (logs_after logs t retired count shown) ≤ 8
    → Fits (place + 1) (logs_after logs t retired count shown) (calls ++ option_to_list (record_in (record { thread = t; at = at; note = shown })))
fits_on place t at retired count logs calls shown fit within more early items made_fits few =
    let gone : ThreadLog = gone_on (get_or logs t nothing_logged) retired shown in
    let stepped : List ThreadLog = with_step logs t retired shown in
    let longer : Bool = nat_lt (length stepped) count in
    let l : length stepped ≡ length logs = length-set logs t gone in
    let grows : length stepped ≤ length (logs_after logs t retired count shown) = length_grown longer stepped in
    let summed : sum_by (λ log. log.steps) stepped + (get_or logs t nothing_logged).steps ≡ sum_by (λ log. log.steps) logs + retired =
    sum_by-set (λ log. log.steps) logs t gone nothing_logged within in
    let made : List CallRec = option_to_list (record_in (record { thread = t; at = at; note = shown })) in
    let counted : ℕ = length (logs_after logs t retired count shown) in
    record {
      some = omega (arith, l, grows, fit.some);
      few = few;
      threads =
          threads_grown (place + 1) longer stepped
          (All-set (FitsOne (place + 1)) logs t gone (fits_gone place t retired logs shown fit.threads within more items)
          (All-weaker (FitsOne place) (FitsOne (place + 1)) (one_more place) logs fit.threads));
      total = omega (arith, total_grown longer stepped, summed, fit.total, more);
      count = omega (arith, length-append calls made, few_listed (record_in (record { thread = t; at = at; note = shown })), fit.count);
      records =
          All-append (FitsRecord (place + 1) counted) calls made
          (All-weaker (FitsRecord place (length logs)) (FitsRecord (place + 1) counted)
          (λ made fits. record_more place (place + 1) (length logs) counted made (omega arith) (omega (arith, l, grows)) fits) calls fit.records)
          (all_listed (FitsRecord (place + 1) counted) (record_in (record { thread = t; at = at; note = shown }))
          (fits_record (place + 1) counted t at shown (omega (arith, l, grows, within)) (omega (arith, early)) made_fits));
    }

pub fits_nothing : Fits 0 (nothing_logged ∷ []) []
fits_nothing = record {
  some = omega arith;
  few = omega arith;
  threads = all_one (FitsOne 0) nothing_logged (record { steps = omega arith; items = omega arith; each = All-nil IsItem });
  total = omega arith;
  count = omega arith;
  records = All-nil (FitsRecord 0 1);
}

-- the end of a run is one of its threads'
end_within : (n : ℕ) (o : Option Halt) (all_ended : Bool) → HaltWithin n o → IsEnd n (end_by o all_ended)
end_within n None true within = tt
end_within n None false within = tt
end_within n (Some (halt.Exited thread code)) all_ended within = within
end_within n (Some (halt.Faulted thread fault)) all_ended within = within

is_thread : (place : ℕ) → place ≤ MOST_STEPS → (log : ThreadLog) → FitsOne place log → IsThread log
is_thread place most log fit = record { steps = omega (arith, fit.steps, most); items = omega (arith, fit.items, most); each = fit.each }

is_record : (place count : ℕ) → place ≤ MOST_STEPS → (made : CallRec) → FitsRecord place count made → IsRecord count made
is_record place count most made fit = record { tid = fit.tid; at = omega (arith, fit.at, most); call = fit.call }

pub fits_valid : (place : ℕ) (logs : List ThreadLog) (calls : List CallRec) (o : Option Halt) (all_ended : Bool) → place ≤ MOST_STEPS → Fits place logs calls → HaltWithin (length logs) o
    → IsValid (record { version = 1; threads = logs; calls = calls; end = end_by o all_ended })
fits_valid place logs calls o all_ended most fit within = record {
  grammar = record {
    version = refl;
    some_thread = fit.some;
    few_threads = fit.few;
    threads = All-weaker (FitsOne place) IsThread (is_thread place most) logs fit.threads;
    few_calls = omega (arith, fit.count, most);
    calls = All-weaker (FitsRecord place (length logs)) (IsRecord (length logs)) (is_record place (length logs) most) calls fit.records;
    end = end_within (length logs) o all_ended within;
  };
  steps = omega (arith, fit.total, most);
}
