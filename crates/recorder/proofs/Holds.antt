-- How far a recording has come.
use Rattle.std.specs.Prelude.{◌≡◌, ℕ, suc, ◌+◌, ◌-◌, ◌<◌, ◌≤◌, ◌^◌, true, List, [], ◌∷◌, ◌++◌, length, option_to_list, IfSome, Some, None, is_some, refl}
use Rattle.std.specs.List.{list_all}
use Rattle.std.proofs.Common.{sym, ◌∙◌, ap, subst, arith, get_or}
use Rattle.std.proofs.lemmas.List.{append_assoc, append-nil}
use Rattle.elf_image.specs.Layout.{Layout}
use Rattle.odr_limits.specs.declared.TheConstants.{MOST_STEPS}
use Rattle.odr_log.specs.declared.log.ThreadLog.{ThreadLog}
use Rattle.odr_log.specs.declared.log.CallRec.{CallRec}
use Rattle.odr_log.specs.declared.log.Log.{Log}
use Rattle.odr_log.specs.Grammar.{IsCall, IsValid}
use Rattle.rand_pcg.specs.Lcg.{Lcg}
use Rattle.rv_model.specs.declared.state.State.{State}
use Rattle.rv_model.specs.declared.state.Core.{Core}
use Rattle.rv_model.specs.declared.state.Note.{Note}
use Rattle.rv_model.specs.declared.state.Event.{Event}
use Rattle.rv_model.specs.Step.{thread_at, opening, step, is_enabled}
use Rattle.rv_model.specs.Run.{nothing_logged, event_of, final, events, path_of, record_in, records_of, thread_logs, end_of, log_of, HasLog}
use Rattle.rv_model.proofs.LogParts.{records_of-append}
use Rattle.rv_model.proofs.Difference.{enabled_within}
use Rattle.rv_model.proofs.Genuine.{recorded}
use Rattle.guest_machine.specs.Whole.{Whole, StandsFor}
use Rattle.guest_sched.specs.Words.{generator_of, generator_after, next_generator}
use Rattle.recorder.specs.Seeded.{chosen, seeded_from, seeded, log_of_run}
use Rattle.recorder.specs.Added.{logs_after, Advances}
use Rattle.recorder.proofs.Seeding.{chosen_enabled, seeded_runs, seeded_stops, seeded_goes}
use Rattle.recorder.proofs.StepLogs.{Unborn, HaltWithin, Adds, step_adds, logs-at, logs-length, as_list}
use Rattle.recorder.proofs.Children.{IsSmall, step_small, can_spell}
use Rattle.recorder.proofs.Fits.{Fits, FitsOne, fits_on, fits_nothing, fits_valid}

-- At a place of the seeded schedule the machine stands for this state, and the log so far is that of what happened.
pub record Holds (image : Layout) (seed place : ℕ) (machine : Whole) (generator : Lcg) (logs : List ThreadLog) (calls : List CallRec) (state : State) (happened : List Event) : Type 0 where
  pub image_is : machine.image ≡ image
  pub stands : StandsFor machine state
  pub words : generator ≡ generator_after place (generator_of seed)
  pub logs_are : logs ≡ thread_logs 0 state.core.threads happened
  pub calls_are : calls ≡ records_of happened
  pub fits : Fits place logs calls
  pub unborn : Unborn (length state.core.threads) happened
  pub halts : HaltWithin (length state.core.threads) state.core.halt

pub holds_start : (image : Layout) (tape : List ℕ) (seed : ℕ) (machine : Whole) (generator : Lcg) → machine.image ≡ image → StandsFor machine (opening image tape)
    → generator ≡ generator_of seed → Holds image seed 0 machine generator (nothing_logged ∷ []) [] (opening image tape) []
holds_start image tape seed machine generator image_is stands words = record {
  image_is = image_is;
  stands = stands;
  words = words;
  logs_are = refl;
  calls_are = refl;
  fits = fits_nothing;
  unborn = record { nothing = λ (u : ℕ) (past : 1 ≤ u). refl };
  halts = tt;
}

-- one step further
pub holds_on : (image : Layout) (seed place t : ℕ) (old new : Whole) (generator later : Lcg) (logs more : List ThreadLog) (calls called : List CallRec) (state : State) (happened : List Event)
    → Holds image seed place old generator logs calls state happened → is_enabled image state t ≡ true → Advances old logs calls t new more called
    → later ≡ next_generator generator → length new.core.threads ≤ 8
    → Holds image seed (place + 1) new later more called (step image state t).state (happened ++ event_of image state t ∷ [])
holds_on image seed place t old new generator later logs more calls called state happened so_far enabled goes drawn few =
    let within : t < length state.core.threads = enabled_within image state t enabled in
    let after : State = (step image state t).state in
    let at : ℕ = (thread_at state.core t).retired in
    let shown : Note = (step image state t).note in
    let adds : Adds state.core after.core happened t at shown = step_adds image state t at happened within so_far.unborn in
    let images : new.image ≡ image = goes.image ∙ so_far.image_is in
    let stands : StandsFor new after =
    subst (λ (i : Layout). StandsFor new (step i state t).state) images (goes.state state so_far.stands) in
    let shows : goes.shown ≡ shown = goes.note state so_far.stands ∙ ap (λ (i : Layout). (step i state t).note) images in
    let small : IsSmall goes.shown = subst IsSmall (sym shows) (step_small image state t) in
    let spelled : IfSome (record_in (record { thread = t; at = (thread_at old.core t).retired; note = goes.shown })) (λ made. IsCall made.call) =
    can_spell t (thread_at old.core t).retired goes.shown goes.spelled.calls small in
    let retires : (thread_at old.core t).retired ≡ at = ap (λ (core : Core). (thread_at core t).retired) so_far.stands.core in
    let retired : (thread_at new.core t).retired ≡ (thread_at after.core t).retired = ap (λ (core : Core). (thread_at core t).retired) stands.core in
    let counted : length new.core.threads ≡ length after.core.threads = ap (λ (core : Core). length core.threads) stands.core in
    let own : get_or logs t nothing_logged ≡ record { steps = at; path = path_of t happened } =
    ap (λ (l : List ThreadLog). get_or l t nothing_logged) so_far.logs_are ∙ logs-at state.core.threads happened t nothing_logged within in
    let own_steps : (get_or logs t nothing_logged).steps ≡ at = ap (λ (l : ThreadLog). l.steps) own in
    let length_logs : length logs ≡ length state.core.threads = ap length so_far.logs_are ∙ logs-length state.core.threads happened in
    let there : t < length logs = omega (arith, length_logs) in
    let own_fits : FitsOne place (get_or logs t nothing_logged) = so_far.fits.threads t nothing_logged there in
    let more_are : more ≡ thread_logs 0 after.core.threads (happened ++ event_of image state t ∷ []) =
    goes.logs_are
    ∙ (ap (λ (s : Note). logs_after logs t (thread_at new.core t).retired (length new.core.threads) s) shows
    ∙ (ap (λ (r : ℕ). logs_after logs t r (length new.core.threads) shown) retired
    ∙ (ap (λ (n : ℕ). logs_after logs t (thread_at after.core t).retired n shown) counted
    ∙ (ap (λ (l : List ThreadLog). logs_after l t (thread_at after.core t).retired (length after.core.threads) shown) so_far.logs_are
    ∙ sym adds.logs)))) in
    let length_more : length more ≡ length after.core.threads = ap length more_are ∙ logs-length after.core.threads (happened ++ event_of image state t ∷ []) in
    let early : (thread_at old.core t).retired ≤ place = omega (arith, retires, own_steps, own_fits.steps) in
    let slow : (thread_at new.core t).retired ≤ (get_or logs t nothing_logged).steps + 1 = omega (arith, retired, own_steps, adds.retired) in
    let short : length (logs_after logs t (thread_at new.core t).retired (length new.core.threads) goes.shown) ≤ 8 =
    subst (λ (l : List ThreadLog). length l ≤ 8) goes.logs_are (omega (arith, length_more, counted, few)) in
    let fits : Fits (place + 1) (logs_after logs t (thread_at new.core t).retired (length new.core.threads) goes.shown) (calls ++ option_to_list (record_in (record { thread = t; at = (thread_at old.core t).retired; note = goes.shown }))) =
    fits_on place t (thread_at old.core t).retired (thread_at new.core t).retired (length new.core.threads) logs calls goes.shown so_far.fits there slow early goes.spelled.items spelled short in
    record {
      image_is = images;
      stands = stands;
      words = drawn ∙ (ap next_generator so_far.words ∙ (let e : suc place ≡ place + 1 = omega arith in ap (λ (k : ℕ). generator_after k (generator_of seed)) e));
      logs_are = more_are;
      calls_are =
          goes.calls_are
          ∙ (ap (λ (s : Note). calls ++ option_to_list (record_in (record { thread = t; at = (thread_at old.core t).retired; note = s }))) shows
          ∙ (ap (λ (n : ℕ). calls ++ option_to_list (record_in (record { thread = t; at = n; note = shown }))) retires
          ∙ (ap (λ (l : List CallRec). l ++ option_to_list (record_in (event_of image state t))) so_far.calls_are
          ∙ (ap (λ (l : List CallRec). records_of happened ++ l) (sym (as_list (record_in (event_of image state t))))
          ∙ sym (records_of-append happened (event_of image state t ∷ []))))));
      fits =
          subst (λ (l : List ThreadLog). Fits (place + 1) l called) (sym goes.logs_are)
          (subst (λ (l : List CallRec). Fits (place + 1) (logs_after logs t (thread_at new.core t).retired (length new.core.threads) goes.shown) l) (sym goes.calls_are) fits);
      unborn = adds.unborn;
      halts =
          adds.halts
          (subst (λ (n : ℕ). IfSome (record_in (record { thread = t; at = n; note = shown })) (λ made. IsCall made.call)) retires
          (subst (λ (s : Note). IfSome (record_in (record { thread = t; at = (thread_at old.core t).retired; note = s })) (λ made. IsCall made.call)) shows spelled));
    }

-- The same at a place of the whole run, with what is left of it.
pub record SoFar (image : Layout) (tape : List ℕ) (seed limit place : ℕ) (machine : Whole) (generator : Lcg) (logs : List ThreadLog) (calls : List CallRec) : Type 0 where
  pub state : State
  pub happened : List Event
  pub holds : Holds image seed place machine generator logs calls state happened
  pub last : final image (opening image tape) (seeded image tape seed limit) ≡ final image state (seeded_from image seed state place (limit - place))
  pub happens : events image (opening image tape) (seeded image tape seed limit) ≡ happened ++ events image state (seeded_from image seed state place (limit - place))

start : (image : Layout) (tape : List ℕ) (seed limit : ℕ) (machine : Whole) (generator : Lcg) → machine.image ≡ image → StandsFor machine (opening image tape)
    → generator ≡ generator_of seed → SoFar image tape seed limit 0 machine generator (nothing_logged ∷ []) []
unfolding seeded
start image tape seed limit machine generator image_is stands words =
    let whole : limit ≡ limit - 0 = omega arith in
    record {
      state = opening image tape;
      happened = [];
      holds = holds_start image tape seed machine generator image_is stands words;
      last = ap (λ (n : ℕ). final image (opening image tape) (seeded_from image seed (opening image tape) 0 n)) whole;
      happens = ap (λ (n : ℕ). events image (opening image tape) (seeded_from image seed (opening image tape) 0 n)) whole;
    }

-- the same, by what the first calls gave
pub started : (image : Layout) (tape : List ℕ) (seed limit : ℕ) (machine : Whole) (generator : Lcg) (logs : List ThreadLog) (calls : List CallRec) → machine.image ≡ image
    → StandsFor machine (opening image tape) → generator ≡ generator_of seed → logs ≡ nothing_logged ∷ [] → calls ≡ []
    → SoFar image tape seed limit 0 machine generator logs calls
started image tape seed limit machine generator logs calls image_is stands words one none =
    subst (λ (l : List ThreadLog). SoFar image tape seed limit 0 machine generator l calls) (sym one)
    (subst (λ (k : List CallRec). SoFar image tape seed limit 0 machine generator (nothing_logged ∷ []) k) (sym none)
    (start image tape seed limit machine generator image_is stands words))

left_over : (image : Layout) (seed : ℕ) (state : State) (place limit t : ℕ) → place < limit → chosen image seed state place ≡ Some t
    → seeded_from image seed state place (limit - place) ≡ t ∷ seeded_from image seed (step image state t).state (place + 1) (limit - (place + 1))
left_over image seed state place limit t early is =
    let e : limit - place ≡ suc (limit - (place + 1)) = omega arith in
    ap (λ (n : ℕ). seeded_from image seed state place n) e ∙ seeded_goes image seed state place (limit - (place + 1)) t is

pub further : (image : Layout) (tape : List ℕ) (seed limit place t : ℕ) (old new : Whole) (generator later : Lcg) (logs more : List ThreadLog) (calls called : List CallRec)
    → SoFar image tape seed limit place old generator logs calls → place < limit
    → ((state : State) → StandsFor old state → generator ≡ generator_after place (generator_of seed) → chosen old.image seed state place ≡ Some t)
    → Advances old logs calls t new more called → later ≡ next_generator generator → length new.core.threads ≤ 8
    → SoFar image tape seed limit (place + 1) new later more called
further image tape seed limit place t old new generator later logs more calls called far early picks goes drawn few =
    let state : State = far.state in
    let is : chosen image seed state place ≡ Some t =
    subst (λ (i : Layout). chosen i seed state place ≡ Some t) far.holds.image_is (picks state far.holds.stands far.holds.words) in
    let cut : seeded_from image seed state place (limit - place) ≡ t ∷ seeded_from image seed (step image state t).state (place + 1) (limit - (place + 1)) =
    left_over image seed state place limit t early is in
    record {
      state = (step image state t).state;
      happened = far.happened ++ event_of image state t ∷ [];
      holds = holds_on image seed place t old new generator later logs more calls called state far.happened far.holds (chosen_enabled image seed state place t is) goes drawn few;
      last = far.last ∙ ap (final image state) cut;
      happens =
          far.happens
          ∙ (ap (λ (s : List ℕ). far.happened ++ events image state s) cut
          ∙ sym (append_assoc far.happened (event_of image state t ∷ []) (events image (step image state t).state (seeded_from image seed (step image state t).state (place + 1) (limit - (place + 1))))));
    }

-- the log that is kept where the run ends
pub record IsKept (image : Layout) (tape : List ℕ) (seed limit : ℕ) (log : Log) : Type 0 where
  pub log_is : log ≡ log_of_run image tape (seeded image tape seed limit)
  pub valid : IsValid log

kept : (image : Layout) (tape : List ℕ) (seed limit place : ℕ) (machine : Whole) (generator : Lcg) (logs : List ThreadLog) (calls : List CallRec)
    → (far : SoFar image tape seed limit place machine generator logs calls) → place ≤ MOST_STEPS → seeded_from image seed far.state place (limit - place) ≡ []
    → IsKept image tape seed limit (record { version = 1; threads = logs; calls = calls; end = end_of machine.core })
unfolding log_of
kept image tape seed limit place machine generator logs calls far most stops =
    let cores : machine.core ≡ far.state.core = far.holds.stands.core in
    let ends : final image (opening image tape) (seeded image tape seed limit) ≡ far.state = far.last ∙ ap (final image far.state) stops in
    let all : events image (opening image tape) (seeded image tape seed limit) ≡ far.happened =
    far.happens ∙ (ap (λ (s : List ℕ). far.happened ++ events image far.state s) stops ∙ append-nil far.happened) in
    let same : log_of far.state far.happened ≡ log_of_run image tape (seeded image tape seed limit) =
    ap (λ (s : State). log_of s far.happened) (sym ends) ∙ ap (log_of (final image (opening image tape) (seeded image tape seed limit))) (sym all) in
    let length_logs : length logs ≡ length far.state.core.threads = ap length far.holds.logs_are ∙ logs-length far.state.core.threads far.happened in
    record {
      log_is =
          ap (λ (core : Core). (let log : Log = record { version = 1; threads = logs; calls = calls; end = end_of core } in log)) cores
          ∙ (ap (λ (l : List ThreadLog). (let log : Log = record { version = 1; threads = l; calls = calls; end = end_of far.state.core } in log)) far.holds.logs_are
          ∙ (ap (λ (l : List CallRec). (let log : Log = record { version = 1; threads = thread_logs 0 far.state.core.threads far.happened; calls = l; end = end_of far.state.core } in log)) far.holds.calls_are
          ∙ same));
      valid =
          fits_valid place logs calls machine.core.halt (list_all is_some machine.core.calls.ended) most far.holds.fits
          (subst (λ (core : Core). HaltWithin (length logs) core.halt) (sym cores)
          (subst (λ (n : ℕ). HaltWithin n far.state.core.halt) (sym length_logs) far.holds.halts));
    }

-- at the limit
pub kept_at_limit : (image : Layout) (tape : List ℕ) (seed limit place : ℕ) (machine : Whole) (generator : Lcg) (logs : List ThreadLog) (calls : List CallRec)
    → SoFar image tape seed limit place machine generator logs calls → place ≤ MOST_STEPS → limit ≤ place
    → IsKept image tape seed limit (record { version = 1; threads = logs; calls = calls; end = end_of machine.core })
kept_at_limit image tape seed limit place machine generator logs calls far most done =
    let e : limit - place ≡ 0 = omega arith in
    kept image tape seed limit place machine generator logs calls far most (ap (λ (n : ℕ). seeded_from image seed far.state place n) e)

-- where no thread may step
pub kept_at_stop : (image : Layout) (tape : List ℕ) (seed limit place : ℕ) (machine : Whole) (generator : Lcg) (logs : List ThreadLog) (calls : List CallRec)
    → SoFar image tape seed limit place machine generator logs calls → place ≤ MOST_STEPS
    → ((state : State) → StandsFor machine state → generator ≡ generator_after place (generator_of seed) → chosen machine.image seed state place ≡ None)
    → IsKept image tape seed limit (record { version = 1; threads = logs; calls = calls; end = end_of machine.core })
kept_at_stop image tape seed limit place machine generator logs calls far most picks =
    kept image tape seed limit place machine generator logs calls far most
    (seeded_stops image seed far.state place (limit - place)
    (subst (λ (i : Layout). chosen i seed far.state place ≡ None) far.holds.image_is (picks far.state far.holds.stands far.holds.words)))

-- what the code asks of the machine on the way
pub has_room : (image : Layout) (tape : List ℕ) (seed limit place : ℕ) (machine : Whole) (generator : Lcg) (logs : List ThreadLog) (calls : List CallRec)
    → SoFar image tape seed limit place machine generator logs calls → place ≤ MOST_STEPS → (u : ℕ) → u < length machine.core.threads → (thread_at machine.core u).retired + 1 < 2 ^ 32
has_room image tape seed limit place machine generator logs calls far most u within =
    let cores : machine.core ≡ far.state.core = far.holds.stands.core in
    let there : u < length far.state.core.threads = subst (λ (core : Core). u < length core.threads) cores within in
    let length_logs : length logs ≡ length far.state.core.threads = ap length far.holds.logs_are ∙ logs-length far.state.core.threads far.happened in
    let own : (get_or logs u nothing_logged).steps ≡ (thread_at far.state.core u).retired =
    ap (λ (l : List ThreadLog). (get_or l u nothing_logged).steps) far.holds.logs_are ∙ ap (λ (l : ThreadLog). l.steps) (logs-at far.state.core.threads far.happened u nothing_logged there) in
    let fit : FitsOne place (get_or logs u nothing_logged) = far.holds.fits.threads u nothing_logged (omega (arith, length_logs, there)) in
    let same : (thread_at machine.core u).retired ≡ (thread_at far.state.core u).retired = ap (λ (core : Core). (thread_at core u).retired) cores in
    omega (arith, fit.steps, own, same)

pub has_logs : (image : Layout) (tape : List ℕ) (seed limit place : ℕ) (machine : Whole) (generator : Lcg) (logs : List ThreadLog) (calls : List CallRec)
    → SoFar image tape seed limit place machine generator logs calls → length logs ≡ length machine.core.threads
has_logs image tape seed limit place machine generator logs calls far =
    ap length far.holds.logs_are ∙ (logs-length far.state.core.threads far.happened ∙ ap (λ (core : Core). length core.threads) (sym far.holds.stands.core))

-- the log of the seeded run is genuine
pub genuine_run : (image : Layout) (tape : List ℕ) (seed limit : ℕ) (log : Log) → log ≡ log_of_run image tape (seeded image tape seed limit) → HasLog image log (seeded image tape seed limit)
genuine_run image tape seed limit log is =
    subst (λ (l : Log). HasLog image l (seeded image tape seed limit)) (sym is)
    (recorded image tape (seeded image tape seed limit) (seeded_runs image tape seed limit))
