-- A replay along a schedule: the machine stands for the model's run so far, and what has been met is what happened.
use Rattle.std.specs.Prelude.{◌≡◌, ◌↔◌, ℕ, zero, suc, ◌+◌, ◌<◌, ◌≤◌, replicate, Bool, true, false, ◌&&◌, cond, List, [], ◌∷◌, ◌++◌, length, Option, Some, None, option_map, refl}
use Rattle.std.proofs.Common.{sym, ◌∙◌, ap, subst, arith, get_or}
use Rattle.std.proofs.lemmas.Bool.{and_parts}
use Rattle.std.proofs.lemmas.List.{drop_all}
use Rattle.elf_image.specs.Layout.{Layout}
use Rattle.odr_limits.specs.declared.TheConstants.{MOST_STEPS}
use Rattle.odr_log.specs.declared.log.Log.{Log}
use Rattle.odr_log.specs.Grammar.{IsValid}
use Rattle.odr_log.specs.Tape.{tape_of}
use Rattle.odr_log.specs.Same.{same_log}
use Rattle.rv_model.specs.declared.state.Core.{Core}
use Rattle.rv_model.specs.declared.state.State.{State}
use Rattle.rv_model.specs.declared.state.Event.{Event}
use Rattle.rv_model.specs.declared.state.Note.{Note}
use Rattle.rv_model.specs.Step.{thread_at, step, is_enabled, opening}
use Rattle.rv_model.specs.Run.{first_diff, differs_from, fits, event_of, agrees, log_of}
use Rattle.rv_model.proofs.Difference.{enabled_within}
use Rattle.rv_model.proofs.Bounds.{AtMost}
use Rattle.rv_model.proofs.SoFar.{SoFar, further as one_further}
use Rattle.guest_machine.specs.declared.note.Note as machine
use Rattle.guest_machine.specs.Notes.{note_of}
use Rattle.guest_machine.specs.Whole.{Whole, StandsFor, Steps}
use Rattle.replay_check.specs.declared.met.Met.{Met}
use Rattle.replay_check.specs.Met.{HasMet, IsAllMet, is_next, past}
use Rattle.replay_check.specs.Advance.{Advances, IsFurther}
use Rattle.replay_check.proofs.MetLemmas.{met_nothing, next_met, met_past}
use Rattle.replay_check.proofs.AllMetLemmas.{same_if_all}
use Rattle.replay_check.proofs.BoundLemmas.{agreed_kept}

pub record Along (image : Layout) (log : Log) (schedule : List ℕ) (place : ℕ) (machine : Whole) (met : Met) : Type 0 where
  pub state : State
  pub happened : List Event
  pub image_is : machine.image ≡ image
  pub stands : StandsFor machine state
  pub met_is : HasMet log happened met
  pub few : AtMost MOST_STEPS state.core
  pub so_far : SoFar image log schedule place state happened

-- one step

pub advanced : (log : Log) (state : State) (happened : List Event) (t at : ℕ) (old now : Whole) (met then : Met) (shown : machine.Note) (next : Bool)
    → length log.threads ≤ 8 → is_enabled old.image state t ≡ true → at ≡ (thread_at old.core t).retired → now.image ≡ old.image
    → Steps state t shown now → StandsFor old state → HasMet log happened met
    → next ≡ is_next log met (record { thread = t; at = at; note = note_of shown }) (note_of shown)
    → (next ≡ true → then ≡ past met t (note_of shown))
    → Advances log state happened t old.image next now then
advanced log state happened t at old now met then shown next few able at_is image_is steps stands has tells goes =
    let shows : note_of shown ≡ (step old.image state t).note = steps.note ∙ ap (λ (i : Layout). (step i state t).note) image_is in
    let place : at ≡ (thread_at state.core t).retired = at_is ∙ ap (λ (core : Core). (thread_at core t).retired) stands.core in
    let event : Event = record { thread = t; at = at; note = note_of shown } in
    let event_is : event ≡ event_of old.image state t =
    ap (λ (n : Note). let made : Event = record { thread = t; at = at; note = n } in made) shows
    ∙ ap (λ (k : ℕ). let made : Event = record { thread = t; at = k; note = (step old.image state t).note } in made) place in
    let agree : next ≡ agrees log happened (event_of old.image state t) =
    tells ∙ (sym (next_met log happened met event (note_of shown) has) ∙ ap (agrees log happened) event_is) in
    record {
      answer = agree ∙ ap (λ (b : Bool). b && agrees log happened (event_of old.image state t)) (sym able);
      further = λ (so : next ≡ true).
          let met_then : HasMet log (happened ++ event ∷ []) (past met t (note_of shown)) = met_past log happened met t at (note_of shown) few has (sym tells ∙ so) in
          record {
            image_is = image_is;
            stands = let P : Layout → Type 0 = λ i. StandsFor now (step i state t).state in subst P image_is steps.state;
            met_is =
                let Q : Met → Type 0 = λ m. HasMet log (happened ++ event_of old.image state t ∷ []) m in
                let R : Event → Type 0 = λ e. HasMet log (happened ++ e ∷ []) (past met t (note_of shown)) in
                subst Q (sym (goes so)) (subst R event_is met_then);
          };
    }

-- along a schedule

zero_more : (o : Option ℕ) → o ≡ option_map (λ (k : ℕ). 0 + k) o
zero_more None = refl
zero_more (Some k) = let e : k ≡ 0 + k = omega arith in ap Some e

none_retired : (image : Layout) (tape : List ℕ) (u : ℕ) → (thread_at (opening image tape).core u).retired ≡ 0
none_retired image tape zero = refl
none_retired image tape (suc u) = refl

at_first : (image : Layout) (log : Log) (schedule : List ℕ) → SoFar image log schedule 0 (opening image (tape_of log)) []
unfolding first_diff
at_first image log schedule = record {
  rest = zero_more (differs_from image log (opening image (tape_of log)) [] schedule);
  most = record { each = λ (u : ℕ). omega (arith, none_retired image (tape_of log) u) };
}

pub along_first : (log : Log) (schedule : List ℕ) (old : Whole) (met : Met) → StandsFor old (opening old.image (tape_of log))
    → met ≡ record { items = replicate 8 0; calls = 0 } → Along old.image log schedule 0 old met
along_first log schedule old met stands nothing = record {
  state = opening old.image (tape_of log);
  happened = [];
  image_is = refl;
  stands = stands;
  met_is = subst (HasMet log []) (sym nothing) (met_nothing log);
  few = record { each = λ (u : ℕ). omega (arith, none_retired old.image (tape_of log) u) };
  so_far = at_first old.image log schedule;
}

-- what a step tells of every state and past that the machine and what was met stand for
abbrev pub Tells : Log → ℕ → Whole → Met → Bool → Whole → Met → Type 0
Tells log t old met next now then =
    (state : State) (happened : List Event) → StandsFor old state → HasMet log happened met → Advances log state happened t old.image next now then

told : (image : Layout) (log : Log) (schedule : List ℕ) (place t : ℕ) (old now : Whole) (met then : Met) (next : Bool) → (along : Along image log schedule place old met)
    → Tells log t old met next now then → Advances log along.state along.happened t image next now then
told image log schedule place t old now met then next along tells =
    let P : Layout → Type 0 = λ i. Advances log along.state along.happened t i next now then in
    subst P along.image_is (tells along.state along.happened along.stands along.met_is)

pub along_on : (image : Layout) (log : Log) (schedule : List ℕ) (place t : ℕ) (old now : Whole) (met then : Met) (next : Bool) → IsValid log
    → Along image log schedule place old met → place < length schedule → get_or schedule place 0 ≡ t
    → Tells log t old met next now then → next ≡ true → Along image log schedule (place + 1) now then
along_on image log schedule place t old now met then next valid along within is tells so =
    let goes : Advances log along.state along.happened t image next now then = told image log schedule place t old now met then next along tells in
    let fit : fits image log along.state along.happened t ≡ true = sym goes.answer ∙ so in
    let more : IsFurther log along.state along.happened t image now then = goes.further so in
    let there : t < length along.state.core.threads = enabled_within image along.state t (and_parts _ _ fit).0 in
    record {
      state = (step image along.state t).state;
      happened = along.happened ++ event_of image along.state t ∷ [];
      image_is = more.image_is;
      stands = more.stands;
      met_is = more.met_is;
      few = agreed_kept image log along.state along.happened t MOST_STEPS valid.steps there along.few (and_parts _ _ fit).1;
      so_far = one_further image log schedule place t along.state along.happened along.so_far within is fit there;
    }

place_of : (place : ℕ) → option_map (λ (k : ℕ). place + k) (Some 0) ≡ Some place
place_of place = let e : place + 0 ≡ place = omega arith in ap Some e

ending : (place : ℕ) (b : Bool) → option_map (λ (k : ℕ). place + k) (cond b None (Some 0)) ≡ cond b None (Some place)
ending place true = refl
ending place false = place_of place

along_all : (image : Layout) (log : Log) (schedule : List ℕ) (place : ℕ) (old : Whole) (met : Met) (all : Bool) → IsValid log
    → Along image log schedule place old met → length schedule ≤ place → (all ≡ true) ↔ IsAllMet log old.core met
    → cond all None (Some place) ≡ first_diff image log schedule
along_all image log schedule place old met all valid along past_end tells =
    let P : Core → Type 0 = λ core. (all ≡ true) ↔ IsAllMet log core met in
    let same : all ≡ same_log (log_of along.state along.happened) log =
    same_if_all log along.state along.happened met all valid.grammar.version along.met_is (subst P along.stands.core tells) in
    sym (along.so_far.rest
    ∙ (ap (λ (rest : List ℕ). option_map (λ (k : ℕ). place + k) (differs_from image log along.state along.happened rest)) (drop_all place schedule past_end)
    ∙ (ap (λ (b : Bool). option_map (λ (k : ℕ). place + k) (cond b None (Some 0))) (sym same) ∙ ending place all)))

pub along_met : (image : Layout) (log : Log) (schedule : List ℕ) (place : ℕ) (old : Whole) (met : Met) (all : Bool) → IsValid log
    → Along image log schedule place old met → length schedule ≤ place → (all ≡ true) ↔ IsAllMet log old.core met → all ≡ true
    → None ≡ first_diff image log schedule
along_met image log schedule place old met all valid along past_end tells so =
    ap (λ (b : Bool). let found : Option ℕ = cond b None (Some place) in found) (sym so) ∙ along_all image log schedule place old met all valid along past_end tells

pub along_unmet : (image : Layout) (log : Log) (schedule : List ℕ) (place : ℕ) (old : Whole) (met : Met) (all : Bool) → IsValid log
    → Along image log schedule place old met → length schedule ≤ place → (all ≡ true) ↔ IsAllMet log old.core met → all ≡ false → place ≤ length schedule
    → Some (length schedule) ≡ first_diff image log schedule
along_unmet image log schedule place old met all valid along past_end tells unlike upto =
    let same : length schedule ≡ place = omega arith in
    ap Some same
    ∙ (ap (λ (b : Bool). let found : Option ℕ = cond b None (Some place) in found) (sym unlike) ∙ along_all image log schedule place old met all valid along past_end tells)
