-- How far the search for the first difference has come.
use Rattle.std.specs.Prelude.{◌≡◌, ℕ, zero, ◌+◌, ◌<◌, ◌≤◌, List, [], ◌∷◌, ◌++◌, length, drop, Option, Some, None, option_map, Bool, true, cond, suc, refl}
use Rattle.std.proofs.Common.{sym, ◌∙◌, ap, subst, arith, get_or}
use Rattle.std.proofs.Math.Seq.{drop-cons}
use Rattle.elf_image.specs.Layout.{Layout}
use Rattle.odr_log.specs.declared.log.Log.{Log}
use Rattle.odr_log.specs.Tape.{tape_of}
use Rattle.rv_model.specs.declared.state.State.{State}
use Rattle.rv_model.specs.declared.state.Event.{Event}
use Rattle.rv_model.specs.declared.state.Local.{Local}
use Rattle.rv_model.specs.Thread.{first_local, fresh, no_thread}
use Rattle.rv_model.specs.Step.{opening, step}
use Rattle.rv_model.specs.Run.{first_diff, differs_from, fits, event_of}
use Rattle.rv_model.proofs.Bounds.{AtMost, step_bound}

pub record SoFar (image : Layout) (log : Log) (schedule : List ℕ) (place : ℕ) (state : State) (happened : List Event) : Type 0 where
  pub rest : first_diff image log schedule ≡ option_map (λ (k : ℕ). place + k) (differs_from image log state happened (drop place schedule))
  pub most : AtMost place state.core

from_zero : (o : Option ℕ) → o ≡ option_map (λ (k : ℕ). 0 + k) o
from_zero None = refl
from_zero (Some k) = let e : k ≡ 0 + k = omega arith in ap Some e

fresh_most : (local : Local) (u : ℕ) → (get_or (fresh local ∷ []) u no_thread).retired ≤ 0
fresh_most local zero = omega arith
fresh_most local (suc u) = omega arith

-- before the first place
pub so_far_none : (image : Layout) (log : Log) (schedule : List ℕ) → SoFar image log schedule 0 (opening image (tape_of log)) []
unfolding first_diff
so_far_none image log schedule = record {
  rest = from_zero (differs_from image log (opening image (tape_of log)) [] schedule);
  most = record { each = λ (u : ℕ). fresh_most (first_local image.entry) u };
}

shifted : (place : ℕ) (o : Option ℕ) → option_map (λ (k : ℕ). place + k) (option_map suc o) ≡ option_map (λ (k : ℕ). place + 1 + k) o
shifted place None = refl
shifted place (Some k) = let e : place + suc k ≡ place + 1 + k = omega arith in ap Some e

on_true : (b : Bool) (x y : Option ℕ) → b ≡ true → cond b x y ≡ x
on_true b x y e = ap (λ (t : Bool). cond t x y) e

-- one step further
pub further : (image : Layout) (log : Log) (schedule : List ℕ) (place t : ℕ) (state : State) (happened : List Event) → SoFar image log schedule place state happened
    → place < length schedule → get_or schedule place 0 ≡ t → fits image log state happened t ≡ true → t < length state.core.threads
    → SoFar image log schedule (place + 1) (step image state t).state (happened ++ event_of image state t ∷ [])
further image log schedule place t state happened far within is fit there = record {
  rest =
      let next : Option ℕ = differs_from image log (step image state t).state (happened ++ event_of image state t ∷ []) (drop (place + 1) schedule) in
      let cut : drop place schedule ≡ t ∷ drop (place + 1) schedule =
      drop-cons schedule place 0 within
      ∙ ap (λ (k : ℕ). get_or schedule place 0 ∷ drop k schedule) (let e : suc place ≡ place + 1 = omega arith in e)
      ∙ ap (λ (x : ℕ). x ∷ drop (place + 1) schedule) is in
      far.rest
      ∙ ap (option_map (λ (k : ℕ). place + k)) (ap (differs_from image log state happened) cut ∙ on_true (fits image log state happened t) (option_map suc next) (Some 0) fit)
      ∙ shifted place next;
  most = step_bound image state t place there far.most;
}

-- the same, by what a call said of the step
pub further_by : (image : Layout) (log : Log) (schedule : List ℕ) (place t : ℕ) (state after : State) (happened seen grown : List Event) (event : Event)
    → SoFar image log schedule place state happened → place < length schedule → get_or schedule place 0 ≡ t → seen ≡ happened
    → fits image log state seen t ≡ true → t < length state.core.threads → after ≡ (step image state t).state → event ≡ event_of image state t
    → grown ≡ happened ++ event ∷ [] → SoFar image log schedule (place + 1) after grown
further_by image log schedule place t state after happened seen grown event far within is same fit there after_is event_is grown_is =
    let fits_here : fits image log state happened t ≡ true = ap (λ (h : List Event). fits image log state h t) (sym same) ∙ fit in
    let grown_to : grown ≡ happened ++ event_of image state t ∷ [] = grown_is ∙ ap (λ (e : Event). happened ++ e ∷ []) event_is in
    subst (λ (s : State). SoFar image log schedule (place + 1) s grown) (sym after_is)
    (subst (λ (h : List Event). SoFar image log schedule (place + 1) (step image state t).state h) (sym grown_to)
    (further image log schedule place t state happened far within is fits_here there))
