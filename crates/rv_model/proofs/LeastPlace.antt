-- The first difference is the least place that doesn't fit: how far all places fit, the search has come.
use Rattle.std.specs.Prelude.{◌≡◌, ◌↔◌, ℕ, zero, suc, ◌+◌, ◌<◌, ◌≤◌, ◌⊎◌, Bool, true, false, cond, List, [], ◌∷◌, ◌++◌, length, take, drop, Option, Some, None, option_map, refl}
use Rattle.std.proofs.Common.{sym, ◌∙◌, ap, subst, arith, get_or, inl, inr}
use Rattle.std.proofs.lemmas.Bool.{and_parts, and_from, cases_lt, true≢false, false_from_ne_true}
use Rattle.std.proofs.lemmas.List.{take_more}
use Rattle.std.proofs.Math.Seq.{drop-cons}
use Rattle.elf_image.specs.Layout.{Layout}
use Rattle.odr_log.specs.declared.log.Log.{Log}
use Rattle.odr_log.specs.Tape.{tape_of}
use Rattle.odr_log.specs.Same.{same_log}
use Rattle.odr_log.specs.SameLaws.{same_log-exact}
use Rattle.rv_model.specs.declared.state.State.{State}
use Rattle.rv_model.specs.declared.state.Event.{Event}
use Rattle.rv_model.specs.Step.{opening, step, is_enabled}
use Rattle.rv_model.specs.Run.{final, events, event_of, agrees, fits, differs_from, first_diff, log_of}
use Rattle.rv_model.specs.FirstDifference.{state_before, events_before, FitsPlace, IsFirstDifference}
use Rattle.rv_model.proofs.Difference.{enabled_within}
use Rattle.rv_model.proofs.SoFar.{SoFar, so_far_none, further}

-- ---- a schedule's front

pub final-append : (image : Layout) (state : State) (front rest : List ℕ) → final image state (front ++ rest) ≡ final image (final image state front) rest
final-append image state [] rest = refl
final-append image state (t ∷ front) rest = final-append image (step image state t).state front rest

pub events-append : (image : Layout) (state : State) (front rest : List ℕ) → events image state (front ++ rest) ≡ events image state front ++ events image (final image state front) rest
events-append image state [] rest = refl
events-append image state (t ∷ front) rest = ap (λ (es : List Event). event_of image state t ∷ es) (events-append image (step image state t).state front rest)

state_more : (image : Layout) (log : Log) (schedule : List ℕ) (n : ℕ) → n < length schedule
    → state_before image log schedule (n + 1) ≡ (step image (state_before image log schedule n) (get_or schedule n 0)).state
state_more image log schedule n within =
    ap (final image (opening image (tape_of log))) (take_more schedule n 0 within) ∙ final-append image (opening image (tape_of log)) (take n schedule) (get_or schedule n 0 ∷ [])

events_more : (image : Layout) (log : Log) (schedule : List ℕ) (n : ℕ) → n < length schedule
    → events_before image log schedule (n + 1) ≡ events_before image log schedule n ++ event_of image (state_before image log schedule n) (get_or schedule n 0) ∷ []
events_more image log schedule n within =
    ap (events image (opening image (tape_of log))) (take_more schedule n 0 within) ∙ events-append image (opening image (tape_of log)) (take n schedule) (get_or schedule n 0 ∷ [])

-- ---- a place that fits

abbrev fits_at : Layout → Log → List ℕ → ℕ → Bool
fits_at image log schedule n = fits image log (state_before image log schedule n) (events_before image log schedule n) (get_or schedule n 0)

fits_place : (image : Layout) (log : Log) (schedule : List ℕ) (n : ℕ) → fits_at image log schedule n ≡ true → FitsPlace image log schedule n
fits_place image log schedule n e =
    let parts : (is_enabled image (state_before image log schedule n) (get_or schedule n 0) ≡ true)
    × (agrees log (events_before image log schedule n) (event_of image (state_before image log schedule n) (get_or schedule n 0)) ≡ true) = and_parts _ _ e in
    record { enabled = parts.0; next = parts.1 }

place_fits : (image : Layout) (log : Log) (schedule : List ℕ) (n : ℕ) → FitsPlace image log schedule n → fits_at image log schedule n ≡ true
place_fits image log schedule n fit = and_from _ _ fit.enabled fit.next

-- all places before this one fit
record Reached (image : Layout) (log : Log) (schedule : List ℕ) (n : ℕ) : Type 0 where
  within : n ≤ length schedule
  earlier : (k : ℕ) → k < n → FitsPlace image log schedule k
  far : SoFar image log schedule n (state_before image log schedule n) (events_before image log schedule n)

reached_none : (image : Layout) (log : Log) (schedule : List ℕ) → Reached image log schedule 0
reached_none image log schedule = record {
  within = omega arith;
  earlier = λ (k : ℕ) (before : k < 0). absurd (omega arith);
  far = so_far_none image log schedule;
}

earlier_more : (image : Layout) (log : Log) (schedule : List ℕ) (n : ℕ) → ((k : ℕ) → k < n → FitsPlace image log schedule k) → FitsPlace image log schedule n
    → (k : ℕ) → k < n + 1 → FitsPlace image log schedule k
earlier_more image log schedule n earlier here k before =
    elim (cases_lt k n) [
      | inl less ↦ earlier k less
      | inr not_less ↦ (let same : n ≡ k = omega arith in subst (FitsPlace image log schedule) same here)
    ]

reached_more : (image : Layout) (log : Log) (schedule : List ℕ) (n : ℕ) → Reached image log schedule n → n < length schedule → FitsPlace image log schedule n → Reached image log schedule (n + 1)
reached_more image log schedule n reached within here =
    let t : ℕ = get_or schedule n 0 in
    let far : SoFar image log schedule (n + 1) (step image (state_before image log schedule n) t).state (events_before image log schedule n ++ event_of image (state_before image log schedule n) t ∷ []) =
    further image log schedule n t (state_before image log schedule n) (events_before image log schedule n) reached.far within refl (place_fits image log schedule n here)
    (enabled_within image (state_before image log schedule n) t here.enabled) in
    record {
      within = omega arith;
      earlier = earlier_more image log schedule n reached.earlier here;
      far =
          subst (λ (s : State). SoFar image log schedule (n + 1) s (events_before image log schedule (n + 1))) (sym (state_more image log schedule n within))
          (subst (λ (h : List Event). SoFar image log schedule (n + 1) (step image (state_before image log schedule n) t).state h) (sym (events_more image log schedule n within)) far);
    }

-- ---- what the search finds at a place that it has reached

here_is : (image : Layout) (log : Log) (schedule : List ℕ) (n : ℕ) → Reached image log schedule n → n < length schedule
    → first_diff image log schedule
    ≡ option_map (λ (k : ℕ). n + k) (
    cond (fits_at image log schedule n)
    (option_map suc (differs_from image log (step image (state_before image log schedule n) (get_or schedule n 0)).state
    (events_before image log schedule n ++ event_of image (state_before image log schedule n) (get_or schedule n 0) ∷ []) (drop (suc n) schedule))) (Some 0)
    )
here_is image log schedule n reached within =
    reached.far.rest ∙ ap (λ (rest : List ℕ). option_map (λ (k : ℕ). n + k) (differs_from image log (state_before image log schedule n) (events_before image log schedule n) rest)) (drop-cons schedule n 0 within)

drop_all : (schedule : List ℕ) → drop (length schedule) schedule ≡ []
drop_all [] = refl
drop_all (t ∷ schedule) = drop_all schedule

end_is : (image : Layout) (log : Log) (schedule : List ℕ) (n : ℕ) → Reached image log schedule n → n ≡ length schedule
    → first_diff image log schedule
    ≡ option_map (λ (k : ℕ). n + k) (cond {A = Option ℕ} (same_log (log_of (state_before image log schedule n) (events_before image log schedule n)) log) None (Some 0))
end_is image log schedule n reached at_end =
    reached.far.rest
    ∙ ap (λ (rest : List ℕ). option_map (λ (k : ℕ). n + k) (differs_from image log (state_before image log schedule n) (events_before image log schedule n) rest))
    (ap (λ (k : ℕ). drop k schedule) at_end ∙ drop_all schedule)

same_place : (a b : ℕ) → Some a ≡ Some b → a ≡ b
same_place a b e = cc

later_place : (n place : ℕ) (rest : Option ℕ) → option_map (λ (k : ℕ). n + k) (option_map suc rest) ≡ Some place → n < place
later_place n place None e = absurd (let f : None ≡ Some place = e in cc)
later_place n place (Some k) e = let same : n + suc k ≡ place = same_place (n + suc k) place e in omega (arith, same)

-- before the place that was found the threads fit; there they don't
fits_before : (image : Layout) (log : Log) (schedule : List ℕ) (n place : ℕ) → first_diff image log schedule ≡ Some place → Reached image log schedule n → n < length schedule
    → ((n < place) × FitsPlace image log schedule n) ⊎ ((n ≡ place) × (FitsPlace image log schedule n → ⊥))
fits_before image log schedule n place found reached within = choose (fits_at image log schedule n) refl where
  choose : (b : Bool) → fits_at image log schedule n ≡ b → ((n < place) × FitsPlace image log schedule n) ⊎ ((n ≡ place) × (FitsPlace image log schedule n → ⊥))
  choose true fit =
      let is : first_diff image log schedule ≡ option_map (λ (k : ℕ). n + k) (option_map suc (differs_from image log (step image (state_before image log schedule n) (get_or schedule n 0)).state
      (events_before image log schedule n ++ event_of image (state_before image log schedule n) (get_or schedule n 0) ∷ []) (drop (suc n) schedule))) =
      here_is image log schedule n reached within
      ∙ ap (λ (c : Bool). option_map (λ (k : ℕ). n + k) (cond c (option_map suc (differs_from image log (step image (state_before image log schedule n) (get_or schedule n 0)).state
      (events_before image log schedule n ++ event_of image (state_before image log schedule n) (get_or schedule n 0) ∷ []) (drop (suc n) schedule))) (Some 0))) fit in
      inl (later_place n place _ (sym is ∙ found), fits_place image log schedule n fit)
  choose false fit =
      let is : first_diff image log schedule ≡ Some (n + 0) =
      here_is image log schedule n reached within
      ∙ ap (λ (c : Bool). option_map (λ (k : ℕ). n + k) (cond c (option_map suc (differs_from image log (step image (state_before image log schedule n) (get_or schedule n 0)).state
      (events_before image log schedule n ++ event_of image (state_before image log schedule n) (get_or schedule n 0) ∷ []) (drop (suc n) schedule))) (Some 0))) fit in
      inr (
        (let same : n + 0 ≡ place = same_place (n + 0) place (sym is ∙ found) in omega (arith, same)),
        λ (place_fit : FitsPlace image log schedule n). true≢false (sym (place_fits image log schedule n place_fit) ∙ fit),
      )

other_log : (image : Layout) (log : Log) (schedule : List ℕ) (n place : ℕ) → first_diff image log schedule ≡ Some place → Reached image log schedule n → n ≡ length schedule
    → (n ≡ place) × (log_of (state_before image log schedule n) (events_before image log schedule n) ≡ log → ⊥)
other_log image log schedule n place found reached at_end =
    choose (same_log (log_of (state_before image log schedule n) (events_before image log schedule n)) log) refl
  where
    choose : (b : Bool) → same_log (log_of (state_before image log schedule n) (events_before image log schedule n)) log ≡ b
        → (n ≡ place) × (log_of (state_before image log schedule n) (events_before image log schedule n) ≡ log → ⊥)
    choose true same =
        let is : first_diff image log schedule ≡ None =
        end_is image log schedule n reached at_end ∙ ap (λ (c : Bool). option_map (λ (k : ℕ). n + k) (cond {A = Option ℕ} c None (Some 0))) same in
        absurd (let f : None ≡ Some place = sym is ∙ found in cc)
    choose false same =
        let is : first_diff image log schedule ≡ Some (n + 0) =
        end_is image log schedule n reached at_end ∙ ap (λ (c : Bool). option_map (λ (k : ℕ). n + k) (cond {A = Option ℕ} c None (Some 0))) same in (
          (let there : n + 0 ≡ place = same_place (n + 0) place (sym is ∙ found) in omega (arith, there)),
          λ (e : log_of (state_before image log schedule n) (events_before image log schedule n) ≡ log).
              true≢false (sym ((same_log-exact (log_of (state_before image log schedule n) (events_before image log schedule n)) log).1 e) ∙ same),
        )

-- all places up to the one that was found are reached
reaches : (image : Layout) (log : Log) (schedule : List ℕ) (place : ℕ) → first_diff image log schedule ≡ Some place → (n : ℕ) → n ≤ place → Reached image log schedule n
reaches image log schedule place found zero up = reached_none image log schedule
reaches image log schedule place found (suc n) up =
    let reached : Reached image log schedule n = reaches image log schedule place found n (omega arith) in
    let one : n + 1 ≡ suc n = omega arith in
    elim (cases_lt n (length schedule)) [
      | inl within ↦ elim (fits_before image log schedule n place found reached within) [
        | inl fit ↦ subst (Reached image log schedule) one (reached_more image log schedule n reached within fit.1)
        | inr here ↦ absurd (omega (arith, here.0))
      ]
      | inr past ↦ absurd (omega (arith, (other_log image log schedule n place found reached (omega (arith, reached.within))).0))
    ]

found_is : (image : Layout) (log : Log) (schedule : List ℕ) (place : ℕ) → first_diff image log schedule ≡ Some place → IsFirstDifference image log schedule place
found_is image log schedule place found =
    let reached : Reached image log schedule place = reaches image log schedule place found place (omega arith) in
    record {
      earlier = reached.earlier;
      here =
          elim (cases_lt place (length schedule)) [
            | inl within ↦ elim (fits_before image log schedule place place found reached within) [
              | inl fit ↦ absurd (omega (arith, fit.0))
              | inr here ↦ inl (within, here.1)
            ]
            | inr past ↦ (let at_end : place ≡ length schedule = omega (arith, reached.within) in inr (at_end, (other_log image log schedule place place found reached at_end).1))
          ];
    }

-- ---- and such a place is found

reaches_all : (image : Layout) (log : Log) (schedule : List ℕ) (place : ℕ) → place ≤ length schedule → ((k : ℕ) → k < place → FitsPlace image log schedule k) → (n : ℕ) → n ≤ place → Reached image log schedule n
reaches_all image log schedule place most earlier zero up = reached_none image log schedule
reaches_all image log schedule place most earlier (suc n) up =
    let one : n + 1 ≡ suc n = omega arith in
    subst (Reached image log schedule) one
    (reached_more image log schedule n (reaches_all image log schedule place most earlier n (omega arith)) (omega arith) (earlier n (omega arith)))

within_is : (image : Layout) (log : Log) (schedule : List ℕ) (place : ℕ) → IsFirstDifference image log schedule place → place ≤ length schedule
within_is image log schedule place is = elim is.here [ inl here ↦ omega (arith, here.0) | inr at_end ↦ omega (arith, at_end.0) ]

is_found : (image : Layout) (log : Log) (schedule : List ℕ) (place : ℕ) → IsFirstDifference image log schedule place → first_diff image log schedule ≡ Some place
is_found image log schedule place is =
    let reached : Reached image log schedule place = reaches_all image log schedule place (within_is image log schedule place is) is.earlier place (omega arith) in
    let nothing_more : Some (place + 0) ≡ Some place = (let e : place + 0 ≡ place = omega arith in ap Some e) in
    elim is.here [
      | inl here ↦ (
          here_is image log schedule place reached here.0
          ∙ ap (λ (c : Bool). option_map (λ (k : ℕ). place + k) (cond c (option_map suc (differs_from image log (step image (state_before image log schedule place) (get_or schedule place 0)).state
          (events_before image log schedule place ++ event_of image (state_before image log schedule place) (get_or schedule place 0) ∷ []) (drop (suc place) schedule))) (Some 0)))
          (false_from_ne_true (fits_at image log schedule place) (λ (fit : fits_at image log schedule place ≡ true). here.1 (fits_place image log schedule place fit)))
          ∙ nothing_more
          )
      | inr at_end ↦ (
          end_is image log schedule place reached at_end.0
          ∙ ap (λ (c : Bool). option_map (λ (k : ℕ). place + k) (cond {A = Option ℕ} c None (Some 0)))
          (false_from_ne_true (same_log (log_of (state_before image log schedule place) (events_before image log schedule place)) log)
          (λ (same : same_log (log_of (state_before image log schedule place) (events_before image log schedule place)) log ≡ true).
          at_end.1 ((same_log-exact (log_of (state_before image log schedule place) (events_before image log schedule place)) log).0 same)))
          ∙ nothing_more
          )
    ]

pub least_place : (image : Layout) (log : Log) (schedule : List ℕ) (place : ℕ) → (first_diff image log schedule ≡ Some place) ↔ IsFirstDifference image log schedule place
least_place image log schedule place = (found_is image log schedule place, is_found image log schedule place)
