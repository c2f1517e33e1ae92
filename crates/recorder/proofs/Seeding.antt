-- The seeded schedule one entry at a time, and that it runs.
use Rattle.std.specs.Prelude.{◌≡◌, ℕ, zero, suc, ◌+◌, Bool, true, false, cond, List, [], ◌∷◌, slice_get, Option, Some, None, refl}
use Rattle.std.specs.List.{filter}
use Rattle.std.proofs.Common.{sym, ◌∙◌, ap}
use Rattle.elf_image.specs.Layout.{Layout}
use Rattle.rv_model.specs.declared.state.State.{State}
use Rattle.rv_model.specs.Step.{opening, step, is_enabled}
use Rattle.rv_model.specs.Run.{Runs}
use Rattle.recorder.specs.Seeded.{chosen, first_of, seeded_from, seeded}

filter_by : (test : ℕ → Bool) (x : ℕ) (rest : List ℕ) (k t : ℕ) (b : Bool) → test x ≡ b → ((j : ℕ) → slice_get rest j ≡ Some t → test t ≡ true)
    → slice_get (cond b (x ∷ rest) rest) k ≡ Some t → test t ≡ true
filter_by test x rest zero t true passes later e = let same : x ≡ t = cc in ap test (sym same) ∙ passes
filter_by test x rest (suc k) t true passes later e = later k e
filter_by test x rest k t false passes later e = later k e

-- what a filter lets through passes its test
pub filter_get : (test : ℕ → Bool) (xs : List ℕ) (k t : ℕ) → slice_get (filter test xs) k ≡ Some t → test t ≡ true
filter_get test [] k t e = absurd (let f : None ≡ Some t = e in cc)
filter_get test (x ∷ xs) k t e = filter_by test x (filter test xs) k t (test x) refl (λ j f. filter_get test xs j t f) e

pub chosen_enabled : (image : Layout) (seed : ℕ) (state : State) (place t : ℕ) → chosen image seed state place ≡ Some t → is_enabled image state t ≡ true
chosen_enabled image seed state place t e = filter_get (is_enabled image state) _ _ t e

first_runs : (image : Layout) (state : State) (o : Option ℕ) (later : ℕ → List ℕ) → ((t : ℕ) → o ≡ Some t → is_enabled image state t ≡ true)
    → ((t : ℕ) → Runs image (step image state t).state (later t)) → Runs image state (first_of o later)
first_runs image state None later goes runs = tt
first_runs image state (Some t) later goes runs = (goes t refl, runs t)

runs_from : (image : Layout) (seed : ℕ) (state : State) (place left : ℕ) → Runs image state (seeded_from image seed state place left)
runs_from image seed state place zero = tt
runs_from image seed state place (suc left) =
    first_runs image state (chosen image seed state place) (λ thread. seeded_from image seed (step image state thread).state (place + 1) left)
    (λ t e. chosen_enabled image seed state place t e) (λ t. runs_from image seed (step image state t).state (place + 1) left)

-- the seeded schedule runs
pub seeded_runs : (image : Layout) (tape : List ℕ) (seed limit : ℕ) → Runs image (opening image tape) (seeded image tape seed limit)
unfolding seeded
seeded_runs image tape seed limit = runs_from image seed (opening image tape) 0 limit

pub seeded_stops : (image : Layout) (seed : ℕ) (state : State) (place left : ℕ) → chosen image seed state place ≡ None → seeded_from image seed state place left ≡ []
seeded_stops image seed state place zero e = refl
seeded_stops image seed state place (suc left) e =
    ap (λ (o : Option ℕ). first_of o (λ thread. seeded_from image seed (step image state thread).state (place + 1) left)) e

pub seeded_goes : (image : Layout) (seed : ℕ) (state : State) (place left t : ℕ) → chosen image seed state place ≡ Some t
    → seeded_from image seed state place (suc left) ≡ t ∷ seeded_from image seed (step image state t).state (place + 1) left
seeded_goes image seed state place left t e =
    ap (λ (o : Option ℕ). first_of o (λ thread. seeded_from image seed (step image state thread).state (place + 1) left)) e
