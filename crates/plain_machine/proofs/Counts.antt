-- How many items and records a list of events has, one event more at a time.
use Rattle.std.specs.Prelude.{◌≡◌, ℕ, ◌+◌, ◌<◌, List, [], ◌∷◌, ◌++◌, length, take}
use Rattle.std.proofs.Common.{◌∙◌, ap, get_or}
use Rattle.std.proofs.lemmas.List.{take_more, length-append}
use Rattle.rv_model.specs.declared.state.Event.{Event}
use Rattle.rv_model.specs.Run.{path_of, records_of}
use Rattle.rv_model.proofs.LogParts.{path_of-append, records_of-append}

pub length-path_of-more : (t : ℕ) (events : List Event) (i : ℕ) (e : Event) → i < length events → get_or events i e ≡ e
    → length (path_of t (take (i + 1) events)) ≡ length (path_of t (take i events)) + length (path_of t (e ∷ []))
length-path_of-more t events i e within is =
    ap (λ (es : List Event). length (path_of t es)) (take_more events i e within ∙ ap (λ (x : Event). take i events ++ x ∷ []) is)
    ∙ ap length (path_of-append t (take i events) (e ∷ []))
    ∙ length-append (path_of t (take i events)) (path_of t (e ∷ []))

pub length-records_of-more : (events : List Event) (i : ℕ) (e : Event) → i < length events → get_or events i e ≡ e
    → length (records_of (take (i + 1) events)) ≡ length (records_of (take i events)) + length (records_of (e ∷ []))
length-records_of-more events i e within is =
    ap (λ (es : List Event). length (records_of es)) (take_more events i e within ∙ ap (λ (x : Event). take i events ++ x ∷ []) is)
    ∙ ap length (records_of-append (take i events) (e ∷ []))
    ∙ length-append (records_of (take i events)) (records_of (e ∷ []))

pub ruleset counts = (length-path_of-more, length-records_of-more)

pub path_of-more : (t : ℕ) (events : List Event) (i : ℕ) (e : Event) → i < length events → get_or events i e ≡ e
    → path_of t (take (i + 1) events) ≡ path_of t (take i events) ++ path_of t (e ∷ [])
path_of-more t events i e within is =
    ap (path_of t) (take_more events i e within ∙ ap (λ (x : Event). take i events ++ x ∷ []) is) ∙ path_of-append t (take i events) (e ∷ [])

pub records_of-more : (events : List Event) (i : ℕ) (e : Event) → i < length events → get_or events i e ≡ e
    → records_of (take (i + 1) events) ≡ records_of (take i events) ++ records_of (e ∷ [])
records_of-more events i e within is =
    ap records_of (take_more events i e within ∙ ap (λ (x : Event). take i events ++ x ∷ []) is) ∙ records_of-append (take i events) (e ∷ [])

pub ruleset parts = (path_of-more, records_of-more)
