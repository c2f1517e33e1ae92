-- The list of the threads that may step, one thread after the other.
use Rattle.std.specs.Prelude.{◌≡◌, ℕ, zero, suc, ◌+◌, Bool, true, false, cond, List, [], ◌∷◌, ◌++◌, length, if◌then◌else◌, refl}
use Rattle.std.specs.List.{filter, range_with_len}
use Rattle.std.proofs.Common.{sym, ap, ◌∙◌, arith}
use Rattle.std.proofs.lemmas.List.{length-append}
use mathlib.Core.Path.{fun_ext}
use Rattle.rv_model.specs.declared.state.Core.{Core}
use Rattle.rv_model.specs.declared.state.State.{State}
use Rattle.rv_model.specs.Step.{is_enabled, enabled_in}
use Rattle.guest_machine.specs.Whole.{Whole, StandsFor}
use Rattle.guest_machine.specs.Waiting.{enabled_threads}
use Rattle.guest_machine.proofs.StandsLemmas.{enabled_there}

kept_by : (b : Bool) (x : ℕ) (xs ys : List ℕ) → cond b (x ∷ (xs ++ ys)) (xs ++ ys) ≡ cond b (x ∷ xs) xs ++ ys
kept_by true x xs ys = refl
kept_by false x xs ys = refl

filter_range-suc : (test : ℕ → Bool) (a n j : ℕ) → a + n ≡ j
    → filter test (range_with_len a (suc n)) ≡ filter test (range_with_len a n) ++ (if test j then j ∷ [] else [])
filter_range-suc test a zero j e = let same : a ≡ j = omega arith in ap (λ (k : ℕ). filter test (k ∷ [])) same
filter_range-suc test a (suc n) j e =
    ap (λ (rest : List ℕ). cond (test a) (a ∷ rest) rest) (filter_range-suc test (a + 1) n j (omega arith))
    ∙ kept_by (test a) a (filter test (range_with_len (a + 1) n)) (if test j then j ∷ [] else [])

pub filter_range-more : (test : ℕ → Bool) (n : ℕ)
    → filter test (range_with_len 0 (n + 1)) ≡ filter test (range_with_len 0 n) ++ (if test n then n ∷ [] else [])
filter_range-more test n =
    let e : n + 1 ≡ suc n = omega arith in
    ap (λ (k : ℕ). filter test (range_with_len 0 k)) e ∙ filter_range-suc test 0 n n (omega arith)

pub enabled_states : (whole : Whole) (state : State) → StandsFor whole state → enabled_threads whole ≡ enabled_in whole.image state
enabled_states whole state stands =
    ap (λ (test : ℕ → Bool). filter test (range_with_len 0 (length whole.core.threads))) (fun_ext (λ (tid : ℕ). enabled_there whole state tid stands))
    ∙ ap (λ (core : Core). filter (is_enabled whole.image state) (range_with_len 0 (length core.threads))) stands.core

pub ruleset enabled_lists = (filter_range-more, length-append)
