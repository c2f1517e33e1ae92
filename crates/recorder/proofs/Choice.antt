-- The thread at a picked place of the list of threads that may step.
use Rattle.std.specs.Prelude.{◌≡◌, ℕ, zero, suc, ◌%◌, ◌<◌, ◌≤◌, true, List, [], ◌∷◌, length, take, slice_get, Option, Some, None, refl}
use Rattle.std.proofs.Common.{sym, ◌∙◌, ap, arith, get_or}
use Rattle.std.proofs.lemmas.Bool.{and_parts, ltb-true}
use Rattle.rand_pcg.specs.Lcg.{Lcg}
use Rattle.rv_model.specs.declared.state.State.{State}
use Rattle.rv_model.specs.declared.state.Core.{Core}
use Rattle.rv_model.specs.Instruction.{act_at, reserving_at}
use Rattle.rv_model.specs.Step.{enabled, effect, thread_at, next_instr, heard_at}
use Rattle.guest_mem.specs.Blocks.{cells_of}
use Rattle.guest_machine.specs.declared.note.Note.{Note}
use Rattle.guest_machine.specs.Whole.{Whole, StandsFor, Follows, may_step}
use Rattle.guest_machine.specs.Waiting.{enabled_threads}
use Rattle.guest_machine.proofs.EnabledLemmas.{enabled_states}
use Rattle.guest_sched.specs.Words.{generator_of, generator_after, word_of}
use Rattle.recorder.specs.Seeded.{chosen}
use Rattle.recorder.proofs.Seeding.{filter_get}
use Rattle.recorder.proofs.StepLogs.{outcome_adds}

get_take : (into : List ℕ) (count place : ℕ) (d : ℕ) → place < count → place < length into → slice_get (take count into) place ≡ Some (get_or into place d)
get_take [] count place d within there = absurd (omega arith)
get_take (x ∷ xs) zero place d within there = absurd (omega arith)
get_take (x ∷ xs) (suc count) zero d within there = refl
get_take (x ∷ xs) (suc count) (suc place) d within there = get_take xs count place d (omega arith) (omega arith)

-- the picked one is in the list
pub picked_is : (into listed : List ℕ) (count place word d : ℕ) → take count into ≡ listed → count ≡ length listed → place ≡ word % count → 1 ≤ count → count ≤ length into
    → slice_get listed (word % length listed) ≡ Some (get_or into place d)
picked_is into listed count place word d taken counted is some room =
    let below : place < count = omega arith in
    let there : place < length into = omega arith in
    ap (λ (n : ℕ). slice_get listed (word % n)) (sym counted)
    ∙ (ap (λ (k : ℕ). slice_get listed k) (sym is)
    ∙ (ap (λ (xs : List ℕ). slice_get xs place) (sym taken)
    ∙ get_take into count place d below there))

-- none is picked from an empty list
pub picked_none : (listed : List ℕ) (place : ℕ) → length listed ≡ 0 → slice_get listed place ≡ None
picked_none [] place e = refl
picked_none (x ∷ xs) place e = absurd (omega arith)

-- a thread that may step was made
pub may_step_within : (whole : Whole) (tid : ℕ) → may_step whole tid ≡ true → tid < length whole.core.threads
unfolding enabled
may_step_within whole tid e = ltb-true tid (length whole.core.threads) (and_parts _ _ (and_parts _ _ (and_parts _ _ e).0).0).0

pub picked_enabled : (whole : Whole) (k tid : ℕ) → Some tid ≡ slice_get (enabled_threads whole) k → may_step whole tid ≡ true
picked_enabled whole k tid e = filter_get (may_step whole) _ k tid (sym e)

pub picked_within : (whole : Whole) (k tid : ℕ) → Some tid ≡ slice_get (enabled_threads whole) k → tid < length whole.core.threads
picked_within whole k tid e = may_step_within whole tid (picked_enabled whole k tid e)

-- what is picked is what the seeded schedule has in each state that the machine stands for
pub picked_chosen : (whole : Whole) (generator : Lcg) (o : Option ℕ) → o ≡ slice_get (enabled_threads whole) (word_of generator % length (enabled_threads whole))
    → (seed place : ℕ) (state : State) → StandsFor whole state → generator ≡ generator_after place (generator_of seed) → chosen whole.image seed state place ≡ o
picked_chosen whole generator o e seed place state stands words =
    ap (λ (xs : List ℕ). slice_get xs (word_of (generator_after place (generator_of seed)) % length xs)) (sym (enabled_states whole state stands))
    ∙ (ap (λ (g : Lcg). slice_get (enabled_threads whole) (word_of g % length (enabled_threads whole))) (sym words) ∙ sym e)

-- threads stay over a step
pub within_after : (old new : Whole) (tid : ℕ) (shown : Note) → Follows old (effect old.image (cells_of old.blocks) old.core tid) shown new → tid < length old.core.threads → tid < length new.core.threads
unfolding effect
within_after old new tid shown follows within =
    let adds = outcome_adds old.core tid 0 (reserving_at (thread_at old.core tid).local (next_instr old.image old.core tid) (thread_at old.core tid).reservation)
    (act_at (thread_at old.core tid).local (next_instr old.image old.core tid) (heard_at old.image (cells_of old.blocks) old.core tid)) [] within
    (record { nothing = λ (u : ℕ) (past : length old.core.threads ≤ u). refl }) in
    let same : length new.core.threads ≡ length (effect old.image (cells_of old.blocks) old.core tid).core.threads = ap (λ (core : Core). length core.threads) follows.core in
    omega (arith, adds.count, same)

pub ruleset choices = (picked_none)
