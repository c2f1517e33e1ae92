-- Laws of the runs of a schedule: they are the only maximal runs that have its steps.
use Rattle.std.proofs.Common.{◌≡◌, ℕ, suc, zero, ◌+◌, ◌-◌, Bool, true, false, cond, eqb, List, [], ◌∷◌, ◌++◌, replicate, refl, ap, ◌∙◌, add-one, subst, lit<, arith}
use Rattle.std.proofs.lemmas.Bool.{eqb-true, eqb-false, eq-eqb, ne_eqb}
use Rattle.sched_text.specs.declared.run.Run.{Run}
use Rattle.sched_text.specs.Text.{step_before, runs_of}
use Rattle.sched_text.specs.Runs.{steps_of, BeginsOther, AreMaximal}

-- so many steps of one thread
abbrev pub run : ℕ → ℕ → Run
run thread count = record { thread = thread; count = count }

pub lengthened : (thread count : ℕ) (runs : List Run) → step_before thread (run thread count ∷ runs) ≡ run thread (count + 1) ∷ runs
lengthened thread count runs = rw (eq-eqb thread thread refl)

pub begun : (thread other count : ℕ) (runs : List Run) → eqb other thread ≡ false → step_before thread (run other count ∷ runs) ≡ run thread 1 ∷ run other count ∷ runs
begun thread other count runs differ = rw differ

-- one step before runs
one_more : (count thread : ℕ) → replicate (count + 1) thread ≡ thread ∷ replicate count thread
one_more count thread = rw add-one

steps_of-step_before : (thread : ℕ) (runs : List Run) → steps_of (step_before thread runs) ≡ thread ∷ steps_of runs
steps_of-step_before thread [] = refl
steps_of-step_before thread (first ∷ runs) = pick (eqb first.thread thread) refl
  where
    pick : (b : Bool) → eqb first.thread thread ≡ b → steps_of (cond b (record first { count = first.count + 1 } ∷ runs) (run thread 1 ∷ first ∷ runs)) ≡ thread ∷ steps_of (first ∷ runs)
    pick true same =
        let is_thread : first.thread ≡ thread = eqb-true first.thread thread same in
        ap (λ (steps : List ℕ). steps ++ steps_of runs) (one_more first.count first.thread)
        ∙ ap (λ (t : ℕ). t ∷ steps_of (first ∷ runs)) is_thread
    pick false differ = refl

-- the runs of a schedule have its steps
pub steps_of-runs_of : (steps : List ℕ) → steps_of (runs_of steps) ≡ steps
steps_of-runs_of [] = refl
steps_of-runs_of (thread ∷ steps) = steps_of-step_before thread (runs_of steps) ∙ ap (λ (rest : List ℕ). thread ∷ rest) (steps_of-runs_of steps)

AreMaximal-step_before : (thread : ℕ) (runs : List Run) → AreMaximal runs → AreMaximal (step_before thread runs)
AreMaximal-step_before thread [] maximal = (lit< tt, tt, tt)
AreMaximal-step_before thread (first ∷ runs) maximal = pick (eqb first.thread thread) refl
  where
    pick : (b : Bool) → eqb first.thread thread ≡ b → AreMaximal (cond b (record first { count = first.count + 1 } ∷ runs) (run thread 1 ∷ first ∷ runs))
    pick true same = (omega arith, maximal.1, maximal.2)
    pick false differ = (lit< tt, eqb-false first.thread thread differ, maximal)

-- the runs of a schedule are maximal
pub runs_of-maximal : (steps : List ℕ) → AreMaximal (runs_of steps)
runs_of-maximal [] = tt
runs_of-maximal (thread ∷ steps) = AreMaximal-step_before thread (runs_of steps) (runs_of-maximal steps)

-- one step before runs that begin with another thread is a run of its own
alone : (thread : ℕ) (runs : List Run) → BeginsOther thread runs → step_before thread runs ≡ run thread 1 ∷ runs
alone thread [] differ = refl
alone thread (next ∷ runs) differ = rw (ne_eqb next.thread thread differ)

-- so are more of them
pub runs_of-run : (thread count : ℕ) (steps : List ℕ) (runs : List Run) → BeginsOther thread runs → runs_of steps ≡ runs → runs_of (replicate (suc count) thread ++ steps) ≡ run thread (suc count) ∷ runs
runs_of-run thread zero steps runs differ e = ap (step_before thread) e ∙ alone thread runs differ
runs_of-run thread (suc count) steps runs differ e =
    let longer : suc count + 1 ≡ suc (suc count) = omega arith in
    ap (step_before thread) (runs_of-run thread count steps runs differ e) ∙ lengthened thread (suc count) runs ∙ ap (λ (n : ℕ). run thread n ∷ runs) longer

-- maximal runs are the runs of their steps
pub runs_of-steps_of : (runs : List Run) → AreMaximal runs → runs_of (steps_of runs) ≡ runs
runs_of-steps_of [] maximal = refl
runs_of-steps_of (first ∷ runs) maximal =
    let P : ℕ → Type 0 = λ n. runs_of (replicate n first.thread ++ steps_of runs) ≡ run first.thread n ∷ runs in
    let counted : suc (first.count - 1) ≡ first.count = omega arith in
    subst P counted (runs_of-run first.thread (first.count - 1) (steps_of runs) runs maximal.1 (runs_of-steps_of runs maximal.2))
