-- Laws of the text of a schedule.
use Rattle.std.proofs.Common.{◌≡◌, ℕ, suc, zero, ◌+◌, ◌^◌, ◌<◌, ◌≤◌, Bool, true, false, cond, eqb, List, [], ◌∷◌, ◌++◌, length, drop, replicate, Some, slice_get, refl, ap, ap₂, ◌∙◌, sym, subst, arith, append_assoc, append-nil}
use Rattle.std.proofs.lemmas.Bool.{eqb-true, eq-eqb}
use Rattle.std.proofs.lemmas.List.Sums.{prefix_len-le-length}
use Rattle.std.proofs.lemmas.List.Elements.{recursion_from_All}
use Rattle.std.specs.Fmt.{decimal}
use Rattle.std.specs.List.{All, AllByRecursion, flat_map, prefix_len}
use Rattle.sched_text.specs.declared.run.Run.{Run}
use Rattle.sched_text.specs.Text.{step_before, runs_of, line_of, schedule_text, IsTextOf}
use Rattle.sched_text.specs.Runs.{steps_of}
use Rattle.sched_text.specs.RunLaws.{run, lengthened, begun, runs_of-run, steps_of-runs_of}
use Rattle.sched_text.specs.LineLaws.{FitsLine, line_parts, one_line}

-- the text of runs
abbrev pub text_of : List Run → List ℕ
text_of runs = flat_map line_of runs

-- Many steps of one thread have one line.
pub schedule_text-one_thread : (count thread : ℕ) → 0 < count → schedule_text (replicate count thread) ≡ line_of (run thread count)
schedule_text-one_thread zero thread some = absurd (omega arith)
schedule_text-one_thread (suc count) thread some =
    let one_run : runs_of (replicate (suc count) thread) ≡ run thread (suc count) ∷ [] =
    ap runs_of (sym (append-nil (replicate (suc count) thread))) ∙ runs_of-run thread count [] [] tt refl in
    ap text_of one_run ∙ append-nil (line_of (run thread (suc count)))

-- how many steps from the first on are of one thread
abbrev pub length_of_run : ℕ → List ℕ → ℕ
length_of_run thread steps = prefix_len (λ step. eqb step thread) steps

-- the first run goes on with the first step of the rest
joined : (thread count : ℕ) (steps : List ℕ) → run thread (count + 1 + 1) ∷ runs_of (drop count steps) ≡ run thread (1 + count + 1) ∷ runs_of (drop (1 + count) (thread ∷ steps))
joined thread count steps =
    let more : suc count ≡ 1 + count = omega arith in
    let longer : count + 1 + 1 ≡ suc count + 1 = omega arith in
    ap (λ (n : ℕ). run thread n ∷ runs_of (drop count steps)) longer ∙ ap (λ (n : ℕ). run thread (n + 1) ∷ runs_of (drop n (thread ∷ steps))) more

-- the steps of a thread from the first on are the first run
pub runs_of-first : (thread : ℕ) (steps : List ℕ) → runs_of (thread ∷ steps) ≡ run thread (length_of_run thread steps + 1) ∷ runs_of (drop (length_of_run thread steps) steps)
runs_of-first thread [] = refl
runs_of-first thread (next ∷ steps) = pick (eqb next thread) refl (runs_of-first thread steps) (runs_of-first next steps)
  where
    pick : (b : Bool) → eqb next thread ≡ b
        → runs_of (thread ∷ steps) ≡ run thread (length_of_run thread steps + 1) ∷ runs_of (drop (length_of_run thread steps) steps)
        → runs_of (next ∷ steps) ≡ run next (length_of_run next steps + 1) ∷ runs_of (drop (length_of_run next steps) steps)
        → step_before thread (runs_of (next ∷ steps)) ≡ run thread (cond b (1 + length_of_run thread steps) 0 + 1) ∷ runs_of (drop (cond b (1 + length_of_run thread steps) 0) (next ∷ steps))
    pick true same mine other =
        let same_thread : thread ≡ next = sym (eqb-true next thread same) in
        let P : ℕ → Type 0 = λ n. step_before thread (runs_of (n ∷ steps)) ≡ run thread (1 + length_of_run thread steps + 1) ∷ runs_of (drop (1 + length_of_run thread steps) (n ∷ steps)) in
        subst P same_thread (ap (step_before thread) mine ∙ lengthened thread (length_of_run thread steps + 1) (runs_of (drop (length_of_run thread steps) steps)) ∙ joined thread (length_of_run thread steps) steps)
    pick false differ mine other =
        ap (step_before thread) other ∙ begun thread next (length_of_run next steps + 1) (runs_of (drop (length_of_run next steps) steps)) differ
        ∙ ap (λ (runs : List Run). run thread 1 ∷ runs) (sym other)

-- the line of the first run, and the text of the rest
pub record BeginsWith (steps : List ℕ) (first : Run) : Type 0 where
  pub some : 0 < first.count
  pub within : first.count ≤ length steps
  pub text : schedule_text steps ≡ line_of first ++ schedule_text (drop first.count steps)

pub schedule_text-first : (thread : ℕ) (steps : List ℕ) → slice_get steps 0 ≡ Some thread → BeginsWith steps (run thread (length_of_run thread steps))
schedule_text-first thread [] at = cc
schedule_text-first thread (first ∷ steps) at = subst P same_thread (subst Q counted here)
  where
    same_thread : first ≡ thread
    same_thread = cc at

    P : ℕ → Type 0
    P t = BeginsWith (first ∷ steps) (run t (length_of_run t (first ∷ steps)))

    more : ℕ
    more = length_of_run first steps

    Q : ℕ → Type 0
    Q n = BeginsWith (first ∷ steps) (run first n)

    counted : suc more ≡ length_of_run first (first ∷ steps)
    counted = rw (eq-eqb first first refl) (omega arith)

    here : Q (suc more)
    here = record {
      some = omega arith;
      within = omega (arith, prefix_len-le-length (λ step. eqb step first) steps);
      text = ap text_of (runs_of-first first steps) ∙ ap (λ (n : ℕ). line_of (run first n) ++ schedule_text (drop more steps)) (let e : more + 1 ≡ suc more = omega arith in e);
    }

weaker : (P Q : Run → Type 0) (runs : List Run) → ((r : Run) → P r → Q r) → AllByRecursion P runs → AllByRecursion Q runs
weaker P Q [] h all = tt
weaker P Q (r ∷ runs) h all = (h r all.0, weaker P Q runs h all.1)

-- a run of a schedule has one of its threads, and no more than its steps
pub record IsWithin (bound steps : ℕ) (r : Run) : Type 0 where
  pub thread : r.thread < bound
  pub count : r.count ≤ steps

within_more : (bound steps : ℕ) (r : Run) → IsWithin bound steps r → IsWithin bound (suc steps) r
within_more bound steps r w = record { thread = w.thread; count = omega arith }

within_before : (bound thread steps : ℕ) (runs : List Run) → thread < bound → AllByRecursion (IsWithin bound steps) runs → AllByRecursion (IsWithin bound (suc steps)) (step_before thread runs)
within_before bound thread steps [] below all = (record { thread = below; count = omega arith }, tt)
within_before bound thread steps (first ∷ runs) below all = pick (eqb first.thread thread)
  where
    later : AllByRecursion (IsWithin bound (suc steps)) (first ∷ runs)
    later = weaker (IsWithin bound steps) (IsWithin bound (suc steps)) (first ∷ runs) (within_more bound steps) all

    pick : (b : Bool) → AllByRecursion (IsWithin bound (suc steps)) (cond b (record first { count = first.count + 1 } ∷ runs) (run thread 1 ∷ first ∷ runs))
    pick true = (record { thread = all.0.thread; count = let c = all.0.count in omega arith }, later.1)
    pick false = (record { thread = below; count = omega arith }, later)

pub runs_of-within : (bound : ℕ) (steps : List ℕ) → AllByRecursion (λ thread. thread < bound) steps → AllByRecursion (IsWithin bound (length steps)) (runs_of steps)
runs_of-within bound [] all = tt
runs_of-within bound (thread ∷ steps) all = within_before bound thread (length steps) (runs_of steps) all.0 (runs_of-within bound steps all.1)

-- Two lists of runs with one text up to the end of the first: the first begins the second.
pub record GoesOn (runs longer : List Run) (x : List ℕ) : Type 0 where
  pub more : List Run
  pub joined : longer ≡ runs ++ more
  pub text : x ≡ text_of more

not_empty : (byte : ℕ) (a x : List ℕ) → a ++ byte ∷ x ≡ [] → ⊥
not_empty byte [] x e = cc
not_empty byte (c ∷ a) x e = cc

line_not_empty : (r : Run) (x : List ℕ) → line_of r ++ x ≡ [] → ⊥
line_not_empty r x e = not_empty 32 (decimal r.thread) (decimal r.count ++ 10 ∷ x) (sym (line_parts r x) ∙ e)

no_runs : (runs : List Run) → text_of runs ≡ [] → runs ≡ []
no_runs [] e = refl
no_runs (r ∷ runs) e = absurd (line_not_empty r (text_of runs) e)

pub goes_on : (runs longer : List Run) (x : List ℕ) → AllByRecursion FitsLine runs → AllByRecursion FitsLine longer → text_of longer ≡ text_of runs ++ x → GoesOn runs longer x
goes_on [] longer x fits fits_longer e = record { more = longer; joined = refl; text = sym e }
goes_on (r ∷ runs) [] x fits fits_longer e = absurd (line_not_empty r (text_of runs ++ x) (sym (append_assoc (line_of r) (text_of runs) x) ∙ sym e))
goes_on (r ∷ runs) (q ∷ longer) x fits fits_longer e =
    let first = one_line q r (text_of longer) (text_of runs ++ x) fits_longer.0 fits.0 (e ∙ append_assoc (line_of r) (text_of runs) x) in
    let rest = goes_on runs longer x fits.1 fits_longer.1 first.1 in
    record { more = rest.more; joined = ap₂ (λ (h : Run) (t : List Run). h ∷ t) first.0 rest.joined; text = rest.text }

fits_line : (steps : ℕ) (r : Run) → steps < 2 ^ 64 → IsWithin (2 ^ 64) steps r → FitsLine r
fits_line steps r few w = record { thread = w.thread; count = let c = w.count in omega arith }

pub runs_fit : (steps : List ℕ) → All (λ thread. thread < 2 ^ 64) steps → length steps < 2 ^ 64 → AllByRecursion FitsLine (runs_of steps)
runs_fit steps all few = weaker (IsWithin (2 ^ 64) (length steps)) FitsLine (runs_of steps) (λ r w. fits_line (length steps) r few w) (runs_of-within (2 ^ 64) steps (recursion_from_All (λ thread. thread < 2 ^ 64) steps all))

-- Schedules with one text are one schedule.
pub one_text : (s t : List ℕ) → All (λ thread. thread < 2 ^ 64) s → All (λ thread. thread < 2 ^ 64) t → length s < 2 ^ 64 → length t < 2 ^ 64 → schedule_text s ≡ schedule_text t → s ≡ t
one_text s t all_s all_t few_s few_t e =
    let on = goes_on (runs_of s) (runs_of t) [] (runs_fit s all_s few_s) (runs_fit t all_t few_t) (sym e ∙ sym (append-nil (schedule_text s))) in
    let same_runs : runs_of s ≡ runs_of t = sym (append-nil (runs_of s)) ∙ ap (λ (more : List Run). runs_of s ++ more) (sym (no_runs on.more (sym on.text))) ∙ sym on.joined in
    sym (steps_of-runs_of s) ∙ ap steps_of same_runs ∙ steps_of-runs_of t

-- Bytes are the text of one schedule.
pub one_schedule : (s t bytes : List ℕ) → IsTextOf s bytes → IsTextOf t bytes → s ≡ t
one_schedule s t bytes is_s is_t =
    one_text s t (λ i d h. let small = is_s.threads i d h in omega arith) (λ i d h. let small = is_t.threads i d h in omega arith)
    (let few = is_s.few in omega arith) (let few = is_t.few in omega arith) (sym is_s.text ∙ is_t.text)
