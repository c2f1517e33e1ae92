-- Laws of the first bad line: there is no other, and a text of a schedule has none.
use Rattle.std.proofs.Common.{◌≡◌, ℕ, suc, zero, ◌+◌, ◌-◌, ◌<◌, ◌≤◌, List, [], ◌∷◌, ◌++◌, length, take, drop, refl, ap, ◌∙◌, sym, subst, lit<, arith, append_assoc, append-nil, inl, inr, length-append}
use Rattle.std.proofs.lemmas.Bool.{ne_eqb, cases_order, cases_lt}
use Rattle.std.proofs.lemmas.List.Elements.{recursion_from_All, All-from_recursion}
use Rattle.std.specs.Fmt.{decimal}
use Rattle.std.specs.List.{All, AllByRecursion}
use Rattle.sched_text.specs.declared.run.Run.{Run}
use Rattle.sched_text.specs.FirstBad.{first_lines, IsScheduleText, IsFirstBad}
use Rattle.sched_text.specs.LineLaws.{IsFreeOf, FitsLine, line_parts, decimal_free}
use Rattle.sched_text.specs.Runs.{steps_of_run, steps_of, BeginsOther, AreMaximal}
use Rattle.sched_text.specs.RunLaws.{steps_of-runs_of, runs_of-maximal, runs_of-steps_of}
use Rattle.sched_text.specs.Text.{runs_of, line_of, IsTextOf}
use Rattle.sched_text.specs.TextLaws.{text_of, runs_fit}

pub first_lines-zero : (bytes : List ℕ) → first_lines 0 bytes ≡ []
first_lines-zero [] = refl
first_lines-zero (byte ∷ bytes) = refl

-- one line goes, up to its line feed
pub first_lines-line : (n : ℕ) (a x : List ℕ) → IsFreeOf 10 a → first_lines (suc n) (a ++ 10 ∷ x) ≡ a ++ 10 ∷ first_lines n x
first_lines-line n [] x free = refl
first_lines-line n (byte ∷ a) x free = rw (ne_eqb byte 10 free.0) (ap (λ (l : List ℕ). byte ∷ l) (first_lines-line n a x free.1))

pub free_append : (byte : ℕ) (a b : List ℕ) → IsFreeOf byte a → IsFreeOf byte b → IsFreeOf byte (a ++ b)
free_append byte [] b free_a free_b = free_b
free_append byte (c ∷ a) b free_a free_b = (free_a.0, free_append byte a b free_a.1 free_b)

-- a line without its line feed
abbrev fields_of : Run → List ℕ
fields_of run = decimal run.thread ++ 32 ∷ decimal run.count

fields_free : (run : Run) → FitsLine run → IsFreeOf 10 (fields_of run)
fields_free run fits =
    free_append 10 (decimal run.thread) (32 ∷ decimal run.count) (decimal_free 10 run.thread (lit< tt) fits.thread)
    ((λ same. omega arith), decimal_free 10 run.count (lit< tt) fits.count)

line_end : (run : Run) (x : List ℕ) → line_of run ++ x ≡ fields_of run ++ 10 ∷ x
line_end run x = line_parts run x ∙ sym (append_assoc (decimal run.thread) (32 ∷ decimal run.count) (10 ∷ x))

-- the lines of runs go first
pub first_lines-text : (runs : List Run) (k : ℕ) (x : List ℕ) → AllByRecursion FitsLine runs → first_lines (length runs + k) (text_of runs ++ x) ≡ text_of runs ++ first_lines k x
first_lines-text [] k x fits = let e : 0 + k ≡ k = omega arith in ap (λ (n : ℕ). first_lines n x) e
first_lines-text (run ∷ runs) k x fits =
    let next : length (run ∷ runs) + k ≡ suc (length runs + k) = omega arith in
    ap (λ (n : ℕ). first_lines n (text_of (run ∷ runs) ++ x)) next
    ∙ ap (λ (l : List ℕ). first_lines (suc (length runs + k)) l) (append_assoc (line_of run) (text_of runs) x ∙ line_end run (text_of runs ++ x))
    ∙ first_lines-line (length runs + k) (fields_of run) (text_of runs ++ x) (fields_free run fits.0)
    ∙ ap (λ (l : List ℕ). fields_of run ++ 10 ∷ l) (first_lines-text runs k x fits.1)
    ∙ sym (line_end run (text_of runs ++ first_lines k x))
    ∙ sym (append_assoc (line_of run) (text_of runs) (first_lines k x))

-- no more lines than there are runs
pub first_lines-runs : (runs : List Run) (n : ℕ) (x : List ℕ) → n ≤ length runs → AllByRecursion FitsLine runs → first_lines n (text_of runs ++ x) ≡ text_of (take n runs)
first_lines-runs runs zero x within fits = first_lines-zero (text_of runs ++ x)
first_lines-runs [] (suc n) x within fits = absurd (omega arith)
first_lines-runs (run ∷ runs) (suc n) x within fits =
    ap (λ (l : List ℕ). first_lines (suc n) l) (append_assoc (line_of run) (text_of runs) x ∙ line_end run (text_of runs ++ x))
    ∙ first_lines-line n (fields_of run) (text_of runs ++ x) (fields_free run fits.0)
    ∙ ap (λ (l : List ℕ). fields_of run ++ 10 ∷ l) (first_lines-runs runs n x (omega arith) fits.1)
    ∙ sym (line_end run (text_of (take n runs)))

-- the first runs of maximal runs
begins_take : (thread n : ℕ) (runs : List Run) → BeginsOther thread runs → BeginsOther thread (take n runs)
begins_take thread zero runs other = tt
begins_take thread (suc n) [] other = tt
begins_take thread (suc n) (run ∷ runs) other = other

maximal_take : (n : ℕ) (runs : List Run) → AreMaximal runs → AreMaximal (take n runs)
maximal_take zero runs maximal = tt
maximal_take (suc n) [] maximal = tt
maximal_take (suc n) (run ∷ runs) maximal = (maximal.0, begins_take run.thread n runs maximal.1, maximal_take n runs maximal.2)

steps_of-take : (n : ℕ) (runs : List Run) → steps_of runs ≡ steps_of (take n runs) ++ steps_of (drop n runs)
steps_of-take zero runs = refl
steps_of-take (suc n) [] = refl
steps_of-take (suc n) (run ∷ runs) =
    ap (λ (l : List ℕ). steps_of_run run ++ l) (steps_of-take n runs)
    ∙ sym (append_assoc (steps_of_run run) (steps_of (take n runs)) (steps_of (drop n runs)))

pub all_front : (P : ℕ → Type 0) (a b : List ℕ) → AllByRecursion P (a ++ b) → AllByRecursion P a
all_front P [] b all = tt
all_front P (x ∷ a) b all = (all.0, all_front P a b all.1)

-- the first steps of a schedule that are whole runs
pub front_text : (n : ℕ) (steps : List ℕ) → All (λ thread. thread < 256) steps → length steps ≤ 1000000 → IsTextOf (steps_of (take n (runs_of steps))) (text_of (take n (runs_of steps)))
front_text n steps threads few = record {
  threads = All-from_recursion (λ thread. thread < 256) front (all_front (λ thread. thread < 256) front back (subst (AllByRecursion (λ thread. thread < 256)) parts (recursion_from_All (λ thread. thread < 256) steps threads)));
  few = let e = ap length parts in omega (arith, length-append front back);
  text = sym (ap text_of (runs_of-steps_of (take n (runs_of steps)) (maximal_take n (runs_of steps) (runs_of-maximal steps))));
}
  where
    front : List ℕ
    front = steps_of (take n (runs_of steps))

    back : List ℕ
    back = steps_of (drop n (runs_of steps))

    parts : steps ≡ front ++ back
    parts = sym (steps_of-runs_of steps) ∙ steps_of-take n (runs_of steps)

pub small_threads : (steps : List ℕ) → All (λ thread. thread < 256) steps → length steps ≤ 1000000 → AllByRecursion FitsLine (runs_of steps)
small_threads steps threads few = runs_fit steps (λ i d h. let small = threads i d h in omega arith) (omega arith)

same_bytes : (steps a b : List ℕ) → a ≡ b → IsTextOf steps b → IsTextOf steps a
same_bytes steps a b same is = record { threads = is.threads; few = is.few; text = same ∙ is.text }

-- the lines up to one of a text of a schedule are a text of a schedule
pub text-first_lines : (n : ℕ) (steps bytes : List ℕ) → IsTextOf steps bytes → IsScheduleText (first_lines n bytes)
text-first_lines n steps bytes is = elim (cases_lt (length runs) n) [ inl beyond ↦ (steps, same_bytes steps _ bytes (all_lines beyond) is) | inr within ↦ (steps_of (take n runs), same_bytes _ _ _ (front within) (front_text n steps is.threads is.few)) ]
  where
    runs : List Run
    runs = runs_of steps

    ended : bytes ≡ text_of runs ++ []
    ended = is.text ∙ sym (append-nil (text_of runs))

    fits : AllByRecursion FitsLine runs
    fits = small_threads steps is.threads is.few

    all_lines : length runs < n → first_lines n bytes ≡ bytes
    all_lines beyond =
        let more : n ≡ length runs + (n - length runs) = omega arith in
        ap (λ (m : ℕ). first_lines m bytes) more ∙ ap (λ (l : List ℕ). first_lines (length runs + (n - length runs)) l) ended
        ∙ first_lines-text runs (n - length runs) [] fits ∙ sym ended

    front : n ≤ length runs → first_lines n bytes ≡ text_of (take n runs)
    front within = ap (λ (l : List ℕ). first_lines n l) ended ∙ first_lines-runs runs n [] within fits

-- a text of a schedule has no bad line
pub no_bad_line : (bytes steps : List ℕ) (line : ℕ) → IsFirstBad bytes line → IsTextOf steps bytes → ⊥
no_bad_line bytes steps line first is = first.bad (text-first_lines line steps bytes is)

-- there is one first bad line
pub one_bad_line : (bytes : List ℕ) (m n : ℕ) → IsFirstBad bytes m → IsFirstBad bytes n → m ≡ n
one_bad_line bytes m n first second = elim (cases_order m n) [
  | inl same ↦ same
  | inr other ↦ elim other [
    | inl below ↦ absurd (first.bad (second.before m below))
    | inr above ↦ absurd (second.bad (first.before n above))
  ]
]
