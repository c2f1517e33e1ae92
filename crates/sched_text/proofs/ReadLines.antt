-- What has been read of a text, line by line.
use Rattle.std.proofs.Common.{◌≡◌, ◌≢◌, ℕ, suc, zero, ◌+◌, ◌-◌, ◌<◌, ◌≤◌, cond, eqb, List, [], ◌∷◌, ◌++◌, length, take, Option, Some, None, refl, ap, ◌∙◌, sym, subst, arith, append_assoc, append-nil, length-append}
use Rattle.std.proofs.lemmas.Grind.{flat_map-append}
use Rattle.std.proofs.lemmas.List.{length-replicate}
use Rattle.std.proofs.lemmas.List.Elements.{recursion_from_All, All-nil, All-append, All-replicate}
use Rattle.std.specs.Fmt.{decimal}
use Rattle.std.specs.List.{All, AllByRecursion}
use Rattle.sched_text.specs.declared.run.Run.{Run}
use Rattle.sched_text.specs.FirstBad.{first_lines, IsScheduleText, IsFirstBad}
use Rattle.sched_text.specs.FirstBadLaws.{first_lines-text, first_lines-runs, front_text, small_threads}
use Rattle.sched_text.specs.LineLaws.{FitsLine}
use Rattle.sched_text.specs.Reading.{MayFollow}
use Rattle.sched_text.specs.Runs.{steps_of_run, steps_of, BeginsOther, AreMaximal}
use Rattle.sched_text.specs.RunLaws.{steps_of-runs_of, runs_of-maximal, runs_of-steps_of}
use Rattle.sched_text.specs.Text.{runs_of, line_of, schedule_text, IsTextOf}
use Rattle.sched_text.specs.TextLaws.{text_of, IsWithin, runs_of-within, goes_on}

-- the thread of the last run, or of what comes before runs
abbrev pub last_thread : Option ℕ → List Run → Option ℕ
last_thread before [] = before
last_thread before (run ∷ runs) = last_thread (Some run.thread) runs

last_thread-append : (before : Option ℕ) (runs : List Run) (run : Run) → last_thread before (runs ++ run ∷ []) ≡ Some run.thread
last_thread-append before [] run = refl
last_thread-append before (r ∷ runs) run = last_thread-append (Some r.thread) runs run

-- one more run of another thread leaves runs maximal
begins_append : (thread : ℕ) (runs : List Run) (run : Run) → BeginsOther thread runs → last_thread (Some thread) runs ≢ Some run.thread → BeginsOther thread (runs ++ run ∷ [])
begins_append thread [] run begins other = λ same. other (ap Some (sym same))
begins_append thread (r ∷ runs) run begins other = begins

maximal_append : (before : Option ℕ) (runs : List Run) (run : Run) → AreMaximal runs → last_thread before runs ≢ Some run.thread → 0 < run.count → AreMaximal (runs ++ run ∷ [])
maximal_append before [] run maximal other some = (some, tt, tt)
maximal_append before (r ∷ runs) run maximal other some =
    (maximal.0, begins_append r.thread runs run maximal.1 other, maximal_append (Some r.thread) runs run maximal.2 other some)

-- and only a run of another thread goes on with maximal runs
other_from : (thread : ℕ) (runs : List Run) (run : Run) (more : List Run) → BeginsOther thread (runs ++ run ∷ more) → AreMaximal (runs ++ run ∷ more) → last_thread (Some thread) runs ≢ Some run.thread
other_from thread [] run more begins maximal = λ same. begins (cc same)
other_from thread (r ∷ runs) run more begins maximal = other_from r.thread runs run more maximal.1 maximal.2

other : (runs : List Run) (run : Run) (more : List Run) → AreMaximal (runs ++ run ∷ more) → last_thread None runs ≢ Some run.thread
other [] run more maximal = λ same. cc
other (r ∷ runs) run more maximal = other_from r.thread runs run more maximal.1 maximal.2

-- the bytes are the text of the steps, which end with this thread, and then the rest, which begins at this line
pub record IsRead (bytes steps : List ℕ) (last : Option ℕ) (line : ℕ) (rest : List ℕ) : Type 0 where
  pub threads : All (λ thread. thread < 256) steps
  pub few : length steps ≤ 1000000
  pub text : bytes ≡ schedule_text steps ++ rest
  pub last_is : last ≡ last_thread None (runs_of steps)
  pub line_is : line ≡ length (runs_of steps) + 1

pub nothing_read : (bytes : List ℕ) → IsRead bytes [] None 1 bytes
nothing_read bytes = record { threads = All-nil (λ thread. thread < 256); few = omega arith; text = refl; last_is = refl; line_is = refl }

pub all_read : (bytes steps : List ℕ) (last : Option ℕ) (line : ℕ) → IsRead bytes steps last line [] → IsTextOf steps bytes
all_read bytes steps last line read = record { threads = read.threads; few = read.few; text = read.text ∙ append-nil (schedule_text steps) }

-- one more line
runs_more : (steps : List ℕ) (run : Run) → last_thread None (runs_of steps) ≢ Some run.thread → 0 < run.count → runs_of (steps ++ steps_of_run run) ≡ runs_of steps ++ run ∷ []
runs_more steps run other some =
    ap runs_of (
    ap (λ (l : List ℕ). l ++ steps_of_run run) (sym (steps_of-runs_of steps))
    ∙ ap (λ (l : List ℕ). steps_of (runs_of steps) ++ l) (sym (append-nil (steps_of_run run)))
    ∙ sym (flat_map-append steps_of_run (runs_of steps) (run ∷ [])))
    ∙ runs_of-steps_of (runs_of steps ++ run ∷ []) (maximal_append None (runs_of steps) run (runs_of-maximal steps) other some)

pub line_read : (bytes steps : List ℕ) (last : Option ℕ) (line : ℕ) (rest after : List ℕ) (run : Run) → IsRead bytes steps last line rest
    → MayFollow last (1000000 - length steps) run → rest ≡ line_of run ++ after → IsRead bytes (steps ++ steps_of_run run) (Some run.thread) (line + 1) after
line_read bytes steps last line rest after run read may e = record {
  threads = All-append (λ thread. thread < 256) steps (steps_of_run run) read.threads (All-replicate (λ thread. thread < 256) run.count run.thread may.thread);
  few = let f = may.fits in let g = read.few in omega (arith, length-append steps (steps_of_run run), length-replicate run.count run.thread);
  text = read.text ∙ ap (λ (l : List ℕ). schedule_text steps ++ l) e ∙ sym (append_assoc (schedule_text steps) (line_of run) after) ∙ ap (λ (l : List ℕ). l ++ after) (sym longer);
  last_is = sym (last_thread-append None (runs_of steps) run) ∙ ap (λ (l : List Run). last_thread None l) (sym more);
  line_is = let e = ap length more in let l = read.line_is in omega (arith, length-append (runs_of steps) (run ∷ []));
}
  where
    more : runs_of (steps ++ steps_of_run run) ≡ runs_of steps ++ run ∷ []
    more = runs_more steps run (λ same. may.other (read.last_is ∙ same)) may.some

    longer : schedule_text (steps ++ steps_of_run run) ≡ schedule_text steps ++ line_of run
    longer = ap text_of more ∙ flat_map-append line_of (runs_of steps) (run ∷ []) ∙ ap (λ (l : List ℕ). schedule_text steps ++ l) (append-nil (line_of run))

-- a first line is some bytes, and the bytes are the first lines and what is left
first_line_some : (rest : List ℕ) → 0 < length rest → first_lines 1 rest ≡ [] → ⊥
first_line_some [] some e = omega arith
first_line_some (byte ∷ rest) some e = cc

record Left (n : ℕ) (bytes : List ℕ) : Type 0 where
  left : List ℕ
  whole : bytes ≡ first_lines n bytes ++ left

lines_left : (n : ℕ) (bytes : List ℕ) → Left n bytes
lines_left n [] = record { left = []; whole = refl }
lines_left zero (byte ∷ bytes) = record { left = byte ∷ bytes; whole = refl }
lines_left (suc n) (byte ∷ bytes) =
    let later = lines_left (cond (eqb byte 10) n (suc n)) bytes in
    record { left = later.left; whole = ap (λ (l : List ℕ). byte ∷ l) later.whole }

-- a run among others
among : (P : Run → Type 0) (a : List Run) (run : Run) (b : List Run) → AllByRecursion P (a ++ run ∷ b) → P run
among P [] run b all = all.0
among P (r ∷ a) run b all = among P a run b all.1

not_empty : (a : List Run) (run : Run) (b : List Run) → AreMaximal (a ++ run ∷ b) → 0 < run.count
not_empty [] run b maximal = maximal.0
not_empty (r ∷ a) run b maximal = not_empty a run b maximal.2

-- a run that goes on with the steps in a longer schedule may follow them
goes_on_with : (steps longer : List ℕ) (run : Run) (more : List Run) → IsTextOf longer (schedule_text longer) → runs_of longer ≡ runs_of steps ++ run ∷ more
    → MayFollow (last_thread None (runs_of steps)) (1000000 - length steps) run
goes_on_with steps longer run more is e = record {
  thread = (among (IsWithin 256 (length longer)) (runs_of steps) run more (subst (AllByRecursion (IsWithin 256 (length longer))) e within)).thread;
  other = other (runs_of steps) run more maximal;
  some = not_empty (runs_of steps) run more maximal;
  fits = let all = ap length counted in let few = is.few in omega (arith, length-append steps (steps_of_run run ++ steps_of more), length-append (steps_of_run run) (steps_of more), length-replicate run.count run.thread);
}
  where
    within : AllByRecursion (IsWithin 256 (length longer)) (runs_of longer)
    within = runs_of-within 256 longer (recursion_from_All (λ thread. thread < 256) longer is.threads)

    maximal : AreMaximal (runs_of steps ++ run ∷ more)
    maximal = subst AreMaximal e (runs_of-maximal longer)

    counted : longer ≡ steps ++ (steps_of_run run ++ steps_of more)
    counted = sym (steps_of-runs_of longer) ∙ ap steps_of e ∙ flat_map-append steps_of_run (runs_of steps) (run ∷ more) ∙ ap (λ (l : List ℕ). l ++ (steps_of_run run ++ steps_of more)) (steps_of-runs_of steps)

-- where no run goes on with what is read, the next line is the first bad one
pub bad_line : (bytes steps : List ℕ) (last : Option ℕ) (line : ℕ) (rest : List ℕ) → IsRead bytes steps last line rest → 0 < length rest
    → ((run : Run) (after : List ℕ) → MayFollow last (1000000 - length steps) run → rest ≡ line_of run ++ after → ⊥) → IsFirstBad bytes line
bad_line bytes steps last line rest read some none = record {
  bad = λ found. none_longer found.0 found.1;
  before = λ n earlier. let l = read.line_is in earlier_text n (omega arith);
}
  where
    runs : List Run
    runs = runs_of steps

    fits : AllByRecursion FitsLine runs
    fits = small_threads steps read.threads read.few

    lines : first_lines line bytes ≡ text_of runs ++ first_lines 1 rest
    lines = ap (λ (n : ℕ). first_lines n bytes) read.line_is ∙ ap (λ (l : List ℕ). first_lines (length runs + 1) l) read.text ∙ first_lines-text runs 1 rest fits

    earlier_text : (n : ℕ) → n ≤ length runs → IsScheduleText (first_lines n bytes)
    earlier_text n within =
        let front = front_text n steps read.threads read.few in
        let same = ap (λ (l : List ℕ). first_lines n l) read.text ∙ first_lines-runs runs n rest within fits in
        (steps_of (take n runs), record { threads = front.threads; few = front.few; text = same ∙ front.text })

    next : (longer : List ℕ) → IsTextOf longer (schedule_text longer) → (more : List Run) → runs_of longer ≡ runs ++ more → first_lines 1 rest ≡ text_of more → ⊥
    next longer is [] joined text = first_line_some rest some text
    next longer is (run ∷ more) joined text =
        let may = goes_on_with steps longer run more is joined in
        let P : Option ℕ → Type 0 = λ o. MayFollow o (1000000 - length steps) run in
        let left = lines_left 1 rest in
        none run (text_of more ++ left.left) (subst P (sym read.last_is) may) (left.whole ∙ ap (λ (l : List ℕ). l ++ left.left) text ∙ append_assoc (line_of run) (text_of more) left.left)

    none_longer : (longer : List ℕ) → IsTextOf longer (first_lines line bytes) → ⊥
    none_longer longer is =
        let on = goes_on runs (runs_of longer) (first_lines 1 rest) fits (small_threads longer is.threads is.few) (sym is.text ∙ lines) in
        next longer (record { threads = is.threads; few = is.few; text = refl }) on.more on.joined on.text

-- a line takes bytes
pub line_shortens : (rest after : List ℕ) (run : Run) → rest ≡ line_of run ++ after → length after + 1 ≤ length rest
line_shortens rest after run e =
    let whole = ap length e in
    omega (arith, length-append (line_of run) after, length-append (decimal run.thread) (32 ∷ (decimal run.count ++ 10 ∷ [])))
