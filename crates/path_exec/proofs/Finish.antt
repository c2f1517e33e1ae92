-- All steps were followed: what is gathered are the symbolic paths.
use Rattle.std.proofs.Common.{◌≡◌, ◌↔◌, eq-eqb, get_or, ℕ, zero, suc, ◌+◌, ◌<◌, List, [], ◌∷◌, ◌++◌, length, map, filter, cond, Bool, true, false, refl, sym, ◌∙◌, ap, subst, inl, inr, arith}
use Rattle.std.specs.Prelude.{All, Option, Some, None, Ok, Err, Result, slice_index_or}
use Rattle.std.specs.Result.{result_ok}
use Rattle.std.proofs.lemmas.Bool.{false≢true}
use Rattle.std.proofs.lemmas.List.{append-nil, get_or-append-add}
use Rattle.std.proofs.lemmas.Option.{none-some, same_Some}
use Rattle.elf_image.specs.Layout.{Layout}
use Rattle.rv32_decode.specs.declared.instr.Instr.{Instr}
use Rattle.odr_log.specs.declared.log.Cause.{Cause}
use Rattle.odr_log.specs.declared.log.Cause.TheVariants as cause
use Rattle.odr_log.specs.declared.log.End.{End}
use Rattle.odr_log.specs.declared.log.End.TheVariants as end
use Rattle.odr_log.specs.declared.log.Log.{Log}
use Rattle.odr_log.specs.declared.log.Pos.{Pos}
use Rattle.rv_model.specs.declared.state.Note.{Note}
use Rattle.rv_model.specs.declared.state.Note.TheVariants as note
use Rattle.rv_model.specs.Accesses.{is_access}
use Rattle.rv_model.specs.Noted.{note_in}
use Rattle.rv_model.specs.RecordedOrder.{Counted}
use Rattle.rv_model.specs.Run.{logged}
use Rattle.rv_model.specs.declared.hearing.Outcome.TheVariants.{Faults}
use Rattle.rv_model.specs.Instruction.{act_at}
use Rattle.rv_model.specs.Step.{instr_at}
use Rattle.rv_model.specs.Walk.{IsWalk, Walk, may_fault, notes_of}
use Rattle.bv_terms.specs.declared.node.TermId.{TermId}
use Rattle.bv_terms.specs.Shapes.{Shape}
use Rattle.bv_terms.specs.Values.{Assignment, value_at}
use Rattle.guided_walk.specs.Along.{HoldsAlong, fault_by, fault_places, walk_along}
use Rattle.guided_walk.specs.Flow.{NeedsThread}
use Rattle.guided_walk.specs.Guided.{Visits, hears, instr_of, joined_from, joins, seen_before, visit}
use Rattle.guided_walk.specs.Orders.{Distinct, In, Lists}
use Rattle.guided_walk.specs.Told.{IsPlace, Told, last_fault, noted, told}
use Rattle.guided_walk.proofs.Facts.{notes_counted}
use Rattle.guided_walk.proofs.NeedsOrder.{made_by, place_counted}
use Rattle.guided_walk.proofs.CallOrder.{record_counted}
use Rattle.guided_walk.proofs.Placing.{in-append}
use Rattle.step_terms.specs.Made.{IsTerm}
use Rattle.thread_terms.specs.declared.access.Access.{Access}
use Rattle.thread_terms.specs.Given.{given_by, outcome_by}
use Rattle.thread_terms.specs.Steps.{HasVariables, StandsBefore}
use Rattle.walk_lists.specs.Law.{IsWalkedOut}
use Rattle.walk_lists.proofs.Orders.{list_law}
use Rattle.step_order.specs.Order.{IsStepOrder}
use Rattle.path_exec.specs.declared.progress.Progress.{Progress}
use Rattle.path_exec.specs.declared.walker.Walker.{Walker}
use Rattle.path_exec.specs.Ending.{IsFaultMade}
use Rattle.path_exec.specs.Paths.{IsAccess, IsOfOne, Meets, instr_of_step, position}
use Rattle.path_exec.specs.Progress.{Ground, IsGround, IsNext, IsProgress, IsThread, IsWalker, step_of, tells, visited}
use Rattle.path_exec.proofs.Joins.{counted_thread}
use Rattle.path_exec.proofs.Orders.{distinct_by}
use Rattle.path_exec.proofs.Stepping.{visit_is}
use Rattle.path_exec.proofs.Taking.{seen_at, visit_at}

-- ---- what all steps are

-- the steps were followed: with the fault behind them they are all
pub record Whole (ground : Ground) (nodes : List Shape) (steps : List Pos) (progress : Progress) : Type 0 where
  pub ground_is : IsGround ground
  pub order : IsStepOrder ground.log ground.walk steps
  pub progress_is : IsProgress ground nodes steps progress

-- the visits of all steps, by what an assignment gives
abbrev pub all_visits : Ground → List Pos → Assignment → Visits
all_visits ground steps w = walk_along ground.image (tells ground) (given_by w) (steps ++ fault_places ground.log) ground.start

pub walked : (ground : Ground) (nodes : List Shape) (steps : List Pos) (progress : Progress) → Whole ground nodes steps progress → (w : Assignment)
    → IsWalkedOut ground.image (tells ground) (given_by w) (steps ++ fault_places ground.log) ground.start
walked ground nodes steps progress whole w = list_law ground.image (tells ground) (given_by w) (steps ++ fault_places ground.log) ground.start whole.order.order whole.order.each

-- the place of a fault is no counted step
pub fault_uncounted : (log : Log) (e : End) (p : Pos) → In p (fault_by log e) → Counted log p → ⊥
fault_uncounted log (end.Faulted thread cause) p (inl same) counted =
    absurd (omega (arith, subst (λ (q : Pos). q.step < (logged log q.thread).steps) (sym same) counted))
fault_uncounted log (end.Faulted thread cause) p (inr none) counted = absurd none
fault_uncounted log (end.Exited thread code) p none counted = absurd none
fault_uncounted log end.AllDone p none counted = absurd none
fault_uncounted log end.Cut p none counted = absurd none

-- each counted step is among them
pub counted_in : (ground : Ground) (nodes : List Shape) (steps : List Pos) (progress : Progress) → Whole ground nodes steps progress → (p : Pos) → Counted ground.log p → In p steps
counted_in ground nodes steps progress whole p counted =
    let within = notes_counted ground.image ground.log ground.walk whole.ground_is.walk p.thread (counted_thread ground.log p counted) in
    let place : IsPlace (tells ground) p = place_counted ground.log ground.walk p (omega (arith, counted, within)) in
    elim (in-append p steps (fault_places ground.log) (whole.order.each p place)) [
      | inl there ↦ there
      | inr fault ↦ absurd (fault_uncounted ground.log ground.log.end p fault counted)
    ]

-- a thread after its counted steps
pub end_next : (ground : Ground) (nodes : List Shape) (steps : List Pos) (progress : Progress) → Whole ground nodes steps progress → (thread : ℕ) → IsNext (tells ground) steps thread (logged ground.log thread).steps
end_next ground nodes steps progress whole thread = record {
  needs = λ q need. needs_at (logged ground.log thread).steps refl q need;
  new = λ there. absurd (omega (arith, whole.order.counted (step_of thread (logged ground.log thread).steps) there));
}
  where
    by_maker : (t : ℕ) (q : Pos) → NeedsThread (tells ground) q t zero → In q steps
    by_maker zero q need = absurd need
    by_maker (suc t) q need =
        let m = made_by ground.log ground.walk (suc t) q need in
        counted_in ground nodes steps progress whole q (subst (Counted ground.log) m.place (record_counted ground.image ground.log ground.walk whole.ground_is.walk m.spawn m.has))

    needs_at : (n : ℕ) → (logged ground.log thread).steps ≡ n → (q : Pos) → NeedsThread (tells ground) q thread n → In q steps
    needs_at zero e q need = by_maker thread q need
    needs_at (suc n) e q need = counted_in ground nodes steps progress whole q (subst (Counted ground.log) (sym need) (before n e))
      where
        before : (k : ℕ) → (logged ground.log thread).steps ≡ suc k → Counted ground.log (step_of thread k)
        before k is = omega (arith, is)

-- each thread has begun
pub all_begun : (ground : Ground) (nodes : List Shape) (steps : List Pos) (progress : Progress) → Whole ground nodes steps progress → (thread : ℕ) → thread < length ground.log.threads
    → (walker : Walker) × (slice_index_or progress.walkers thread None ≡ Some walker) × IsWalker ground nodes steps progress.accesses thread walker
all_begun ground nodes steps progress whole thread within = by_slot (slice_index_or progress.walkers thread None) refl (whole.progress_is.walkers thread within)
  where
    by_slot : (o : Option Walker) → slice_index_or progress.walkers thread None ≡ o → IsThread ground nodes steps progress.accesses thread o
        → (walker : Walker) × (slice_index_or progress.walkers thread None ≡ Some walker) × IsWalker ground nodes steps progress.accesses thread walker
    by_slot (Some walker) e is = (walker, e, is)
    by_slot None e asleep =
        let m = made_by ground.log ground.walk thread asleep.maker asleep.made in
        absurd (asleep.new (counted_in ground nodes steps progress whole asleep.maker
        (subst (Counted ground.log) m.place (record_counted ground.image ground.log ground.walk whole.ground_is.walk m.spawn m.has))))

-- ---- the accesses

in_kept : (test : Pos → Bool) (p x : Pos) (xs : List Pos) → (b : Bool) → test x ≡ b → test p ≡ true → In p (x ∷ xs) → (In p xs → In p (filter test xs)) → In p (cond b (x ∷ filter test xs) (filter test xs))
in_kept test p x xs true e passes (inl same) rest = inl same
in_kept test p x xs true e passes (inr there) rest = inr (rest there)
in_kept test p x xs false e passes (inl same) rest = absurd (false≢true (sym e ∙ ap test same ∙ passes))
in_kept test p x xs false e passes (inr there) rest = rest there

kept_in : (test : Pos → Bool) (p : Pos) (xs : List Pos) → test p ≡ true → In p xs → In p (filter test xs)
kept_in test p [] passes there = absurd there
kept_in test p (x ∷ xs) passes there = in_kept test p x xs (test x) refl passes there (λ i. kept_in test p xs passes i)

in_both : (test : Pos → Bool) (p x : Pos) (xs : List Pos) → (b : Bool) → test x ≡ b → In p (cond b (x ∷ filter test xs) (filter test xs)) → (In p (filter test xs) → In p xs × (test p ≡ true)) → In p (x ∷ xs) × (test p ≡ true)
in_both test p x xs true e (inl same) rest = (inl same, sym (ap test same) ∙ e)
in_both test p x xs true e (inr there) rest = let both = rest there in (inr both.0, both.1)
in_both test p x xs false e there rest = let both = rest there in (inr both.0, both.1)

both_in : (test : Pos → Bool) (p : Pos) (xs : List Pos) → In p (filter test xs) → In p xs × (test p ≡ true)
both_in test p [] there = absurd there
both_in test p (x ∷ xs) there = in_both test p x xs (test x) refl there (both_in test p xs)

distinct_at : (test : Pos → Bool) (x : Pos) (xs : List Pos) → (b : Bool) → (In x xs → ⊥) → Distinct (filter test xs) → Distinct (cond b (x ∷ filter test xs) (filter test xs))
distinct_at test x xs true new rest = (λ there. new (both_in test x xs there).0, rest)
distinct_at test x xs false new rest = rest

distinct_filter : (test : Pos → Bool) (xs : List Pos) → Distinct xs → Distinct (filter test xs)
distinct_filter test [] distinct = tt
distinct_filter test (x ∷ xs) distinct = distinct_at test x xs (test x) distinct.0 (distinct_filter test xs distinct.1)

pub accesses_listed : (ground : Ground) (nodes : List Shape) (steps : List Pos) (progress : Progress) → Whole ground nodes steps progress → Lists (IsAccess ground.log ground.walk) (map position progress.accesses)
accesses_listed ground nodes steps progress whole =
    let test = (λ (q : Pos). is_access (instr_of_step ground.walk q) (noted (tells ground) q)) in
    subst (Lists (IsAccess ground.log ground.walk)) (sym whole.progress_is.places) (record {
      all = λ p access. kept_in test p steps access.1 (counted_in ground nodes steps progress whole p access.0);
      only = λ p there. let both = both_in test p steps there in (whole.order.counted p both.0, both.1);
      once = distinct_filter test steps (distinct_by (tells ground) [] steps whole.progress_is.order);
    })

-- ---- the constraints

-- Whether all steps show what is recorded: the counted ones, and the fault behind them.
abbrev pub HoldsWhole : Ground → List Pos → Assignment → Type 0
HoldsWhole ground steps w = HoldsAlong ground.image (tells ground) (given_by w) (steps ++ fault_places ground.log) ground.start

-- what the constraints come to, with that of the fault
pub record AreConstraints (ground : Ground) (nodes : List Shape) (steps : List Pos) (accesses : List Access) (constraints : List TermId) : Type 0 where
  pub meets : (w : Assignment) → Meets w nodes constraints ↔ HoldsWhole ground steps w
  pub bits : All (λ (id : TermId). IsTerm nodes 1 id.number) constraints
  pub variables : All (λ (id : TermId). HasVariables (IsOfOne accesses) nodes id.number) constraints

pub no_fault : (ground : Ground) (nodes : List Shape) (steps : List Pos) (progress : Progress) → IsProgress ground nodes steps progress → fault_places ground.log ≡ []
    → AreConstraints ground nodes steps progress.accesses progress.constraints
no_fault ground nodes steps progress is none =
    let same : steps ≡ steps ++ fault_places ground.log = sym (append-nil steps) ∙ ap (λ (l : List Pos). steps ++ l) (sym none) in
    record {
      meets = λ w. subst (λ (l : List Pos). Meets w nodes progress.constraints ↔ HoldsAlong ground.image (tells ground) (given_by w) l ground.start) same (is.meets w);
      bits = is.bits;
      variables = is.constraints_from;
    }

-- ---- the fault

fetch_cases : (fault : Cause) (pc : ℕ) (c : Cause) → may_fault fault pc (Err c) ≡ true → c ≡ fault
fetch_cases cause.FetchFault pc cause.FetchFault e = refl
fetch_cases cause.Illegal pc cause.Illegal e = refl
fetch_cases cause.FetchFault pc cause.Illegal e = absurd (false≢true e)
fetch_cases cause.FetchFault pc cause.Breakpoint e = absurd (false≢true e)
fetch_cases cause.FetchFault pc cause.Misaligned e = absurd (false≢true e)
fetch_cases cause.FetchFault pc cause.LoadFault e = absurd (false≢true e)
fetch_cases cause.FetchFault pc cause.StoreFault e = absurd (false≢true e)
fetch_cases cause.FetchFault pc cause.AmoFault e = absurd (false≢true e)
fetch_cases cause.Illegal pc cause.FetchFault e = absurd (false≢true e)
fetch_cases cause.Illegal pc cause.Breakpoint e = absurd (false≢true e)
fetch_cases cause.Illegal pc cause.Misaligned e = absurd (false≢true e)
fetch_cases cause.Illegal pc cause.LoadFault e = absurd (false≢true e)
fetch_cases cause.Illegal pc cause.StoreFault e = absurd (false≢true e)
fetch_cases cause.Illegal pc cause.AmoFault e = absurd (false≢true e)
fetch_cases cause.Breakpoint pc c e = absurd (false≢true e)
fetch_cases cause.Misaligned pc c e = absurd (false≢true e)
fetch_cases cause.LoadFault pc c e = absurd (false≢true e)
fetch_cases cause.StoreFault pc c e = absurd (false≢true e)
fetch_cases cause.AmoFault pc c e = absurd (false≢true e)

-- what is recorded of the fault's place
pub fault_noted : (log : Log) (walk : Walk) (image : Layout) → IsWalk image log walk → (thread : ℕ) (c : Cause) → log.end ≡ end.Faulted thread c → thread < length log.threads
    → noted (told log walk) (step_of thread (logged log thread).steps) ≡ note.Faulted c
fault_noted log walk image is thread c e within =
    let long = notes_counted image log walk is thread within in
    let here : length (notes_of walk thread) + 0 ≡ (logged log thread).steps = omega (arith, long) in
    ap (λ k. get_or (notes_of walk thread ++ last_fault log.end thread) k note.Nothing) (sym here)
    ∙ get_or-append-add (notes_of walk thread) (last_fault log.end thread) 0 note.Nothing
    ∙ ap (λ (x : End). get_or (last_fault x thread) 0 note.Nothing) e
    ∙ ap (λ (b : Bool). get_or (cond b (note.Faulted c ∷ []) []) 0 note.Nothing) (eq-eqb thread thread refl)

-- a visit where nothing can be fetched
unfetched : (image : Layout) (told : Told) (w : Assignment) (v : Visits) (p : Pos) (c : Cause) → instr_of image (seen_before image told v p.thread p.step) ≡ Err c
    → (visit image told (given_by w) v p.thread p.step).outcome ≡ Faults c
unfetched image told w v p c e =
    let seen = seen_before image told v p.thread p.step in
    ap (λ (fetched : Result Instr Cause). act_at seen.local fetched (hears image told (given_by w) p.thread p.step seen (joined_from told v (joins (noted told p))))) e

-- the constraint of the fault is met exactly where it is the recorded one
pub fault_met : (ground : Ground) (old new : List Shape) (steps : List Pos) (p : Pos) (c : Cause) (pc : ℕ) (fetched : Option Instr) (walker : Walker) (id : TermId) → noted (tells ground) p ≡ note.Faulted c
    → fetched ≡ result_ok (instr_at ground.image pc) → may_fault c pc (instr_at ground.image pc) ≡ true → IsFaultMade ground.image pc c fetched old new walker.registers id → (w : Assignment)
    → StandsBefore w old walker.registers pc walker.link (seen_at ground steps p w) → (value_at w new id.number ≡ 1) ↔ (note_in (visit_at ground steps p w).outcome ≡ noted (tells ground) p)
fault_met ground old new steps p c pc None walker id shows fetched fits made w stand = by_fetch (instr_at ground.image pc) refl
  where
    by_fetch : (r : Result Instr Cause) → instr_at ground.image pc ≡ r → (value_at w new id.number ≡ 1) ↔ (note_in (visit_at ground steps p w).outcome ≡ noted (tells ground) p)
    by_fetch (Ok i) e = absurd (none-some i (fetched ∙ ap result_ok e))
    by_fetch (Err other) e =
        let is : other ≡ c = fetch_cases c pc other (sym (ap (λ (r : Result Instr Cause). may_fault c pc r) e) ∙ fits) in
        let out = unfetched ground.image (tells ground) w (visited ground steps w) p other (ap (instr_at ground.image) stand.at ∙ e) in
        let note_is : note_in (visit_at ground steps p w).outcome ≡ noted (tells ground) p = ap note_in out ∙ ap (λ (x : Cause). note.Faulted x) is ∙ sym shows in
        (λ _. note_is, λ _. made.value w)
fault_met ground old new steps p c pc (Some i) walker id shows fetched fits made w stand = by_fetch (instr_at ground.image pc) refl
  where
    by_fetch : (r : Result Instr Cause) → instr_at ground.image pc ≡ r → (value_at w new id.number ≡ 1) ↔ (note_in (visit_at ground steps p w).outcome ≡ noted (tells ground) p)
    by_fetch (Err other) e = absurd (none-some i (sym (fetched ∙ ap result_ok e)))
    by_fetch (Ok other) e =
        let same : other ≡ i = same_Some other i (sym (fetched ∙ ap result_ok e)) in
        let joined = joined_from (tells ground) (visited ground steps w) (joins (noted (tells ground) p)) in
        let out = visit_is ground.image (tells ground) w (visited ground steps w) p i (ap (instr_at ground.image) stand.at ∙ e ∙ ap (λ (x : Instr). let r : Result Instr Cause = Ok x in r) same) in
        let by_note = ap (λ (n : Note). outcome_by ground.image w p i n joined (seen_at ground steps p w)) shows in
        let met = (made p walker.link).meets w (seen_at ground steps p w) joined stand in (
          λ h. ap note_in (out ∙ by_note) ∙ met.0 h ∙ sym shows,
          λ h. met.1 (sym (ap note_in (out ∙ by_note)) ∙ h ∙ shows),
        )
