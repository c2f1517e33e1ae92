-- The symbolic paths of a log.
use Rattle.std.proofs.Common.{◌≡◌, ◌↔◌, true, ℕ, ◌*◌, ◌<◌, List, [], ◌∷◌, ◌++◌, length, refl, sym, ◌∙◌, ap, subst, arith}
use Rattle.std.specs.Prelude.{Option, Some, None, slice_index_or}
use Rattle.std.specs.Result.{result_ok}
use Rattle.std.proofs.lemmas.List.{append-nil}
use Rattle.std.proofs.lemmas.List.Elements.{All-pop, All-push}
use Rattle.std.proofs.lemmas.Option.{same_Some}
use Rattle.rv32_decode.specs.declared.instr.Instr.{Instr}
use Rattle.odr_log.specs.declared.log.Cause.{Cause}
use Rattle.odr_log.specs.declared.log.End.{End}
use Rattle.odr_log.specs.declared.log.End.TheVariants as end
use Rattle.odr_log.specs.declared.log.Pos.{Pos}
use Rattle.rv_model.specs.declared.walk.FaultPlace.{FaultPlace}
use Rattle.rv_model.specs.Accesses.{is_access}
use Rattle.rv_model.specs.Noted.{note_in}
use Rattle.rv_model.specs.RecordedOrder.{Counted}
use Rattle.rv_model.specs.Run.{logged}
use Rattle.rv_model.specs.Step.{instr_at}
use Rattle.rv_model.specs.Thread.{register}
use Rattle.rv_model.specs.Walk.{FaultFits, may_fault}
use Rattle.bv_terms.specs.declared.node.TermId.{TermId}
use Rattle.bv_terms.specs.Shapes.{Shape}
use Rattle.bv_terms.specs.Values.{Assignment, value_at}
use Rattle.bv_terms.specs.Variables.{Occurs}
use Rattle.guided_walk.specs.Along.{HoldsAlong, fault_by, fault_places, walk_along}
use Rattle.guided_walk.specs.Guided.{IsGuided, Seen, Visit, Visits, at}
use Rattle.guided_walk.specs.Orders.{In}
use Rattle.guided_walk.specs.Told.{noted}
use Rattle.guided_walk.proofs.Facts.{notes_counted}
use Rattle.guided_walk.proofs.NeedsOrder.{place_counted}
use Rattle.guided_walk.proofs.Table.{same_seen}
use Rattle.step_terms.specs.Made.{Grows, IsTerm}
use Rattle.thread_terms.specs.declared.access.Access.{Access}
use Rattle.thread_terms.specs.Given.{given_by}
use Rattle.thread_terms.specs.Standing.{OccursInRegisters, term_of}
use Rattle.thread_terms.specs.Steps.{HasVariables, StandsBefore}
use Rattle.path_exec.specs.declared.progress.Progress.{Progress}
use Rattle.path_exec.specs.declared.walker.Walker.{Walker}
use Rattle.path_exec.specs.Ending.{AreEndsOf, IsFaultAdded, IsFaultMade, IsFaulting}
use Rattle.path_exec.specs.Paths.{AreEnds, ArePaths, IsOfOne, IsShown, Meets, end_at, instr_of_step}
use Rattle.path_exec.specs.Progress.{Ground, HoldSoFar, IsGround, IsWalker, step_of, tells, visited}
use Rattle.path_exec.proofs.Along.{at_before}
use Rattle.path_exec.proofs.Finish.{AreConstraints, Whole, accesses_listed, all_begun, end_next, fault_met, fault_noted, no_fault, walked}
use Rattle.path_exec.proofs.Grown.{access_done, progress_grown}
use Rattle.path_exec.proofs.Joins.{counted_thread}
use Rattle.path_exec.proofs.Kept.{bits_kept, earlier_is_one, have_kept, meets_kept}
use Rattle.path_exec.proofs.Taking.{hold_more, seen_at, visit_at}

-- ---- the constraint of the fault

-- a fault that may be where it is recorded
pub record FaultAt (ground : Ground) (thread : ℕ) (c : Cause) (place : FaultPlace) : Type 0 where
  pub within : thread < length ground.log.threads
  pub fetched : place.instr ≡ result_ok (instr_at ground.image place.pc)
  pub fits : may_fault c place.pc (instr_at ground.image place.pc) ≡ true

fault_fits : (ground : Ground) → IsGround ground → (thread : ℕ) (c : Cause) (place : FaultPlace) → ground.log.end ≡ end.Faulted thread c → ground.walk.fault ≡ Some place → FaultAt ground thread c place
fault_fits ground is thread c place e f =
    let fits : FaultFits ground.image ground.log ground.walk (end.Faulted thread c) (Some place) =
    subst (λ (o : Option FaultPlace). FaultFits ground.image ground.log ground.walk (end.Faulted thread c) o) f
    (subst (λ (x : End). FaultFits ground.image ground.log ground.walk x ground.walk.fault) e is.walk.fault) in
    record { within = fits.0; fetched = fits.1.instr; fits = fits.1.fits }

with_fault : (ground : Ground) (old new : List Shape) (steps : List Pos) (before after : Progress) (thread : ℕ) (c : Cause) → Whole ground old steps before → Grows old new → ground.log.end ≡ end.Faulted thread c
    → IsFaulting ground.image ground.walk.fault thread c old new before after → AreConstraints ground new steps before.accesses after.constraints
with_fault ground old new steps before after thread c whole grows ends faulting =
    let is = whole.ground_is in
    let p : Pos = step_of thread (logged ground.log thread).steps in
    let at_fault = fault_fits ground is thread c faulting.place ends faulting.at in
    let shows = fault_noted ground.log ground.walk ground.image is.walk thread c ends at_fault.within in
    let begun = all_begun ground old steps before whole thread at_fault.within in
    let same_walker : begun.0 ≡ faulting.walker = same_Some begun.0 faulting.walker (sym begun.1 ∙ faulting.stood) in
    let walker_is : IsWalker ground old steps before.accesses thread faulting.walker = subst (IsWalker ground old steps before.accesses thread) same_walker begun.2 in
    let next = end_next ground old steps before whole thread in
    let pc : faulting.place.pc ≡ ground.address thread (logged ground.log thread).steps = is.stops thread c faulting.place ends faulting.at in
    let met : (w : Assignment) → HoldSoFar ground steps w → (value_at w new faulting.constraint.number ≡ 1) ↔ (note_in (visit_at ground steps p w).outcome ≡ noted (tells ground) p) =
    (λ w hold. fault_met ground old new steps p c faulting.place.pc faulting.place.instr faulting.walker faulting.constraint shows at_fault.fetched at_fault.fits faulting.made w
    (subst (λ a. StandsBefore w old faulting.walker.registers a faulting.walker.link (seen_at ground steps p w)) (sym pc) (walker_is.stands w (logged ground.log thread).steps next hold))) in
    let bit : IsTerm new 1 faulting.constraint.number = fault_bit faulting.place.instr faulting.made in
    let kept = (λ (w : Assignment). meets_kept w old new before.constraints grows whole.progress_is.bits) in
    let places : fault_places ground.log ≡ p ∷ [] = ap (fault_by ground.log) ends in
    let P = (λ (w : Assignment) (id : TermId). value_at w new id.number ≡ 1) in
    subst (AreConstraints ground new steps before.accesses) (sym (ap (λ (x : Progress). x.constraints) faulting.is)) (record {
      meets = λ w. subst (λ (l : List Pos). Meets w new (before.constraints ++ faulting.constraint ∷ []) ↔ HoldsAlong ground.image (tells ground) (given_by w) (steps ++ l) ground.start) (sym places) (
        λ meets.
            let parts = All-pop (P w) (before.constraints ++ faulting.constraint ∷ []) before.constraints (Some faulting.constraint) refl meets in
            let hold = (whole.progress_is.meets w).0 ((kept w).1 parts.0) in
            (hold_more ground steps p next.new w).1 (hold, (met w hold).0 parts.1),
        λ hold.
            let both = (hold_more ground steps p next.new w).0 hold in
            All-push (P w) before.constraints faulting.constraint ((kept w).0 ((whole.progress_is.meets w).1 both.0)) ((met w both.0).1 both.1),
      );
      bits = All-push (λ (id : TermId). IsTerm new 1 id.number) before.constraints faulting.constraint (bits_kept old new before.constraints grows whole.progress_is.bits) bit;
      variables = All-push (λ (id : TermId). HasVariables (IsOfOne before.accesses) new id.number) before.constraints faulting.constraint
          (λ k d lt. have_kept (IsOfOne before.accesses) (IsOfOne before.accesses) old new 1 _ grows (whole.progress_is.bits k d lt) (λ width number of. of) (whole.progress_is.constraints_from k d lt))
          (λ width number there. earlier_is_one ground.log before.accesses p width number
          (walker_is.knows (logged ground.log thread).steps next width number (fault_variables faulting.place.instr faulting.made width number there)));
    })
  where
    fault_bit : (fetched : Option Instr) → IsFaultMade ground.image faulting.place.pc c fetched old new faulting.walker.registers faulting.constraint → IsTerm new 1 faulting.constraint.number
    fault_bit None made = made.term
    fault_bit (Some i) made = (made (step_of thread 0) None).bit

    fault_variables : (fetched : Option Instr) → IsFaultMade ground.image faulting.place.pc c fetched old new faulting.walker.registers faulting.constraint
        → (width number : ℕ) → Occurs new width number faulting.constraint.number → OccursInRegisters old faulting.walker.registers width number
    fault_variables None made width number there = absurd (made.occurs width number there)
    fault_variables (Some i) made width number there = (made (step_of thread 0) None).variables width number there

-- ---- accesses and registers, by the guided walk

-- where all steps hold, those before the fault do
front_holds : (ground : Ground) (nodes : List Shape) (steps : List Pos) (progress : Progress) → Whole ground nodes steps progress → (w : Assignment) → (e : End) → ground.log.end ≡ e
    → HoldsAlong ground.image (tells ground) (given_by w) (steps ++ fault_by ground.log e) ground.start → HoldSoFar ground steps w
front_holds ground nodes steps progress whole w (end.Faulted thread c) e along =
    ((hold_more ground steps (step_of thread (logged ground.log thread).steps) (end_next ground nodes steps progress whole thread).new w).0 along).0
front_holds ground nodes steps progress whole w (end.Exited thread code) e along = subst (λ (l : List Pos). HoldsAlong ground.image (tells ground) (given_by w) l ground.start) (append-nil steps) along
front_holds ground nodes steps progress whole w end.AllDone e along = subst (λ (l : List Pos). HoldsAlong ground.image (tells ground) (given_by w) l ground.start) (append-nil steps) along
front_holds ground nodes steps progress whole w end.Cut e along = subst (λ (l : List Pos). HoldsAlong ground.image (tells ground) (given_by w) l ground.start) (append-nil steps) along

front_at : (ground : Ground) (nodes : List Shape) (steps : List Pos) (progress : Progress) → Whole ground nodes steps progress → (w : Assignment) (p : Pos) → In p steps → (e : End) → ground.log.end ≡ e
    → at (walk_along ground.image (tells ground) (given_by w) (steps ++ fault_by ground.log e) ground.start) p ≡ at (visited ground steps w) p
front_at ground nodes steps progress whole w p there (end.Faulted thread c) e =
    at_before ground.image (tells ground) (given_by w) steps (step_of thread (logged ground.log thread).steps) p ground.start (end_next ground nodes steps progress whole thread).new there
front_at ground nodes steps progress whole w p there (end.Exited thread code) e = ap (λ (l : List Pos). at (walk_along ground.image (tells ground) (given_by w) l ground.start) p) (append-nil steps)
front_at ground nodes steps progress whole w p there end.AllDone e = ap (λ (l : List Pos). at (walk_along ground.image (tells ground) (given_by w) l ground.start) p) (append-nil steps)
front_at ground nodes steps progress whole w p there end.Cut e = ap (λ (l : List Pos). at (walk_along ground.image (tells ground) (given_by w) l ground.start) p) (append-nil steps)

holds_whole : (ground : Ground) (nodes : List Shape) (steps : List Pos) (progress : Progress) → Whole ground nodes steps progress → (w : Assignment) (visits : Visits) → IsGuided ground.image (tells ground) (given_by w) visits
    → HoldSoFar ground steps w
holds_whole ground nodes steps progress whole w visits guided =
    front_holds ground nodes steps progress whole w ground.log.end refl ((walked ground nodes steps progress whole w).holds.1 (visits, guided))

-- the visits of the guided walk are those of the steps that were followed
same_at : (ground : Ground) (nodes : List Shape) (steps : List Pos) (progress : Progress) → Whole ground nodes steps progress → (w : Assignment) (visits : Visits) → IsGuided ground.image (tells ground) (given_by w) visits
    → (p : Pos) → In p steps → at visits p ≡ at (visited ground steps w) p
same_at ground nodes steps progress whole w visits guided p there =
    let counted : Counted ground.log p = whole.order.counted p there in
    let within = notes_counted ground.image ground.log ground.walk whole.ground_is.walk p.thread (counted_thread ground.log p counted) in
    (walked ground nodes steps progress whole w).visits visits guided p (place_counted ground.log ground.walk p (omega (arith, counted, within)))
    ∙ front_at ground nodes steps progress whole w p there ground.log.end refl

ends_are : (ground : Ground) (nodes : List Shape) (steps : List Pos) (progress : Progress) (constraints : List TermId) (ends : List TermId) → Whole ground nodes steps progress → AreEndsOf progress.walkers ends
    → AreEnds ground.image ground.log ground.walk nodes (record { accesses = progress.accesses; constraints = constraints; ends = ends })
ends_are ground nodes steps progress constraints ends whole are = record {
  count = are.count ∙ ap (λ n. 32 * n) whole.progress_is.walker_count;
  words = λ thread number within inside.
      let begun = all_begun ground nodes steps progress whole thread within in
      subst (IsTerm nodes 32) (sym (is_end thread number within inside)) (begun.2.words.words number inside);
  values = λ w visits guided thread number within inside.
      let begun = all_begun ground nodes steps progress whole thread within in
      let next = end_next ground nodes steps progress whole thread in
      let n = (logged ground.log thread).steps in
      let hold = holds_whole ground nodes steps progress whole w visits guided in
      let same = same_seen ground.image (tells ground) visits (visited ground steps w) thread n
      (λ q need. record { same = same_at ground nodes steps progress whole w visits guided q (next.needs q need) }) in
      ap (value_at w nodes) (is_end thread number within inside)
      ∙ (begun.2.stands w n next hold).stand.values number inside
      ∙ sym (ap (λ (seen : Seen). register seen.local number) same);
  variables = λ thread number within inside width variable there.
      let begun = all_begun ground nodes steps progress whole thread within in
      let n = (logged ground.log thread).steps in
      earlier_is_one ground.log progress.accesses (step_of thread n) width variable
      (begun.2.knows n (end_next ground nodes steps progress whole thread) width variable
      (record { number = number; below = inside; occurs = subst (Occurs nodes width variable) (is_end thread number within inside) there }));
}
  where
    is_end : (thread number : ℕ) (within : thread < length ground.log.threads) → number < 32 → end_at ends thread number ≡ term_of (all_begun ground nodes steps progress whole thread within).0.registers number
    is_end thread number within inside =
        let begun = all_begun ground nodes steps progress whole thread within in
        are.each thread number begun.0 begun.1 (omega (arith, within, whole.progress_is.walker_count)) inside

paths_with : (ground : Ground) (nodes : List Shape) (steps : List Pos) (progress : Progress) (constraints ends : List TermId) → Whole ground nodes steps progress → AreConstraints ground nodes steps progress.accesses constraints
    → AreEndsOf progress.walkers ends → ArePaths ground.image ground.log ground.walk nodes (record { accesses = progress.accesses; constraints = constraints; ends = ends })
paths_with ground nodes steps progress constraints ends whole are ends_of = record {
  meets = λ w.
      let law = (walked ground nodes steps progress whole w).holds in
      (λ meets. law.0 ((are.meets w).0 meets), λ guided. (are.meets w).1 (law.1 guided));
  bits = are.bits;
  constraints_from = are.variables;
  shows = λ w visits guided k d lt.
      let hold = holds_whole ground nodes steps progress whole w visits guided in
      let a = slice_index_or progress.accesses k d in
      let there = access_done progress.accesses (λ (q : Pos). is_access (instr_of_step ground.walk q) (noted (tells ground) q)) steps whole.progress_is.places k d lt in
      subst (λ (v : Visit). IsShown ground.image w nodes a v) (sym (same_at ground nodes steps progress whole w visits guided a.pos there)) (whole.progress_is.shows w hold k d lt);
  lists = accesses_listed ground nodes steps progress whole;
  each = whole.progress_is.each;
  ends = ends_are ground nodes steps progress constraints ends whole ends_of;
}

-- ---- the whole

-- What the fault adds leaves threads and accesses.
record SameBut (before after : Progress) : Type 0 where
  walkers : after.walkers ≡ before.walkers
  accesses : after.accesses ≡ before.accesses

unchanged : (ground : Ground) (old new : List Shape) (steps : List Pos) (before after : Progress) → Whole ground old steps before → Grows old new → fault_places ground.log ≡ [] → after ≡ before
    → AreConstraints ground new steps before.accesses after.constraints × SameBut before after
unchanged ground old new steps before after whole grows none same = (
  subst (AreConstraints ground new steps before.accesses) (sym (ap (λ (x : Progress). x.constraints) same))
      (no_fault ground new steps before (progress_grown ground old new steps before grows whole.progress_is) none),
  record { walkers = ap (λ (x : Progress). x.walkers) same; accesses = ap (λ (x : Progress). x.accesses) same },
)

fault_added : (ground : Ground) (old new : List Shape) (steps : List Pos) (before after : Progress) → Whole ground old steps before → Grows old new → (e : End) → ground.log.end ≡ e
    → IsFaultAdded ground.image ground.walk.fault e old new before after → AreConstraints ground new steps before.accesses after.constraints × SameBut before after
fault_added ground old new steps before after whole grows (end.Faulted thread c) e added = (
  with_fault ground old new steps before after thread c whole grows e added,
  record { walkers = ap (λ (x : Progress). x.walkers) added.is; accesses = ap (λ (x : Progress). x.accesses) added.is },
)
fault_added ground old new steps before after whole grows (end.Exited thread code) e added = unchanged ground old new steps before after whole grows (ap (fault_by ground.log) e) added
fault_added ground old new steps before after whole grows end.AllDone e added = unchanged ground old new steps before after whole grows (ap (fault_by ground.log) e) added
fault_added ground old new steps before after whole grows end.Cut e added = unchanged ground old new steps before after whole grows (ap (fault_by ground.log) e) added

pub are_paths : (ground : Ground) (old new : List Shape) (steps : List Pos) (before after : Progress) (ends : List TermId) → Whole ground old steps before → Grows old new
    → IsFaultAdded ground.image ground.walk.fault ground.log.end old new before after → AreEndsOf after.walkers ends
    → ArePaths ground.image ground.log ground.walk new (record { accesses = after.accesses; constraints = after.constraints; ends = ends })
are_paths ground old new steps before after ends whole grows added ends_of =
    let both = fault_added ground old new steps before after whole grows ground.log.end refl added in
    let later : Whole ground new steps before = record { ground_is = whole.ground_is; order = whole.order; progress_is = progress_grown ground old new steps before grows whole.progress_is } in
    subst (λ (l : List Access). ArePaths ground.image ground.log ground.walk new (record { accesses = l; constraints = after.constraints; ends = ends })) (sym both.1.accesses)
    (paths_with ground new steps before after.constraints ends later both.0 (subst (λ (l : List (Option Walker)). AreEndsOf l ends) both.1.walkers ends_of))
