-- All steps of a list are followed, one after the other.
use Rattle.std.proofs.Common.{◌≡◌, ℕ, zero, suc, ◌+◌, ◌<◌, ◌≤◌, List, [], ◌∷◌, ◌++◌, length, take, drop, get_or, replicate, refl, sym, ◌∙◌, ap, subst, inl, inr, arith}
use Rattle.std.specs.Prelude.{All, IsSome, Option, Some, None, IfSome, Ok, Err, Result, is_some, option_map, slice_index_or, slice_set}
use Rattle.std.specs.Result.{result_ok}
use Rattle.std.proofs.lemmas.List.{append_assoc, drop_more, get_or-replicate, get_or-set_other, get_or-set_same, length-replicate, length-set, take-append-drop, take_all, take_more}
use Rattle.std.proofs.lemmas.List.Elements.{All-from_get_or, All-nil}
use Rattle.elf_image.specs.Layout.{Layout}
use Rattle.rv32_decode.specs.declared.instr.Instr.{Instr}
use Rattle.rv32_decode.specs.Valid.{IsValid}
use Rattle.odr_log.specs.declared.log.Cause.{Cause}
use Rattle.odr_log.specs.declared.log.Cause.TheVariants as cause
use Rattle.odr_log.specs.declared.log.End.{End}
use Rattle.odr_log.specs.declared.log.End.TheVariants as end
use Rattle.odr_log.specs.declared.log.Log.{Log}
use Rattle.odr_log.specs.declared.log.Pos.{Pos}
use Rattle.odr_log.specs.Grammar as grammar
use Rattle.rv_model.specs.declared.hearing.Outcome.TheVariants.{Faults}
use Rattle.rv_model.specs.declared.state.Note.{Note}
use Rattle.rv_model.specs.declared.walk.FaultPlace.{FaultPlace}
use Rattle.rv_model.specs.declared.walk.Place.{Place}
use Rattle.rv_model.specs.CallsFit.{CallsFit}
use Rattle.rv_model.specs.Step.{instr_at}
use Rattle.rv_model.specs.Thread.{no_thread}
use Rattle.rv_model.specs.Walk.{BeginsAt, FaultFits, IsWalk, Walk, places_of}
use Rattle.bv_terms.specs.declared.node.TermId.{TermId}
use Rattle.bv_terms.specs.Shapes.{Shape}
use Rattle.bv_terms.specs.Values.{value_at}
use Rattle.guided_walk.specs.Along.{fault_places}
use Rattle.guided_walk.specs.Guided.{Visit, Visits, at, seen_before}
use Rattle.guided_walk.specs.Orders.{In}
use Rattle.guided_walk.specs.Told.{place_of, told}
use Rattle.step_terms.specs.Made.{Grows, IsTerm}
use Rattle.step_order.specs.Order.{IsStepOrder}
use Rattle.thread_terms.specs.declared.access.Access.{Access}
use Rattle.thread_terms.specs.Standing.{BeginsAs}
use Rattle.thread_terms.specs.Steps.{HasVariables, StandsBefore}
use Rattle.trace_path.specs.Traced.{IsTraced, Traced, walk_of}
use Rattle.trace_path.proofs.WholeLemmas.{walks_one}
use Rattle.walk_lists.specs.Data.{told_of}
use Rattle.walk_lists.specs.Order.{Follows, IsOrder}
use Rattle.path_exec.specs.declared.paths.Paths.{Paths}
use Rattle.path_exec.specs.declared.progress.Progress.{Progress}
use Rattle.path_exec.specs.declared.walker.Walker.{Walker}
use Rattle.path_exec.specs.Ending.{AreEndsOf, IsFaultAdded, MayEnd}
use Rattle.path_exec.specs.Following.{IsFollowed, IsReady, at_note, at_place, begun}
use Rattle.path_exec.specs.Links.{LinksTo, looks_back}
use Rattle.path_exec.specs.Paths.{ArePaths, IsListed, IsOfOne, IsShown}
use Rattle.path_exec.specs.Progress.{AreFollowed, Ground, IsAsleep, IsEnd, IsGround, IsNext, IsProgress, IsThread, IsWalker, ground_of, step_of, tells, visited}
use Rattle.path_exec.proofs.Extend.{extend}
use Rattle.path_exec.proofs.Finish.{Whole, all_begun}
use Rattle.path_exec.proofs.Grounds.{address_of, is_ground}
use Rattle.step_order.proofs.Orders.{next_follows}
use Rattle.path_exec.proofs.Running.{note_is, ready, valid_at}
use Rattle.path_exec.proofs.Whole.{are_paths}

-- ---- before the first step

first_step : (ground : Ground) (step : ℕ) → IsNext (tells ground) [] 0 step → step ≡ 0
first_step ground zero next = refl
first_step ground (suc k) next = absurd (next.needs (step_of 0 k) refl)

walker_begun : (ground : Ground) (nodes : List Shape) (walker : Walker) → IsGround ground → 0 < length ground.log.threads → BeginsAs nodes walker.registers → walker.link ≡ None → IsWalker ground nodes [] [] 0 walker
walker_begun ground nodes walker is some begins none = record {
  words = begins.words;
  stands = λ w step next hold. subst (λ s. StandsBefore w nodes walker.registers (ground.address 0 s) walker.link (seen_before ground.image (tells ground) (visited ground [] w) 0 s)) (sym (first_step ground step next)) (record {
    stand = begins.stands w ground.image.entry;
    at = sym (is.begins 0 some);
    linked = sym (ap is_some none);
  });
  links = λ step next. subst (λ s. LinksTo [] 0 walker.link (looks_back (places_of ground.walk 0) s)) (sym (first_step ground step next)) (subst (λ l. LinksTo [] 0 l None) (sym none) tt);
  knows = λ step next width number there. absurd (begins.variables width number there);
}

asleep_first : (ground : Ground) (thread : ℕ) → IsGround ground → thread < length ground.log.threads → (thread ≡ 0 → ⊥) → IsAsleep ground [] thread
asleep_first ground thread is within later = by_thread thread later (is.begins thread within)
  where
    by_thread : (t : ℕ) → (t ≡ 0 → ⊥) → BeginsAt ground.image ground.log t (ground.address t 0) → IsAsleep ground [] t
    by_thread zero none begins = absurd (none refl)
    by_thread (suc b) none begins = record {
      maker = place_of begins.0;
      made = ap (option_map place_of) begins.1;
      child = none;
      new = λ there. there;
    }

begun_is : (ground : Ground) (nodes : List Shape) (walker : Walker) → IsGround ground → 0 < length ground.log.threads → BeginsAs nodes walker.registers → walker.link ≡ None
    → IsProgress ground nodes [] (begun (length ground.log.threads) walker)
begun_is ground nodes walker is some begins none = record {
  order = tt;
  counted = λ p there. absurd there;
  meets = λ w. (λ _ p there. absurd there, λ _. All-nil (λ (id : TermId). value_at w nodes id.number ≡ 1));
  bits = All-nil (λ (id : TermId). IsTerm nodes 1 id.number);
  constraints_from = All-nil (λ (id : TermId). HasVariables (IsOfOne []) nodes id.number);
  walker_count = length-set (replicate (length ground.log.threads) None) 0 (Some walker) ∙ length-replicate (length ground.log.threads) None;
  walkers = λ thread within. by_thread thread within;
  end_count = length-replicate (length ground.log.threads) None;
  ends = λ thread within. subst (IsEnd ground nodes [] [] thread) (sym (get_or-replicate (length ground.log.threads) thread None None within)) (λ q e there. there);
  places = refl;
  shows = λ w hold. All-nil (λ (a : Access). IsShown ground.image w nodes a (at (visited ground [] w) a.pos));
  each = All-nil (IsListed ground.log ground.walk nodes []);
}
  where
    by_thread : (thread : ℕ) → thread < length ground.log.threads → IsThread ground nodes [] [] thread (slice_index_or (slice_set (replicate (length ground.log.threads) None) 0 (Some walker)) thread None)
    by_thread zero within =
        subst (IsThread ground nodes [] [] 0) (sym (get_or-set_same (replicate (length ground.log.threads) None) 0 (Some walker) None (omega (arith, within, length-replicate (length ground.log.threads) (let o : Option Walker = None in o)))))
        (walker_begun ground nodes walker is some begins none)
    by_thread (suc t) within =
        subst (IsThread ground nodes [] [] (suc t))
        (sym (get_or-set_other (replicate (length ground.log.threads) None) 0 (suc t) (Some walker) None (λ e. absurd (omega (arith, e))) ∙ get_or-replicate (length ground.log.threads) (suc t) None None within))
        (asleep_first ground (suc t) is within (λ e. absurd (omega (arith, e))))

pub begun_followed : (image : Layout) (log : Log) (nodes : List Shape) (walker : Walker) → 0 < length log.threads → BeginsAs nodes walker.registers → walker.link ≡ None → AreFollowed image log nodes [] (begun (length log.threads) walker)
begun_followed image log nodes walker some begins none walk start address is = begun_is (ground_of image log walk start address) nodes walker is some begins none

-- ---- one step of the list

-- the list at a step
split_at : (steps later : List Pos) (i : ℕ) (p : Pos) → i < length steps → get_or steps i p ≡ p → steps ++ later ≡ take i steps ++ p ∷ (drop (i + 1) steps ++ later)
split_at steps later i p less here =
    ap (λ (l : List Pos). l ++ later) (sym (take-append-drop i steps) ∙ ap (λ (l : List Pos). take i steps ++ l) (drop_more steps i p less ∙ ap (λ (q : Pos). q ∷ drop (i + 1) steps) here))
    ∙ append_assoc (take i steps) (p ∷ drop (i + 1) steps) later

step_follows : (log : Log) (walk : Walk) (steps : List Pos) (i : ℕ) (p : Pos) → IsStepOrder log walk steps → i < length steps → get_or steps i p ≡ p → Follows (told log walk) (take i steps) p
step_follows log walk steps i p order less here =
    next_follows (told log walk) [] (take i steps) (drop (i + 1) steps ++ fault_places log) p
    (subst (IsOrder (told log walk) []) (split_at steps (fault_places log) i p less here) order.order)

in_at : (steps : List Pos) (i : ℕ) (p : Pos) → i < length steps → get_or steps i p ≡ p → In p steps
in_at [] i p less here = absurd (omega (arith, less))
in_at (q ∷ steps) zero p less here = inl here
in_at (q ∷ steps) (suc i) p less here = inr (in_at steps i p (omega (arith, less)) here)

-- what the list is made of: the traces of the log, its notes, and its steps in order
pub record Laid (image : Layout) (log : Log) (traced : Traced) (notes : List (List Note)) (steps : List Pos) : Type 0 where
  pub traced_is : IsTraced image log traced
  pub fits : CallsFit log
  pub valid : grammar.IsValid log
  pub told_is : (walk : Walk) → IsWalk image log walk → told_of notes log.calls ≡ told log walk
  pub order : (walk : Walk) → IsWalk image log walk → IsStepOrder log walk steps

abbrev pub no_visit : Visit
no_visit = record { seen = record { local = no_thread.local; link = None }; outcome = Faults cause.Illegal }

abbrev pub no_visits : Visits
no_visits = λ (thread step : ℕ). no_visit

pub laid_by : (image : Layout) (log : Log) (traced : Traced) (notes shown : List (List Note)) (steps list : List Pos) → IsTraced image log traced → CallsFit log → grammar.IsValid log → shown ≡ notes → list ≡ steps
    → ((walk : Walk) → IsWalk image log walk → told_of notes log.calls ≡ told log walk) → ((any : Layout) (walk : Walk) → IsWalk any log walk → CallsFit log → IsStepOrder log walk steps) → Laid image log traced shown list
laid_by image log traced notes shown steps list is fits valid same_notes same_steps told_is order = record {
  traced_is = is;
  fits = fits;
  valid = valid;
  told_is = λ walk w. ap (λ (l : List (List Note)). told_of l log.calls) same_notes ∙ told_is walk w;
  order = λ walk w. subst (IsStepOrder log walk) (sym same_steps) (order image walk w fits);
}

pub ready_at : (image : Layout) (log : Log) (traced : Traced) (notes : List (List Note)) (steps : List Pos) (nodes : List Shape) (progress : Progress) (i : ℕ) (p : Pos) → Laid image log traced notes steps
    → AreFollowed image log nodes (take i steps) progress → i < length steps → get_or steps i p ≡ p → IsReady traced.places notes p nodes progress
ready_at image log traced notes steps nodes progress i p laid followed less here =
    let walk = walk_of traced laid.traced_is.notes in
    let is = laid.traced_is.walk in
    let address = address_of image log walk is in
    let ground = is_ground image log walk is no_visits laid.fits in
    let order = laid.order walk is in
    ready (ground_of image log walk no_visits address) nodes (take i steps) progress p notes ground laid.valid (followed walk no_visits address ground)
    (step_follows log walk steps i p order less here) (order.counted p (in_at steps i p less here)) (laid.told_is walk is)

pub followed_more : (image : Layout) (log : Log) (traced : Traced) (notes : List (List Note)) (steps : List Pos) (old new : List Shape) (before after : Progress) (i : ℕ) (p : Pos) → Laid image log traced notes steps
    → AreFollowed image log old (take i steps) before → i < length steps → get_or steps i p ≡ p → IsFollowed image p (at_place traced.places p) (at_note notes p) old new before after
    → AreFollowed image log new (take (i + 1) steps) after
followed_more image log traced notes steps old new before after i p laid followed less here step walk start address ground =
    let is = ground.walk in
    let order = laid.order walk is in
    let g = ground_of image log walk start address in
    let same : walk ≡ walk_of traced laid.traced_is.notes = walks_one image log walk (walk_of traced laid.traced_is.notes) is laid.traced_is.walk in
    let places = ap (λ (w : Walk). at_place w.places p) (sym same) in
    let shown = note_is notes log.calls (told log walk) p (laid.told_is walk is) in
    let taken = subst (λ (n : Note). IsFollowed image p (at_place walk.places p) n old new before after) shown
    (subst (λ (x : Place). IsFollowed image p x (at_note notes p) old new before after) places step) in
    subst (λ (l : List Pos). IsProgress g new l after) (sym (take_more steps i p less ∙ ap (λ (q : Pos). take i steps ++ q ∷ []) here))
    (extend g old new (take i steps) p before after ground (followed walk start address ground) (step_follows log walk steps i p order less here) (order.counted p (in_at steps i p less here)) taken)

pub followed_all : (image : Layout) (log : Log) (nodes : List Shape) (steps : List Pos) (progress : Progress) (i : ℕ) → length steps ≤ i → AreFollowed image log nodes (take i steps) progress → AreFollowed image log nodes steps progress
followed_all image log nodes steps progress i past followed = subst (λ (l : List Pos). AreFollowed image log nodes l progress) (take_all i steps past) followed

-- ---- the end

whole_at : (image : Layout) (log : Log) (traced : Traced) (notes : List (List Note)) (steps : List Pos) (nodes : List Shape) (progress : Progress) → Laid image log traced notes steps → AreFollowed image log nodes steps progress
    → (walk : Walk) (is : IsWalk image log walk) → Whole (ground_of image log walk no_visits (address_of image log walk is)) nodes steps progress
whole_at image log traced notes steps nodes progress laid followed walk is =
    let ground = is_ground image log walk is no_visits laid.fits in
    record { ground_is = ground; order = laid.order walk is; progress_is = followed walk no_visits (address_of image log walk is) ground }

pub all_some : (image : Layout) (log : Log) (traced : Traced) (notes : List (List Note)) (steps : List Pos) (nodes : List Shape) (progress : Progress) → Laid image log traced notes steps → AreFollowed image log nodes steps progress
    → All IsSome progress.walkers
all_some image log traced notes steps nodes progress laid followed =
    let walk = walk_of traced laid.traced_is.notes in
    let whole = whole_at image log traced notes steps nodes progress laid followed walk laid.traced_is.walk in
    All-from_get_or IsSome progress.walkers None (λ thread less.
    let found = all_begun (ground_of image log walk no_visits (address_of image log walk laid.traced_is.walk)) nodes steps progress whole thread (omega (arith, less, whole.progress_is.walker_count)) in
    subst IsSome (sym found.1) refl)

valid_ok : (r : Result Instr Cause) (o : Option Instr) → o ≡ result_ok r → ((i : Instr) → r ≡ Ok i → IsValid i) → IfSome o IsValid
valid_ok (Ok i) o e valid = subst (λ (x : Option Instr). IfSome x IsValid) (sym e) (valid i refl)
valid_ok (Err cause) o e valid = subst (λ (x : Option Instr). IfSome x IsValid) (sym e) tt

pub may_end : (image : Layout) (log : Log) (traced : Traced) (notes : List (List Note)) (steps : List Pos) (nodes : List Shape) (progress : Progress) → Laid image log traced notes steps → AreFollowed image log nodes steps progress
    → (e : End) → log.end ≡ e → MayEnd image nodes traced.fault progress.walkers e
may_end image log traced notes steps nodes progress laid followed (end.Faulted thread c) e =
    let walk = walk_of traced laid.traced_is.notes in
    let is = laid.traced_is.walk in
    by_fault traced.fault refl (subst (λ (x : End). FaultFits image log walk x traced.fault) e is.fault)
  where
    by_fault : (o : Option FaultPlace) → traced.fault ≡ o → FaultFits image log (walk_of traced laid.traced_is.notes) (end.Faulted thread c) o → MayEnd image nodes traced.fault progress.walkers (end.Faulted thread c)
    by_fault None f fits = absurd fits
    by_fault (Some place) f fits =
        let walk = walk_of traced laid.traced_is.notes in
        let is = laid.traced_is.walk in
        let whole = whole_at image log traced notes steps nodes progress laid followed walk is in
        let found = all_begun (ground_of image log walk no_visits (address_of image log walk is)) nodes steps progress whole thread fits.0 in
        record {
          place = place;
          is = f;
          fits = fits.1.fits;
          fetched = fits.1.instr;
          valid = valid_ok (instr_at image place.pc) place.instr fits.1.instr (λ i fetch. valid_at image place.pc i fetch);
          walker = record { walker = found.0; within = omega (arith, fits.0, whole.progress_is.walker_count); is = found.1; words = found.2.words };
        }
may_end image log traced notes steps nodes progress laid followed (end.Exited thread code) e = tt
may_end image log traced notes steps nodes progress laid followed end.AllDone e = tt
may_end image log traced notes steps nodes progress laid followed end.Cut e = tt

pub paths_at : (image : Layout) (log : Log) (traced : Traced) (notes : List (List Note)) (steps : List Pos) (old new : List Shape) (before after : Progress) (ends : List TermId) → Laid image log traced notes steps
    → AreFollowed image log old steps before → Grows old new → IsFaultAdded image traced.fault log.end old new before after → AreEndsOf after.walkers ends
    → (walk : Walk) → IsWalk image log walk → ArePaths image log walk new (record { accesses = after.accesses; constraints = after.constraints; ends = ends })
paths_at image log traced notes steps old new before after ends laid followed grows added ends_of walk is =
    let same : walk ≡ walk_of traced laid.traced_is.notes = walks_one image log walk (walk_of traced laid.traced_is.notes) is laid.traced_is.walk in
    let fault = ap (λ (w : Walk). w.fault) (sym same) in
    are_paths (ground_of image log walk no_visits (address_of image log walk is)) old new steps before after ends (whole_at image log traced notes steps old before laid followed walk is) grows
    (subst (λ (o : Option FaultPlace). IsFaultAdded image o log.end old new before after) fault added) ends_of

-- the constraints are bits, whatever the walk
pub bits_at : (image : Layout) (log : Log) (traced : Traced) (nodes : List Shape) (paths : Paths) → IsTraced image log traced → ((walk : Walk) → IsWalk image log walk → ArePaths image log walk nodes paths)
    → All (λ (id : TermId). IsTerm nodes 1 id.number) paths.constraints
bits_at image log traced nodes paths is are = (are (walk_of traced is.notes) is.walk).bits

-- what the fault adds leaves the threads
pub kept_walkers : (image : Layout) (fault : Option FaultPlace) (e : End) (old new : List Shape) (before after : Progress) → IsFaultAdded image fault e old new before after → after.walkers ≡ before.walkers
kept_walkers image fault (end.Faulted thread c) old new before after added = ap (λ (x : Progress). x.walkers) added.is
kept_walkers image fault (end.Exited thread code) old new before after added = ap (λ (x : Progress). x.walkers) added
kept_walkers image fault end.AllDone old new before after added = ap (λ (x : Progress). x.walkers) added
kept_walkers image fault end.Cut old new before after added = ap (λ (x : Progress). x.walkers) added
