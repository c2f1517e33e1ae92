-- The walk of a log is a ground to follow it on: its places tell the address of each step.
use Rattle.std.proofs.Common.{◌≡◌, ℕ, zero, suc, ◌<◌, List, [], ◌∷◌, length, Bool, true, false, ltb, refl, sym, ◌∙◌, ap, subst, arith, get_or}
use Rattle.std.specs.Prelude.{Option, Some, Ok, slice_index_or}
use Rattle.std.proofs.lemmas.Bool.{false≢true, lt-ltb, ltb-true}
use Rattle.std.proofs.lemmas.Option.{same_Some}
use Rattle.elf_image.specs.Layout.{Layout}
use Rattle.odr_log.specs.declared.log.Call.TheVariants as call
use Rattle.odr_log.specs.declared.log.CallRec.{CallRec}
use Rattle.odr_log.specs.declared.log.Cause.{Cause}
use Rattle.odr_log.specs.declared.log.End.{End}
use Rattle.odr_log.specs.declared.log.End.TheVariants as end
use Rattle.odr_log.specs.declared.log.Log.{Log}
use Rattle.rv_model.specs.declared.state.Note.{Note}
use Rattle.rv_model.specs.declared.state.Note.TheVariants as note
use Rattle.rv_model.specs.declared.walk.FaultPlace.{FaultPlace}
use Rattle.rv_model.specs.declared.walk.Place.{Place}
use Rattle.rv_model.specs.CallsFit.{CallsFit}
use Rattle.rv_model.specs.Run.{logged}
use Rattle.rv_model.specs.Step.{instr_at}
use Rattle.rv_model.specs.Walk.{BeginsAt, FaultFits, IsWalk, Leads, ThreadWalk, Walk, goes_to, notes_of, places_of, transfer_of}
use Rattle.guided_walk.specs.Guided.{Visits}
use Rattle.guided_walk.proofs.Facts.{notes_counted, noted_step}
use Rattle.guided_walk.proofs.Walks.{leads_start, pc_from}
use Rattle.path_exec.specs.Paths.{no_place}
use Rattle.path_exec.specs.Progress.{IsGround, ground_of}
use Rattle.path_exec.proofs.Joins.{counted_thread}

-- ---- addresses

after_by : (image : Layout) (log : Log) (walk : Walk) → IsWalk image log walk → (t : ℕ) (b : Bool) → ltb t (length log.threads) ≡ b → ℕ
after_by image log walk is t true e = (is.each t (ltb-true t (length log.threads) e)).after
after_by image log walk is t false e = 0

after_of : (image : Layout) (log : Log) (walk : Walk) → IsWalk image log walk → ℕ → ℕ
after_of image log walk is t = after_by image log walk is t (ltb t (length log.threads)) refl

pub address_of : (image : Layout) (log : Log) (walk : Walk) → IsWalk image log walk → ℕ → ℕ → ℕ
address_of image log walk is t s = pc_from (places_of walk t) (after_of image log walk is t) s

-- the walk of a thread, with the address after it
record WalkAt (image : Layout) (log : Log) (walk : Walk) (is : IsWalk image log walk) (t : ℕ) : Type 0 where
  walk_is : ThreadWalk image log t (places_of walk t) (notes_of walk t)
  after_is : after_of image log walk is t ≡ walk_is.after

walk_at : (image : Layout) (log : Log) (walk : Walk) (is : IsWalk image log walk) (t : ℕ) → t < length log.threads → WalkAt image log walk is t
unfolding after_of after_by
walk_at image log walk is t within = let found = by_test (ltb t (length log.threads)) refl in record { walk_is = found.0; after_is = found.1 }
  where
    by_test : (b : Bool) (e : ltb t (length log.threads) ≡ b) → (tw : ThreadWalk image log t (places_of walk t) (notes_of walk t)) × (after_by image log walk is t b e ≡ tw.after)
    by_test true e = (is.each t (ltb-true t (length log.threads) e), refl)
    by_test false e = absurd (false≢true (sym e ∙ lt-ltb t (length log.threads) within))

-- ---- the places of a walk

record PlaceAt (image : Layout) (places : List Place) (notes : List Note) (after k : ℕ) : Type 0 where
  at : (slice_index_or places k no_place).pc ≡ pc_from places after k
  fetched : instr_at image (pc_from places after k) ≡ Ok (slice_index_or places k no_place).instr
  goes : goes_to (pc_from places after k) (transfer_of (pc_from places after k) (slice_index_or places k no_place).instr) (get_or notes k note.Nothing) ≡ Some (pc_from places after (suc k))

place_at : (image : Layout) (pc : ℕ) (places : List Place) (notes : List Note) (after k : ℕ) → Leads image pc places notes after → k < length notes → PlaceAt image places notes after k
place_at image pc [] [] after k leads less = absurd (omega (arith, less))
place_at image pc [] (shown ∷ notes) after k leads less = absurd leads
place_at image pc (place ∷ places) [] after k leads less = absurd leads
place_at image pc (place ∷ places) (shown ∷ notes) after zero leads less =
    let start : pc_from places after 0 ≡ leads.2.0 = leads_start image leads.2.0 places notes after leads.2.2 in
    record {
      at = refl;
      fetched = ap (instr_at image) leads.0 ∙ leads.1;
      goes = ap (λ (a : ℕ). goes_to a (transfer_of a place.instr) shown) leads.0 ∙ leads.2.1 ∙ ap (λ (n : ℕ). Some n) (sym start);
    }
place_at image pc (place ∷ places) (shown ∷ notes) after (suc k) leads less =
    let rest = place_at image leads.2.0 places notes after k leads.2.2 (omega (arith, less)) in
    record { at = rest.at; fetched = rest.fetched; goes = rest.goes }

pc_last : (places : List Place) (after : ℕ) → pc_from places after (length places) ≡ after
pc_last [] after = refl
pc_last (place ∷ places) after = pc_last places after

-- ---- one walk leads to one address

same_entry : (a b c d : ℕ) → call.Spawn a (Some c) ≡ call.Spawn b (Some d) → a ≡ b
same_entry a b c d e = cc

begins_once : (image : Layout) (log : Log) (t a b : ℕ) → BeginsAt image log t a → BeginsAt image log t b → a ≡ b
begins_once image log zero a b one other = one ∙ sym other
begins_once image log (suc t) a b one other =
    let same : one.0 ≡ other.0 = same_Some one.0 other.0 (sym one.1 ∙ other.1) in
    same_entry a b (suc t) (suc t) (sym one.2 ∙ ap (λ (r : CallRec). r.call) same ∙ other.2)

leads_once : (image : Layout) (pc start : ℕ) (places : List Place) (notes : List Note) (a b : ℕ) → pc ≡ start → Leads image pc places notes a → Leads image start places notes b → a ≡ b
leads_once image pc start [] [] a b e one other = sym one ∙ e ∙ other
leads_once image pc start [] (shown ∷ notes) a b e one other = absurd one
leads_once image pc start (place ∷ places) [] a b e one other = absurd one
leads_once image pc start (place ∷ places) (shown ∷ notes) a b e one other =
    let next : one.2.0 ≡ other.2.0 = same_Some one.2.0 other.2.0 (sym one.2.1 ∙ ap (λ x. goes_to x (transfer_of x place.instr) shown) e ∙ other.2.1) in
    leads_once image one.2.0 other.2.0 places notes a b next one.2.2 other.2.2

-- ---- the ground

pub is_ground : (image : Layout) (log : Log) (walk : Walk) (is : IsWalk image log walk) (start : Visits) → CallsFit log → IsGround (ground_of image log walk start (address_of image log walk is))
unfolding address_of
is_ground image log walk is start fits = record {
  walk = is;
  fits = fits;
  begins = λ thread within.
      let w = walk_at image log walk is thread within in
      subst (BeginsAt image log thread)
      (sym (ap (λ a. pc_from (places_of walk thread) a 0) w.after_is ∙ leads_start image w.walk_is.start (places_of walk thread) (notes_of walk thread) w.walk_is.after w.walk_is.leads)) w.walk_is.begins;
  at = λ p counted.
      let within = counted_thread log p counted in
      let w = walk_at image log walk is p.thread within in
      let long = notes_counted image log walk is p.thread within in
      let inside : p.step < length (notes_of walk p.thread) = omega (arith, counted, long) in
      let here = subst (λ a. PlaceAt image (places_of walk p.thread) (notes_of walk p.thread) a p.step) (sym w.after_is)
      (place_at image w.walk_is.start (places_of walk p.thread) (notes_of walk p.thread) w.walk_is.after p.step w.walk_is.leads inside) in
      let shows = noted_step log walk p inside in
      record {
        at = here.at;
        fetched = here.fetched;
        goes = ap (λ (n : Note). goes_to (pc_from (places_of walk p.thread) (after_of image log walk is p.thread) p.step)
            (transfer_of (pc_from (places_of walk p.thread) (after_of image log walk is p.thread) p.step) (slice_index_or (places_of walk p.thread) p.step no_place).instr) n) shows ∙ here.goes;
      };
  stops = λ thread c place ends fault. stops_at thread c place ends fault;
}
  where
    stops_at : (thread : ℕ) (c : Cause) (place : FaultPlace) → log.end ≡ end.Faulted thread c → walk.fault ≡ Some place
        → place.pc ≡ pc_from (places_of walk thread) (after_of image log walk is thread) (logged log thread).steps
    stops_at thread c place ends fault =
        let fits_at : FaultFits image log walk (end.Faulted thread c) (Some place) =
        subst (λ (o : Option FaultPlace). FaultFits image log walk (end.Faulted thread c) o) fault (subst (λ (x : End). FaultFits image log walk x walk.fault) ends is.fault) in
        let w = walk_at image log walk is thread fits_at.0 in
        let other = fits_at.1.walk in
        let starts = begins_once image log thread w.walk_is.start other.start w.walk_is.begins other.begins in
        let afters : w.walk_is.after ≡ other.after = leads_once image w.walk_is.start other.start (places_of walk thread) (notes_of walk thread) w.walk_is.after other.after starts w.walk_is.leads other.leads in
        fits_at.1.pc ∙ sym afters ∙ sym w.after_is ∙ sym (ap (pc_from (places_of walk thread) (after_of image log walk is thread)) (sym w.walk_is.steps) ∙ pc_last (places_of walk thread) (after_of image log walk is thread))
