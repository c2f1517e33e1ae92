-- The steps of a woven schedule are steps with accesses among them.
use Rattle.std.specs.Prelude.{◌≡◌, ℕ, ◌<◌, List, Option, Some, None, option_map, refl}
use Rattle.std.proofs.Common.{sym, ◌∙◌, ap, arith, inl, inr}
use Rattle.std.proofs.lemmas.Option.{none-some}
use Rattle.elf_image.specs.Layout.{Layout}
use Rattle.odr_log.specs.declared.log.Log.{Log}
use Rattle.odr_log.specs.declared.log.Pos.{Pos}
use Rattle.rv_model.specs.CallsFit.{CallsFit}
use Rattle.rv_model.specs.RecordedOrder.{Counted}
use Rattle.rv_model.specs.Walk.{IsWalk, Walk, places_of}
use Rattle.guided_walk.specs.Fits.{byte_address, read_count}
use Rattle.guided_walk.specs.Guided.{Given, IsGuided, Visits, at, instr_of}
use Rattle.guided_walk.specs.Orders.{In, Lists}
use Rattle.guided_walk.specs.Schedules.{places}
use Rattle.guided_walk.specs.Told.{IsPlace, told}
use Rattle.guided_walk.specs.Woven.{Woven}
use Rattle.guided_walk.proofs.NeedsOrder.{counted_place}
use Rattle.access_fits.specs.Fitting.{LooksBack, is_linking, is_reserving}
use Rattle.access_fits.specs.Law.{AreSteps, WovenFits}
use Rattle.access_fits.proofs.Along.{fits_by_order}
use Rattle.walk_facts.specs.Bytes.{HasRights, MayRead}
use Rattle.walk_facts.specs.Law.{ArePlaces}
use Rattle.walk_facts.specs.Links.{IsLinkedTo, access_address, back_in, is_linking as links, is_reserving as reserves}
use Rattle.walk_facts.specs.Steps.{IsAccess, instr_of_step, step_of}
use Rattle.walk_facts.proofs.Addresses.{counted_is_place, instr_is}
use Rattle.walk_facts.proofs.Links.{link_law, looks_back_law, place_few}
use Rattle.walk_facts.proofs.Places.{places_law}
use Rattle.walk_facts.proofs.Quiet.{quiet_law}
use Rattle.walk_facts.proofs.Rights.{rights_law}

-- ---- looking back

pub counted_before : (image : Layout) (log : Log) (walk : Walk) → IsWalk image log walk → (p : Pos) → IsPlace (told log walk) p → (k : ℕ) → k < p.step → Counted log (step_of p.thread k)
counted_before image log walk is p place k less = counted_place image log walk is (step_of p.thread k) (omega (arith, less, place_few log walk p place))

pub reserves_at : (image : Layout) (log : Log) (walk : Walk) (given : Given) (v : Visits) → IsWalk image log walk → IsGuided image (told log walk) given v
    → (q : Pos) → Counted log q → is_reserving (instr_of image (at v q).seen) ≡ reserves (instr_of_step walk q)
reserves_at image log walk given v is guided q counted = ap is_reserving (instr_is image log walk given v is guided q counted)

links_at : (image : Layout) (log : Log) (walk : Walk) (given : Given) (v : Visits) → IsWalk image log walk → IsGuided image (told log walk) given v
    → (q : Pos) → Counted log q → is_linking (instr_of image (at v q).seen) ≡ links (instr_of_step walk q)
links_at image log walk given v is guided q counted = ap is_linking (instr_is image log walk given v is guided q counted)

pub to_walk : (image : Layout) (log : Log) (walk : Walk) (given : Given) (v : Visits) → IsWalk image log walk → IsGuided image (told log walk) given v
    → (t s : ℕ) (p : Pos) → p.thread ≡ t → IsPlace (told log walk) p → LooksBack image v (step_of t s) p → IsLinkedTo (places_of walk p.thread) p.step s
to_walk image log walk given v is guided t s p same place back =
    let counted : Counted log (step_of p.thread s) = counted_before image log walk is p place s back.earlier in
    record {
      earlier = back.earlier;
      reserves =
          sym (reserves_at image log walk given v is guided (step_of p.thread s) counted)
          ∙ ap (λ (u : ℕ). is_reserving (instr_of image (v u s).seen)) same ∙ back.reserves;
      last = λ (k : ℕ) (after : s < k) (before : k < p.step).
          sym (links_at image log walk given v is guided (step_of p.thread k) (counted_before image log walk is p place k before)) ∙ back.last k after before;
    }

pub to_visits : (image : Layout) (log : Log) (walk : Walk) (given : Given) (v : Visits) → IsWalk image log walk → IsGuided image (told log walk) given v
    → (s : ℕ) (p : Pos) → IsPlace (told log walk) p → IsLinkedTo (places_of walk p.thread) p.step s → LooksBack image v (step_of p.thread s) p
to_visits image log walk given v is guided s p place linked = record {
  thread = refl;
  earlier = linked.earlier;
  reserves = reserves_at image log walk given v is guided (step_of p.thread s) (counted_before image log walk is p place s linked.earlier) ∙ linked.reserves;
  last = λ (k : ℕ) (after : s < k) (before : k < p.step).
      links_at image log walk given v is guided (step_of p.thread k) (counted_before image log walk is p place k before) ∙ linked.last k after before;
}

mapped : (A : ℕ → ℕ) (o : Option ℕ) (a : ℕ) → option_map A o ≡ Some a → (k : ℕ) × (o ≡ Some k)
mapped A None a e = absurd (none-some a e)
mapped A (Some k) a e = (k, refl)

-- ---- the steps of the schedule

are_steps : (image : Layout) (log : Log) (walk : Walk) (given : Given) (v : Visits) (pairs : List (Pos × Pos)) (schedule : List ℕ) (accesses : List Pos)
    → IsWalk image log walk → CallsFit log → IsGuided image (told log walk) given v → Woven log pairs schedule → Lists (IsAccess log walk) accesses
    → AreSteps image v accesses (places schedule)
are_steps image log walk given v pairs schedule accesses is fit guided woven lists =
    let there : ArePlaces log walk schedule = places_law image log walk pairs schedule is fit woven in
    let access_place : (p : Pos) → In p accesses → IsPlace (told log walk) p = λ (p : Pos) (i : In p accesses).
    counted_is_place image log walk is p (lists.only p i).0 in
    record {
      once = there.once;
      listed = λ (p : Pos) (i : In p accesses). there.all p (access_place p i);
      quiet = λ (p : Pos) (i : In p (places schedule)). elim (quiet_law image log walk given v p is guided (there.only p i)) [
        | inl access ↦ inl (lists.all p access)
        | inr quiet ↦ inr quiet.0
      ];
      cells = λ (p : Pos) (i : In p accesses) (k : ℕ) (less : k < read_count image (at v p)).
          let rights : HasRights image (at v p) = rights_law image log walk given v p is fit guided (access_place p i) in
          let read : MayRead image (byte_address (access_address image v p) k) = rights.reads k less in
          (read.0, read.1);
      earlier = there.earlier;
      rises = there.rises;
      links = λ (lr p : Pos) (i : In p (places schedule)) (back : LooksBack image v lr p).
          let place : IsPlace (told log walk) p = there.only p i in
          let linked : IsLinkedTo (places_of walk p.thread) p.step lr.step = to_walk image log walk given v is guided lr.thread lr.step p (sym back.thread) place back in
          link_law image log walk given v p is guided place
          ∙ ap (option_map (λ (s : ℕ). access_address image v (step_of p.thread s))) ((looks_back_law (places_of walk p.thread) p.step lr.step).1 linked)
          ∙ ap (λ (t : ℕ). Some (access_address image v (step_of t lr.step))) (sym back.thread);
      back = λ (p : Pos) (link : ℕ) (i : In p (places schedule)) (e : (at v p).seen.link ≡ Some link).
          let place : IsPlace (told log walk) p = there.only p i in
          let found : (k : ℕ) × (back_in walk p.thread p.step ≡ Some k) =
          mapped (λ (s : ℕ). access_address image v (step_of p.thread s)) (back_in walk p.thread p.step) link (sym (link_law image log walk given v p is guided place) ∙ e) in
          (step_of p.thread found.0, to_visits image log walk given v is guided found.0 p place ((looks_back_law (places_of walk p.thread) p.step found.0).0 found.1));
    }

pub woven_fits_law : WovenFits
woven_fits_law image log walk given v pairs schedule accesses is fit guided woven lists =
    fits_by_order image given v accesses (places schedule) (are_steps image log walk given v pairs schedule accesses is fit guided woven lists)
