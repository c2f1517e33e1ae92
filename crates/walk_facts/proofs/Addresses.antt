-- Where a thread of a guided walk stands before each step: at the address where the log's walk has it.
use Rattle.std.specs.Prelude.{◌≡◌, ℕ, zero, suc, ◌<◌, ◌≤◌, List, [], ◌∷◌, length, Option, Some, Result, Ok, option_map, refl}
use Rattle.std.specs.Result.{result_ok}
use Rattle.std.proofs.Common.{sym, ◌∙◌, ap, subst, arith, get_or}
use Rattle.std.proofs.lemmas.Option.{same_Some}
use Rattle.elf_image.specs.Layout.{Layout}
use Rattle.rv32_decode.specs.declared.instr.Instr.{Instr}
use Rattle.odr_log.specs.declared.log.Call.{Call}
use Rattle.odr_log.specs.declared.log.Call.TheVariants as call
use Rattle.odr_log.specs.declared.log.CallRec.{CallRec}
use Rattle.odr_log.specs.declared.log.Cause.{Cause}
use Rattle.odr_log.specs.declared.log.End.{End}
use Rattle.odr_log.specs.declared.log.End.TheVariants as end
use Rattle.odr_log.specs.declared.log.Log.{Log}
use Rattle.odr_log.specs.declared.log.Pos.{Pos}
use Rattle.rv_model.specs.declared.hearing.Outcome.{Outcome}
use Rattle.rv_model.specs.declared.hearing.Outcome.TheVariants.{Faults, Goes}
use Rattle.rv_model.specs.declared.state.Note.{Note}
use Rattle.rv_model.specs.declared.state.Note.TheVariants as note
use Rattle.rv_model.specs.declared.walk.Place.{Place}
use Rattle.rv_model.specs.Noted.{note_in, LeadsOn}
use Rattle.rv_model.specs.RecordedOrder.{Counted}
use Rattle.rv_model.specs.Run.{logged}
use Rattle.rv_model.specs.Step.{child_of, instr_at}
use Rattle.rv_model.specs.Thread.{no_thread}
use Rattle.rv_model.specs.Walk.{BeginsAt, FaultFits, IsWalk, Leads, ThreadWalk, Walk, goes_to, makes, notes_of, places_of, transfer_of}
use Rattle.rv_model.proofs.Acts.{walks_on_at}
use Rattle.guided_walk.specs.Guided.{Given, IsGuided, Seen, Visit, Visits, at, begins, handed, hears, instr_of, joined_from, joins, seen_before, visit, went}
use Rattle.guided_walk.specs.Told.{IsPlace, noted, place_of, told}
use Rattle.guided_walk.proofs.Facts.{called_noted, in_log, noted_step}
use Rattle.guided_walk.proofs.LoggedRun.{fault_steps}
use Rattle.guided_walk.proofs.NeedsOrder.{place_counted}
use Rattle.guided_walk.proofs.Records.{Among, found_among}
use Rattle.guided_walk.proofs.ScheduleLaw.{notes_are}
use Rattle.guided_walk.proofs.Walks.{AtStep, leads_start, leads_step, pc_from}
use Rattle.guided_walk.proofs.Whole.{not_fault}
use Rattle.walk_facts.specs.Law.{FaultLaw, InstructionLaw}
use Rattle.walk_facts.specs.Steps.{instr_of_step, no_place, step_of}

-- ---- where a thread begins

spawned_pc : (seen : Seen) (n : Note) (entry child : ℕ) → n ≡ note.Called (call.Spawn entry (Some child)) → (get_or (child_of seen.local n) 0 no_thread).local.pc ≡ entry
spawned_pc seen n entry child e = subst (λ (m : Note). (get_or (child_of seen.local m) 0 no_thread).local.pc ≡ entry) (sym e) refl

begin_pc : (image : Layout) (log : Log) (walk : Walk) (v : Visits) → IsWalk image log walk → (t start : ℕ) → BeginsAt image log t start
    → (begins image (told log walk) v t).pc ≡ start
begin_pc image log walk v is zero start e = sym e
begin_pc image log walk v is (suc t) start b =
    let r : CallRec = b.0 in
    let has : Among r log.calls = (found_among (λ (x : CallRec). makes (suc t) x.call) log.calls r b.1).0 in
    let shows : noted (told log walk) (place_of r) ≡ note.Called (call.Spawn start (Some (suc t))) =
    called_noted image log walk is r has ∙ ap (λ (c : Call). note.Called c) b.2 in
    ap (λ (o : Option CallRec). (handed (told log walk) v (option_map place_of o)).pc) b.1
    ∙ spawned_pc (at v (place_of r)).seen (noted (told log walk) (place_of r)) start (suc t) shows

-- ---- one step on

result_same : (r : Result Instr Cause) (a b : Instr) → r ≡ Ok a → r ≡ Ok b → a ≡ b
result_same r a b p q = cc

went_pc : (image : Layout) (pc next : ℕ) (n : Note) (seen : Seen) (o : Outcome) → seen.local.pc ≡ pc → LeadsOn seen.local.pc (instr_of image seen) o → note_in o ≡ n
    → ((fault : Cause) → n ≡ note.Faulted fault → ⊥) → AtStep image pc next n → (went image seen o).local.pc ≡ next
went_pc image pc next n seen (Faults fault) here leads shows quiet step = absurd (quiet fault (sym shows))
went_pc image pc next n seen (Goes local writes shown) here leads shows quiet step =
    let same : leads.0 ≡ step.instruction = result_same (instr_at image pc) leads.0 step.instruction (ap (instr_at image) (sym here) ∙ leads.1) step.fetched in
    same_Some local.pc next
    (sym leads.2
    ∙ ap (goes_to seen.local.pc (transfer_of seen.local.pc leads.0)) shows
    ∙ ap (λ (a : ℕ). goes_to a (transfer_of a leads.0) n) here
    ∙ ap (λ (i : Instr). goes_to pc (transfer_of pc i) n) same
    ∙ step.goes)

pub seen_pc : (image : Layout) (log : Log) (walk : Walk) (given : Given) (v : Visits) → IsWalk image log walk → IsGuided image (told log walk) given v
    → (t : ℕ) → (tw : ThreadWalk image log t (places_of walk t) (notes_of walk t)) → (s : ℕ) → s ≤ length (notes_of walk t)
    → (seen_before image (told log walk) v t s).local.pc ≡ pc_from (places_of walk t) tw.after s
seen_pc image log walk given v is guided t tw zero few =
    begin_pc image log walk v is t tw.start tw.begins ∙ sym (leads_start image tw.start (places_of walk t) (notes_of walk t) tw.after tw.leads)
seen_pc image log walk given v is guided t tw (suc s) few =
    let p : Pos = step_of t s in
    let within : s < length (notes_of walk t) = omega (arith, few) in
    let place : IsPlace (told log walk) p = place_counted log walk p within in
    let seen : Seen = seen_before image (told log walk) v t s in
    let joined : ℕ = joined_from (told log walk) v (joins (noted (told log walk) p)) in
    let o : Outcome = (visit image (told log walk) given v t s).outcome in
    let solves : at v p ≡ visit image (told log walk) given v t s = guided.solves p place in
    let n : Note = get_or (notes_of walk t) s note.Nothing in
    let shows : note_in o ≡ n = ap (λ (x : Visit). note_in x.outcome) (sym solves) ∙ guided.shows p place ∙ noted_step log walk p within in
    ap (λ (x : Visit). (went image x.seen x.outcome).local.pc) solves
    ∙ went_pc image (pc_from (places_of walk t) tw.after s) (pc_from (places_of walk t) tw.after (suc s)) n seen o
    (seen_pc image log walk given v is guided t tw s (omega (arith, few)))
    (walks_on_at image seen.local (hears image (told log walk) given t s seen joined)) shows (not_fault image log walk is t s within)
    (leads_step image tw.start (places_of walk t) (notes_of walk t) tw.after s tw.leads within)

-- ---- the places of a walk

record PlaceAt (image : Layout) (places : List Place) (after k : ℕ) : Type 0 where
  at : pc_from places after k ≡ (get_or places k no_place).pc
  fetched : instr_at image (pc_from places after k) ≡ Ok (get_or places k no_place).instr

place_at : (image : Layout) (pc : ℕ) (places : List Place) (notes : List Note) (after k : ℕ) → Leads image pc places notes after → k < length notes → PlaceAt image places after k
place_at image pc [] [] after k leads less = absurd (omega (arith, less))
place_at image pc [] (shown ∷ notes) after k leads less = absurd leads
place_at image pc (place ∷ places) [] after k leads less = absurd leads
place_at image pc (place ∷ places) (shown ∷ notes) after zero leads less = record { at = refl; fetched = ap (instr_at image) leads.0 ∙ leads.1 }
place_at image pc (place ∷ places) (shown ∷ notes) after (suc k) leads less =
    let rest : PlaceAt image places after k = place_at image leads.2.0 places notes after k leads.2.2 (omega (arith, less)) in
    record { at = rest.at; fetched = rest.fetched }

pc_last : (places : List Place) (after : ℕ) → pc_from places after (length places) ≡ after
pc_last [] after = refl
pc_last (place ∷ places) after = pc_last places after

-- ---- the laws

pub noted_within : (image : Layout) (log : Log) (walk : Walk) → IsWalk image log walk → (p : Pos) → Counted log p → p.step < length (notes_of walk p.thread)
noted_within image log walk is p counted = omega (arith, counted, notes_are image log walk is p.thread)

pub counted_is_place : (image : Layout) (log : Log) (walk : Walk) → IsWalk image log walk → (p : Pos) → Counted log p → IsPlace (told log walk) p
counted_is_place image log walk is p counted = place_counted log walk p (noted_within image log walk is p counted)

-- the thread before a place
pub seen_is : (image : Layout) (log : Log) (walk : Walk) (given : Given) (v : Visits) → IsGuided image (told log walk) given v → (p : Pos) → IsPlace (told log walk) p
    → (at v p).seen ≡ seen_before image (told log walk) v p.thread p.step
seen_is image log walk given v guided p place = ap (λ (x : Visit). x.seen) (guided.solves p place)

pub instr_is : (image : Layout) (log : Log) (walk : Walk) (given : Given) (v : Visits) → IsWalk image log walk → IsGuided image (told log walk) given v
    → (p : Pos) → Counted log p → instr_of image (at v p).seen ≡ Ok (instr_of_step walk p)
instr_is image log walk given v is guided p counted =
    let within : p.step < length (notes_of walk p.thread) = noted_within image log walk is p counted in
    let tw : ThreadWalk image log p.thread (places_of walk p.thread) (notes_of walk p.thread) = is.each p.thread (in_log image log walk is p.thread p.step within) in
    let there : PlaceAt image (places_of walk p.thread) tw.after p.step = place_at image tw.start (places_of walk p.thread) (notes_of walk p.thread) tw.after p.step tw.leads within in
    ap (instr_of image) (seen_is image log walk given v guided p (counted_is_place image log walk is p counted))
    ∙ ap (instr_at image) (seen_pc image log walk given v is guided p.thread tw p.step (omega (arith, within))) ∙ there.fetched

pub instruction_law : InstructionLaw
instruction_law image log walk given v p is guided counted =
    let within : p.step < length (notes_of walk p.thread) = noted_within image log walk is p counted in
    let tw : ThreadWalk image log p.thread (places_of walk p.thread) (notes_of walk p.thread) = is.each p.thread (in_log image log walk is p.thread p.step within) in
    let there : PlaceAt image (places_of walk p.thread) tw.after p.step = place_at image tw.start (places_of walk p.thread) (notes_of walk p.thread) tw.after p.step tw.leads within in
    record {
      at =
          ap (λ (seen : Seen). seen.local.pc) (seen_is image log walk given v guided p (counted_is_place image log walk is p counted))
          ∙ seen_pc image log walk given v is guided p.thread tw p.step (omega (arith, within)) ∙ there.at;
      fetched = instr_is image log walk given v is guided p counted;
    }

pub fault_is_place : (image : Layout) (log : Log) (walk : Walk) (t : ℕ) (fault : Cause) → IsWalk image log walk → log.end ≡ end.Faulted t fault
    → IsPlace (told log walk) (step_of t (logged log t).steps)
fault_is_place image log walk t fault is ends = omega (arith, fault_steps log walk t fault ends, notes_are image log walk is t)

pub fault_law : FaultLaw
fault_law image log walk given v t fault place is guided ends there =
    let fits : FaultFits image log walk (end.Faulted t fault) (Some place) =
    subst (FaultFits image log walk (end.Faulted t fault)) there (subst (λ (ended : End). FaultFits image log walk ended walk.fault) ends is.fault) in
    let tw : ThreadWalk image log t (places_of walk t) (notes_of walk t) = fits.1.walk in
    let p : Pos = step_of t (logged log t).steps in
    let many : (logged log t).steps ≡ length (notes_of walk t) = sym (notes_are image log walk is t) in
    let seen : (at v p).seen ≡ seen_before image (told log walk) v t (logged log t).steps =
    seen_is image log walk given v guided p (fault_is_place image log walk t fault is ends) in
    let here : (at v p).seen.local.pc ≡ place.pc =
    ap (λ (x : Seen). x.local.pc) seen
    ∙ seen_pc image log walk given v is guided t tw (logged log t).steps (omega (arith, many))
    ∙ ap (pc_from (places_of walk t) tw.after) (sym tw.steps)
    ∙ pc_last (places_of walk t) tw.after ∙ sym fits.1.pc in
    record { at = here; fetched = ap (λ (a : ℕ). result_ok (instr_at image a)) here ∙ sym fits.1.instr }
