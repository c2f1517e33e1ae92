-- One step of the walk, under an assignment.
use Rattle.std.proofs.Common.{◌≡◌, ◌↔◌, ℕ, List, refl, sym, ◌∙◌, ap, subst}
use Rattle.std.specs.Prelude.{IfSome, Option, Some, Result, Ok, is_some}
use Rattle.std.proofs.lemmas.Option.{same_Some}
use Rattle.elf_image.specs.Layout.{Layout}
use Rattle.rv32_decode.specs.declared.instr.Instr.{Instr}
use Rattle.rv32_decode.specs.declared.instr.Instr.TheVariants as instr
use Rattle.odr_log.specs.declared.log.Cause.{Cause}
use Rattle.odr_log.specs.declared.log.Pos.{Pos}
use Rattle.rv_model.specs.declared.hearing.Heard.{Heard}
use Rattle.rv_model.specs.declared.hearing.Outcome.{Outcome}
use Rattle.rv_model.specs.declared.hearing.Outcome.TheVariants.{Faults, Goes}
use Rattle.rv_model.specs.declared.state.Local.{Local}
use Rattle.rv_model.specs.declared.state.Note.{Note}
use Rattle.rv_model.specs.declared.state.Note.TheVariants as note
use Rattle.rv_model.specs.Instruction.{access_at, act_at, conditional_at, reserving, reserving_at}
use Rattle.rv_model.specs.Noted.{LeadsOn, note_in, reply_noted}
use Rattle.rv_model.specs.Step.{instr_at}
use Rattle.rv_model.specs.Walk.{goes_to, transfer_of}
use Rattle.rv_model.proofs.Acts.{walks_on_at}
use Rattle.bv_terms.specs.declared.node.TermId.{TermId}
use Rattle.bv_terms.specs.Shapes.{Shape}
use Rattle.bv_terms.specs.Values.{Assignment, value_at}
use Rattle.guided_walk.specs.Guided.{Seen, Visits, hears, instr_of, joined_from, joins, linked, met, seen_before, visit, went}
use Rattle.guided_walk.specs.Told.{Told, noted}
use Rattle.guided_walk.proofs.Walks.{fault_shape, shape}
use Rattle.thread_terms.specs.declared.access.Access.{Access}
use Rattle.thread_terms.specs.declared.access.Stepped.{Stepped}
use Rattle.thread_terms.specs.Given.{given_by, outcome_by}
use Rattle.thread_terms.specs.Standing.{StandFor}
use Rattle.thread_terms.specs.Steps.{IfGoes, IsStepWith, Shows, StandsBefore}
use Rattle.path_exec.specs.Links.{link_after}

-- ---- the visit

-- what a step hears where this is fetched
abbrev heard_by : Layout → Told → Assignment → Pos → Seen → ℕ → Result Instr Cause → Heard
heard_by image told w p seen joined fetched = record {
  thread = p.thread;
  reach = met image ((given_by w).bytes p.thread p.step) (access_at seen.local fetched);
  won = linked (conditional_at seen.local fetched) seen.link ((given_by w).won p.thread p.step);
  reply = reply_noted (noted told p);
  joined = joined;
}

pub visit_is : (image : Layout) (told : Told) (w : Assignment) (v : Visits) (p : Pos) (instruction : Instr) → instr_of image (seen_before image told v p.thread p.step) ≡ Ok instruction
    → (visit image told (given_by w) v p.thread p.step).outcome
    ≡ outcome_by image w p instruction (noted told p) (joined_from told v (joins (noted told p))) (seen_before image told v p.thread p.step)
visit_is image told w v p instruction e =
    let seen = seen_before image told v p.thread p.step in
    let joined = joined_from told v (joins (noted told p)) in
    ap (λ (fetched : Result Instr Cause). act_at seen.local fetched (heard_by image told w p seen joined fetched)) e

-- ---- where it leads

same_ok : (one other : Instr) → (let r : Result Instr Cause = Ok one in r) ≡ Ok other → one ≡ other
same_ok one other e = cc

-- the thread after a step that shows what is recorded, where this leads to an address
record WentOn (image : Layout) (seen : Seen) (o : Outcome) (instruction : Instr) (next : ℕ) (P : Local → Type 0) : Type 0 where
  at : (went image seen o).local.pc ≡ next
  link : (went image seen o).link ≡ reserving seen.local instruction seen.link
  local : P (went image seen o).local

went_on : (image : Layout) (seen : Seen) (o : Outcome) (pc next : ℕ) (instruction : Instr) (shown : Note) (P : Local → Type 0) → instr_of image seen ≡ Ok instruction
    → LeadsOn pc (Ok instruction) o → goes_to pc (transfer_of pc instruction) shown ≡ Some next → note_in o ≡ shown → IfGoes o P → WentOn image seen o instruction next P
went_on image seen (Faults fault) pc next instruction shown P fetched leads goes is p =
    absurd (fault_shape (transfer_of pc instruction) fault (shape pc (transfer_of pc instruction) (note.Faulted fault) next (subst (λ n. goes_to pc (transfer_of pc instruction) n ≡ Some next) (sym is) goes)))
went_on image seen (Goes local writes n) pc next instruction shown P fetched leads goes is p = record {
  at =
      let same : leads.0 ≡ instruction = sym (same_ok instruction leads.0 leads.1) in
      same_Some local.pc next (sym leads.2 ∙ ap (λ i. goes_to pc (transfer_of pc i) n) same ∙ ap (goes_to pc (transfer_of pc instruction)) is ∙ goes);
  link = ap (λ (f : Result Instr Cause). reserving_at seen.local f seen.link) fetched;
  local = p;
}

still_linked : (local : Local) (instruction : Instr) (seen known : Option ℕ) (number : ℕ) → is_some seen ≡ is_some known → is_some (reserving local instruction seen) ≡ is_some (link_after instruction number known)
unfolding reserving link_after
still_linked local (instr.LoadReserved rd rs1 aq rl) seen known number e = refl
still_linked local (instr.StoreConditional rd rs1 rs2 aq rl) seen known number e = refl
still_linked local (instr.Lui rd imm) seen known number e = e
still_linked local (instr.Auipc rd imm) seen known number e = e
still_linked local (instr.Jal rd offset) seen known number e = e
still_linked local (instr.Jalr rd rs1 offset) seen known number e = e
still_linked local (instr.Branch op rs1 rs2 offset) seen known number e = e
still_linked local (instr.Load op rd rs1 offset) seen known number e = e
still_linked local (instr.Store op rs1 rs2 offset) seen known number e = e
still_linked local (instr.Imm op rd rs1 imm) seen known number e = e
still_linked local (instr.Op op rd rs1 rs2) seen known number e = e
still_linked local (instr.Fence rd rs1 imm) seen known number e = e
still_linked local instr.Ecall seen known number e = e
still_linked local instr.Ebreak seen known number e = e
still_linked local (instr.Amo op rd rs1 rs2 aq rl) seen known number e = e

-- ---- the step

-- what a step adds, under an assignment
pub record StepOn (image : Layout) (w : Assignment) (new : List Shape) (after : List TermId) (next : ℕ) (link : Option ℕ) (stepped : Stepped) (instruction : Instr) (shown : Note) (seen : Seen) (o : Outcome) : Type 0 where
  pub met : (value_at w new stepped.constraint.number ≡ 1) ↔ (note_in o ≡ shown)
  pub stands : note_in o ≡ shown → StandsBefore w new after next link (went image seen o)
  pub shows : note_in o ≡ shown → IfSome stepped.access (λ (access : Access). Shows w new access instruction seen.local o)

pub step_on : (image : Layout) (told : Told) (w : Assignment) (v : Visits) (p : Pos) (pc next number : ℕ) (instruction : Instr) (link : Option ℕ) (joined : Assignment → ℕ) (known : ℕ → ℕ → Type 0)
    (old new : List Shape) (before after : List TermId) (stepped : Stepped) → StandsBefore w old before pc link (seen_before image told v p.thread p.step) → instr_at image pc ≡ Ok instruction
    → goes_to pc (transfer_of pc instruction) (noted told p) ≡ Some next → IsStepWith joined known image p pc instruction (noted told p) link old new before after stepped
    → joined w ≡ joined_from told v (joins (noted told p))
    → StepOn image w new after next (link_after instruction number link) stepped instruction (noted told p) (seen_before image told v p.thread p.step) (visit image told (given_by w) v p.thread p.step).outcome
step_on image told w v p pc next number instruction link joined known old new before after stepped stand fetched goes step same =
    let seen = seen_before image told v p.thread p.step in
    let shown = noted told p in
    let here : instr_of image seen ≡ Ok instruction = ap (instr_at image) stand.at ∙ fetched in
    let o = (visit image told (given_by w) v p.thread p.step).outcome in
    let is : o ≡ outcome_by image w p instruction shown (joined w) seen =
    visit_is image told w v p instruction here ∙ ap (λ j. outcome_by image w p instruction shown j seen) (sym same) in
    let leads : LeadsOn pc (Ok instruction) o =
    subst (λ a. LeadsOn a (Ok instruction) o) stand.at
    (subst (λ (f : Result Instr Cause). LeadsOn seen.local.pc f o) here
    (walks_on_at image seen.local (hears image told (given_by w) p.thread p.step seen (joined_from told v (joins shown))))) in
    let met = step.meets w seen stand in
    let told_so : note_in o ≡ shown → note_in (outcome_by image w p instruction shown (joined w) seen) ≡ shown = (λ h. sym (ap note_in is) ∙ h) in
    record {
      met = (λ h. ap note_in is ∙ met.0 h, λ h. met.1 (told_so h));
      stands = λ h.
          let goes_so : IfGoes o (StandFor w new after) = subst (λ (x : Outcome). IfGoes x (StandFor w new after)) (sym is) (step.stands w seen stand (told_so h)) in
          let on = went_on image seen o pc next instruction shown (StandFor w new after) here leads goes h goes_so in
          record {
            stand = on.local;
            at = on.at;
            linked = ap is_some on.link ∙ still_linked seen.local instruction seen.link link number stand.linked;
          };
      shows = λ h.
          subst (λ (x : Outcome). IfSome stepped.access (λ (access : Access). Shows w new access instruction seen.local x)) (sym is) (step.shows w seen stand (told_so h));
    }
