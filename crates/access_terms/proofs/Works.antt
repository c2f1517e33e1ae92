-- A step that has an access: it goes on where the access is permitted, and faults elsewhere.
use Rattle.std.proofs.Common.{◌≡◌, ℕ, Bool, true, false, cond, List, refl, sym, subst, inl, inr, arith}
use Rattle.std.specs.Prelude.{◌↔◌, IfSome, Option, Some, is_some}
use Rattle.elf_image.specs.declared.write.Write.{Write}
use Rattle.elf_image.specs.Layout.{Layout}
use Rattle.rv32_decode.specs.declared.instr.Instr.{Instr}
use Rattle.odr_log.specs.declared.log.Cause.{Cause}
use Rattle.odr_log.specs.declared.log.Pos.{Pos}
use Rattle.rv_model.specs.declared.state.Local.{Local}
use Rattle.rv_model.specs.declared.state.Note.{Note}
use Rattle.rv_model.specs.declared.state.Note.TheVariants as note
use Rattle.rv_model.specs.declared.hearing.Outcome.{Outcome}
use Rattle.rv_model.specs.declared.hearing.Outcome.TheVariants.{Faults, Goes}
use Rattle.rv_model.specs.Accesses.{is_access}
use Rattle.rv_model.specs.Noted.{note_in}
use Rattle.rv_model.specs.Thread.{onward, with_register}
use Rattle.bv_terms.specs.declared.node.TermId.{TermId}
use Rattle.bv_terms.specs.BitVectors.{bit_of}
use Rattle.bv_terms.specs.Shapes.{Shape}
use Rattle.bv_terms.specs.Values.{Assignment, value_at}
use Rattle.bv_terms.specs.Variables.{Occurs}
use Rattle.guided_walk.specs.Guided.{Seen}
use Rattle.step_terms.specs.Made.{Grows, IsTerm}
use Rattle.thread_terms.specs.declared.access.Access.{Access}
use Rattle.thread_terms.specs.declared.access.Stepped.{Stepped}
use Rattle.thread_terms.specs.Given.{outcome_by}
use Rattle.thread_terms.specs.Standing.{AreRegisters, Puts, StandFor}
use Rattle.thread_terms.specs.Steps.{HasVariables, IfGoes, IsOwn, IsStep, OfRegistersOr, RegistersHave, Shows, StandsBefore}
use Rattle.access_terms.proofs.Own.{older_registers}

-- what a step with an access adds
abbrev pub whole_step : Pos → TermId → TermId → TermId → List TermId → List TermId → Option ℕ → Stepped
whole_step p constraint address guard reads writes link = record {
  constraint = constraint;
  access = Some (record { pos = p; address = address; guard = guard; reads = reads; writes = writes; link = link });
}

-- ---- one visit of a step

pub record Works (w : Assignment) (new : List Shape) (after : List TermId) (stepped : Stepped) (instruction : Instr) (shown : Note) (local : Local) (outcome : Outcome) : Type 0 where
  pub met : (value_at w new stepped.constraint.number ≡ 1) ↔ (note_in outcome ≡ shown)
  pub stands : note_in outcome ≡ shown → IfGoes outcome (StandFor w new after)
  pub shows : note_in outcome ≡ shown → IfSome stepped.access (λ (access : Access). Shows w new access instruction local outcome)

pub step_by : (image : Layout) (p : Pos) (pc : ℕ) (instruction : Instr) (shown : Note) (link : Option ℕ) (old new : List Shape) (before after : List TermId) (stepped : Stepped)
    → IsTerm new 1 stepped.constraint.number → HasVariables (OfRegistersOr old before stepped.access) new stepped.constraint.number
    → ((w : Assignment) (seen : Seen) (joined : ℕ) → StandsBefore w old before pc link seen → Works w new after stepped instruction shown seen.local (outcome_by image w p instruction shown joined seen))
    → is_some stepped.access ≡ is_access instruction shown → IfSome stepped.access (IsOwn p instruction shown link old new before) → RegistersHave (OfRegistersOr old before stepped.access) new after
    → IsStep image p pc instruction shown link old new before after stepped
step_by image p pc instruction shown link old new before after stepped bit from works accesses own variables joined = record {
  bit = bit;
  constraint_from = from;
  meets = λ w seen h. (works w seen (joined w) h).met;
  stands = λ w seen h. (works w seen (joined w) h).stands;
  shows = λ w seen h. (works w seen (joined w) h).shows;
  accesses = accesses;
  own = own;
  variables = variables;
}

-- ---- an access that is permitted, or faults

not_faulted : (fault : Cause) → note.Faulted fault ≡ note.Nothing → ⊥
not_faulted fault e = cc

goes_where : (v : ℕ) (test : Bool) (local : Local) (writes : List Write) (fault : Cause) → v ≡ bit_of test
    → (v ≡ 1) ↔ (note_in (cond test (Goes local writes note.Nothing) (Faults fault)) ≡ note.Nothing)
goes_where v true local writes fault e = (λ h. refl, λ h. e)
goes_where v false local writes fault e = (λ h. absurd (omega (arith, e, h)), λ h. absurd (not_faulted fault h))

pub works_where : (w : Assignment) (new : List Shape) (after : List TermId) (stepped : Stepped) (access : Access) (instruction : Instr) (local next : Local) (test : Bool) (writes : List Write) (fault : Cause)
    → stepped.access ≡ Some access → value_at w new stepped.constraint.number ≡ bit_of test → StandFor w new after next → Shows w new access instruction local (Goes next writes note.Nothing)
    → Works w new after stepped instruction note.Nothing local (cond test (Goes next writes note.Nothing) (Faults fault))
works_where w new after stepped access instruction local next test writes fault is value stand shows = record {
  met = goes_where (value_at w new stepped.constraint.number) test next writes fault value;
  stands = λ h. stands_by test;
  shows = λ h. subst (λ (o : Option Access). IfSome o (λ (a : Access). Shows w new a instruction local (cond test (Goes next writes note.Nothing) (Faults fault)))) (sym is) (shows_by test h);
}
  where
    stands_by : (t : Bool) → IfGoes (cond t (Goes next writes note.Nothing) (Faults fault)) (StandFor w new after)
    stands_by true = stand
    stands_by false = tt

    shows_by : (t : Bool) → note_in (cond t (Goes next writes note.Nothing) (Faults fault)) ≡ note.Nothing → Shows w new access instruction local (cond t (Goes next writes note.Nothing) (Faults fault))
    shows_by true h = shows
    shows_by false h = absurd (not_faulted fault h)

pub works_same : (w : Assignment) (new : List Shape) (after : List TermId) (stepped : Stepped) (instruction : Instr) (shown : Note) (local : Local) (one other : Outcome) → other ≡ one
    → Works w new after stepped instruction shown local one → Works w new after stepped instruction shown local other
works_same w new after stepped instruction shown local one other e works = subst (λ (o : Outcome). Works w new after stepped instruction shown local o) (sym e) works

-- ---- registers after a step

-- after a step that goes on at the next word
pub stands_on : (w : Assignment) (nodes : List Shape) (registers : List TermId) (local : Local) → StandFor w nodes registers local → StandFor w nodes registers (onward local)
stands_on w nodes registers local stand = record { all = stand.all; values = stand.values }

-- a register is written with a term that stands for this value
pub stands_put : (w : Assignment) (nodes : List Shape) (before after : List TermId) (rd id value : ℕ) (local : Local) → Puts nodes before after rd id → StandFor w nodes before local → value_at w nodes id ≡ value
    → StandFor w nodes after (onward (with_register local rd value))
stands_put w nodes before after rd id value local puts stand is =
    stands_on w nodes after (with_register local rd value) (subst (λ v. StandFor w nodes after (with_register local rd v)) is (puts.stands w local stand))

pub variables_put : (access : Option Access) (old new : List Shape) (before after : List TermId) (rd id : ℕ) → Grows old new → AreRegisters old before → Puts new before after rd id
    → ((width number : ℕ) → Occurs new width number id → OfRegistersOr old before access width number) → RegistersHave (OfRegistersOr old before access) new after
variables_put access old new before after rd id grows are puts from width number there = elim (puts.variables width number there) [
  | inl older ↦ inl (older_registers old new before grows are width number older)
  | inr in_term ↦ from width number in_term
]

pub variables_stay : (access : Option Access) (old new : List Shape) (before : List TermId) → Grows old new → AreRegisters old before
    → RegistersHave (OfRegistersOr old before access) new before
variables_stay access old new before grows are width number there = inl (older_registers old new before grows are width number there)
