-- A step that makes a call.
use Rattle.std.proofs.Common.{◌≡◌, ◌↔◌, ◌⊎◌, ℕ, List, [], ◌∷◌, length, refl, sym, ◌∙◌, ap, subst, inl, inr, arith}
use Rattle.std.specs.Prelude.{Option, is_some}
use Rattle.elf_image.specs.Layout.{Layout}
use Rattle.rv32_decode.specs.declared.instr.Instr.TheVariants as instr
use Rattle.odr_log.specs.declared.log.Call.{Call}
use Rattle.odr_log.specs.declared.log.Pos.{Pos}
use Rattle.rv_model.specs.declared.hearing.Outcome.{Outcome}
use Rattle.rv_model.specs.declared.state.Local.{Local}
use Rattle.rv_model.specs.declared.state.Note.TheVariants as note
use Rattle.rv_model.specs.Calls.{answer_of, first_argument, kind_at, record_of, second_argument}
use Rattle.rv_model.specs.CallsFit.{IsPossible, reply_in}
use Rattle.rv_model.specs.Instruction.{access_of, act, calls_out}
use Rattle.rv_model.specs.Noted.{note_in}
use Rattle.bv_terms.specs.declared.node.TermId.{TermId}
use Rattle.bv_terms.specs.Shapes.{Shape}
use Rattle.bv_terms.specs.Values.{Assignment, value_at}
use Rattle.bv_terms.specs.Variables.{Occurs}
use Rattle.guided_walk.specs.Guided.{Seen, met}
use Rattle.step_terms.specs.Made.{Grows, IsMade, IsTerm, OccursAmong}
use Rattle.step_terms.proofs.Making.{by_two, first_stays, grows_on, second_stays}
use Rattle.thread_terms.specs.declared.access.Access.{Access}
use Rattle.thread_terms.specs.declared.access.Stepped.{Stepped}
use Rattle.thread_terms.specs.Given.{given_by, outcome_by}
use Rattle.thread_terms.specs.Standing.{AreRegisters, Puts, Says, StandFor, term_of}
use Rattle.thread_terms.specs.Steps.{HasVariables, IfGoes, IsOwn, OfRegistersOr, RegistersHave, Shows}
use Rattle.thread_terms.specs.Variables.{AreVariables, IsByteOf}
use Rattle.thread_terms.proofs.Standing.{stand_stays}
use Rattle.access_terms.proofs.Own.{AreRead, older_registers, read_stays}
use Rattle.access_terms.proofs.Works.{stands_put}
use Rattle.call_terms.specs.Moved.{IsMoved, IsOfCall}
use Rattle.call_terms.specs.Records.{Asks, BufferMeets, read_in}
use Rattle.call_terms.specs.Constraints.{HoldsWhere, Tests}
use Rattle.call_terms.specs.Steps.{IsCallStep}
use Rattle.call_terms.proofs.Access.{if_some, moved_stays, of_access, own_call, shows_call}
use Rattle.call_terms.proofs.Constraints.{says_later, tests_both, tests_later}
use Rattle.call_terms.proofs.Records.{records_tell}

-- ---- what the step does

abbrev recorded : Layout → Assignment → Pos → Call → Local → Call
recorded image w p made local = record_of (kind_at local (met image ((given_by w).bytes p.thread p.step) (access_of local instr.Ecall))) (reply_in made)

call_outcome : (image : Layout) (w : Assignment) (p : Pos) (made : Call) (joined : ℕ) (seen : Seen)
    → outcome_by image w p instr.Ecall (note.Called made) joined seen ≡ calls_out seen.local p.thread joined (recorded image w p made seen.local)
unfolding act
call_outcome image w p made joined seen = refl

same_call : (one other : Call) → note.Called one ≡ note.Called other → one ≡ other
same_call one other e = cc

-- the step shows the record exactly where the registers ask for it and the buffer is so
shown_where : (image : Layout) (w : Assignment) (p : Pos) (made : Call) (joined : ℕ) (seen : Seen) → IsPossible made
    → (note_in (outcome_by image w p instr.Ecall (note.Called made) joined seen) ≡ note.Called made)
    ↔ (Asks seen.local made × BufferMeets image ((given_by w).bytes p.thread p.step) (first_argument seen.local) (second_argument seen.local) made)
shown_where image w p made joined seen possible =
    let same = ap note_in (call_outcome image w p made joined seen) in
    let law = records_tell image ((given_by w).bytes p.thread p.step) seen.local made possible in (
      λ h. law.0 (same_call (recorded image w p made seen.local) made (sym same ∙ h)),
      λ h. same ∙ ap note.Called (law.1 h),
    )

-- and then it goes on as the record says
goes_so : (image : Layout) (w : Assignment) (p : Pos) (made : Call) (joined : ℕ) (seen : Seen) → note_in (outcome_by image w p instr.Ecall (note.Called made) joined seen) ≡ note.Called made
    → outcome_by image w p instr.Ecall (note.Called made) joined seen ≡ calls_out seen.local p.thread joined made
goes_so image w p made joined seen h =
    let same = ap note_in (call_outcome image w p made joined seen) in
    call_outcome image w p made joined seen ∙ ap (calls_out seen.local p.thread joined) (same_call (recorded image w p made seen.local) made (sym same ∙ h))

-- ---- the step

registers_from : (old new : List Shape) (before after : List TermId) (access : Option Access) (joined value : ℕ) → Grows old new → AreRegisters old before → Puts new before after 10 value
    → HasVariables (λ width number. OccursAmong old width number (joined ∷ term_of before 10 ∷ [])) new value
    → RegistersHave (λ width number. OfRegistersOr old before access width number ⊎ Occurs old width number joined) new after
registers_from old new before after access joined value grows are puts from width number there = elim (puts.variables width number there) [
  | inl older ↦ inl (inl (older_registers old new before grows are width number older))
  | inr in_value ↦ elim (from width number in_value) [
    | inl in_joined ↦ inr in_joined
    | inr (inl in_a0) ↦ inl (inl (record { number = 10; below = omega arith; occurs = in_a0 }))
    | inr (inr none) ↦ absurd none
  ]
]

pub call_step : (image : Layout) (p : Pos) (made : Call) (joined : ℕ) (old new : List Shape) (before after reads : List TermId) (value : ℕ) (stepped : Stepped)
    → IsPossible made → Grows old new → AreRegisters old before
    → Tests (IsByteOf p (length reads)) old new before stepped.constraint.number
    (λ w local. Asks local made × BufferMeets image ((given_by w).bytes p.thread p.step) (first_argument local) (second_argument local) made)
    → AreVariables new p reads → length reads ≡ length (read_in made) → IsMoved new p (term_of before 10) reads made stepped.access
    → Puts new before after 10 value
    → IsMade old new (joined ∷ term_of before 10 ∷ []) 32 (λ w. answer_of p.thread (value_at w old joined) made (value_at w old (term_of before 10))) value
    → IsCallStep image p made joined old new before after stepped
call_step image p made joined old new before after reads value stepped possible grows are tests variables count moved puts answers pc link = record {
  bit = tests.bit;
  constraint_from = λ width number there. elim (tests.variables width number there) [
    | inl in_registers ↦ inl in_registers
    | inr byte ↦ inr (of_access new p (term_of before 10) reads made stepped.access count moved width number byte)
  ];
  meets = λ w seen h.
      let shown = shown_where image w p made (value_at w old joined) seen possible in
      let test = tests.holds w seen.local h.stand in
      (λ met. shown.1 (test.0 met), λ shows. test.1 (shown.0 shows));
  stands = λ w seen h shows.
      let local = seen.local in
      let a0 = h.stand.values 10 (omega arith) in
      let goes = goes_so image w p made (value_at w old joined) seen shows in
      let stand = stands_put w new before after 10 value (answer_of p.thread (value_at w old joined) made (first_argument local)) local puts (stand_stays w old new before local grows are h.stand)
      (answers.value w ∙ ap (answer_of p.thread (value_at w old joined) made) a0) in
      subst (λ (o : Outcome). IfGoes o (StandFor w new after)) (sym goes) stand;
  shows = λ w seen h shows.
      let local = seen.local in
      let asks = ((shown_where image w p made (value_at w old joined) seen possible).0 shows).0 in
      let goes = goes_so image w p made (value_at w old joined) seen shows in
      let a0 = grows.terms.value w (term_of before 10) (are.words 10 (omega arith)).inside ∙ h.stand.values 10 (omega arith) in
      if_some stepped.access (IsOfCall new p (term_of before 10) reads made) (λ (a : Access). Shows w new a instr.Ecall local (outcome_by image w p instr.Ecall (note.Called made) (value_at w old joined) seen))
      (λ a e is. subst (λ (o : Outcome). Shows w new a instr.Ecall local o) (sym goes)
      (shows_call w new p (term_of before 10) reads made a local (value_at w old joined) possible (sym moved.some ∙ ap is_some e) asks is count a0)) moved.is;
  accesses = moved.some;
  own = if_some stepped.access (IsOfCall new p (term_of before 10) reads made) (IsOwn p instr.Ecall (note.Called made) link old new before)
      (λ a e is. own_call p link old new before reads made a grows are variables count is) moved.is;
  variables = registers_from old new before after stepped.access joined value grows are puts answers.occurs;
}

-- the step, from what its terms were made of
pub call_made : (image : Layout) (p : Pos) (made : Call) (joined a0 asked met value : ℕ) (old one two three four five new : List Shape) (before after reads slice given : List TermId) (stepped : Stepped)
    → IsPossible made → AreRegisters old before → IsTerm old 32 joined → a0 ≡ term_of before 10
    → Grows old one → Grows one two → Grows two three → Grows three four → Grows four five → Grows five new
    → Says old one before asked (λ local. Asks local made) → length reads ≡ length (read_in made) → AreVariables two p reads → slice ≡ reads
    → Tests (IsByteOf p (length slice)) two three before met (λ w local. BufferMeets image ((given_by w).bytes p.thread p.step) (first_argument local) (second_argument local) made)
    → HoldsWhere three four (asked ∷ met ∷ []) stepped.constraint.number (λ w. (value_at w three asked ≡ 1) × (value_at w three met ≡ 1))
    → IsMoved five p a0 given made stepped.access → given ≡ reads
    → IsMade five new (joined ∷ a0 ∷ []) 32 (λ w. answer_of p.thread (value_at w five joined) made (value_at w five a0)) value
    → Puts new before after 10 value → IsCallStep image p made joined old new before after stepped
call_made image p made joined a0 asked met value old one two three four five new before after reads slice given stepped possible are is_joined at first second third fourth fifth last asks count variables same meets both moved same_given answers puts =
    let to_two = grows_on old one two first second in
    let to_five = grows_on old two five to_two (grows_on two three five third (grows_on three four five fourth fifth)) in
    let after_two = grows_on two three new third (grows_on three four new fourth (grows_on four five new fifth last)) in
    let further = IsByteOf p (length reads) in
    let a = term_of before 10 in
    let read : AreRead p two (length (read_in made)) reads = record { count = count; variables = variables } in
    let of_reads = subst (λ (l : List TermId).
    Tests (IsByteOf p (length l)) two three before met (λ w local. BufferMeets image ((given_by w).bytes p.thread p.step) (first_argument local) (second_argument local) made)) same meets in
    let tests = tests_both further old two three four before asked met stepped.constraint.number (λ local. Asks local made)
    (λ w local. BufferMeets image ((given_by w).bytes p.thread p.step) (first_argument local) (second_argument local) made) are to_two third
    (says_later old one two before asked (λ local. Asks local made) second asks) of_reads both in
    let moved_at = subst (λ n. IsMoved five p n reads made stepped.access) at (subst (λ (l : List TermId). IsMoved five p a0 l made stepped.access) same_given moved) in
    let answers_at = subst (λ n. IsMade five new (joined ∷ n ∷ []) 32 (λ w. answer_of p.thread (value_at w five joined) made (value_at w five n)) value) at answers in
    call_step image p made joined old new before after reads value stepped possible (grows_on old five new to_five last) are
    (tests_later further old four new before stepped.constraint.number
    (λ w local. Asks local made × BufferMeets image ((given_by w).bytes p.thread p.step) (first_argument local) (second_argument local) made) (grows_on four five new fifth last) tests)
    (read_stays p two new (length (read_in made)) reads after_two read).variables count (moved_stays five new p a reads made stepped.access last moved_at) puts
    (by_two old five new (joined ∷ a ∷ []) joined a 32 32 32 (λ w. value_at w old joined) (λ w. value_at w old a) (λ u v. answer_of p.thread u made v) value
    (first_stays old five joined (a ∷ []) 32 to_five is_joined) (second_stays old five joined a 32 to_five (are.words 10 (omega arith))) answers_at)
