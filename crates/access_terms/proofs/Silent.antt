-- The instructions that ask nothing from outside their thread, one after another.
use Rattle.std.proofs.Common.{◌≡◌, ℕ, ◌+◌, ◌*◌, ◌/◌, ◌%◌, ◌^◌, Bool, true, false, cond, List, [], refl, sym, ◌∙◌, ap, subst, inl}
use Rattle.std.specs.Prelude.{◌↔◌, ℤ, Option, Some, None, is_some}
use Rattle.std.proofs.lemmas.Bool.{false≢true}
use Rattle.elf_image.specs.declared.write.Write.{Write}
use Rattle.elf_image.specs.Layout.{Layout}
use Rattle.rv32_decode.specs.declared.instr.AluOp.{AluOp}
use Rattle.rv32_decode.specs.declared.instr.BranchOp.{BranchOp}
use Rattle.rv32_decode.specs.declared.instr.ImmOp.{ImmOp}
use Rattle.rv32_decode.specs.declared.instr.Instr.{Instr}
use Rattle.rv32_decode.specs.declared.instr.Instr.TheVariants as instr
use Rattle.odr_log.specs.declared.log.Cause.TheVariants as cause
use Rattle.odr_log.specs.declared.log.Cause.{Cause}
use Rattle.odr_log.specs.declared.log.Pos.{Pos}
use Rattle.rv_model.specs.declared.state.Local.{Local}
use Rattle.rv_model.specs.declared.state.Note.{Note}
use Rattle.rv_model.specs.declared.state.Note.TheVariants as note
use Rattle.rv_model.specs.declared.walk.Transfer.TheVariants as transfer
use Rattle.rv_model.specs.declared.hearing.Heard.{Heard}
use Rattle.rv_model.specs.declared.hearing.Outcome.TheVariants.{Faults, Goes}
use Rattle.rv_model.specs.Accesses.{is_access}
use Rattle.rv_model.specs.Instruction.{IsAlone, act, branches, is_aligned, jumps}
use Rattle.rv_model.specs.Noted.{note_in}
use Rattle.rv_model.specs.Thread.{gone_to, next_pc, register, with_register, word_after}
use Rattle.rv_model.specs.Values.{alu_of, imm_of, plus_offset, taken_of}
use Rattle.rv_model.specs.Walk.{goes_to, transfer_of}
use Rattle.bv_terms.specs.declared.node.TermId.{TermId}
use Rattle.bv_terms.specs.Shapes.{Shape}
use Rattle.bv_terms.specs.Values.{Assignment}
use Rattle.step_terms.specs.Made.{Grows, IsMade}
use Rattle.step_terms.proofs.Making.{stays}
use Rattle.thread_terms.specs.declared.access.Stepped.{Stepped}
use Rattle.thread_terms.specs.Given.{hears_by}
use Rattle.thread_terms.specs.Standing.{AreRegisters, Says, StandFor, Writes}
use Rattle.thread_terms.specs.Steps.{IfGoes, IsStep}
use Rattle.thread_terms.proofs.Standing.{stand_stays}
use Rattle.access_terms.specs.Alone.{Constrains, GoesOn, target_of, was_taken}
use Rattle.access_terms.proofs.Own.{older_registers}
use Rattle.access_terms.proofs.Works.{step_by}

-- ---- the registers after an instruction

stands_at : (w : Assignment) (nodes : List Shape) (registers : List TermId) (local : Local) (pc : ℕ) → StandFor w nodes registers local → StandFor w nodes registers (record local { pc = pc })
stands_at w nodes registers local pc stand = record { all = stand.all; values = stand.values }

goes_aligned : (w : Assignment) (nodes : List Shape) (registers : List TermId) (local : Local) (target : ℕ) (writes : List Write) (shown : Note) (fault : Cause) (test : Bool) → StandFor w nodes registers local
    → IfGoes (cond test (Goes (gone_to local target) writes shown) (Faults fault)) (StandFor w nodes registers)
goes_aligned w nodes registers local target writes shown fault true stand = stands_at w nodes registers local target stand
goes_aligned w nodes registers local target writes shown fault false stand = tt

-- a register is written with a value of the registers before
pub goes_on_lui : (old new : List Shape) (before after : List TermId) (pc rd imm : ℕ) → Writes old new before after rd (λ _. imm) → GoesOn old new before after pc (instr.Lui rd imm)
unfolding act
goes_on_lui old new before after pc rd imm writes = record {
  stands = λ w local heard at stand. stands_at w new after (with_register local rd imm) _ (writes.stands w local stand);
  variables = writes.variables;
}

pub goes_on_auipc : (old new : List Shape) (before after : List TermId) (pc rd imm : ℕ) → Writes old new before after rd (λ _. (pc + imm) % 2 ^ 32) → GoesOn old new before after pc (instr.Auipc rd imm)
unfolding act
goes_on_auipc old new before after pc rd imm writes = record {
  stands = λ w local heard at stand.
      let value = (local.pc + imm) % 2 ^ 32 in
      let same : (pc + imm) % 2 ^ 32 ≡ value = ap (λ n. (n + imm) % 2 ^ 32) (sym at) in
      stands_at w new after (with_register local rd value) _ (subst (λ v. StandFor w new after (with_register local rd v)) same (writes.stands w local stand));
  variables = writes.variables;
}

pub goes_on_jal : (old new : List Shape) (before after : List TermId) (pc rd : ℕ) (offset : ℤ) → Writes old new before after rd (λ _. word_after pc) → GoesOn old new before after pc (instr.Jal rd offset)
unfolding act
goes_on_jal old new before after pc rd offset writes = record {
  stands = λ w local heard at stand.
      goes_aligned w new after (with_register local rd (next_pc local)) (plus_offset local.pc offset) [] note.Nothing cause.Misaligned (is_aligned (plus_offset local.pc offset))
      (subst (λ n. StandFor w new after (with_register local rd (word_after n))) (sym at) (writes.stands w local stand));
  variables = writes.variables;
}

pub goes_on_jalr : (old new : List Shape) (before after : List TermId) (pc rd rs1 : ℕ) (offset : ℤ) → Writes old new before after rd (λ _. word_after pc) → GoesOn old new before after pc (instr.Jalr rd rs1 offset)
unfolding act
goes_on_jalr old new before after pc rd rs1 offset writes = record {
  stands = λ w local heard at stand.
      let target = plus_offset (register local rs1) offset / 2 * 2 in
      goes_aligned w new after (with_register local rd (next_pc local)) target [] (note.Jump target) cause.Misaligned (is_aligned target)
      (subst (λ n. StandFor w new after (with_register local rd (word_after n))) (sym at) (writes.stands w local stand));
  variables = writes.variables;
}

pub goes_on_imm : (old new : List Shape) (before after : List TermId) (pc : ℕ) (op : ImmOp) (rd rs1 : ℕ) (imm : ℤ) → Writes old new before after rd (λ local. imm_of op (register local rs1) imm) → GoesOn old new before after pc (instr.Imm op rd rs1 imm)
unfolding act
goes_on_imm old new before after pc op rd rs1 imm writes = record {
  stands = λ w local heard at stand. stands_at w new after (with_register local rd (imm_of op (register local rs1) imm)) _ (writes.stands w local stand);
  variables = writes.variables;
}

pub goes_on_op : (old new : List Shape) (before after : List TermId) (pc : ℕ) (op : AluOp) (rd rs1 rs2 : ℕ) → Writes old new before after rd (λ local. alu_of op (register local rs1) (register local rs2)) → GoesOn old new before after pc (instr.Op op rd rs1 rs2)
unfolding act
goes_on_op old new before after pc op rd rs1 rs2 writes = record {
  stands = λ w local heard at stand. stands_at w new after (with_register local rd (alu_of op (register local rs1) (register local rs2))) _ (writes.stands w local stand);
  variables = writes.variables;
}

-- the registers stay
pub goes_on_branch : (nodes : List Shape) (before : List TermId) (pc : ℕ) (op : BranchOp) (rs1 rs2 : ℕ) (offset : ℤ) → GoesOn nodes nodes before before pc (instr.Branch op rs1 rs2 offset)
unfolding act
goes_on_branch nodes before pc op rs1 rs2 offset = record {
  stands = λ w local heard at stand. either_way w local stand (plus_offset local.pc offset) (taken_of op (register local rs1) (register local rs2));
  variables = λ width number there. there;
}
  where
    either_way : (w : Assignment) (local : Local) → StandFor w nodes before local → (target : ℕ) (test : Bool) → IfGoes (branches local test target) (StandFor w nodes before)
    either_way w local stand target true = goes_aligned w nodes before local target [] (note.Branch true) cause.Misaligned (is_aligned target) stand
    either_way w local stand target false = stands_at w nodes before local (next_pc local) stand

pub goes_on_fence : (nodes : List Shape) (before : List TermId) (pc rd rs1 imm : ℕ) → GoesOn nodes nodes before before pc (instr.Fence rd rs1 imm)
unfolding act
goes_on_fence nodes before pc rd rs1 imm = record {
  stands = λ w local heard at stand. stands_at w nodes before local (next_pc local) stand;
  variables = λ width number there. there;
}

pub goes_on_ebreak : (nodes : List Shape) (before : List TermId) (pc : ℕ) → GoesOn nodes nodes before before pc instr.Ebreak
unfolding act
goes_on_ebreak nodes before pc = record { stands = λ w local heard at stand. tt; variables = λ width number there. there }

-- the other instructions write no register
pub goes_on_other : (nodes : List Shape) (before : List TermId) (pc : ℕ) (instruction : Instr) → IsAlone instruction
    → ((rd imm : ℕ) → instruction ≡ instr.Lui rd imm → ⊥)
    → ((rd imm : ℕ) → instruction ≡ instr.Auipc rd imm → ⊥)
    → ((rd : ℕ) (offset : ℤ) → instruction ≡ instr.Jal rd offset → ⊥)
    → ((rd rs1 : ℕ) (offset : ℤ) → instruction ≡ instr.Jalr rd rs1 offset → ⊥)
    → ((op : ImmOp) (rd rs1 : ℕ) (imm : ℤ) → instruction ≡ instr.Imm op rd rs1 imm → ⊥)
    → ((op : AluOp) (rd rs1 rs2 : ℕ) → instruction ≡ instr.Op op rd rs1 rs2 → ⊥)
    → GoesOn nodes nodes before before pc instruction
goes_on_other nodes before pc (instr.Lui rd imm) alone no_lui no_auipc no_jal no_jalr no_imm no_op = absurd (no_lui rd imm refl)
goes_on_other nodes before pc (instr.Auipc rd imm) alone no_lui no_auipc no_jal no_jalr no_imm no_op = absurd (no_auipc rd imm refl)
goes_on_other nodes before pc (instr.Jal rd offset) alone no_lui no_auipc no_jal no_jalr no_imm no_op = absurd (no_jal rd offset refl)
goes_on_other nodes before pc (instr.Jalr rd rs1 offset) alone no_lui no_auipc no_jal no_jalr no_imm no_op = absurd (no_jalr rd rs1 offset refl)
goes_on_other nodes before pc (instr.Branch op rs1 rs2 offset) alone no_lui no_auipc no_jal no_jalr no_imm no_op = goes_on_branch nodes before pc op rs1 rs2 offset
goes_on_other nodes before pc (instr.Load op rd rs1 offset) alone no_lui no_auipc no_jal no_jalr no_imm no_op = absurd alone
goes_on_other nodes before pc (instr.Store op rs1 rs2 offset) alone no_lui no_auipc no_jal no_jalr no_imm no_op = absurd alone
goes_on_other nodes before pc (instr.Imm op rd rs1 imm) alone no_lui no_auipc no_jal no_jalr no_imm no_op = absurd (no_imm op rd rs1 imm refl)
goes_on_other nodes before pc (instr.Op op rd rs1 rs2) alone no_lui no_auipc no_jal no_jalr no_imm no_op = absurd (no_op op rd rs1 rs2 refl)
goes_on_other nodes before pc (instr.Fence rd rs1 imm) alone no_lui no_auipc no_jal no_jalr no_imm no_op = goes_on_fence nodes before pc rd rs1 imm
goes_on_other nodes before pc instr.Ecall alone no_lui no_auipc no_jal no_jalr no_imm no_op = absurd alone
goes_on_other nodes before pc instr.Ebreak alone no_lui no_auipc no_jal no_jalr no_imm no_op = goes_on_ebreak nodes before pc
goes_on_other nodes before pc (instr.LoadReserved rd rs1 aq rl) alone no_lui no_auipc no_jal no_jalr no_imm no_op = absurd alone
goes_on_other nodes before pc (instr.StoreConditional rd rs1 rs2 aq rl) alone no_lui no_auipc no_jal no_jalr no_imm no_op = absurd alone
goes_on_other nodes before pc (instr.Amo op rd rs1 rs2 aq rl) alone no_lui no_auipc no_jal no_jalr no_imm no_op = absurd alone

-- ---- what is recorded of an instruction

not_jump : (fault : Cause) (target : ℕ) → note.Faulted fault ≡ note.Jump target → ⊥
not_jump fault target e = cc

not_branch : (fault : Cause) (taken : Bool) → note.Faulted fault ≡ note.Branch taken → ⊥
not_branch fault taken e = cc

same_target : (one other : ℕ) → note.Jump one ≡ note.Jump other → one ≡ other
same_target one other e = cc

same_taken : (one other : Bool) → note.Branch one ≡ note.Branch other → one ≡ other
same_taken one other e = cc

note_where : (local : Local) (writes : List Write) (shown : Note) (fault : Cause) (test : Bool) → test ≡ true → note_in (cond test (Goes local writes shown) (Faults fault)) ≡ shown
note_where local writes shown fault true e = refl
note_where local writes shown fault false e = absurd (false≢true e)

some_aligned : (target : ℕ) (test : Bool) → is_some (cond test (Some target) None) ≡ true → test ≡ true
some_aligned target true e = refl
some_aligned target false e = absurd (false≢true e)

pub next_only : (pc : ℕ) (shown : Note) → is_some (goes_to pc transfer.Next shown) ≡ true → note.Nothing ≡ shown
next_only pc note.Nothing leads = refl
next_only pc (note.Branch taken) leads = absurd (false≢true leads)
next_only pc (note.Jump target) leads = absurd (false≢true leads)
next_only pc (note.Called made) leads = absurd (false≢true leads)
next_only pc (note.Faulted fault) leads = absurd (false≢true leads)

direct_only : (pc target : ℕ) (shown : Note) → is_some (goes_to pc (transfer.Direct target) shown) ≡ true → (note.Nothing ≡ shown) × (is_aligned target ≡ true)
direct_only pc target note.Nothing leads = (refl, some_aligned target (is_aligned target) leads)
direct_only pc target (note.Branch taken) leads = absurd (false≢true leads)
direct_only pc target (note.Jump other) leads = absurd (false≢true leads)
direct_only pc target (note.Called made) leads = absurd (false≢true leads)
direct_only pc target (note.Faulted fault) leads = absurd (false≢true leads)

nowhere : (pc : ℕ) (shown : Note) → is_some (goes_to pc transfer.Breakpoint shown) ≡ true → ⊥
nowhere pc note.Nothing leads = false≢true leads
nowhere pc (note.Branch taken) leads = false≢true leads
nowhere pc (note.Jump target) leads = false≢true leads
nowhere pc (note.Called made) leads = false≢true leads
nowhere pc (note.Faulted fault) leads = false≢true leads

pub shown_branch : (pc target : ℕ) (shown : Note) → is_some (goes_to pc (transfer.Branch target) shown) ≡ true → (shown ≡ note.Branch (was_taken shown)) × (was_taken shown ≡ true → is_aligned target ≡ true)
shown_branch pc target note.Nothing leads = absurd (false≢true leads)
shown_branch pc target (note.Branch true) leads = (refl, λ h. some_aligned target (is_aligned target) leads)
shown_branch pc target (note.Branch false) leads = (refl, λ h. absurd (false≢true h))
shown_branch pc target (note.Jump other) leads = absurd (false≢true leads)
shown_branch pc target (note.Called made) leads = absurd (false≢true leads)
shown_branch pc target (note.Faulted fault) leads = absurd (false≢true leads)

pub shown_jump : (pc : ℕ) (shown : Note) → is_some (goes_to pc transfer.Indirect shown) ≡ true → (shown ≡ note.Jump (target_of shown)) × (is_aligned (target_of shown) ≡ true)
shown_jump pc note.Nothing leads = absurd (false≢true leads)
shown_jump pc (note.Branch taken) leads = absurd (false≢true leads)
shown_jump pc (note.Jump target) leads = (refl, some_aligned target (is_aligned target) leads)
shown_jump pc (note.Called made) leads = absurd (false≢true leads)
shown_jump pc (note.Faulted fault) leads = absurd (false≢true leads)

-- neither a branch nor a jump to a register
abbrev pub IsQuiet : Instr → Type 0
IsQuiet (instr.Branch op rs1 rs2 offset) = ⊥
IsQuiet (instr.Jalr rd rs1 offset) = ⊥
IsQuiet other = Unit {0}

pub is_quiet : (instruction : Instr)
    → ((rd rs1 : ℕ) (offset : ℤ) → instruction ≡ instr.Jalr rd rs1 offset → ⊥)
    → ((op : BranchOp) (rs1 rs2 : ℕ) (offset : ℤ) → instruction ≡ instr.Branch op rs1 rs2 offset → ⊥)
    → IsQuiet instruction
is_quiet (instr.Lui rd imm) no_jalr no_branch = tt
is_quiet (instr.Auipc rd imm) no_jalr no_branch = tt
is_quiet (instr.Jal rd offset) no_jalr no_branch = tt
is_quiet (instr.Jalr rd rs1 offset) no_jalr no_branch = absurd (no_jalr rd rs1 offset refl)
is_quiet (instr.Branch op rs1 rs2 offset) no_jalr no_branch = absurd (no_branch op rs1 rs2 offset refl)
is_quiet (instr.Load op rd rs1 offset) no_jalr no_branch = tt
is_quiet (instr.Store op rs1 rs2 offset) no_jalr no_branch = tt
is_quiet (instr.Imm op rd rs1 imm) no_jalr no_branch = tt
is_quiet (instr.Op op rd rs1 rs2) no_jalr no_branch = tt
is_quiet (instr.Fence rd rs1 imm) no_jalr no_branch = tt
is_quiet instr.Ecall no_jalr no_branch = tt
is_quiet instr.Ebreak no_jalr no_branch = tt
is_quiet (instr.LoadReserved rd rs1 aq rl) no_jalr no_branch = tt
is_quiet (instr.StoreConditional rd rs1 rs2 aq rl) no_jalr no_branch = tt
is_quiet (instr.Amo op rd rs1 rs2 aq rl) no_jalr no_branch = tt

-- shows what is recorded, whatever the registers are
pub quiet : (instruction : Instr) (shown : Note) (pc : ℕ) → IsAlone instruction → IsQuiet instruction → is_some (goes_to pc (transfer_of pc instruction) shown) ≡ true
    → (local : Local) (heard : Heard) → local.pc ≡ pc → note_in (act local instruction heard) ≡ shown
unfolding act transfer_of
quiet (instr.Lui rd imm) shown pc alone still leads local heard at = next_only pc shown leads
quiet (instr.Auipc rd imm) shown pc alone still leads local heard at = next_only pc shown leads
quiet (instr.Jal rd offset) shown pc alone still leads local heard at =
    let both = direct_only pc (plus_offset pc offset) shown leads in
    note_where (gone_to (with_register local rd (next_pc local)) (plus_offset local.pc offset)) [] note.Nothing cause.Misaligned (is_aligned (plus_offset local.pc offset))
    (ap (λ n. is_aligned (plus_offset n offset)) at ∙ both.1) ∙ both.0
quiet (instr.Jalr rd rs1 offset) shown pc alone still leads local heard at = absurd still
quiet (instr.Branch op rs1 rs2 offset) shown pc alone still leads local heard at = absurd still
quiet (instr.Load op rd rs1 offset) shown pc alone still leads local heard at = absurd alone
quiet (instr.Store op rs1 rs2 offset) shown pc alone still leads local heard at = absurd alone
quiet (instr.Imm op rd rs1 imm) shown pc alone still leads local heard at = next_only pc shown leads
quiet (instr.Op op rd rs1 rs2) shown pc alone still leads local heard at = next_only pc shown leads
quiet (instr.Fence rd rs1 imm) shown pc alone still leads local heard at = next_only pc shown leads
quiet instr.Ecall shown pc alone still leads local heard at = absurd alone
quiet instr.Ebreak shown pc alone still leads local heard at = absurd (nowhere pc shown leads)
quiet (instr.LoadReserved rd rs1 aq rl) shown pc alone still leads local heard at = absurd alone
quiet (instr.StoreConditional rd rs1 rs2 aq rl) shown pc alone still leads local heard at = absurd alone
quiet (instr.Amo op rd rs1 rs2 aq rl) shown pc alone still leads local heard at = absurd alone

pub quiet_constrains : (old new : List Shape) (before : List TermId) (pc : ℕ) (instruction : Instr) (shown : Note) (id : ℕ) → IsAlone instruction → IsQuiet instruction → is_some (goes_to pc (transfer_of pc instruction) shown) ≡ true
    → IsMade old new [] 1 (λ w. 1) id → Constrains old new before pc instruction shown id
quiet_constrains old new before pc instruction shown id alone still leads made = record {
  bit = made.term;
  variables = λ width number there. absurd (made.occurs width number there);
  meets = λ w local heard at stand. (λ h. quiet instruction shown pc alone still leads local heard at, λ h. made.value w);
}

jump_noted : (local : Local) (rd target recorded : ℕ) → is_aligned recorded ≡ true → (target ≡ recorded) ↔ (note_in (jumps local rd target (note.Jump target)) ≡ note.Jump recorded)
jump_noted local rd target recorded aligned = (
  λ e. note_where (gone_to (with_register local rd (next_pc local)) target) [] (note.Jump target) cause.Misaligned (is_aligned target) (ap is_aligned e ∙ aligned) ∙ ap note.Jump e,
  λ h. back (is_aligned target) h,
)
  where
    back : (test : Bool) → note_in (cond test (Goes (gone_to (with_register local rd (next_pc local)) target) [] (note.Jump target)) (Faults cause.Misaligned)) ≡ note.Jump recorded → target ≡ recorded
    back true h = same_target target recorded h
    back false h = absurd (not_jump cause.Misaligned recorded h)

pub jump_constrains : (old new : List Shape) (before : List TermId) (pc rd rs1 : ℕ) (offset : ℤ) (recorded id : ℕ) → is_aligned recorded ≡ true
    → Says old new before id (λ local. plus_offset (register local rs1) offset / 2 * 2 ≡ recorded) → Constrains old new before pc (instr.Jalr rd rs1 offset) (note.Jump recorded) id
unfolding act
jump_constrains old new before pc rd rs1 offset recorded id aligned says = record {
  bit = says.bit;
  variables = says.variables;
  meets = λ w local heard at stand.
      let one = says.holds w local stand in
      let two = jump_noted local rd (plus_offset (register local rs1) offset / 2 * 2) recorded aligned in
      (λ h. two.0 (one.0 h), λ h. one.1 (two.1 h));
}

branch_noted : (local : Local) (target : ℕ) (taken recorded : Bool) → (recorded ≡ true → is_aligned target ≡ true) → (taken ≡ recorded) ↔ (note_in (branches local taken target) ≡ note.Branch recorded)
branch_noted local target true true aligned = (λ e. note_where (gone_to local target) [] (note.Branch true) cause.Misaligned (is_aligned target) (aligned refl), λ h. refl)
branch_noted local target true false aligned = (λ e. absurd (false≢true (sym e)), λ h. back (is_aligned target) h)
  where
    back : (test : Bool) → note_in (cond test (Goes (gone_to local target) [] (note.Branch true)) (Faults cause.Misaligned)) ≡ note.Branch false → true ≡ false
    back true h = same_taken true false h
    back false h = absurd (not_branch cause.Misaligned false h)
branch_noted local target false true aligned = (λ e. absurd (false≢true e), λ h. same_taken false true h)
branch_noted local target false false aligned = (λ e. refl, λ h. refl)

pub branch_constrains : (old new : List Shape) (before : List TermId) (pc : ℕ) (op : BranchOp) (rs1 rs2 : ℕ) (offset : ℤ) (recorded : Bool) (id : ℕ) → (recorded ≡ true → is_aligned (plus_offset pc offset) ≡ true)
    → Says old new before id (λ local. taken_of op (register local rs1) (register local rs2) ≡ recorded) → Constrains old new before pc (instr.Branch op rs1 rs2 offset) (note.Branch recorded) id
unfolding act
branch_constrains old new before pc op rs1 rs2 offset recorded id aligned says = record {
  bit = says.bit;
  variables = says.variables;
  meets = λ w local heard at stand.
      let one = says.holds w local stand in
      let two = branch_noted local (plus_offset local.pc offset) (taken_of op (register local rs1) (register local rs2)) recorded (λ e. ap (λ n. is_aligned (plus_offset n offset)) at ∙ aligned e) in
      (λ h. two.0 (one.0 h), λ h. one.1 (two.1 h));
}

-- by the instruction that stands there
pub goes_branch : (old new : List Shape) (before : List TermId) (pc : ℕ) (one : Instr) (op : BranchOp) (rs1 rs2 : ℕ) (offset : ℤ) (shown : Note) (id : ℕ) → one ≡ instr.Branch op rs1 rs2 offset
    → is_some (goes_to pc (transfer_of pc one) shown) ≡ true → Says old new before id (λ local. taken_of op (register local rs1) (register local rs2) ≡ was_taken shown) → Constrains old new before pc one shown id
unfolding transfer_of
goes_branch old new before pc one op rs1 rs2 offset shown id is leads says =
    let both = shown_branch pc (plus_offset pc offset) shown (subst (λ (i : Instr). is_some (goes_to pc (transfer_of pc i) shown) ≡ true) is leads) in
    subst (λ (i : Instr). Constrains old new before pc i shown id) (sym is)
    (subst (λ (n : Note). Constrains old new before pc (instr.Branch op rs1 rs2 offset) n id) (sym both.0) (branch_constrains old new before pc op rs1 rs2 offset (was_taken shown) id both.1 says))

pub goes_jump : (old new : List Shape) (before : List TermId) (pc : ℕ) (one : Instr) (rd rs1 : ℕ) (offset : ℤ) (shown : Note) (id : ℕ) → one ≡ instr.Jalr rd rs1 offset
    → is_some (goes_to pc (transfer_of pc one) shown) ≡ true → Says old new before id (λ local. plus_offset (register local rs1) offset / 2 * 2 ≡ target_of shown) → Constrains old new before pc one shown id
unfolding transfer_of
goes_jump old new before pc one rd rs1 offset shown id is leads says =
    let both = shown_jump pc shown (subst (λ (i : Instr). is_some (goes_to pc (transfer_of pc i) shown) ≡ true) is leads) in
    subst (λ (i : Instr). Constrains old new before pc i shown id) (sym is)
    (subst (λ (n : Note). Constrains old new before pc (instr.Jalr rd rs1 offset) n id) (sym both.0) (jump_constrains old new before pc rd rs1 offset (target_of shown) id both.1 says))

-- ---- a whole step

no_access : (instruction : Instr) (shown : Note) → IsAlone instruction → is_access instruction shown ≡ false
no_access (instr.Lui rd imm) shown alone = refl
no_access (instr.Auipc rd imm) shown alone = refl
no_access (instr.Jal rd offset) shown alone = refl
no_access (instr.Jalr rd rs1 offset) shown alone = refl
no_access (instr.Branch op rs1 rs2 offset) shown alone = refl
no_access (instr.Load op rd rs1 offset) shown alone = absurd alone
no_access (instr.Store op rs1 rs2 offset) shown alone = absurd alone
no_access (instr.Imm op rd rs1 imm) shown alone = refl
no_access (instr.Op op rd rs1 rs2) shown alone = refl
no_access (instr.Fence rd rs1 imm) shown alone = refl
no_access instr.Ecall shown alone = absurd alone
no_access instr.Ebreak shown alone = refl
no_access (instr.LoadReserved rd rs1 aq rl) shown alone = absurd alone
no_access (instr.StoreConditional rd rs1 rs2 aq rl) shown alone = absurd alone
no_access (instr.Amo op rd rs1 rs2 aq rl) shown alone = absurd alone

pub alone_step : (image : Layout) (p : Pos) (link : Option ℕ) (old mid new : List Shape) (before after : List TermId) (pc : ℕ) (instruction : Instr) (shown : Note) (constraint : TermId)
    → IsAlone instruction → Grows old mid → Grows mid new → AreRegisters old before
    → Constrains old mid before pc instruction shown constraint.number → GoesOn mid new before after pc instruction
    → IsStep image p pc instruction shown link old new before after (record { constraint = constraint; access = None })
alone_step image p link old mid new before after pc instruction shown constraint alone first second are constrains goes_on =
    let stepped : Stepped = record { constraint = constraint; access = None } in
    step_by image p pc instruction shown link old new before after stepped (stays mid new 1 constraint.number second constrains.bit)
    (λ width number there. inl (constrains.variables width number (second.variables width number constraint.number constrains.bit.inside there)))
    (λ w seen joined h.
    let one = constrains.meets w seen.local (hears_by image w p instruction shown joined seen) h.at h.stand in
    let same = second.terms.value w constraint.number constrains.bit.inside in
    record {
      met = (λ e. one.0 (sym same ∙ e), λ e. same ∙ one.1 e);
      stands = λ e. goes_on.stands w seen.local (hears_by image w p instruction shown joined seen) h.at (stand_stays w old mid before seen.local first are h.stand);
      shows = λ e. tt;
    })
    (sym (no_access instruction shown alone)) tt
    (λ width number there. inl (older_registers old mid before first are width number (goes_on.variables width number there)))
