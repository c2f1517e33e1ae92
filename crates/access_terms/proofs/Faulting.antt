-- The fault that ends a log.
use Rattle.std.proofs.Common.{◌≡◌, ℕ, ◌-◌, ◌*◌, ◌/◌, ◌<◌, Bool, true, false, cond, List, [], ◌∷◌, refl, sym, ◌∙◌, ap, subst, arith}
use Rattle.std.specs.Prelude.{◌↔◌, ℤ, Option, Ok}
use Rattle.std.proofs.lemmas.Bool.{false≢true, not-true}
use Rattle.elf_image.specs.declared.write.Write.{Write}
use Rattle.elf_image.specs.Layout.{Layout}
use Rattle.elf_image.specs.Memory.{all_readable, all_writable, opening_cells}
use Rattle.rv32_decode.specs.declared.instr.AmoOp.{AmoOp}
use Rattle.rv32_decode.specs.declared.instr.BranchOp.{BranchOp}
use Rattle.rv32_decode.specs.declared.instr.LoadOp.{LoadOp}
use Rattle.rv32_decode.specs.declared.instr.StoreOp.{StoreOp}
use Rattle.rv32_decode.specs.declared.instr.Instr.{Instr}
use Rattle.rv32_decode.specs.declared.instr.Instr.TheVariants as instr
use Rattle.odr_log.specs.declared.log.Cause.{Cause}
use Rattle.odr_log.specs.declared.log.Cause.TheVariants as cause
use Rattle.odr_log.specs.declared.log.Pos.{Pos}
use Rattle.rv_model.specs.declared.state.Local.{Local}
use Rattle.rv_model.specs.declared.state.Note.TheVariants as note
use Rattle.rv_model.specs.declared.hearing.Heard.{Heard}
use Rattle.rv_model.specs.declared.hearing.Outcome.{Outcome}
use Rattle.rv_model.specs.declared.hearing.Outcome.TheVariants.{Faults, Goes}
use Rattle.rv_model.specs.Instruction.{act, branches, is_aligned}
use Rattle.rv_model.specs.Noted.{note_in}
use Rattle.rv_model.specs.Thread.{gone_to, next_pc, register, with_register}
use Rattle.rv_model.specs.Values.{load_size, plus_offset, store_size, taken_of}
use Rattle.rv_model.specs.Walk.{may_fault, transfer_of}
use Rattle.bv_terms.specs.declared.node.TermId.{TermId}
use Rattle.bv_terms.specs.BitVectors.{bit_of}
use Rattle.bv_terms.specs.Shapes.{Shape}
use Rattle.bv_terms.specs.Values.{value_at}
use Rattle.step_terms.specs.Made.{IsMade}
use Rattle.thread_terms.specs.Given.{hears_by}
use Rattle.thread_terms.specs.Standing.{Says, term_of}
use Rattle.thread_terms.specs.Steps.{IsFault}
use Rattle.access_terms.specs.declared.right.Right.TheVariants as right
use Rattle.access_terms.specs.Rights.{all_allow, may_use}
use Rattle.access_terms.proofs.Allowing.{all_read, all_written}
use Rattle.access_terms.proofs.Outcomes.{amo_outcome, conditional_outcome, load_outcome, reserve_outcome, store_outcome}
use Rattle.access_terms.proofs.Own.{from_register}

-- ---- the causes that an instruction may have

pub cause_of_load : (fault : Cause) (pc : ℕ) (op : LoadOp) (rd rs1 : ℕ) (offset : ℤ) → may_fault fault pc (Ok (instr.Load op rd rs1 offset)) ≡ true → fault ≡ cause.LoadFault
unfolding transfer_of
cause_of_load cause.FetchFault pc op rd rs1 offset h = absurd (false≢true h)
cause_of_load cause.Illegal pc op rd rs1 offset h = absurd (false≢true h)
cause_of_load cause.Breakpoint pc op rd rs1 offset h = absurd (false≢true h)
cause_of_load cause.Misaligned pc op rd rs1 offset h = absurd (false≢true h)
cause_of_load cause.LoadFault pc op rd rs1 offset h = refl
cause_of_load cause.StoreFault pc op rd rs1 offset h = absurd (false≢true h)
cause_of_load cause.AmoFault pc op rd rs1 offset h = absurd (false≢true h)

pub cause_of_store : (fault : Cause) (pc : ℕ) (op : StoreOp) (rs1 rs2 : ℕ) (offset : ℤ) → may_fault fault pc (Ok (instr.Store op rs1 rs2 offset)) ≡ true → fault ≡ cause.StoreFault
unfolding transfer_of
cause_of_store cause.FetchFault pc op rs1 rs2 offset h = absurd (false≢true h)
cause_of_store cause.Illegal pc op rs1 rs2 offset h = absurd (false≢true h)
cause_of_store cause.Breakpoint pc op rs1 rs2 offset h = absurd (false≢true h)
cause_of_store cause.Misaligned pc op rs1 rs2 offset h = absurd (false≢true h)
cause_of_store cause.LoadFault pc op rs1 rs2 offset h = absurd (false≢true h)
cause_of_store cause.StoreFault pc op rs1 rs2 offset h = refl
cause_of_store cause.AmoFault pc op rs1 rs2 offset h = absurd (false≢true h)

pub cause_of_reserve : (fault : Cause) (pc : ℕ) (rd rs1 : ℕ) (aq rl : Bool) → may_fault fault pc (Ok (instr.LoadReserved rd rs1 aq rl)) ≡ true → fault ≡ cause.AmoFault
unfolding transfer_of
cause_of_reserve cause.FetchFault pc rd rs1 aq rl h = absurd (false≢true h)
cause_of_reserve cause.Illegal pc rd rs1 aq rl h = absurd (false≢true h)
cause_of_reserve cause.Breakpoint pc rd rs1 aq rl h = absurd (false≢true h)
cause_of_reserve cause.Misaligned pc rd rs1 aq rl h = absurd (false≢true h)
cause_of_reserve cause.LoadFault pc rd rs1 aq rl h = absurd (false≢true h)
cause_of_reserve cause.StoreFault pc rd rs1 aq rl h = absurd (false≢true h)
cause_of_reserve cause.AmoFault pc rd rs1 aq rl h = refl

pub cause_of_conditional : (fault : Cause) (pc : ℕ) (rd rs1 rs2 : ℕ) (aq rl : Bool) → may_fault fault pc (Ok (instr.StoreConditional rd rs1 rs2 aq rl)) ≡ true → fault ≡ cause.AmoFault
unfolding transfer_of
cause_of_conditional cause.FetchFault pc rd rs1 rs2 aq rl h = absurd (false≢true h)
cause_of_conditional cause.Illegal pc rd rs1 rs2 aq rl h = absurd (false≢true h)
cause_of_conditional cause.Breakpoint pc rd rs1 rs2 aq rl h = absurd (false≢true h)
cause_of_conditional cause.Misaligned pc rd rs1 rs2 aq rl h = absurd (false≢true h)
cause_of_conditional cause.LoadFault pc rd rs1 rs2 aq rl h = absurd (false≢true h)
cause_of_conditional cause.StoreFault pc rd rs1 rs2 aq rl h = absurd (false≢true h)
cause_of_conditional cause.AmoFault pc rd rs1 rs2 aq rl h = refl

pub cause_of_amo : (fault : Cause) (pc : ℕ) (op : AmoOp) (rd rs1 rs2 : ℕ) (aq rl : Bool) → may_fault fault pc (Ok (instr.Amo op rd rs1 rs2 aq rl)) ≡ true → fault ≡ cause.AmoFault
unfolding transfer_of
cause_of_amo cause.FetchFault pc op rd rs1 rs2 aq rl h = absurd (false≢true h)
cause_of_amo cause.Illegal pc op rd rs1 rs2 aq rl h = absurd (false≢true h)
cause_of_amo cause.Breakpoint pc op rd rs1 rs2 aq rl h = absurd (false≢true h)
cause_of_amo cause.Misaligned pc op rd rs1 rs2 aq rl h = absurd (false≢true h)
cause_of_amo cause.LoadFault pc op rd rs1 rs2 aq rl h = absurd (false≢true h)
cause_of_amo cause.StoreFault pc op rd rs1 rs2 aq rl h = absurd (false≢true h)
cause_of_amo cause.AmoFault pc op rd rs1 rs2 aq rl h = refl

pub cause_of_jalr : (fault : Cause) (pc rd rs1 : ℕ) (offset : ℤ) → may_fault fault pc (Ok (instr.Jalr rd rs1 offset)) ≡ true → fault ≡ cause.Misaligned
unfolding transfer_of
cause_of_jalr cause.FetchFault pc rd rs1 offset h = absurd (false≢true h)
cause_of_jalr cause.Illegal pc rd rs1 offset h = absurd (false≢true h)
cause_of_jalr cause.Breakpoint pc rd rs1 offset h = absurd (false≢true h)
cause_of_jalr cause.Misaligned pc rd rs1 offset h = refl
cause_of_jalr cause.LoadFault pc rd rs1 offset h = absurd (false≢true h)
cause_of_jalr cause.StoreFault pc rd rs1 offset h = absurd (false≢true h)
cause_of_jalr cause.AmoFault pc rd rs1 offset h = absurd (false≢true h)

pub cause_of_branch : (fault : Cause) (pc : ℕ) (op : BranchOp) (rs1 rs2 : ℕ) (offset : ℤ) → may_fault fault pc (Ok (instr.Branch op rs1 rs2 offset)) ≡ true
    → (fault ≡ cause.Misaligned) × (is_aligned (plus_offset pc offset) ≡ false)
unfolding transfer_of
cause_of_branch cause.FetchFault pc op rs1 rs2 offset h = absurd (false≢true h)
cause_of_branch cause.Illegal pc op rs1 rs2 offset h = absurd (false≢true h)
cause_of_branch cause.Breakpoint pc op rs1 rs2 offset h = absurd (false≢true h)
cause_of_branch cause.Misaligned pc op rs1 rs2 offset h = (refl, not-true (is_aligned (plus_offset pc offset)) h)
cause_of_branch cause.LoadFault pc op rs1 rs2 offset h = absurd (false≢true h)
cause_of_branch cause.StoreFault pc op rs1 rs2 offset h = absurd (false≢true h)
cause_of_branch cause.AmoFault pc op rs1 rs2 offset h = absurd (false≢true h)

-- ---- where an access is refused

not_silent : (fault : Cause) → note.Nothing ≡ note.Faulted fault → ⊥
not_silent fault e = cc

refused : (v : ℕ) (test : Bool) (local : Local) (writes : List Write) (fault : Cause) → v ≡ 1 - bit_of test
    → (v ≡ 1) ↔ (note_in (cond test (Goes local writes note.Nothing) (Faults fault)) ≡ note.Faulted fault)
refused v true local writes fault e = (λ h. absurd (omega (arith, e, h)), λ h. absurd (not_silent fault h))
refused v false local writes fault e = (λ h. refl, λ h. e)

noted_as : (v : ℕ) (fault : Cause) (one other : Outcome) → other ≡ one → (v ≡ 1) ↔ (note_in one ≡ note.Faulted fault) → (v ≡ 1) ↔ (note_in other ≡ note.Faulted fault)
noted_as v fault one other e both = subst (λ (o : Outcome). (v ≡ 1) ↔ (note_in o ≡ note.Faulted fault)) (sym e) both

pub load_faults : (image : Layout) (p : Pos) (pc : ℕ) (op : LoadOp) (rd rs1 : ℕ) (offset : ℤ) (link : Option ℕ) (old new : List Shape) (before : List TermId) (id : ℕ) → rs1 < 32
    → IsMade old new (term_of before rs1 ∷ []) 1 (λ w. 1 - bit_of (all_allow right.Read (opening_cells image) (plus_offset (value_at w old (term_of before rs1)) offset) (load_size op))) id
    → IsFault image p pc (instr.Load op rd rs1 offset) (note.Faulted cause.LoadFault) link old new before id
load_faults image p pc op rd rs1 offset link old new before id inside made = record {
  bit = made.term;
  variables = from_register old new before rs1 1 id _ inside made;
  meets = λ w seen joined h.
      let place = plus_offset (register seen.local rs1) offset in
      let cells = opening_cells image in
      let value : value_at w new id ≡ 1 - bit_of (all_readable cells place (load_size op)) =
      made.value w ∙ ap (λ v. 1 - bit_of (all_allow right.Read cells (plus_offset v offset) (load_size op))) (h.stand.values rs1 inside)
      ∙ ap (λ t. 1 - bit_of t) (all_read cells place (load_size op)) in
      noted_as (value_at w new id) cause.LoadFault _ _ (load_outcome image w p op rd rs1 offset (note.Faulted cause.LoadFault) joined seen)
      (refused (value_at w new id) (all_readable cells place (load_size op)) _ [] cause.LoadFault value);
}

pub store_faults : (image : Layout) (p : Pos) (pc : ℕ) (op : StoreOp) (rs1 rs2 : ℕ) (offset : ℤ) (link : Option ℕ) (old new : List Shape) (before : List TermId) (id : ℕ) → rs1 < 32
    → IsMade old new (term_of before rs1 ∷ []) 1 (λ w. 1 - bit_of (all_allow right.Write (opening_cells image) (plus_offset (value_at w old (term_of before rs1)) offset) (store_size op))) id
    → IsFault image p pc (instr.Store op rs1 rs2 offset) (note.Faulted cause.StoreFault) link old new before id
store_faults image p pc op rs1 rs2 offset link old new before id inside made = record {
  bit = made.term;
  variables = from_register old new before rs1 1 id _ inside made;
  meets = λ w seen joined h.
      let place = plus_offset (register seen.local rs1) offset in
      let cells = opening_cells image in
      let value : value_at w new id ≡ 1 - bit_of (all_writable cells place (store_size op)) =
      made.value w ∙ ap (λ v. 1 - bit_of (all_allow right.Write cells (plus_offset v offset) (store_size op))) (h.stand.values rs1 inside)
      ∙ ap (λ t. 1 - bit_of t) (all_written cells place (store_size op)) in
      noted_as (value_at w new id) cause.StoreFault _ _ (store_outcome image w p op rs1 rs2 offset (note.Faulted cause.StoreFault) joined seen)
      (refused (value_at w new id) (all_writable cells place (store_size op)) _ _ cause.StoreFault value);
}

pub reserve_faults : (image : Layout) (p : Pos) (pc : ℕ) (rd rs1 : ℕ) (aq rl : Bool) (link : Option ℕ) (old new : List Shape) (before : List TermId) (id : ℕ) → rs1 < 32
    → IsMade old new (term_of before rs1 ∷ []) 1 (λ w. 1 - bit_of (may_use image (value_at w old (term_of before rs1)))) id
    → IsFault image p pc (instr.LoadReserved rd rs1 aq rl) (note.Faulted cause.AmoFault) link old new before id
reserve_faults image p pc rd rs1 aq rl link old new before id inside made = record {
  bit = made.term;
  variables = from_register old new before rs1 1 id _ inside made;
  meets = λ w seen joined h.
      let value : value_at w new id ≡ 1 - bit_of (may_use image (register seen.local rs1)) = made.value w ∙ ap (λ v. 1 - bit_of (may_use image v)) (h.stand.values rs1 inside) in
      noted_as (value_at w new id) cause.AmoFault _ _ (reserve_outcome image w p rd rs1 aq rl (note.Faulted cause.AmoFault) joined seen)
      (refused (value_at w new id) (may_use image (register seen.local rs1)) _ _ cause.AmoFault value);
}

pub conditional_faults : (image : Layout) (p : Pos) (pc : ℕ) (rd rs1 rs2 : ℕ) (aq rl : Bool) (link : Option ℕ) (old new : List Shape) (before : List TermId) (id : ℕ) → rs1 < 32
    → IsMade old new (term_of before rs1 ∷ []) 1 (λ w. 1 - bit_of (may_use image (value_at w old (term_of before rs1)))) id
    → IsFault image p pc (instr.StoreConditional rd rs1 rs2 aq rl) (note.Faulted cause.AmoFault) link old new before id
conditional_faults image p pc rd rs1 rs2 aq rl link old new before id inside made = record {
  bit = made.term;
  variables = from_register old new before rs1 1 id _ inside made;
  meets = λ w seen joined h.
      let value : value_at w new id ≡ 1 - bit_of (may_use image (register seen.local rs1)) = made.value w ∙ ap (λ v. 1 - bit_of (may_use image v)) (h.stand.values rs1 inside) in
      noted_as (value_at w new id) cause.AmoFault _ _ (conditional_outcome image w p rd rs1 rs2 aq rl (note.Faulted cause.AmoFault) joined seen)
      (refused (value_at w new id) (may_use image (register seen.local rs1)) _ _ cause.AmoFault value);
}

pub amo_faults : (image : Layout) (p : Pos) (pc : ℕ) (op : AmoOp) (rd rs1 rs2 : ℕ) (aq rl : Bool) (link : Option ℕ) (old new : List Shape) (before : List TermId) (id : ℕ) → rs1 < 32
    → IsMade old new (term_of before rs1 ∷ []) 1 (λ w. 1 - bit_of (may_use image (value_at w old (term_of before rs1)))) id
    → IsFault image p pc (instr.Amo op rd rs1 rs2 aq rl) (note.Faulted cause.AmoFault) link old new before id
amo_faults image p pc op rd rs1 rs2 aq rl link old new before id inside made = record {
  bit = made.term;
  variables = from_register old new before rs1 1 id _ inside made;
  meets = λ w seen joined h.
      let value : value_at w new id ≡ 1 - bit_of (may_use image (register seen.local rs1)) = made.value w ∙ ap (λ v. 1 - bit_of (may_use image v)) (h.stand.values rs1 inside) in
      noted_as (value_at w new id) cause.AmoFault _ _ (amo_outcome image w p op rd rs1 rs2 aq rl (note.Faulted cause.AmoFault) joined seen)
      (refused (value_at w new id) (may_use image (register seen.local rs1)) _ _ cause.AmoFault value);
}

-- ---- where a target is no multiple of four

not_jump : (fault : Cause) (target : ℕ) → note.Jump target ≡ note.Faulted fault → ⊥
not_jump fault target e = cc

not_branch : (fault : Cause) (taken : Bool) → note.Branch taken ≡ note.Faulted fault → ⊥
not_branch fault taken e = cc

missed : (v target : ℕ) (local : Local) (test : Bool) → v ≡ 1 - bit_of test
    → (v ≡ 1) ↔ (note_in (cond test (Goes (gone_to local target) [] (note.Jump target)) (Faults cause.Misaligned)) ≡ note.Faulted cause.Misaligned)
missed v target local true e = (λ h. absurd (omega (arith, e, h)), λ h. absurd (not_jump cause.Misaligned target h))
missed v target local false e = (λ h. refl, λ h. e)

pub jalr_faults : (image : Layout) (p : Pos) (pc rd rs1 : ℕ) (offset : ℤ) (link : Option ℕ) (old new : List Shape) (before : List TermId) (id : ℕ) → rs1 < 32
    → IsMade old new (term_of before rs1 ∷ []) 1 (λ w. 1 - bit_of (is_aligned (plus_offset (value_at w old (term_of before rs1)) offset / 2 * 2))) id
    → IsFault image p pc (instr.Jalr rd rs1 offset) (note.Faulted cause.Misaligned) link old new before id
unfolding act
jalr_faults image p pc rd rs1 offset link old new before id inside made = record {
  bit = made.term;
  variables = from_register old new before rs1 1 id _ inside made;
  meets = λ w seen joined h.
      let target = plus_offset (register seen.local rs1) offset / 2 * 2 in
      missed (value_at w new id) target (with_register seen.local rd (next_pc seen.local)) (is_aligned target)
      (made.value w ∙ ap (λ v. 1 - bit_of (is_aligned (plus_offset v offset / 2 * 2))) (h.stand.values rs1 inside));
}

-- a branch that is taken
missed_branch : (local : Local) (target : ℕ) (taken : Bool) → is_aligned target ≡ false → (taken ≡ true) ↔ (note_in (branches local taken target) ≡ note.Faulted cause.Misaligned)
missed_branch local target true off = (λ e. ap (λ t. note_in (cond t (Goes (gone_to local target) [] (note.Branch true)) (Faults cause.Misaligned))) off, λ h. refl)
missed_branch local target false off = (λ e. absurd (false≢true e), λ h. absurd (not_branch cause.Misaligned false h))

pub branch_faults : (image : Layout) (p : Pos) (pc : ℕ) (op : BranchOp) (rs1 rs2 : ℕ) (offset : ℤ) (link : Option ℕ) (old new : List Shape) (before : List TermId) (id : ℕ) → is_aligned (plus_offset pc offset) ≡ false
    → Says old new before id (λ local. taken_of op (register local rs1) (register local rs2) ≡ true)
    → IsFault image p pc (instr.Branch op rs1 rs2 offset) (note.Faulted cause.Misaligned) link old new before id
unfolding act
branch_faults image p pc op rs1 rs2 offset link old new before id off says = record {
  bit = says.bit;
  variables = says.variables;
  meets = λ w seen joined h.
      let one = says.holds w seen.local h.stand in
      let two = missed_branch seen.local (plus_offset seen.local.pc offset) (taken_of op (register seen.local rs1) (register seen.local rs2)) (ap (λ n. is_aligned (plus_offset n offset)) h.at ∙ off) in
      (λ e. two.0 (one.0 e), λ e. one.1 (two.1 e));
}

-- ---- a fault that no register decides

abbrev pub IsFixed : Instr → Type 0
IsFixed (instr.Jalr rd rs1 offset) = ⊥
IsFixed (instr.Branch op rs1 rs2 offset) = ⊥
IsFixed (instr.Load op rd rs1 offset) = ⊥
IsFixed (instr.Store op rs1 rs2 offset) = ⊥
IsFixed (instr.LoadReserved rd rs1 aq rl) = ⊥
IsFixed (instr.StoreConditional rd rs1 rs2 aq rl) = ⊥
IsFixed (instr.Amo op rd rs1 rs2 aq rl) = ⊥
IsFixed other = Unit {0}

fixed_jal : (fault : Cause) (pc rd : ℕ) (offset : ℤ) → may_fault fault pc (Ok (instr.Jal rd offset)) ≡ true → (fault ≡ cause.Misaligned) × (is_aligned (plus_offset pc offset) ≡ false)
unfolding transfer_of
fixed_jal cause.FetchFault pc rd offset h = absurd (false≢true h)
fixed_jal cause.Illegal pc rd offset h = absurd (false≢true h)
fixed_jal cause.Breakpoint pc rd offset h = absurd (false≢true h)
fixed_jal cause.LoadFault pc rd offset h = absurd (false≢true h)
fixed_jal cause.StoreFault pc rd offset h = absurd (false≢true h)
fixed_jal cause.AmoFault pc rd offset h = absurd (false≢true h)
fixed_jal cause.Misaligned pc rd offset h = (refl, not-true (is_aligned (plus_offset pc offset)) h)

fixed_ebreak : (fault : Cause) (pc : ℕ) → may_fault fault pc (Ok instr.Ebreak) ≡ true → fault ≡ cause.Breakpoint
unfolding transfer_of
fixed_ebreak cause.FetchFault pc h = absurd (false≢true h)
fixed_ebreak cause.Illegal pc h = absurd (false≢true h)
fixed_ebreak cause.Misaligned pc h = absurd (false≢true h)
fixed_ebreak cause.LoadFault pc h = absurd (false≢true h)
fixed_ebreak cause.StoreFault pc h = absurd (false≢true h)
fixed_ebreak cause.AmoFault pc h = absurd (false≢true h)
fixed_ebreak cause.Breakpoint pc h = refl

faults_anyway : (local : Local) (heard : Heard) (fault : Cause) (pc : ℕ) (instruction : Instr) → IsFixed instruction → local.pc ≡ pc → may_fault fault pc (Ok instruction) ≡ true → note_in (act local instruction heard) ≡ note.Faulted fault
unfolding act transfer_of
faults_anyway local heard cause.FetchFault pc (instr.Lui rd imm) fixed at h = absurd (false≢true h)
faults_anyway local heard cause.Illegal pc (instr.Lui rd imm) fixed at h = absurd (false≢true h)
faults_anyway local heard cause.Breakpoint pc (instr.Lui rd imm) fixed at h = absurd (false≢true h)
faults_anyway local heard cause.Misaligned pc (instr.Lui rd imm) fixed at h = absurd (false≢true h)
faults_anyway local heard cause.LoadFault pc (instr.Lui rd imm) fixed at h = absurd (false≢true h)
faults_anyway local heard cause.StoreFault pc (instr.Lui rd imm) fixed at h = absurd (false≢true h)
faults_anyway local heard cause.AmoFault pc (instr.Lui rd imm) fixed at h = absurd (false≢true h)
faults_anyway local heard cause.FetchFault pc (instr.Auipc rd imm) fixed at h = absurd (false≢true h)
faults_anyway local heard cause.Illegal pc (instr.Auipc rd imm) fixed at h = absurd (false≢true h)
faults_anyway local heard cause.Breakpoint pc (instr.Auipc rd imm) fixed at h = absurd (false≢true h)
faults_anyway local heard cause.Misaligned pc (instr.Auipc rd imm) fixed at h = absurd (false≢true h)
faults_anyway local heard cause.LoadFault pc (instr.Auipc rd imm) fixed at h = absurd (false≢true h)
faults_anyway local heard cause.StoreFault pc (instr.Auipc rd imm) fixed at h = absurd (false≢true h)
faults_anyway local heard cause.AmoFault pc (instr.Auipc rd imm) fixed at h = absurd (false≢true h)
faults_anyway local heard cause.FetchFault pc (instr.Imm op rd rs1 imm) fixed at h = absurd (false≢true h)
faults_anyway local heard cause.Illegal pc (instr.Imm op rd rs1 imm) fixed at h = absurd (false≢true h)
faults_anyway local heard cause.Breakpoint pc (instr.Imm op rd rs1 imm) fixed at h = absurd (false≢true h)
faults_anyway local heard cause.Misaligned pc (instr.Imm op rd rs1 imm) fixed at h = absurd (false≢true h)
faults_anyway local heard cause.LoadFault pc (instr.Imm op rd rs1 imm) fixed at h = absurd (false≢true h)
faults_anyway local heard cause.StoreFault pc (instr.Imm op rd rs1 imm) fixed at h = absurd (false≢true h)
faults_anyway local heard cause.AmoFault pc (instr.Imm op rd rs1 imm) fixed at h = absurd (false≢true h)
faults_anyway local heard cause.FetchFault pc (instr.Op op rd rs1 rs2) fixed at h = absurd (false≢true h)
faults_anyway local heard cause.Illegal pc (instr.Op op rd rs1 rs2) fixed at h = absurd (false≢true h)
faults_anyway local heard cause.Breakpoint pc (instr.Op op rd rs1 rs2) fixed at h = absurd (false≢true h)
faults_anyway local heard cause.Misaligned pc (instr.Op op rd rs1 rs2) fixed at h = absurd (false≢true h)
faults_anyway local heard cause.LoadFault pc (instr.Op op rd rs1 rs2) fixed at h = absurd (false≢true h)
faults_anyway local heard cause.StoreFault pc (instr.Op op rd rs1 rs2) fixed at h = absurd (false≢true h)
faults_anyway local heard cause.AmoFault pc (instr.Op op rd rs1 rs2) fixed at h = absurd (false≢true h)
faults_anyway local heard cause.FetchFault pc (instr.Fence rd rs1 imm) fixed at h = absurd (false≢true h)
faults_anyway local heard cause.Illegal pc (instr.Fence rd rs1 imm) fixed at h = absurd (false≢true h)
faults_anyway local heard cause.Breakpoint pc (instr.Fence rd rs1 imm) fixed at h = absurd (false≢true h)
faults_anyway local heard cause.Misaligned pc (instr.Fence rd rs1 imm) fixed at h = absurd (false≢true h)
faults_anyway local heard cause.LoadFault pc (instr.Fence rd rs1 imm) fixed at h = absurd (false≢true h)
faults_anyway local heard cause.StoreFault pc (instr.Fence rd rs1 imm) fixed at h = absurd (false≢true h)
faults_anyway local heard cause.AmoFault pc (instr.Fence rd rs1 imm) fixed at h = absurd (false≢true h)
faults_anyway local heard cause.FetchFault pc instr.Ecall fixed at h = absurd (false≢true h)
faults_anyway local heard cause.Illegal pc instr.Ecall fixed at h = absurd (false≢true h)
faults_anyway local heard cause.Breakpoint pc instr.Ecall fixed at h = absurd (false≢true h)
faults_anyway local heard cause.Misaligned pc instr.Ecall fixed at h = absurd (false≢true h)
faults_anyway local heard cause.LoadFault pc instr.Ecall fixed at h = absurd (false≢true h)
faults_anyway local heard cause.StoreFault pc instr.Ecall fixed at h = absurd (false≢true h)
faults_anyway local heard cause.AmoFault pc instr.Ecall fixed at h = absurd (false≢true h)
faults_anyway local heard fault pc instr.Ebreak fixed at h = sym (ap note.Faulted (fixed_ebreak fault pc h))
faults_anyway local heard fault pc (instr.Jal rd offset) fixed at h =
    let both = fixed_jal fault pc rd offset h in
    ap (λ t. note_in (cond t (Goes (gone_to (with_register local rd (next_pc local)) (plus_offset local.pc offset)) [] note.Nothing) (Faults cause.Misaligned))) (ap (λ n. is_aligned (plus_offset n offset)) at ∙ both.1)
    ∙ sym (ap note.Faulted both.0)
faults_anyway local heard fault pc (instr.Jalr rd rs1 offset) fixed at h = absurd fixed
faults_anyway local heard fault pc (instr.Branch op rs1 rs2 offset) fixed at h = absurd fixed
faults_anyway local heard fault pc (instr.Load op rd rs1 offset) fixed at h = absurd fixed
faults_anyway local heard fault pc (instr.Store op rs1 rs2 offset) fixed at h = absurd fixed
faults_anyway local heard fault pc (instr.LoadReserved rd rs1 aq rl) fixed at h = absurd fixed
faults_anyway local heard fault pc (instr.StoreConditional rd rs1 rs2 aq rl) fixed at h = absurd fixed
faults_anyway local heard fault pc (instr.Amo op rd rs1 rs2 aq rl) fixed at h = absurd fixed

pub fixed_faults : (image : Layout) (p : Pos) (pc : ℕ) (instruction : Instr) (fault : Cause) (link : Option ℕ) (old new : List Shape) (before : List TermId) (id : ℕ) → IsFixed instruction
    → may_fault fault pc (Ok instruction) ≡ true → IsMade old new [] 1 (λ w. 1) id → IsFault image p pc instruction (note.Faulted fault) link old new before id
fixed_faults image p pc instruction fault link old new before id fixed fits made = record {
  bit = made.term;
  variables = λ width number there. absurd (made.occurs width number there);
  meets = λ w seen joined h. (λ e. faults_anyway seen.local (hears_by image w p instruction (note.Faulted fault) joined seen) fault pc instruction fixed h.at fits, λ e. made.value w);
}

-- ---- by the instruction that stands at the place

at_place : (image : Layout) (pc : ℕ) (one instruction : Instr) (fault named : Cause) (old new : List Shape) (before : List TermId) (id : ℕ) → one ≡ instruction → fault ≡ named
    → ((p : Pos) (link : Option ℕ) → IsFault image p pc instruction (note.Faulted named) link old new before id) → (p : Pos) (link : Option ℕ) → IsFault image p pc one (note.Faulted fault) link old new before id
at_place image pc one instruction fault named old new before id is same faults p link =
    subst (λ (i : Instr). IsFault image p pc i (note.Faulted fault) link old new before id) (sym is)
    (subst (λ (f : Cause). IsFault image p pc instruction (note.Faulted f) link old new before id) (sym same) (faults p link))

fits_at : (pc : ℕ) (one instruction : Instr) (fault : Cause) → one ≡ instruction → may_fault fault pc (Ok one) ≡ true → may_fault fault pc (Ok instruction) ≡ true
fits_at pc one instruction fault is fits = subst (λ (i : Instr). may_fault fault pc (Ok i) ≡ true) is fits

pub load_at : (image : Layout) (pc : ℕ) (one : Instr) (op : LoadOp) (rd rs1 : ℕ) (offset : ℤ) (fault : Cause) (old new : List Shape) (before : List TermId) (id : ℕ) → one ≡ instr.Load op rd rs1 offset → may_fault fault pc (Ok one) ≡ true
    → rs1 < 32 → IsMade old new (term_of before rs1 ∷ []) 1 (λ w. 1 - bit_of (all_allow right.Read (opening_cells image) (plus_offset (value_at w old (term_of before rs1)) offset) (load_size op))) id → (p : Pos) (link : Option ℕ) → IsFault image p pc one (note.Faulted fault) link old new before id
load_at image pc one op rd rs1 offset fault old new before id is fits inside made =
    at_place image pc one (instr.Load op rd rs1 offset) fault cause.LoadFault old new before id is (cause_of_load fault pc op rd rs1 offset (fits_at pc one (instr.Load op rd rs1 offset) fault is fits)) (λ p link. load_faults image p pc op rd rs1 offset link old new before id inside made)

pub store_at : (image : Layout) (pc : ℕ) (one : Instr) (op : StoreOp) (rs1 rs2 : ℕ) (offset : ℤ) (fault : Cause) (old new : List Shape) (before : List TermId) (id : ℕ) → one ≡ instr.Store op rs1 rs2 offset → may_fault fault pc (Ok one) ≡ true
    → rs1 < 32 → IsMade old new (term_of before rs1 ∷ []) 1 (λ w. 1 - bit_of (all_allow right.Write (opening_cells image) (plus_offset (value_at w old (term_of before rs1)) offset) (store_size op))) id → (p : Pos) (link : Option ℕ) → IsFault image p pc one (note.Faulted fault) link old new before id
store_at image pc one op rs1 rs2 offset fault old new before id is fits inside made =
    at_place image pc one (instr.Store op rs1 rs2 offset) fault cause.StoreFault old new before id is (cause_of_store fault pc op rs1 rs2 offset (fits_at pc one (instr.Store op rs1 rs2 offset) fault is fits)) (λ p link. store_faults image p pc op rs1 rs2 offset link old new before id inside made)

pub reserve_at : (image : Layout) (pc : ℕ) (one : Instr) (rd rs1 : ℕ) (aq rl : Bool) (fault : Cause) (old new : List Shape) (before : List TermId) (id : ℕ) → one ≡ instr.LoadReserved rd rs1 aq rl → may_fault fault pc (Ok one) ≡ true
    → rs1 < 32 → IsMade old new (term_of before rs1 ∷ []) 1 (λ w. 1 - bit_of (may_use image (value_at w old (term_of before rs1)))) id → (p : Pos) (link : Option ℕ) → IsFault image p pc one (note.Faulted fault) link old new before id
reserve_at image pc one rd rs1 aq rl fault old new before id is fits inside made =
    at_place image pc one (instr.LoadReserved rd rs1 aq rl) fault cause.AmoFault old new before id is (cause_of_reserve fault pc rd rs1 aq rl (fits_at pc one (instr.LoadReserved rd rs1 aq rl) fault is fits)) (λ p link. reserve_faults image p pc rd rs1 aq rl link old new before id inside made)

pub conditional_at : (image : Layout) (pc : ℕ) (one : Instr) (rd rs1 rs2 : ℕ) (aq rl : Bool) (fault : Cause) (old new : List Shape) (before : List TermId) (id : ℕ) → one ≡ instr.StoreConditional rd rs1 rs2 aq rl → may_fault fault pc (Ok one) ≡ true
    → rs1 < 32 → IsMade old new (term_of before rs1 ∷ []) 1 (λ w. 1 - bit_of (may_use image (value_at w old (term_of before rs1)))) id → (p : Pos) (link : Option ℕ) → IsFault image p pc one (note.Faulted fault) link old new before id
conditional_at image pc one rd rs1 rs2 aq rl fault old new before id is fits inside made =
    at_place image pc one (instr.StoreConditional rd rs1 rs2 aq rl) fault cause.AmoFault old new before id is (cause_of_conditional fault pc rd rs1 rs2 aq rl (fits_at pc one (instr.StoreConditional rd rs1 rs2 aq rl) fault is fits)) (λ p link. conditional_faults image p pc rd rs1 rs2 aq rl link old new before id inside made)

pub amo_at : (image : Layout) (pc : ℕ) (one : Instr) (op : AmoOp) (rd rs1 rs2 : ℕ) (aq rl : Bool) (fault : Cause) (old new : List Shape) (before : List TermId) (id : ℕ) → one ≡ instr.Amo op rd rs1 rs2 aq rl → may_fault fault pc (Ok one) ≡ true
    → rs1 < 32 → IsMade old new (term_of before rs1 ∷ []) 1 (λ w. 1 - bit_of (may_use image (value_at w old (term_of before rs1)))) id → (p : Pos) (link : Option ℕ) → IsFault image p pc one (note.Faulted fault) link old new before id
amo_at image pc one op rd rs1 rs2 aq rl fault old new before id is fits inside made =
    at_place image pc one (instr.Amo op rd rs1 rs2 aq rl) fault cause.AmoFault old new before id is (cause_of_amo fault pc op rd rs1 rs2 aq rl (fits_at pc one (instr.Amo op rd rs1 rs2 aq rl) fault is fits)) (λ p link. amo_faults image p pc op rd rs1 rs2 aq rl link old new before id inside made)

pub jalr_at : (image : Layout) (pc : ℕ) (one : Instr) (rd rs1 : ℕ) (offset : ℤ) (fault : Cause) (old new : List Shape) (before : List TermId) (id : ℕ) → one ≡ instr.Jalr rd rs1 offset → may_fault fault pc (Ok one) ≡ true
    → rs1 < 32 → IsMade old new (term_of before rs1 ∷ []) 1 (λ w. 1 - bit_of (is_aligned (plus_offset (value_at w old (term_of before rs1)) offset / 2 * 2))) id → (p : Pos) (link : Option ℕ) → IsFault image p pc one (note.Faulted fault) link old new before id
jalr_at image pc one rd rs1 offset fault old new before id is fits inside made =
    at_place image pc one (instr.Jalr rd rs1 offset) fault cause.Misaligned old new before id is (cause_of_jalr fault pc rd rs1 offset (fits_at pc one (instr.Jalr rd rs1 offset) fault is fits)) (λ p link. jalr_faults image p pc rd rs1 offset link old new before id inside made)

pub branch_at : (image : Layout) (pc : ℕ) (one : Instr) (op : BranchOp) (rs1 rs2 : ℕ) (offset : ℤ) (fault : Cause) (old new : List Shape) (before : List TermId) (id : ℕ) → one ≡ instr.Branch op rs1 rs2 offset → may_fault fault pc (Ok one) ≡ true
    → Says old new before id (λ local. taken_of op (register local rs1) (register local rs2) ≡ true) → (p : Pos) (link : Option ℕ) → IsFault image p pc one (note.Faulted fault) link old new before id
branch_at image pc one op rs1 rs2 offset fault old new before id is fits says =
    at_place image pc one (instr.Branch op rs1 rs2 offset) fault cause.Misaligned old new before id is (cause_of_branch fault pc op rs1 rs2 offset (fits_at pc one (instr.Branch op rs1 rs2 offset) fault is fits)).0 (λ p link. branch_faults image p pc op rs1 rs2 offset link old new before id (cause_of_branch fault pc op rs1 rs2 offset (fits_at pc one (instr.Branch op rs1 rs2 offset) fault is fits)).1 says)

pub is_fixed : (instruction : Instr)
    → ((op : LoadOp) (rd rs1 : ℕ) (offset : ℤ) → instruction ≡ instr.Load op rd rs1 offset → ⊥)
    → ((op : StoreOp) (rs1 rs2 : ℕ) (offset : ℤ) → instruction ≡ instr.Store op rs1 rs2 offset → ⊥)
    → ((rd rs1 : ℕ) (aq rl : Bool) → instruction ≡ instr.LoadReserved rd rs1 aq rl → ⊥)
    → ((rd rs1 rs2 : ℕ) (aq rl : Bool) → instruction ≡ instr.StoreConditional rd rs1 rs2 aq rl → ⊥)
    → ((op : AmoOp) (rd rs1 rs2 : ℕ) (aq rl : Bool) → instruction ≡ instr.Amo op rd rs1 rs2 aq rl → ⊥)
    → ((rd rs1 : ℕ) (offset : ℤ) → instruction ≡ instr.Jalr rd rs1 offset → ⊥)
    → ((op : BranchOp) (rs1 rs2 : ℕ) (offset : ℤ) → instruction ≡ instr.Branch op rs1 rs2 offset → ⊥)
    → IsFixed instruction
is_fixed (instr.Lui rd imm) no_load no_store no_reserve no_conditional no_amo no_jalr no_branch = tt
is_fixed (instr.Auipc rd imm) no_load no_store no_reserve no_conditional no_amo no_jalr no_branch = tt
is_fixed (instr.Jal rd offset) no_load no_store no_reserve no_conditional no_amo no_jalr no_branch = tt
is_fixed (instr.Jalr rd rs1 offset) no_load no_store no_reserve no_conditional no_amo no_jalr no_branch = absurd (no_jalr rd rs1 offset refl)
is_fixed (instr.Branch op rs1 rs2 offset) no_load no_store no_reserve no_conditional no_amo no_jalr no_branch = absurd (no_branch op rs1 rs2 offset refl)
is_fixed (instr.Load op rd rs1 offset) no_load no_store no_reserve no_conditional no_amo no_jalr no_branch = absurd (no_load op rd rs1 offset refl)
is_fixed (instr.Store op rs1 rs2 offset) no_load no_store no_reserve no_conditional no_amo no_jalr no_branch = absurd (no_store op rs1 rs2 offset refl)
is_fixed (instr.Imm op rd rs1 imm) no_load no_store no_reserve no_conditional no_amo no_jalr no_branch = tt
is_fixed (instr.Op op rd rs1 rs2) no_load no_store no_reserve no_conditional no_amo no_jalr no_branch = tt
is_fixed (instr.Fence rd rs1 imm) no_load no_store no_reserve no_conditional no_amo no_jalr no_branch = tt
is_fixed instr.Ecall no_load no_store no_reserve no_conditional no_amo no_jalr no_branch = tt
is_fixed instr.Ebreak no_load no_store no_reserve no_conditional no_amo no_jalr no_branch = tt
is_fixed (instr.LoadReserved rd rs1 aq rl) no_load no_store no_reserve no_conditional no_amo no_jalr no_branch = absurd (no_reserve rd rs1 aq rl refl)
is_fixed (instr.StoreConditional rd rs1 rs2 aq rl) no_load no_store no_reserve no_conditional no_amo no_jalr no_branch = absurd (no_conditional rd rs1 rs2 aq rl refl)
is_fixed (instr.Amo op rd rs1 rs2 aq rl) no_load no_store no_reserve no_conditional no_amo no_jalr no_branch = absurd (no_amo op rd rs1 rs2 aq rl refl)
