-- A store.
use Rattle.std.proofs.Common.{◌≡◌, ℕ, ◌<◌, ◌≤◌, true, List, [], ◌∷◌, refl, ◌∙◌, ap, inl, arith}
use Rattle.std.specs.Prelude.{ℤ, Option, Some, None}
use Rattle.elf_image.specs.Layout.{Layout}
use Rattle.elf_image.specs.Memory.{all_writable, bytes_of, opening_cells, writes_of}
use Rattle.rv32_decode.specs.declared.instr.StoreOp.{StoreOp}
use Rattle.rv32_decode.specs.declared.instr.StoreOp.TheVariants as store
use Rattle.rv32_decode.specs.declared.instr.Instr.TheVariants as instr
use Rattle.odr_log.specs.declared.log.Cause.TheVariants as cause
use Rattle.odr_log.specs.declared.log.Pos.{Pos}
use Rattle.rv_model.specs.declared.state.Local.{Local}
use Rattle.rv_model.specs.declared.state.Note.TheVariants as note
use Rattle.rv_model.specs.declared.hearing.Outcome.TheVariants.{Goes}
use Rattle.rv_model.specs.Instruction.{access_of}
use Rattle.rv_model.specs.Thread.{onward, register}
use Rattle.rv_model.specs.Values.{plus_offset, store_size}
use Rattle.bv_terms.specs.declared.node.TermId.{TermId}
use Rattle.bv_terms.specs.BitVectors.{bit_of}
use Rattle.bv_terms.specs.Shapes.{Shape}
use Rattle.bv_terms.specs.Values.{Assignment, value_at}
use Rattle.step_terms.specs.Bytes.{values}
use Rattle.step_terms.specs.Made.{Grows, IsMade}
use Rattle.thread_terms.specs.declared.access.Access.{Access}
use Rattle.thread_terms.specs.declared.access.Stepped.{Stepped}
use Rattle.thread_terms.specs.Standing.{AreRegisters, OccursInRegisters, term_of}
use Rattle.thread_terms.specs.Steps.{IsPlainStep, Shows}
use Rattle.thread_terms.proofs.Standing.{stand_stays}
use Rattle.access_terms.specs.declared.right.Right.TheVariants.{Write}
use Rattle.access_terms.specs.Rights.{all_allow}
use Rattle.access_terms.proofs.Allowing.{all_written}
use Rattle.access_terms.proofs.Outcomes.{store_outcome}
use Rattle.access_terms.proofs.Own.{IsConstantBit, from_register, of_constant}
use Rattle.access_terms.proofs.Works.{stands_on, step_by, variables_stay, works_same, works_where}
use Rattle.access_terms.proofs.Writing.{AreWritten, writes_where}

-- the access and the constraint of a step that reads nothing
abbrev pub writing : Pos → TermId → TermId → TermId → List TermId → Option ℕ → Stepped
writing p constraint address guard writes link = record {
  constraint = constraint;
  access = Some (record { pos = p; address = address; guard = guard; reads = []; writes = writes; link = link });
}

pub few_stored : (op : StoreOp) → store_size op ≤ 4
few_stored store.Sb = omega arith
few_stored store.Sh = omega arith
few_stored store.Sw = omega arith

store_shows : (w : Assignment) (new : List Shape) (p : Pos) (op : StoreOp) (rs1 rs2 : ℕ) (offset : ℤ) (address guard : TermId) (writes : List TermId) (local : Local)
    → value_at w new address.number ≡ plus_offset (register local rs1) offset → values w new writes ≡ bytes_of (store_size op) (register local rs2) → value_at w new guard.number ≡ 1
    → Shows w new (let a : Access = record { pos = p; address = address; guard = guard; reads = []; writes = writes; link = None } in a) (instr.Store op rs1 rs2 offset) local
    (Goes (onward local) (writes_of (plus_offset (register local rs1) offset) (bytes_of (store_size op) (register local rs2)) []) note.Nothing)
unfolding access_of
store_shows w new p op rs1 rs2 offset address guard writes local at are set = record {
  address = at;
  reads = refl;
  writes = writes_where w new address.number guard.number writes (plus_offset (register local rs1) offset) (bytes_of (store_size op) (register local rs2)) at are set;
}

pub store_step : (image : Layout) (p : Pos) (op : StoreOp) (rs1 rs2 : ℕ) (offset : ℤ) (old new : List Shape) (before : List TermId) (address constraint guard : TermId) (writes : List TermId)
    → Grows old new → AreRegisters old before → rs1 < 32 → rs2 < 32
    → IsMade old new (term_of before rs1 ∷ []) 32 (λ w. plus_offset (value_at w old (term_of before rs1)) offset) address.number
    → IsMade old new (term_of before rs1 ∷ []) 1 (λ w. bit_of (all_allow Write (opening_cells image) (plus_offset (value_at w old (term_of before rs1)) offset) (store_size op))) constraint.number
    → AreWritten (OccursInRegisters old before) new (store_size op) (λ w. value_at w old (term_of before rs2)) writes → IsConstantBit new true guard.number
    → IsPlainStep image p (instr.Store op rs1 rs2 offset) old new before before (writing p constraint address guard writes None)
store_step image p op rs1 rs2 offset old new before address constraint guard writes grows are inside inside2 at allowed written fixed pc link =
    step_by image p pc (instr.Store op rs1 rs2 offset) note.Nothing link old new before before (writing p constraint address guard writes None) allowed.term
    (λ width number there. inl (from_register old new before rs1 1 constraint.number _ inside allowed width number there))
    (λ w seen joined h.
    let local = seen.local in
    let stand = h.stand in
    let there = stand.values rs1 inside in
    let place : value_at w new address.number ≡ plus_offset (register local rs1) offset = at.value w ∙ ap (λ v. plus_offset v offset) there in
    let permitted : value_at w new constraint.number ≡ bit_of (all_writable (opening_cells image) (plus_offset (register local rs1) offset) (store_size op)) =
    allowed.value w ∙ ap (λ v. bit_of (all_allow Write (opening_cells image) (plus_offset v offset) (store_size op))) there
    ∙ ap bit_of (all_written (opening_cells image) (plus_offset (register local rs1) offset) (store_size op)) in
    works_same w new before (writing p constraint address guard writes None) (instr.Store op rs1 rs2 offset) note.Nothing local _ _ (store_outcome image w p op rs1 rs2 offset note.Nothing joined seen)
    (works_where w new before (writing p constraint address guard writes None) _ (instr.Store op rs1 rs2 offset) local (onward local)
    (all_writable (opening_cells image) (plus_offset (register local rs1) offset) (store_size op))
    (writes_of (plus_offset (register local rs1) offset) (bytes_of (store_size op) (register local rs2)) []) cause.StoreFault refl permitted
    (stands_on w new before local (stand_stays w old new before local grows are stand))
    (store_shows w new p op rs1 rs2 offset address guard writes local place (written.values w ∙ ap (bytes_of (store_size op)) (stand.values rs2 inside2)) (fixed.value w))))
    refl
    (record {
      pos = refl;
      link = refl;
      address = at.term;
      address_from = from_register old new before rs1 32 address.number _ inside at;
      guard = fixed.node;
      guard_bit = fixed.term;
      guard_from = λ width number there. absurd (of_constant new guard.number 1 1 fixed.node width number there);
      read_many = refl;
      reads = λ index h. absurd (omega (arith, h));
      write_many = written.many;
      writes = written.bytes;
      writes_from = λ k d h width number there. inl (written.variables k d h width number there);
    })
    (variables_stay (writing p constraint address guard writes None).access old new before grows are)
