-- A load.
use Rattle.std.proofs.Common.{◌≡◌, ℕ, ◌^◌, ◌<◌, ◌≤◌, false, List, [], ◌∷◌, length, refl, ◌∙◌, ap, inl, inr, arith}
use Rattle.std.specs.Prelude.{ℤ, Some, None}
use Rattle.elf_image.specs.Layout.{Layout}
use Rattle.elf_image.specs.Memory.{all_readable, number_of, opening_cells, writes_of}
use Rattle.rv32_decode.specs.declared.instr.LoadOp.{LoadOp}
use Rattle.rv32_decode.specs.declared.instr.LoadOp.TheVariants as load
use Rattle.rv32_decode.specs.declared.instr.Instr.TheVariants as instr
use Rattle.odr_log.specs.declared.log.Cause.TheVariants as cause
use Rattle.odr_log.specs.declared.log.Pos.{Pos}
use Rattle.rv_model.specs.declared.state.Local.{Local}
use Rattle.rv_model.specs.declared.state.Note.TheVariants as note
use Rattle.rv_model.specs.declared.hearing.Outcome.TheVariants.{Goes}
use Rattle.rv_model.specs.Instruction.{access_of}
use Rattle.rv_model.specs.Thread.{onward, register, with_register}
use Rattle.rv_model.specs.Values.{extended, load_size, plus_offset}
use Rattle.bv_terms.specs.declared.node.TermId.{TermId}
use Rattle.bv_terms.specs.BitVectors.{bit_of}
use Rattle.bv_terms.specs.Shapes.{Shape}
use Rattle.bv_terms.specs.Values.{Assignment, value_at}
use Rattle.step_terms.specs.Made.{Grows, IsMade}
use Rattle.thread_terms.specs.declared.access.Access.{Access}
use Rattle.thread_terms.specs.declared.access.Stepped.{Stepped}
use Rattle.thread_terms.specs.Standing.{AreRegisters, Puts, term_of}
use Rattle.thread_terms.specs.Steps.{IsPlainStep, Shows}
use Rattle.thread_terms.proofs.Standing.{stand_stays}
use Rattle.access_terms.specs.declared.right.Right.TheVariants.{Read}
use Rattle.access_terms.specs.Rights.{all_allow}
use Rattle.access_terms.proofs.Allowing.{all_read}
use Rattle.access_terms.proofs.Outcomes.{given_bytes, load_outcome}
use Rattle.access_terms.proofs.Own.{AreRead, IsConstantBit, IsValueRead, byte_read, from_register, of_constant}
use Rattle.access_terms.proofs.Writing.{nothing_written}
use Rattle.access_terms.proofs.Works.{stands_put, step_by, variables_put, works_same, works_where}

-- the access and the constraint of a step that writes nothing
abbrev pub reading : Pos → TermId → TermId → TermId → List TermId → Stepped
reading p constraint address guard reads = record {
  constraint = constraint;
  access = Some (record { pos = p; address = address; guard = guard; reads = reads; writes = []; link = None });
}

-- at most four bytes
pub few_bytes : (op : LoadOp) → load_size op ≤ 2 ^ 8
few_bytes load.Lb = omega arith
few_bytes load.Lh = omega arith
few_bytes load.Lw = omega arith
few_bytes load.Lbu = omega arith
few_bytes load.Lhu = omega arith

load_shows : (w : Assignment) (new : List Shape) (p : Pos) (op : LoadOp) (rd rs1 : ℕ) (offset : ℤ) (address guard constraint : TermId) (reads : List TermId) (local next : Local)
    → value_at w new address.number ≡ plus_offset (register local rs1) offset → length reads ≡ load_size op → value_at w new guard.number ≡ 0
    → Shows w new (let a : Access = record { pos = p; address = address; guard = guard; reads = reads; writes = []; link = None } in a) (instr.Load op rd rs1 offset) local (Goes next [] note.Nothing)
unfolding access_of
load_shows w new p op rd rs1 offset address guard constraint reads local next at count unwritten = record {
  address = at;
  reads = count;
  writes = nothing_written (writes_of (value_at w new address.number) [] []) (value_at w new guard.number) unwritten;
}

pub load_step : (image : Layout) (p : Pos) (op : LoadOp) (rd rs1 : ℕ) (offset : ℤ) (old new : List Shape) (before after : List TermId) (address constraint guard : TermId) (value : ℕ) (reads : List TermId)
    → Grows old new → AreRegisters old before → rs1 < 32
    → IsMade old new (term_of before rs1 ∷ []) 32 (λ w. plus_offset (value_at w old (term_of before rs1)) offset) address.number
    → IsMade old new (term_of before rs1 ∷ []) 1 (λ w. bit_of (all_allow Read (opening_cells image) (plus_offset (value_at w old (term_of before rs1)) offset) (load_size op))) constraint.number
    → AreRead p new (load_size op) reads → IsValueRead p new (load_size op) 32 (λ bytes. extended op (number_of bytes)) value → IsConstantBit new false guard.number → Puts new before after rd value
    → IsPlainStep image p (instr.Load op rd rs1 offset) old new before after (reading p constraint address guard reads)
load_step image p op rd rs1 offset old new before after address constraint guard value reads grows are inside at allowed read is fixed puts pc link =
    step_by image p pc (instr.Load op rd rs1 offset) note.Nothing link old new before after (reading p constraint address guard reads) allowed.term
    (λ width number there. inl (from_register old new before rs1 1 constraint.number _ inside allowed width number there))
    (λ w seen joined h.
    let local = seen.local in
    let stand = h.stand in
    let there = stand.values rs1 inside in
    let place : value_at w new address.number ≡ plus_offset (register local rs1) offset = at.value w ∙ ap (λ v. plus_offset v offset) there in
    let permitted : value_at w new constraint.number ≡ bit_of (all_readable (opening_cells image) (plus_offset (register local rs1) offset) (load_size op)) =
    allowed.value w ∙ ap (λ v. bit_of (all_allow Read (opening_cells image) (plus_offset v offset) (load_size op))) there
    ∙ ap bit_of (all_read (opening_cells image) (plus_offset (register local rs1) offset) (load_size op)) in
    let number = extended op (number_of (given_bytes w p (load_size op))) in
    works_same w new after (reading p constraint address guard reads) (instr.Load op rd rs1 offset) note.Nothing local _ _ (load_outcome image w p op rd rs1 offset note.Nothing joined seen)
    (works_where w new after (reading p constraint address guard reads) _ (instr.Load op rd rs1 offset) local (onward (with_register local rd number))
    (all_readable (opening_cells image) (plus_offset (register local rs1) offset) (load_size op)) [] cause.LoadFault refl permitted
    (stands_put w new before after rd value number local puts (stand_stays w old new before local grows are stand) (is.value w))
    (load_shows w new p op rd rs1 offset address guard constraint reads local (onward (with_register local rd number)) place read.count (fixed.value w))))
    refl
    (record {
      pos = refl;
      link = refl;
      address = at.term;
      address_from = from_register old new before rs1 32 address.number _ inside at;
      guard = fixed.node;
      guard_bit = fixed.term;
      guard_from = λ width number there. absurd (of_constant new guard.number 1 0 fixed.node width number there);
      read_many = read.count;
      reads = read.variables;
      write_many = refl;
      writes = λ k d h. absurd (omega (arith, h));
      writes_from = λ k d h. absurd (omega (arith, h));
    })
    (variables_put (reading p constraint address guard reads).access old new before after rd value grows are puts
    (λ width number there. inr (inl (byte_read p new (load_size op) reads read width number (is.variables width number there)))))
