use Rattle.std.proofs.Common.{◌-◌, ◌*◌, ◌/◌, ◌∷◌, [], subst, rules, w32, SFits}
use Rattle.std.specs.Prelude.{ℤ}
use Rattle.std.proofs.lemmas.Int.{to_z-of_z}
use Rattle.std.proofs.lemmas.Result.{IfOk-weaker}
use Rattle.elf_image.specs.Memory.{opening_cells}
use Rattle.rv32_decode.specs.Valid.{IsValid}
use Rattle.rv32_decode.specs.declared.instr.Instr.{Instr}
use Rattle.rv_model.specs.Instruction.{is_aligned}
use Rattle.rv_model.specs.Values.{plus_offset}
use Rattle.bv_terms.specs.BitVectors.{bit_of}
use Rattle.bv_terms.specs.Values.{value_at}
use Rattle.step_terms.specs.Made.{IsMade}
use Rattle.thread_terms.specs.Standing.{term_of}
use Rattle.access_terms.specs.declared.right.Right.TheVariants.{Read, Write}
use Rattle.access_terms.specs.Rights.{all_allow}
use Rattle.access_terms.proofs.Faulting.{amo_at, branch_at, conditional_at, fixed_faults, is_fixed, jalr_at, load_at, reserve_at, store_at}
use Rattle.access_terms.proofs.fault.fault.Goals as goal

pub returns-in-Load-clause-fault : goal.returns-in-Load-clause-fault
returns-in-Load-clause-fault g c =
    let old = c.args.pool.now in
    let new = c.lacks_right.new.pool in
    let place = c.args.place.now in
    let x = term_of c.args.registers.now c.in-Load.rs1 in
    let cells = opening_cells c.args.image.now in
    let valid = subst (λ (i : Instr). IsValid i) c.in-Load.is c.requires.valid in
    let offset = c.in-Load.offset in
    let fits : SFits w32 offset = search rules in
    IfOk-weaker c.lacks_right.result _ _
    (λ id h. load_at c.args.image.now place.pc place.instr c.in-Load.op c.in-Load.rd c.in-Load.rs1 c.in-Load.offset c.args.cause old new c.args.registers.now id.number c.in-Load.is c.requires.fits valid.1
    (subst (λ n. IsMade old new (x ∷ []) 1 (λ w. 1 - bit_of (all_allow Read cells (plus_offset (value_at w old x) offset) n)) id.number) c.load_size.ensures
    (subst (λ (z : ℤ). IsMade old new (x ∷ []) 1 (λ w. 1 - bit_of (all_allow Read cells (plus_offset (value_at w old x) z) c.load_size.result)) id.number) (to_z-of_z w32 offset fits) h))) c.lacks_right.ensures.made

pub returns-in-Store-clause-fault : goal.returns-in-Store-clause-fault
returns-in-Store-clause-fault g c =
    let old = c.args.pool.now in
    let new = c.lacks_right-in-Store.new.pool in
    let place = c.args.place.now in
    let x = term_of c.args.registers.now c.in-Store.rs1 in
    let cells = opening_cells c.args.image.now in
    let valid = subst (λ (i : Instr). IsValid i) c.in-Store.is c.requires.valid in
    let offset = c.in-Store.offset in
    let fits : SFits w32 offset = search rules in
    IfOk-weaker c.lacks_right-in-Store.result _ _
    (λ id h. store_at c.args.image.now place.pc place.instr c.in-Store.op c.in-Store.rs1 c.in-Store.rs2 c.in-Store.offset c.args.cause old new c.args.registers.now id.number c.in-Store.is c.requires.fits valid.0
    (subst (λ n. IsMade old new (x ∷ []) 1 (λ w. 1 - bit_of (all_allow Write cells (plus_offset (value_at w old x) offset) n)) id.number) c.store_size.ensures
    (subst (λ (z : ℤ). IsMade old new (x ∷ []) 1 (λ w. 1 - bit_of (all_allow Write cells (plus_offset (value_at w old x) z) c.store_size.result)) id.number) (to_z-of_z w32 offset fits) h))) c.lacks_right-in-Store.ensures.made

pub returns-in-LoadReserved-clause-fault : goal.returns-in-LoadReserved-clause-fault
returns-in-LoadReserved-clause-fault g c =
    let place = c.args.place.now in
    let valid = subst (λ (i : Instr). IsValid i) c.in-LoadReserved.is c.requires.valid in
    IfOk-weaker c.unusable.result _ _
    (λ id h. reserve_at c.args.image.now place.pc place.instr c.in-LoadReserved.rd c.in-LoadReserved.rs1 c.in-LoadReserved.aq c.in-LoadReserved.rl c.args.cause c.args.pool.now c.unusable.new.pool c.args.registers.now id.number
    c.in-LoadReserved.is c.requires.fits valid.1 h) c.unusable.ensures.made

pub returns-in-StoreConditional-clause-fault : goal.returns-in-StoreConditional-clause-fault
returns-in-StoreConditional-clause-fault g c =
    let place = c.args.place.now in
    let valid = subst (λ (i : Instr). IsValid i) c.in-StoreConditional.is c.requires.valid in
    IfOk-weaker c.unusable-in-StoreConditional.result _ _
    (λ id h. conditional_at c.args.image.now place.pc place.instr c.in-StoreConditional.rd c.in-StoreConditional.rs1 c.in-StoreConditional.rs2 c.in-StoreConditional.aq c.in-StoreConditional.rl c.args.cause c.args.pool.now
    c.unusable-in-StoreConditional.new.pool c.args.registers.now id.number c.in-StoreConditional.is c.requires.fits valid.1 h) c.unusable-in-StoreConditional.ensures.made

pub returns-in-Amo-clause-fault : goal.returns-in-Amo-clause-fault
returns-in-Amo-clause-fault g c =
    let place = c.args.place.now in
    let valid = subst (λ (i : Instr). IsValid i) c.in-Amo.is c.requires.valid in
    IfOk-weaker c.unusable-in-Amo.result _ _
    (λ id h. amo_at c.args.image.now place.pc place.instr c.in-Amo.op c.in-Amo.rd c.in-Amo.rs1 c.in-Amo.rs2 c.in-Amo.aq c.in-Amo.rl c.args.cause c.args.pool.now c.unusable-in-Amo.new.pool c.args.registers.now id.number
    c.in-Amo.is c.requires.fits valid.1 h) c.unusable-in-Amo.ensures.made

pub returns-in-Jalr-clause-fault : goal.returns-in-Jalr-clause-fault
returns-in-Jalr-clause-fault g c =
    let place = c.args.place.now in
    let valid = subst (λ (i : Instr). IsValid i) c.in-Jalr.is c.requires.valid in
    let offset = c.in-Jalr.offset in
    let fits : SFits w32 offset = search rules in
    let old = c.args.pool.now in
    let new = c.misses.new.pool in
    let x = term_of c.args.registers.now c.in-Jalr.rs1 in
    IfOk-weaker c.misses.result _ _
    (λ id h. jalr_at c.args.image.now place.pc place.instr c.in-Jalr.rd c.in-Jalr.rs1 c.in-Jalr.offset c.args.cause c.args.pool.now c.misses.new.pool c.args.registers.now id.number c.in-Jalr.is c.requires.fits valid.1
    (subst (λ (z : ℤ). IsMade old new (x ∷ []) 1 (λ w. 1 - bit_of (is_aligned (plus_offset (value_at w old x) z / 2 * 2))) id.number) (to_z-of_z w32 offset fits) h)) c.misses.ensures.made

pub returns-in-Branch-clause-fault : goal.returns-in-Branch-clause-fault
returns-in-Branch-clause-fault g c =
    let place = c.args.place.now in
    IfOk-weaker c.branch-pool.result _ _
    (λ id h. branch_at c.args.image.now place.pc place.instr c.in-Branch.op c.in-Branch.rs1 c.in-Branch.rs2 c.in-Branch.offset c.args.cause c.args.pool.now c.branch-pool.new.pool c.args.registers.now id.number c.in-Branch.is c.requires.fits h) c.branch-pool.ensures.says

pub returns-in_default : goal.returns-in_default
returns-in_default g c = record {
  fault = IfOk-weaker c.constant_bit.result _ _
      (λ id h p link. fixed_faults c.args.image.now p c.args.place.now.pc c.args.place.now.instr c.args.cause link c.args.pool.now c.constant_bit.new.pool c.args.registers.now id.number
      (is_fixed c.args.place.now.instr c.in_default.not-Load c.in_default.not-Store c.in_default.not-LoadReserved c.in_default.not-StoreConditional c.in_default.not-Amo c.in_default.not-Jalr c.in_default.not-Branch)
      c.requires.fits h) c.constant_bit.ensures.made;
  grows = c.constant_bit.ensures.grows;
}
