use Rattle.std.proofs.Common.{subst, rules, w32, SFits}
use Rattle.std.specs.Prelude.{ℤ, IfOk}
use Rattle.std.proofs.lemmas.Int.{to_z-of_z}
use Rattle.thread_terms.specs.Steps.{IsPlainStep}
use Rattle.std.proofs.lemmas.Result.{IfOk-weaker}
use Rattle.rv32_decode.specs.declared.instr.Instr.TheVariants as instr
use Rattle.access_terms.proofs.Nexting.{amo_next, conditional_next, load_next, next_linked, next_plain, reserve_next, store_next}
use Rattle.access_terms.proofs.next.next.Goals as goal

pub returns-in-Load-clause-step : goal.returns-in-Load-clause-step
returns-in-Load-clause-step g c =
    let a = c.in-Load in
    let fits : SFits w32 c.in-Load.offset = search rules in
    let place = c.args.place.now in
    next_plain c.args.image.now c.args.pos place.pc place.instr (instr.Load a.op a.rd a.rs1 a.offset) c.args.shown.now c.args.link c.args.pool.now c.load.new.pool c.args.registers.now c.load.new.registers c.load.result
    a.is (load_next place.pc a.op a.rd a.rs1 a.offset) c.requires.leads
    (subst (λ (z : ℤ). IfOk c.load.result (IsPlainStep c.args.image.now c.args.pos (instr.Load a.op a.rd a.rs1 z) c.args.pool.now c.load.new.pool c.args.registers.now c.load.new.registers)) (to_z-of_z w32 a.offset fits) c.load.ensures.step)

pub returns-in-Store-clause-step : goal.returns-in-Store-clause-step
returns-in-Store-clause-step g c =
    let a = c.in-Store in
    let fits : SFits w32 c.in-Store.offset = search rules in
    let place = c.args.place.now in
    next_plain c.args.image.now c.args.pos place.pc place.instr (instr.Store a.op a.rs1 a.rs2 a.offset) c.args.shown.now c.args.link c.args.pool.now c.store.new.pool c.args.registers.now c.args.registers.now c.store.result
    a.is (store_next place.pc a.op a.rs1 a.rs2 a.offset) c.requires.leads
    (subst (λ (z : ℤ). IfOk c.store.result (IsPlainStep c.args.image.now c.args.pos (instr.Store a.op a.rs1 a.rs2 z) c.args.pool.now c.store.new.pool c.args.registers.now c.args.registers.now)) (to_z-of_z w32 a.offset fits) c.store.ensures.step)

pub returns-in-LoadReserved-clause-step : goal.returns-in-LoadReserved-clause-step
returns-in-LoadReserved-clause-step g c =
    let a = c.in-LoadReserved in
    let place = c.args.place.now in
    next_plain c.args.image.now c.args.pos place.pc place.instr (instr.LoadReserved a.rd a.rs1 a.aq a.rl) c.args.shown.now c.args.link c.args.pool.now c.reserve.new.pool c.args.registers.now c.reserve.new.registers c.reserve.result
    a.is (reserve_next place.pc a.rd a.rs1 a.aq a.rl) c.requires.leads c.reserve.ensures.step

pub returns-in-StoreConditional-clause-step : goal.returns-in-StoreConditional-clause-step
returns-in-StoreConditional-clause-step g c =
    let a = c.in-StoreConditional in
    let place = c.args.place.now in
    next_linked c.args.image.now c.args.pos place.pc place.instr (instr.StoreConditional a.rd a.rs1 a.rs2 a.aq a.rl) c.args.shown.now c.args.link c.args.pool.now c.conditional.new.pool c.args.registers.now c.conditional.new.registers
    c.conditional.result a.is (conditional_next place.pc a.rd a.rs1 a.rs2 a.aq a.rl) c.requires.leads c.conditional.ensures.step

pub returns-in-Amo-clause-step : goal.returns-in-Amo-clause-step
returns-in-Amo-clause-step g c =
    let a = c.in-Amo in
    let place = c.args.place.now in
    next_plain c.args.image.now c.args.pos place.pc place.instr (instr.Amo a.op a.rd a.rs1 a.rs2 a.aq a.rl) c.args.shown.now c.args.link c.args.pool.now c.amo.new.pool c.args.registers.now c.amo.new.registers c.amo.result
    a.is (amo_next place.pc a.op a.rd a.rs1 a.rs2 a.aq a.rl) c.requires.leads c.amo.ensures.step

pub returns-in_default : goal.returns-in_default
returns-in_default g c = record {
  step = IfOk-weaker c.alone.result _ _ (λ stepped h. h c.args.image.now c.args.pos c.args.link) c.alone.ensures.step;
  registers = c.alone.ensures.registers;
  grows = c.alone.ensures.grows;
}
