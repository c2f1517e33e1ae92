use Rattle.std.proofs.Common.{◌∷◌, [], subst, sym, arith, List}
use Rattle.bv_terms.specs.BitVectors.{bit_of}
use Rattle.bv_terms.specs.Values.{value_at}
use Rattle.step_terms.specs.Made.{Grows, IsTerm}
use Rattle.step_terms.proofs.Making.{grows_on, later, stays}
use Rattle.thread_terms.proofs.Standing.{registers_stay}
use Rattle.access_terms.specs.Split.{AreLowBytes}
use Rattle.access_terms.proofs.Atomics.{conditional_step, outcome_stays, value_of_guard}
use Rattle.access_terms.specs.Rights.{may_use}
use Rattle.access_terms.proofs.Writing.{written_register}
use Rattle.rv32_decode.specs.declared.instr.Instr.TheVariants as instr
use Rattle.bv_terms.specs.declared.node.TermId.{TermId}
use Rattle.thread_terms.specs.Steps.{IsStep}
use Rattle.access_terms.proofs.Works.{whole_step}
use Rattle.rv_model.specs.declared.state.Note.TheVariants as note
use Rattle.access_terms.proofs.conditional.conditional.Goals as goal

pub usable-requires : goal.usable-requires
usable-requires g c = subst (λ n. IsTerm c.args.pool.now 32 n) (sym c.read-address.ensures) (c.requires.registers.words c.args.rs1 c.requires.rs1)

pub low_bytes-requires : goal.low_bytes-requires
low_bytes-requires g c =
    let old = c.args.pool.now in
    let one = c.usable.new.pool in
    let two = c.won.new.pool in
    record {
      word = stays old two 32 c.read-word.result.number (grows_on old one two c.usable.ensures.grows c.won.ensures.grows)
          (subst (λ n. IsTerm old 32 n) (sym c.read-word.ensures) (c.requires.registers.words c.args.rs2 c.requires.rs2));
      few = omega arith;
    }

pub put-requires : goal.put-requires
put-requires g c =
    let old = c.args.pool.now in
    let new = c.failure.new.pool in
    let grows : Grows old new = grows_on old c.usable.new.pool new c.usable.ensures.grows
    (grows_on c.usable.new.pool c.won.new.pool new c.won.ensures.grows (grows_on c.won.new.pool c.low_bytes.new.pool new c.low_bytes.ensures.grows c.failure.ensures.grows)) in
    record {
      registers = registers_stay old new c.args.registers.now grows c.requires.registers;
      rd = c.requires.rd;
      term = c.in_ok-value.ensures.made.term;
    }

pub returns-clause-step : goal.returns-clause-step
returns-clause-step g c = λ pc.
    let old = c.args.pool.now in
    let one = c.usable.new.pool in
    let two = c.won.new.pool in
    let three = c.low_bytes.new.pool in
    let new = c.failure.new.pool in
    let before = c.args.registers.now in
    let pos = c.args.pos in
    let link = c.args.link in
    let image = c.args.image.now in
    let a = c.read-address.result in
    let k = c.in_ok-constraint.constraint in
    let o = c.in_ok-guard.guard in
    let v = c.in_ok-value.value.number in
    let writes = c.in_ok-writes.writes in
    let after_two = grows_on two three new c.low_bytes.ensures.grows c.failure.ensures.grows in
    let after_one = grows_on one two new c.won.ensures.grows after_two in
    let grows = grows_on old one new c.usable.ensures.grows after_one in
    let low = subst (λ n. AreLowBytes two three n 4 writes) c.read-word.ensures c.in_ok-writes.ensures.split in
    subst (λ (l : List TermId). IsStep image pos pc (instr.StoreConditional c.args.rd c.args.rs1 c.args.rs2 c.args.aq c.args.rl) note.Nothing link old new before c.put.new.registers (whole_step pos k a o l writes link)) (sym c.new.ensures)
    (conditional_step image pos pc c.args.rd c.args.rs1 c.args.rs2 c.args.aq c.args.rl link old new before c.put.new.registers a k o v writes grows c.requires.registers c.requires.rs1 c.requires.rs2 c.read-address.ensures
    (later old one new (a.number ∷ []) 1 (λ w. bit_of (may_use image (value_at w old a.number))) k.number after_one c.in_ok-constraint.ensures.made)
    (outcome_stays pos two new link o.number after_two c.in_ok-guard.ensures.outcome)
    (written_register old two three new before c.args.rs2 4 writes (grows_on old one two c.usable.ensures.grows c.won.ensures.grows) c.failure.ensures.grows c.requires.registers c.requires.rs2 low)
    (value_of_guard pos two three new link o.number v c.low_bytes.ensures.grows c.failure.ensures.grows c.in_ok-guard.ensures.outcome c.in_ok-value.ensures.made) c.put.ensures.puts)

pub returns-clause-grows : goal.returns-clause-grows
returns-clause-grows g c =
    grows_on c.args.pool.now c.usable.new.pool c.failure.new.pool c.usable.ensures.grows
    (grows_on c.usable.new.pool c.won.new.pool c.failure.new.pool c.won.ensures.grows
    (grows_on c.won.new.pool c.low_bytes.new.pool c.failure.new.pool c.low_bytes.ensures.grows
    c.failure.ensures.grows))
