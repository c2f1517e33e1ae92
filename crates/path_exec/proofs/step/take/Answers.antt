use Rattle.std.proofs.Common.{◌≡◌, true, refl, subst}
use Rattle.std.specs.Prelude.{is_some}
use Rattle.std.proofs.lemmas.Result.{IfOk-weaker}
use Rattle.rv_model.specs.declared.state.Note.{Note}
use Rattle.rv_model.specs.Walk.{goes_to, transfer_of}
use Rattle.path_exec.proofs.Takes.{called_taken, ecall_of, next_taken, not_ecall}
use Rattle.path_exec.proofs.step.take.Goals as goal

pub next-requires : goal.next-requires
next-requires g c = record {
  registers = c.requires.registers;
  thread = c.requires.thread;
  step = c.requires.step;
  valid = c.requires.valid;
  no_call = not_ecall c.args.place.now.pc c.args.place.now.instr c.args.shown.now c.in_default.not-Called c.requires.leads;
  leads = c.requires.leads;
}

pub returns-in-Called-clause-taken : goal.returns-in-Called-clause-taken
returns-in-Called-clause-taken g c =
    let place = c.args.place.now in
    let leads = subst (λ (n : Note). is_some (goes_to place.pc (transfer_of place.pc place.instr) n) ≡ true) c.in-Called.is c.requires.leads in
    let ecall = ecall_of place.pc place.instr c.in-Called.made leads in
    IfOk-weaker c.call.result _ _
    (λ stepped step. called_taken c.args.image.now c.args.pos place c.in-Called.made c.args.shown.now c.args.walker.now c.args.pool.now c.call.new.pool c.call.new.registers c.args.joined stepped c.in-Called.is ecall step)
    c.call.ensures.step

pub returns-in_default : goal.returns-in_default
returns-in_default g c = record {
  taken = IfOk-weaker c.next.result _ _
      (λ stepped step. next_taken c.args.image.now c.args.pos c.args.place.now c.args.shown.now c.args.walker.now c.args.pool.now c.next.new.pool c.next.new.registers c.args.joined stepped step)
      c.next.ensures.step;
  registers = c.next.ensures.registers;
  link = refl;
  grows = c.next.ensures.grows;
}
