-- A guest call that waits, by its arguments and by the machine that makes it.
use Rattle.std.specs.Prelude.{◌≡◌, ◌≢◌, ℕ, Bool, false, Option, None, Result, Ok, Err, refl}
use Rattle.std.proofs.Common.{sym, ap, ◌∙◌}
use Rattle.elf_image.specs.Memory.{Cells}
use Rattle.odr_log.specs.declared.log.Cause.{Cause}
use Rattle.rv32_decode.specs.declared.instr.Instr.{Instr}
use Rattle.rv32_decode.specs.declared.instr.Instr.TheVariants as instr
use Rattle.rv_model.specs.declared.state.Local.{Local}
use Rattle.rv_model.specs.declared.hearing.Reach.{Reach}
use Rattle.rv_model.specs.declared.hearing.Asked.{Asked}
use Rattle.rv_model.specs.Calls.{asked_of, waits}
use Rattle.rv_model.specs.Instruction.{asked_at, asked_by, access_at, access_of, buffer_of}
use Rattle.rv_model.specs.Step.{reach_of, reach_at, next_instr, thread_at}
use Rattle.guest_mem.specs.Blocks.{cells_of}
use Rattle.guest_calls.specs.Table.{kind_met, args_of}
use Rattle.guest_machine.specs.declared.wait.Wait.{Wait}
use Rattle.guest_machine.specs.declared.wait.Wait.TheVariants as wait
use Rattle.guest_machine.specs.Waiting.{held_up}
use Rattle.guest_machine.specs.Whole.{Whole}

-- what is said of a call, whatever its buffer meets, is said of the call that the thread makes
asked_there : {T : Type 0} (f : Option Asked → T) (cells : Cells) (local : Local) (found : Result Instr Cause) (result : T) → found ≡ Ok instr.Ecall
    → ((reach : Reach) → result ≡ f (asked_of (kind_met (args_of local) reach)))
    → result ≡ f (asked_at local found (reach_of cells (access_at local found)))
unfolding asked_by access_of
asked_there f cells local found result is tells =
    tells (reach_of cells (buffer_of local)) ∙ ap (λ (there : Result Instr Cause). f (asked_at local there (reach_of cells (access_at local there)))) (sym is)

pub blocked_there : (whole : Whole) (tid : ℕ) (blocked : Bool) → next_instr whole.image whole.core tid ≡ Ok instr.Ecall
    → ((reach : Reach) → blocked ≡ waits whole.core.calls tid (asked_of (kind_met (args_of (thread_at whole.core tid).local) reach)))
    → blocked ≡ waits whole.core.calls tid
    (asked_at (thread_at whole.core tid).local (next_instr whole.image whole.core tid) (reach_at whole.image (cells_of whole.blocks) whole.core tid))
blocked_there whole tid blocked is tells =
    asked_there (waits whole.core.calls tid) (cells_of whole.blocks) (thread_at whole.core tid).local (next_instr whole.image whole.core tid) blocked is tells

pub held_up_there : (whole : Whole) (tid : ℕ) (result : Wait) → next_instr whole.image whole.core tid ≡ Ok instr.Ecall
    → ((reach : Reach) → result ≡ held_up whole.core.calls tid (asked_of (kind_met (args_of (thread_at whole.core tid).local) reach)))
    → result ≡ held_up whole.core.calls tid
    (asked_at (thread_at whole.core tid).local (next_instr whole.image whole.core tid) (reach_at whole.image (cells_of whole.blocks) whole.core tid))
held_up_there whole tid result is tells =
    asked_there (held_up whole.core.calls tid) (cells_of whole.blocks) (thread_at whole.core tid).local (next_instr whole.image whole.core tid) result is tells

-- what is no guest call waits for nothing
not_asked : (local : Local) (found : Result Instr Cause) (reach : Reach) → found ≢ Ok instr.Ecall → asked_at local found reach ≡ None
unfolding asked_by
not_asked local (Err fault) reach other = refl
not_asked local (Ok instr.Ecall) reach other = absurd (other refl)
not_asked local (Ok instruction) reach other = refl

pub free_there : (whole : Whole) (tid : ℕ) → next_instr whole.image whole.core tid ≢ Ok instr.Ecall
    → false ≡ waits whole.core.calls tid
    (asked_at (thread_at whole.core tid).local (next_instr whole.image whole.core tid) (reach_at whole.image (cells_of whole.blocks) whole.core tid))
free_there whole tid other =
    sym (ap (λ (asked : Option Asked). waits whole.core.calls tid asked)
    (not_asked (thread_at whole.core tid).local (next_instr whole.image whole.core tid) (reach_at whole.image (cells_of whole.blocks) whole.core tid) other))

pub ready_there : (whole : Whole) (tid : ℕ) → next_instr whole.image whole.core tid ≢ Ok instr.Ecall
    → wait.Ready ≡ held_up whole.core.calls tid
    (asked_at (thread_at whole.core tid).local (next_instr whole.image whole.core tid) (reach_at whole.image (cells_of whole.blocks) whole.core tid))
ready_there whole tid other =
    sym (ap (λ (asked : Option Asked). held_up whole.core.calls tid asked)
    (not_asked (thread_at whole.core tid).local (next_instr whole.image whole.core tid) (reach_at whole.image (cells_of whole.blocks) whole.core tid) other))
