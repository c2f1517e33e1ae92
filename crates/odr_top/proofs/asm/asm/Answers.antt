use Rattle.std.proofs.Common.{Some}
use Rattle.odr_task.specs.declared.refusal.Stop.TheVariants as stop
use Rattle.odr_top.specs.Asm.{assembled, asm_owes}
use Rattle.odr_top.proofs.Reading.{reads_out, reads_stop, reads_steady, reads_memory, reads_given, makes_prepared}
use Rattle.odr_top.proofs.Assembling.{asm_refused, asm_owed}
use Rattle.odr_top.proofs.asm.asm.Goals as goal

pub returns-in_err-bytes : goal.returns-in_err-bytes
returns-in_err-bytes g c =
    reads_out _ _ c.in_err-bytes.field-0.0 c.from_residual.result _ _ _ _ c.from_residual.ensures.1
    (reads_stop _ _ _ _ _ _ _ _ _ (asm_refused (g.F.Files.held c.args.files.now) c.args.text.now) c.in_err-bytes.ensures)

pub returns-in_err-done : goal.returns-in_err-done
returns-in_err-done g c =
    reads_out _ _ stop.Memory c.from_residual-in_err-done.result _ _ _ _ c.from_residual-in_err-done.ensures.1
    (reads_memory _ _ _ _ _ _ c.in_ok-bytes.ensures.kept (reads_steady _ _ c.in_ok-bytes.bytes _ _ _ _ c.in_ok-bytes.ensures))

pub returns : goal.returns
returns g c =
    reads_given _ _ _ _ c.in_ok-bytes.bytes c.in_ok-done.done _ _ _ _ c.in_ok-bytes.ensures
    (makes_prepared (asm_owes (g.F.Files.held c.args.files.now) c.args.text.now) (Some c.args.elf.now) (assembled c.in_ok-bytes.bytes) c.in_ok-done.done
    (asm_owed (g.F.Files.held c.args.files.now) c.args.text.now c.in_ok-bytes.bytes c.in_ok-bytes.ensures.given) c.in_ok-done.ensures)
