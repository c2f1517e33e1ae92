use Rattle.std.proofs.Common.{Some}
use Rattle.recorder.specs.Seeded.{seeded, log_of_run}
use Rattle.odr_task.specs.declared.refusal.Stop.TheVariants as stop
use Rattle.odr_top.specs.Inputs.{GivesTape, RefusesTape}
use Rattle.odr_top.specs.Record.{recorded, record_owes}
use Rattle.odr_top.proofs.Reading.{reads_out, reads_stop, reads_later, reads_steady, reads_memory, reads_given, makes_prepared}
use Rattle.odr_top.proofs.Recording.{record_refused, record_tape_refused, record_owed}
use Rattle.odr_top.proofs.record.record.Goals as goal

pub returns-in_err-image : goal.returns-in_err-image
returns-in_err-image g c =
    reads_out _ _ c.in_err-image.field-0.0 c.from_residual.result _ _ _ _ c.from_residual.ensures.1
    (reads_stop _ _ _ _ _ _ _ _ _ (record_refused (g.F.Files.held c.args.files.now) c.args.elf.now c.args.options.seed c.args.options.limit c.args.options.input.now) c.in_err-image.ensures)

pub returns-in_err-tape : goal.returns-in_err-tape
returns-in_err-tape g c =
    let image = c.in_ok-image.ensures in
    reads_out _ _ c.in_err-tape.field-0.0 c.from_residual-in_err-tape.result _ _ _ _ c.from_residual-in_err-tape.ensures.1
    (reads_stop _ _ _ _ _ _ _ _ _
    (record_tape_refused (g.F.Files.held c.args.files.now) c.args.elf.now c.args.options.seed c.args.options.limit c.args.options.input.now c.in_ok-image.image image.given)
    (reads_later (λ m tape. GivesTape m c.args.options.input.now tape.items) (λ m. RefusesTape m c.args.options.input.now) _ _ _ _ _ _ _
    image.kept (reads_steady _ _ c.in_ok-image.image _ _ _ _ image) c.in_err-tape.ensures))

pub returns-in_err-done : goal.returns-in_err-done
returns-in_err-done g c =
    let image = c.in_ok-image.ensures in
    let later = reads_later (λ m tape. GivesTape m c.args.options.input.now tape.items) (λ m. RefusesTape m c.args.options.input.now) _ _ _ _ _ _ _
    image.kept (reads_steady _ _ c.in_ok-image.image _ _ _ _ image) c.in_ok-tape.ensures in
    reads_out _ _ stop.Memory c.from_residual-in_err-done.result _ _ _ _ c.from_residual-in_err-done.ensures.1
    (reads_memory _ _ _ _ _ _ later.kept (reads_steady _ _ c.in_ok-tape.tape _ _ _ _ later))

pub returns : goal.returns
returns g c =
    let image = c.in_ok-image.ensures in
    let later = reads_later (λ m tape. GivesTape m c.args.options.input.now tape.items) (λ m. RefusesTape m c.args.options.input.now) _ _ _ _ _ _ _
    image.kept (reads_steady _ _ c.in_ok-image.image _ _ _ _ image) c.in_ok-tape.ensures in
    reads_given _ _ _ _ c.in_ok-tape.tape c.in_ok-done.done _ _ _ _ later
    (makes_prepared (record_owes (g.F.Files.held c.args.files.now) c.args.elf.now c.args.options.seed c.args.options.limit c.args.options.input.now) (Some c.args.log.now)
    (recorded (log_of_run c.in_ok-image.image c.in_ok-tape.tape.items (seeded c.in_ok-image.image c.in_ok-tape.tape.items c.args.options.seed c.args.options.limit))) c.in_ok-done.done
    (record_owed (g.F.Files.held c.args.files.now) c.args.elf.now c.args.options.seed c.args.options.limit c.args.options.input.now c.in_ok-image.image c.in_ok-tape.tape.items image.given later.given)
    c.in_ok-done.ensures)
