use Rattle.std.proofs.Common.{inl, inr}
use Rattle.odr_task.specs.Files.{Gives, Refuses}
use Rattle.odr_top.specs.Inputs.{IsRecording, NoRecording}
use Rattle.odr_top.proofs.Reading.{reads_out, reads_stop, reads_given, reads_later, reads_steady}
use Rattle.odr_top.proofs.load.load_run.Goals as goal

pub returns-in_err-image-clause-run : goal.returns-in_err-image-clause-run
returns-in_err-image-clause-run g c =
    reads_out _ _ c.in_err-image.field-0.0 c.from_residual.result _ _ _ _ c.from_residual.ensures.1 (reads_stop _ _ _ _ _ _ _ _ _ (λ v refused. inl refused) c.in_err-image.ensures)

pub returns-in_err-log-clause-run : goal.returns-in_err-log-clause-run
returns-in_err-log-clause-run g c =
    let steady = reads_steady _ _ c.in_ok-image.image _ _ _ _ c.in_ok-image.ensures in
    reads_out _ _ c.in_err-log.field-0.0 c.from_residual-in_err-log.result _ _ _ _ c.from_residual-in_err-log.ensures.1
    (reads_stop _ _ _ _ _ _ _ _ _ (λ v refused. inr (c.in_ok-image.image, c.in_ok-image.ensures.given, refused))
    (reads_later (λ m. Gives IsRecording m c.args.log.now) (λ m. Refuses NoRecording m c.args.log.now) _ _ _ _ _ _ _ c.in_ok-image.ensures.kept steady c.in_err-log.ensures))

pub returns-clause-run : goal.returns-clause-run
returns-clause-run g c =
    let steady = reads_steady _ _ c.in_ok-image.image _ _ _ _ c.in_ok-image.ensures in
    let later = reads_later (λ m. Gives IsRecording m c.args.log.now) (λ m. Refuses NoRecording m c.args.log.now) _ _ _ _ _ _ _ c.in_ok-image.ensures.kept steady c.in_ok-log.ensures in
    reads_given _ _ _ _ c.in_ok-log.log _ _ _ _ _ later (record { program = c.in_ok-image.ensures.given; recording = later.given })

pub returns-clause-valid : goal.returns-clause-valid
returns-clause-valid g c = c.in_ok-log.ensures.given.is.is_log.0
