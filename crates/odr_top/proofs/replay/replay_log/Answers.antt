use Rattle.std.proofs.Common.{None}
use Rattle.rv_model.specs.Run.{first_diff}
use Rattle.odr_task.specs.Files.{Gives, Refuses}
use Rattle.odr_top.specs.Inputs.{IsScheduleFile, NoScheduleFile}
use Rattle.odr_top.specs.Replay.{by_replay, replay_owes}
use Rattle.odr_top.proofs.Reading.{reads_out, reads_stop, reads_later, reads_steady, works_reads}
use Rattle.odr_top.proofs.Replaying.{replay_refused, replay_text_refused, replay_owed}
use Rattle.odr_top.proofs.replay.replay_log.Goals as goal

pub returns-in_err-loaded : goal.returns-in_err-loaded
returns-in_err-loaded g c =
    reads_out _ _ c.in_err-loaded.field-0.0 c.from_residual.result _ _ _ _ c.from_residual.ensures.1
    (reads_stop _ _ _ _ _ _ _ _ _ (replay_refused (g.F.Files.held c.args.files.now) c.args.elf.now c.args.log.now c.args.sched.now) c.in_err-loaded.ensures.run)

pub returns-in_err-schedule : goal.returns-in_err-schedule
returns-in_err-schedule g c =
    let run = c.in_ok-loaded.ensures.run in
    reads_out _ _ c.in_err-schedule.field-0.0 c.from_residual-in_err-schedule.result _ _ _ _ c.from_residual-in_err-schedule.ensures.1
    (reads_stop _ _ _ _ _ _ _ _ _ (replay_text_refused (g.F.Files.held c.args.files.now) c.args.elf.now c.args.log.now c.args.sched.now c.in_ok-loaded.loaded.image c.in_ok-loaded.loaded.log run.given)
    (reads_later (λ m. Gives IsScheduleFile m c.args.sched.now) (λ m. Refuses NoScheduleFile m c.args.sched.now) _ _ _ _ _ _ _ run.kept (reads_steady _ _ c.in_ok-loaded.loaded _ _ _ _ run) c.in_err-schedule.ensures))

pub returns : goal.returns
returns g c =
    let run = c.in_ok-loaded.ensures.run in
    let text = reads_later (λ m. Gives IsScheduleFile m c.args.sched.now) (λ m. Refuses NoScheduleFile m c.args.sched.now) _ _ _ _ _ _ _ run.kept (reads_steady _ _ c.in_ok-loaded.loaded _ _ _ _ run) c.in_ok-schedule.ensures in
    works_reads (replay_owes (g.F.Files.held c.args.files.now) c.args.elf.now c.args.log.now c.args.sched.now) None
    (by_replay c.in_ok-loaded.loaded.log (first_diff c.in_ok-loaded.loaded.image c.in_ok-loaded.loaded.log c.in_ok-schedule.schedule)) c.output_of.result _ _ _ _
    (replay_owed (g.F.Files.held c.args.files.now) c.args.elf.now c.args.log.now c.args.sched.now c.in_ok-loaded.loaded.image c.in_ok-loaded.loaded.log c.in_ok-schedule.schedule run.given text.given)
    c.output_of.ensures text.kept (reads_steady _ _ c.in_ok-schedule.schedule _ _ _ _ text)
