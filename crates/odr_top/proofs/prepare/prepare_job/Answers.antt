use Rattle.std.proofs.Common.{◌≡◌}
use Rattle.odr_words.specs.declared.job.Job.TheVariants as job
use Rattle.odr_top.proofs.Promise.{reads_job}
use Rattle.odr_top.proofs.prepare.prepare_job.Goals as goal

pub returns-in-Replay-clause-reads : goal.returns-in-Replay-clause-reads
returns-in-Replay-clause-reads g c =
    let is : c.args.job.now ≡ job.Replay c.as_str-in-Replay.result.now c.as_str-in-Replay-2.result.now c.as_str-in-Replay-3.result.now =
    cc (c.in-Replay.is, c.as_str-in-Replay.ensures, c.as_str-in-Replay-2.ensures, c.as_str-in-Replay-3.ensures) in
    reads_job c.args.job.now (job.Replay c.as_str-in-Replay.result.now c.as_str-in-Replay-2.result.now c.as_str-in-Replay-3.result.now) c.replay_log.result
    (g.F.Files.held c.args.files.now) (g.F.Files.held c.replay_log.new.files) (g.F.Files.faults c.args.files.now) (g.F.Files.faults c.replay_log.new.files) is c.replay_log.ensures
