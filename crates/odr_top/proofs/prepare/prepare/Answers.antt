use Rattle.std.proofs.Common.{◌≡◌, refl, rules}
use Rattle.odr_top.specs.Owes.{job_in}
use Rattle.odr_top.proofs.Promise.{worked_job, worked_bad, worked_memory}
use Rattle.odr_top.proofs.prepare.prepare.Goals as goal

pub returns-in-Ok : goal.returns-in-Ok
returns-in-Ok g c =
    worked_job (job_in c.args.words.now) c.args.job.now c.in-Ok.job c.prepare_job.result (c.prepare_job.new.files ≡ c.args.files.now) (g.F.Files.held c.args.files.now)
    (g.F.Files.held c.prepare_job.new.files) (g.F.Files.faults c.args.files.now) (g.F.Files.faults c.prepare_job.new.files) c.in-Ok.is c.requires c.prepare_job.ensures.reads
    c.prepare_job.ensures.not_built

pub returns-in-Err-Bad : goal.returns-in-Err-Bad
returns-in-Err-Bad g c =
    worked_bad (job_in c.args.words.now) c.args.job.now (c.args.files.now ≡ c.args.files.now) (g.F.Files.held c.args.files.now) (g.F.Files.faults c.args.files.now)
    (search (rules, c.in-Err-Bad.is)) c.requires refl

pub returns-in-Err-Memory : goal.returns-in-Err-Memory
returns-in-Err-Memory g c =
    worked_memory (job_in c.args.words.now) (c.args.files.now ≡ c.args.files.now) (g.F.Files.held c.args.files.now) (g.F.Files.faults c.args.files.now) refl
