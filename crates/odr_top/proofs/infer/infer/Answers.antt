use Rattle.std.proofs.Common.{Some}
use Rattle.odr_top.specs.Infer.{inference, infer_owes}
use Rattle.odr_top.proofs.Reading.{reads_out, reads_stop, reads_steady, works_reads}
use Rattle.odr_top.proofs.Inferring.{infer_refused, infer_owed}
use Rattle.odr_top.proofs.infer.infer.Goals as goal

pub returns-in_err-loaded : goal.returns-in_err-loaded
returns-in_err-loaded g c =
    reads_out _ _ c.in_err-loaded.field-0.0 c.from_residual.result _ _ _ _ c.from_residual.ensures.1
    (reads_stop _ _ _ _ _ _ _ _ _ (infer_refused (g.F.Files.held c.args.files.now) c.args.elf.now c.args.log.now) c.in_err-loaded.ensures.run)

pub returns : goal.returns
returns g c =
    let run = c.in_ok-loaded.ensures.run in
    works_reads (infer_owes (g.F.Files.held c.args.files.now) c.args.elf.now c.args.log.now) (Some c.args.out.now) (inference c.in_ok-loaded.loaded.image c.in_ok-loaded.loaded.log) c.inference.result _ _ _ _
    (infer_owed (g.F.Files.held c.args.files.now) c.args.elf.now c.args.log.now c.in_ok-loaded.loaded.image c.in_ok-loaded.loaded.log run.given) c.inference.ensures run.kept (reads_steady _ _ c.in_ok-loaded.loaded _ _ _ _ run)
