use Rattle.std.proofs.Common.{◌∙◌, ap, Err, rules}
use Rattle.odr_task.specs.Refusals.{reason_of}
use Rattle.odr_task.specs.Verdict.{Refused}
use Rattle.odr_task.proofs.Loading.{turns_too_long}
use Rattle.odr_task.proofs.load.load.Goals as goal

pub returns-in-Err-TooLong : goal.returns-in-Err-TooLong
returns-in-Err-TooLong g c =
    let turns = turns_too_long (g.F.Files.held c.args.files.now) c.args.name.now c.args.limit (Refused (reason_of c.args.too_long)) (c.load.ensures.too_long (c.in-Err-TooLong.is ∙ ap Err c.in-Err-TooLong.field-0-is)) in
    record { given = tt; refused = turns; kept = search rules; failed = search rules; steady = search rules }
