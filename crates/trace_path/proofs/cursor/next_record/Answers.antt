use Rattle.std.proofs.Common.{refl, sym, ◌∙◌, ap, arith, ◌<◌, length}
use Rattle.odr_log.specs.declared.log.CallRec.{CallRec}
use Rattle.std.proofs.lemmas.Option.{slice_get_read}
use Rattle.trace_path.proofs.ToldLemmas.{record_here}
use Rattle.trace_path.proofs.cursor.next_record.Goals as goal

pub returns-then-from-thread-clause-some : goal.returns-then-from-thread-clause-some
returns-then-from-thread-clause-some c =
    let within : c.loop-at.at < length c.args.records.now = omega arith in (
      c.index-records-at.result,
      slice_get_read c.args.records.now (length c.args.records.now) c.loop-at.at c.index-records-at.result refl within c.index-records-at.is,
      sym c.loop-at.invariant ∙ record_here c.args.records.now c.args.thread c.loop-at.at c.index-records-at.result within c.index-records-at.is
          (ap (λ (r : CallRec). r.tid) c.index-records-at.is ∙ (omega arith)),
    )
