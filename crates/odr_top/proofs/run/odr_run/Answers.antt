use Rattle.std.proofs.Common.{◌≡◌, ◌∙◌, ap, refl}
use Rattle.odr_top.specs.Owes.{OwesWords, saved_name, job_in}
use Rattle.odr_top.proofs.OneReading.{Laws}
use Rattle.odr_top.proofs.Promise.{is_reading, not_cut, promise, headlines, completes, bad_words, unbuilt, no_job}
use Rattle.odr_top.proofs.run.odr_run.Goals as goal

pub prepare-prepared-requires : goal.prepare-prepared-requires
prepare-prepared-requires g c = is_reading (job_in c.args.words.now) c.read_words-job.result c.read_words-job.ensures.job c.read_words-job.ensures.limits c.read_words-job.ensures.bad

pub settle-requires : goal.settle-requires
settle-requires g c =
    not_cut (OwesWords (g.F.Files.held c.args.files.now) (job_in c.args.words.now)) (saved_name (job_in c.args.words.now)) c.prepare-prepared.result c.prepare-prepared.ensures.reads.given

pub returns : goal.returns
returns g c =
    let laws : Laws = record {
      spelling = c.one_spelling.ensures;
      no_log = c.one_first_bad.ensures.no_log;
      schedule = c.one_schedule_of_a_text.ensures;
      no_bad_line = c.one_first_bad_line.ensures.none;
    } in
    let p = promise (job_in c.args.words.now) c.prepare-prepared.result (c.settle.new.files ≡ c.args.files.now) (c.prepare-prepared.new.files ≡ c.args.files.now)
    (c.settle.new.files ≡ c.prepare-prepared.new.files) (c.settle.new.out ≡ c.args.out.now) c.settle.result
    (g.F.Files.held c.args.files.now) (g.F.Files.held c.prepare-prepared.new.files) (g.F.Files.held c.settle.new.files)
    (g.F.Files.faults c.args.files.now) (g.F.Files.faults c.prepare-prepared.new.files) (g.F.Files.faults c.settle.new.files)
    (g.O.Sink.written c.args.out.now) (g.O.Sink.written c.settle.new.out) (g.O.Sink.faults c.args.out.now) (g.O.Sink.faults c.settle.new.out)
    (g.E.Sink.written c.args.err.now) (g.E.Sink.written c.settle.new.err) (g.E.Sink.faults c.args.err.now) (g.E.Sink.faults c.settle.new.err)
    c.prepare-prepared.ensures (λ before after. after ∙ before) (λ same. ap g.F.Files.faults same) (λ same. ap g.O.Sink.written same) c.settle.ensures in
    let zero = headlines c.no_difference_is_log.ensures laws (g.F.Files.held c.args.files.now) (g.F.Files.held c.settle.new.files) (job_in c.args.words.now) c.settle.result
    (g.O.Sink.written c.args.out.now) (g.O.Sink.written c.settle.new.out) (g.E.Sink.written c.args.err.now) (g.E.Sink.written c.settle.new.err) p.causes in
    record {
      inferred_run = λ is. (zero is).inferred;
      assembled = λ is. (zero is).assembled;
      recorded = λ is. (zero is).recorded;
      replayed = λ is. (zero is).replayed;
      causes = p.causes;
      complete = completes laws _ _ _ _ _ _ _ _ p.causes;
      bad_words = bad_words laws _ _ _ _ _ _ _ _ p.causes;
      no_job = no_job (job_in c.args.words.now) _ p.away;
      not_built = unbuilt (job_in c.args.words.now) _ p.away;
      nothing_failed = p.nothing_failed;
      device = p.device;
      device_line = p.device_line;
      cut_short = p.cut_short;
      inputs_kept = p.inputs_kept;
      told = p.told;
      files_kept = p.files_kept;
      before_save = p.before_save;
      saved_first = p.saved_first;
      whole_or_kept = p.whole_or_kept;
      commands_kept = refl;
    }
