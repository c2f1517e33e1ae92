use Rattle.std.proofs.Common.{◌∙◌}
use Rattle.clap.specs.Matches.{found_of}
use Rattle.odr_words.proofs.SplitLemmas.{strings_job, strings_taken}
use Rattle.odr_words.proofs.split.split.Goals as goal

pub unreachable-requires : goal.unreachable-requires
unreachable-requires c =
    c.in_default.not-OutOfMemory (c.kind.ensures ∙ c.in-Err.ensures.passes (strings_taken c.args.command c.args.words.now c.requires))

pub returns-in-Ok : goal.returns-in-Ok
returns-in-Ok c =
    rw c.words_at.ensures
    (strings_job c.args.command c.args.words.now (found_of c.in-Ok.found) _ _ _ _ c.requires c.in-Ok.ensures.rows (record {
      first_is = c.get_str.ensures;
      second_is = c.get_str-in-Ok.ensures;
      third_is = c.get_str-in-Ok-2.ensures;
      seed = c.get_str-in-Ok-3.ensures;
      limit = c.get_str-in-Ok-4.ensures;
      steps = c.get_str-in-Ok-5.ensures;
      input = c.get_str-in-Ok-6.ensures;
    }))
