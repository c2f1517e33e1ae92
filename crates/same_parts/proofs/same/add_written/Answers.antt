use Rattle.std.proofs.Common.{◌∙◌, ap}
use Rattle.encoder.proofs.Encoding.{get_or_any}
use Rattle.term_sources.specs.Sees.{no_access}
use Rattle.same_parts.proofs.Adding.{says_written, term_read}
use Rattle.same_parts.proofs.same.add_written.Goals as goal

pub returns-clause-says : goal.returns-clause-says
returns-clause-says c =
    let accesses = c.args.accesses.now in
    let is_reader = get_or_any accesses c.args.reader c.index-accesses-reader.result no_access c.requires.reader in
    let is_writer = get_or_any accesses c.args.writer c.index-accesses-writer.result no_access c.requires.writer in
    says_written c.args.encoder.now c.add_same_terms.new.encoder accesses c.args.reader c.args.index c.args.writer c.args.byte _ _
    (term_read c.as_slice.result.now _ c.args.index _ (c.as_slice.ensures ∙ ap (λ a. a.reads) is_reader) c.requires.index)
    (term_read c.as_slice-2.result.now _ c.args.byte _ (c.as_slice-2.ensures ∙ ap (λ a. a.writes) is_writer) c.requires.byte)
    c.in_ok-add_same_terms.ensures.says
