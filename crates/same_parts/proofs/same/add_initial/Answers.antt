use Rattle.std.proofs.Common.{◌≡◌, ◌<◌, ◌∷◌, [], List, length, sym, ◌∙◌, ap, subst, refl}
use Rattle.bv_terms.specs.declared.node.TermId.{TermId}
use Rattle.bv_terms.specs.Values.{value_at}
use Rattle.encoder.proofs.Encoding.{get_or_any}
use Rattle.step_terms.specs.Made.{IsMade}
use Rattle.thread_terms.specs.declared.access.Access.{Access}
use Rattle.reader_parts.specs.Readings.{opening_byte}
use Rattle.reader_parts.proofs.Later.{grown_keeps}
use Rattle.term_sources.specs.Sees.{no_access}
use Rattle.same_parts.proofs.Adding.{says_initial, term_read}
use Rattle.same_parts.proofs.same.add_initial.Goals as goal

pub add_same_terms-requires-clause-known : goal.add_same_terms-requires-clause-known
add_same_terms-requires-clause-known g c = (grown_keeps c.args.encoder.now c.initial.new.pool c.requires.known c.initial.ensures.grows).known

pub returns-clause-says : goal.returns-clause-says
returns-clause-says g c =
    let accesses = c.args.accesses.now in
    let old = c.args.encoder.now in
    let is_reader = get_or_any accesses c.args.reader c.index-accesses-reader.result no_access c.requires.reader in
    let is_address = get_or_any accesses c.args.reader c.index-accesses-reader-2.result no_access c.requires.reader in
    says_initial old c.initial.new.pool c.add_same_terms.new.encoder c.args.image.now accesses c.args.reader c.args.index _ c.in_ok-source.source.number
    c.requires.known c.initial.ensures.grows
    (term_read c.as_slice.result.now _ c.args.index _ (c.as_slice.ensures ∙ ap (λ a. a.reads) is_reader) c.requires.index)
    (subst (λ (a : Access). IsMade old.pool c.initial.new.pool (a.address.number ∷ []) 8 (λ t. opening_byte c.args.image.now (value_at t old.pool a.address.number) c.args.index) c.in_ok-source.source.number)
    is_address c.in_ok-source.ensures.made)
    c.in_ok-add_same_terms.ensures.says
