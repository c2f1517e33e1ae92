use Rattle.std.proofs.Common.{ℕ, ◌<◌, ◌≤◌, ◌^◌, ◌≡◌, List, length, ap, sym, ◌∙◌, subst, arith, rules}
use Rattle.bv_terms.specs.declared.node.TermId.{TermId}
use Rattle.thread_terms.specs.declared.access.Access.{Access}
use Rattle.term_sources.specs.Sees.{access_at, no_access}
use Rattle.read_spots.specs.Spots.{sought}
use Rattle.read_spots.proofs.Listing.{added, any_default}
use Rattle.read_spots.proofs.spots.add_access.Goals as goal

pub returns : goal.returns
returns c =
    λ log order counted.
    let s = sought log c.args.accesses.now c.args.shapes.now c.args.places.now c.args.reader c.args.index in
    let size : length (access_at c.args.accesses.now c.args.writer).writes ≡ c.len.result =
    sym (c.len.ensures ∙ ap (λ (a : Access). length a.writes) (any_default c.args.accesses.now c.args.writer c.index-accesses-writer.result no_access c.requires.writer)) in
    let ends : c.bytes_at-first.result.1 ≤ c.min-count.result = c.bytes_at-first.ensures.end in
    added s c.args.writer c.in-Some.at c.bytes_at-first.result.0 c.bytes_at-first.result.1 c.args.spots.now c.add_bytes.new.spots
    (record {
      there = c.requires.writer;
      at_is = search rules;
      precedes = (c.may_precede.ensures log order counted).0 (search rules);
      within = λ (b : ℕ) (below : b < c.bytes_at-first.result.1). omega (arith, below, ends, size, c.min-count.ensures);
      fits = λ (b : ℕ) (below : b < c.bytes_at-first.result.1). omega (arith, below, ends, c.min-count.ensures);
      meets = c.bytes_at-first.ensures.meets;
      all = λ (b : ℕ) (less : b < length (access_at c.args.accesses.now c.args.writer).writes) (small : b < 2 ^ 32).
          c.bytes_at-first.ensures.all b (omega (arith, less, small, size, c.min-count.ensures));
    })
    (c.in_ok-add_bytes.ensures s)
