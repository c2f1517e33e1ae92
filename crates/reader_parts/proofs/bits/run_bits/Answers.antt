use Rattle.std.proofs.Common.{◌≡◌, ◌+◌, [], ℕ, suc, sym, subst, refl, arith}
use Rattle.std.specs.Prelude.{Contains, slice_index_or}
use Rattle.encoder.proofs.Encoding.{HasJoined, encodes_none, joined_more}
use Rattle.reader_parts.specs.Readings.{run_of}
use Rattle.term_sources.specs.Sees.{no_id}
use Rattle.reader_parts.proofs.bits.run_bits.Goals as goal

pub loop-k-init : goal.loop-k-init
loop-k-init c = record {
  encodes = encodes_none c.args.encoder.now [] c.requires.known;
  built = λ (id : ℕ) (listed : Contains [] id). absurd (omega (arith, listed.1));
  lits_are = c.new-lits.ensures;
  same = refl;
}

pub loop-k-preserved : goal.loop-k-preserved
loop-k-preserved c =
    let terms = c.args.terms.now in
    let first = c.args.first in
    let k = c.loop-k.k in
    let next : k + 1 ≡ suc k = omega arith in
    let id = (slice_index_or terms (first + k) no_id).number in
    subst (λ (n : ℕ). HasJoined c.args.encoder.now c.append.new.self (run_of terms first n) c.append.new.lits) (sym next)
    (joined_more c.args.encoder.now c.loop-k.encoder c.append.new.self (run_of terms first k) c.loop-k.lits c.append.new.lits id c.loop-k.invariant
    c.in_ok-append.ensures.encodes c.in_ok-append.ensures.built c.in_ok-append.ensures.lits c.append.ensures.pool)
