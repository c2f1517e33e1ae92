use Rattle.std.proofs.Common.{◌≡◌, ◌+◌, ◌∷◌, [], suc, ℕ, length, sym, subst, arith}
use Rattle.bit_clauses.proofs.Building.{on_err}
use Rattle.clause_store.proofs.Growth.{growth_then}
use Rattle.read_parts.specs.Reads.{reads_from}
use Rattle.formula_parts.specs.Facts.{Reads}
use Rattle.term_sources.specs.Sees.{access_at}
use Rattle.formula_facts.specs.Known.{AddsFacts}
use Rattle.formula_facts.proofs.Adding.{can_later, grown, more_added, none_added}
use Rattle.formula_facts.proofs.Reading.{reads_count}
use Rattle.formula_facts.proofs.bytes.add_bytes.Goals as goal

pub loop-index-init : goal.loop-index-init
loop-index-init g c = none_added c.args.image.now c.args.known.now c.args.encoder.now

pub add_byte-requires-clause-can : goal.add_byte-requires-clause-can
add_byte-requires-clause-can g c =
    can_later c.args.image.now c.args.known.now c.args.encoder.now c.loop-index.encoder (reads_from c.args.access 0 c.loop-index.index)
    c.requires.can c.loop-index.invariant

pub returns-in_err-add_byte-clause-err : goal.returns-in_err-add_byte-clause-err
returns-in_err-add_byte-clause-err g c =
    on_err c.from_residual.result
    (growth_then c.args.encoder.now.clauses c.loop-index.encoder.clauses c.add_byte.new.encoder.clauses
    (grown c.args.image.now c.args.known.now c.args.encoder.now c.loop-index.encoder (reads_from c.args.access 0 c.loop-index.index)
    c.requires.can c.loop-index.invariant) c.in_err-add_byte.ensures.err)

pub loop-index-preserved : goal.loop-index-preserved
loop-index-preserved g c =
    let x = c.args.access in
    let i = c.loop-index.index in
    let next : i + 1 ≡ suc i = omega arith in
    let here : 0 + i ≡ i = omega arith in
    subst (λ (n : ℕ). AddsFacts c.args.image.now c.args.known.now c.args.encoder.now c.add_byte.new.encoder (reads_from x 0 n)) (sym next)
    (more_added c.args.image.now c.args.known.now c.args.encoder.now c.loop-index.encoder c.add_byte.new.encoder (reads_from x 0 i) (Reads x (0 + i) ∷ [])
    c.loop-index.invariant
    (subst (λ (n : ℕ). AddsFacts c.args.image.now c.args.known.now c.loop-index.encoder c.add_byte.new.encoder (Reads x n ∷ [])) (sym here) c.in_ok-add_byte.ensures.adds))

pub returns-clause-adds : goal.returns-clause-adds
returns-clause-adds g c =
    let x = c.args.access in
    let done : c.loop-index.index ≡ length (access_at c.args.known.now.accesses x).reads =
    omega (arith, reads_count c.as_slice.result.now c.args.known.now.accesses x c.index-as_slice-access.result c.as_slice.ensures c.requires.access) in
    subst (λ (n : ℕ). AddsFacts c.args.image.now c.args.known.now c.args.encoder.now c.loop-index.encoder (reads_from x 0 n)) done c.loop-index.invariant
