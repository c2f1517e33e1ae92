use Rattle.std.proofs.Common.{ℕ, ◌<◌, length, sym, subst}
use Rattle.bit_clauses.proofs.Building.{on_err}
use Rattle.encoder.proofs.Encoding.{grows_none}
use Rattle.formula_facts.proofs.Reading.{opened, opens, place_from, unplaced}
use Rattle.formula_facts.proofs.bytes.add_open.Goals as goal

pub returns-in_err-spots-clause-err : goal.returns-in_err-spots-clause-err
returns-in_err-spots-clause-err g c = on_err c.from_residual.result (grows_none c.args.encoder.now.clauses)

pub returns-in_default-clause-adds : goal.returns-in_default-clause-adds
returns-in_default-clause-adds g c setting is_image is ready is_open =
    let known = c.args.known.now in
    let can = c.requires.can in
    let within : c.args.access < length known.places = subst (λ (n : ℕ). c.args.access < n) (sym can.can.is.many) can.there in
    unplaced setting known c.args.encoder.now c.as_slice.result.now c.as_slice-2.result.now c.as_slice-3.result.now c.args.access c.args.index c.in_ok-spots.spots
    can.there can.within c.as_slice.ensures c.as_slice-2.ensures c.as_slice-3.ensures c.in_ok-spots.ensures.spots
    (place_from c.as_slice-4.result.now known.places c.args.access _ _ c.as_slice-4.ensures within c.in_default.is) is is_open

pub add_read-requires : goal.add_read-requires
add_read-requires g c =
    let known = c.args.known.now in
    let can = c.requires.can in
    let within : c.args.access < length known.places = subst (λ (n : ℕ). c.args.access < n) (sym can.can.is.many) can.there in record {
      can = opened c.args.image.now known c.args.encoder.now c.as_slice.result.now c.as_slice-5.result.now c.table.result.now c.as_slice-2.result.now c.as_slice-3.result.now
          c.args.access c.args.index c.in-Some.at c.in_ok-spots.spots c.as_slice-6.result.now can
          c.as_slice.ensures c.as_slice-2.ensures c.as_slice-3.ensures c.as_slice-5.ensures c.table.ensures.table c.as_slice-6.ensures c.in_ok-spots.ensures.spots
          (place_from c.as_slice-4.result.now known.places c.args.access _ _ c.as_slice-4.ensures within c.in-Some.is);
    }

pub returns-clause-adds : goal.returns-clause-adds
returns-clause-adds g c =
    let known = c.args.known.now in
    let can = c.requires.can in
    let within : c.args.access < length known.places = subst (λ (n : ℕ). c.args.access < n) (sym can.can.is.many) can.there in
    opens c.args.image.now known c.args.encoder.now c.add_read.new.encoder c.as_slice.result.now c.as_slice-5.result.now c.table.result.now c.as_slice-2.result.now
    c.as_slice-3.result.now c.args.access c.args.index c.in-Some.at c.in_ok-spots.spots c.as_slice-6.result.now can.there can.within
    c.as_slice.ensures c.as_slice-2.ensures c.as_slice-3.ensures c.as_slice-5.ensures c.table.ensures.table c.as_slice-6.ensures c.in_ok-spots.ensures.spots
    (place_from c.as_slice-4.result.now known.places c.args.access _ _ c.as_slice-4.ensures within c.in-Some.is) c.in_ok-add_read.ensures.adds
