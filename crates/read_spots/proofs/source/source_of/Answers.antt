use Rattle.std.proofs.Common.{arith, rules}
use Rattle.read_spots.proofs.Tracing.{not_listed, seen_initial, seen_written, told_none, told_some, unknown_address}
use Rattle.read_spots.proofs.source.source_of.Goals as goal

pub returns-in_default : goal.returns-in_default
returns-in_default c = λ setting is. unknown_address setting c.args.shapes.now c.args.reader c.args.index (search rules)

pub returns-in_default-find_seen : goal.returns-in_default-find_seen
returns-in_default-find_seen c =
    λ setting is.
    not_listed setting c.args.shapes.now c.args.seen.now c.args.reader c.args.index c.in-Some.span c.byte-address.result c.requires (omega arith) (search rules) (search rules)
    (told_none c.find_seen.result _ (search rules) c.find_seen.ensures.none) is

pub returns-in-Some-from : goal.returns-in-Some-from
returns-in-Some-from c =
    λ setting is.
    let told = told_some c.find_seen.result c.in-Some-find_seen.found _ (search rules) c.find_seen.ensures.found in
    seen_written setting c.args.shapes.now c.args.seen.now c.args.reader c.args.index c.in-Some.span c.byte-address.result c.in-Some-find_seen.found c.in-Some-from.pos c.written_at.result
    c.requires (omega arith) (search rules) (search rules) told.0 told.1 told.2 (search rules) c.written_at.ensures is

pub returns-in-None : goal.returns-in-None
returns-in-None c =
    λ setting is.
    let told = told_some c.find_seen.result c.in-Some-find_seen.found _ (search rules) c.find_seen.ensures.found in
    seen_initial setting c.args.shapes.now c.args.seen.now c.args.reader c.args.index c.in-Some.span c.byte-address.result c.in-Some-find_seen.found
    c.requires (omega arith) (search rules) (search rules) told.0 told.1 told.2 (search rules) is
