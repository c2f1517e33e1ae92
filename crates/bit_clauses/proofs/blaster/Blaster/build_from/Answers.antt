use Rattle.bit_clauses.proofs.Blasted.{blasted_both}
use Rattle.bit_clauses.proofs.Building.{on_err, room_more}
use Rattle.bit_clauses.proofs.Circuits.{grows_both}
use Rattle.bit_clauses.proofs.blaster.Blaster.build_from.Goals as goal

pub returns-in_err-make_room-clause-err : goal.returns-in_err-make_room-clause-err
returns-in_err-make_room-clause-err c = on_err c.from_residual-in_err-make_room.result (c.in_ok-yes.ensures.blasted c.args.pool.now c.args.term.number c.requires.known).grows

pub returns-in_err-marks-clause-err : goal.returns-in_err-marks-clause-err
returns-in_err-marks-clause-err c = on_err c.from_residual-in_err-marks.result (c.in_ok-yes.ensures.blasted c.args.pool.now c.args.term.number c.requires.known).grows

pub build_all-requires-clause-known : goal.build_all-requires-clause-known
build_all-requires-clause-known c =
    let one = c.in_ok-yes.ensures.blasted c.args.pool.now c.args.term.number c.requires.known in
    (room_more c.sure.new.self c.make_room.new.self c.args.pool.now c.sure.new.clauses c.args.term.number c.args.term.number one.known c.in_ok-make_room.ensures).known

pub returns-in_err-build_all-clause-err : goal.returns-in_err-build_all-clause-err
returns-in_err-build_all-clause-err c =
    let one = c.in_ok-yes.ensures.blasted c.args.pool.now c.args.term.number c.requires.known in
    on_err c.from_residual-in_err-build_all.result (grows_both c.args.clauses.now c.sure.new.clauses c.build_all.new.clauses one.grows c.in_err-build_all.ensures.err)

pub returns-clause-blasted : goal.returns-clause-blasted
returns-clause-blasted c =
    let nodes = c.args.pool.now in
    let root = c.args.term.number in
    let one = c.in_ok-yes.ensures.blasted nodes root c.requires.known in
    let two = room_more c.sure.new.self c.make_room.new.self nodes c.sure.new.clauses root root one.known c.in_ok-make_room.ensures in
    blasted_both c.args.self.now c.make_room.new.self c.build_all.new.self nodes c.args.clauses.now c.sure.new.clauses c.build_all.new.clauses root
    (blasted_both c.args.self.now c.sure.new.self c.make_room.new.self nodes c.args.clauses.now c.sure.new.clauses c.sure.new.clauses root one two)
    c.in_ok-build_all.ensures.blasted
