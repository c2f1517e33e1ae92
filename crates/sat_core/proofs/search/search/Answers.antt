use Rattle.std.proofs.Common.{arith}
use Rattle.sat_core.proofs.Answering as answering
use Rattle.sat_core.proofs.Turning as turning
use Rattle.sat_core.proofs.search.search.Goals as goal

pub load-requires : goal.load-requires
load-requires c = answering.so_far-known c.args.clauses.now c.args.first.now c.args.budget c.args.lines c.requires.so_far

pub returns-in_default : goal.returns-in_default
returns-in_default c =
    turning.closed-turn c.args.clauses.now c.args.first.now c.args.budget c.args.lines c.args.lines c.close.result
    (turning.closed-load c.args.clauses.now c.args.first.now c.args.budget c.args.lines c.in_ok-engine.field-0 c.requires.so_far c.in_ok-engine.ensures c.in_default.is) c.close.ensures

pub descend-requires-clause-known : goal.descend-requires-clause-known
descend-requires-clause-known c = c.requires.known

pub descend-requires-clause-marks : goal.descend-requires-clause-marks
descend-requires-clause-marks c = c.requires.marks

pub descend-requires-clause-descent : goal.descend-requires-clause-descent
descend-requires-clause-descent c =
    turning.loaded-descent c.args.clauses.now c.args.first.now c.args.lines c.in_ok-engine.field-0 c.in-Some.engine c.in_ok-engine.ensures c.in-Some.is

pub loop-clash-init : goal.loop-clash-init
loop-clash-init c = record { so_far = c.requires.so_far; descent = c.in_ok-engine-2.ensures.descent; bottom = c.in_ok-engine-2.ensures.bottom; grown = omega arith }

pub study-requires : goal.study-requires
study-requires c = turning.clash-within c.loop-clash.engine c.loop-clash.clash c.in-Some-clash.number c.loop-clash.invariant.bottom c.in-Some-clash.is

pub analyse-requires : goal.analyse-requires
analyse-requires c = turning.clash-false c.loop-clash.engine c.loop-clash.clash c.in-Some-clash.number c.loop-clash.invariant.bottom c.in-Some-clash.is

pub returns-in_default-2 : goal.returns-in_default-2
returns-in_default-2 c =
    turning.closed-turn c.args.clauses.now c.args.first.now c.args.budget c.args.lines c.loop-clash.lines c.close-in_default-2.result
    (turning.closed-analysed c.args.clauses.now c.args.first.now c.args.budget c.loop-clash.lines c.loop-clash.engine c.args.is_first.now c.in_ok-learned.field-0 c.loop-clash.invariant.so_far c.loop-clash.invariant.descent
    c.in_ok-learned.ensures c.in_default-2.is) c.close-in_default-2.ensures

pub returns-then-count-budget : goal.returns-then-count-budget
returns-then-count-budget c =
    turning.last-lines c.args.clauses.now c.args.first.now c.args.budget c.loop-clash.engine c.args.is_first.now c.loop-clash.lines c.push.new.self c.in-Some-2.learned.line.items c.in-Some-2.learned.key c.in-Some-2.learned.second
    c.in-Some-2.learned.to c.loop-clash.invariant.so_far c.loop-clash.invariant.descent (turning.learned-some c.loop-clash.engine c.args.is_first.now c.in_ok-learned.field-0 c.in-Some-2.learned c.in_ok-learned.ensures c.in-Some-2.is) c.requires.marks c.len-steps.ensures.walk
    (turning.made c.loop-clash.lines c.push.new.self c.as_slice-in-Some-clash.result.now c.in_ok-unpacked.unpacked.items c.as_slice.result.now c.in-Some-2.learned.line.items c.in_ok-push.ensures
    c.as_slice-in-Some-clash.ensures.value c.in_ok-unpacked.ensures c.as_slice.ensures.value) (omega arith)

pub returns-then-count-pause : goal.returns-then-count-pause
returns-then-count-pause c = (
  turning.next-so_far c.args.clauses.now c.args.first.now c.args.budget c.loop-clash.engine c.args.is_first.now c.loop-clash.lines c.push.new.self c.in-Some-2.learned.line.items c.in-Some-2.learned.key c.in-Some-2.learned.second
      c.in-Some-2.learned.to c.loop-clash.invariant.so_far c.loop-clash.invariant.descent (turning.learned-some c.loop-clash.engine c.args.is_first.now c.in_ok-learned.field-0 c.in-Some-2.learned c.in_ok-learned.ensures c.in-Some-2.is) c.requires.marks c.len-steps.ensures.walk
      (turning.made c.loop-clash.lines c.push.new.self c.as_slice-in-Some-clash.result.now c.in_ok-unpacked.unpacked.items c.as_slice.result.now c.in-Some-2.learned.line.items c.in_ok-push.ensures
      c.as_slice-in-Some-clash.ensures.value c.in_ok-unpacked.ensures c.as_slice.ensures.value) (omega arith),
  turning.more-lines c.args.lines c.loop-clash.lines c.push.new.self c.in-Some-2.learned.line.items c.loop-clash.invariant.grown
      (turning.made c.loop-clash.lines c.push.new.self c.as_slice-in-Some-clash.result.now c.in_ok-unpacked.unpacked.items c.as_slice.result.now c.in-Some-2.learned.line.items c.in_ok-push.ensures
      c.as_slice-in-Some-clash.ensures.value c.in_ok-unpacked.ensures c.as_slice.ensures.value),
)

pub go_back-requires : goal.go_back-requires
go_back-requires c =
    turning.learned-given c.loop-clash.engine c.args.is_first.now c.in-Some-2.learned c.as_slice-in-Some-clash-2.result.now (turning.learned-some c.loop-clash.engine c.args.is_first.now c.in_ok-learned.field-0 c.in-Some-2.learned c.in_ok-learned.ensures c.in-Some-2.is) c.as_slice-in-Some-clash-2.ensures.value

pub descend-requires-in-Some-clash-clause-known : goal.descend-requires-in-Some-clash-clause-known
descend-requires-in-Some-clash-clause-known c = c.requires.known

pub descend-requires-in-Some-clash-clause-marks : goal.descend-requires-in-Some-clash-clause-marks
descend-requires-in-Some-clash-clause-marks c = c.requires.marks

pub descend-requires-in-Some-clash-clause-descent : goal.descend-requires-in-Some-clash-clause-descent
descend-requires-in-Some-clash-clause-descent c =
    turning.next-descent c.args.clauses.now c.args.first.now c.loop-clash.lines c.push.new.self c.loop-clash.engine c.in_ok-back.back c.in-Some-2.learned.line.items c.as_slice-in-Some-clash-2.result.now
    c.loop-clash.invariant.descent c.in_ok-back.ensures c.as_slice-in-Some-clash-2.ensures.value
    (turning.made c.loop-clash.lines c.push.new.self c.as_slice-in-Some-clash.result.now c.in_ok-unpacked.unpacked.items c.as_slice.result.now c.in-Some-2.learned.line.items c.in_ok-push.ensures
    c.as_slice-in-Some-clash.ensures.value c.in_ok-unpacked.ensures c.as_slice.ensures.value)

pub loop-clash-smaller : goal.loop-clash-smaller
loop-clash-smaller c =
    turning.fewer-left c.args.budget c.loop-clash.lines c.push.new.self c.in-Some-2.learned.line.items c.loop-clash.invariant.so_far.fewer
    (turning.made c.loop-clash.lines c.push.new.self c.as_slice-in-Some-clash.result.now c.in_ok-unpacked.unpacked.items c.as_slice.result.now c.in-Some-2.learned.line.items c.in_ok-push.ensures
    c.as_slice-in-Some-clash.ensures.value c.in_ok-unpacked.ensures c.as_slice.ensures.value)

pub loop-clash-preserved : goal.loop-clash-preserved
loop-clash-preserved c =
    record {
      so_far = turning.next-so_far c.args.clauses.now c.args.first.now c.args.budget c.loop-clash.engine c.args.is_first.now c.loop-clash.lines c.push.new.self c.in-Some-2.learned.line.items c.in-Some-2.learned.key c.in-Some-2.learned.second
          c.in-Some-2.learned.to c.loop-clash.invariant.so_far c.loop-clash.invariant.descent (turning.learned-some c.loop-clash.engine c.args.is_first.now c.in_ok-learned.field-0 c.in-Some-2.learned c.in_ok-learned.ensures c.in-Some-2.is) c.requires.marks c.len-steps.ensures.walk
          (turning.made c.loop-clash.lines c.push.new.self c.as_slice-in-Some-clash.result.now c.in_ok-unpacked.unpacked.items c.as_slice.result.now c.in-Some-2.learned.line.items c.in_ok-push.ensures
          c.as_slice-in-Some-clash.ensures.value c.in_ok-unpacked.ensures c.as_slice.ensures.value) (omega arith);
      descent = c.in_ok-next.ensures.descent;
      bottom = c.in_ok-next.ensures.bottom;
      grown =
          omega (
            arith,
            turning.more-lines c.args.lines c.loop-clash.lines c.push.new.self c.in-Some-2.learned.line.items c.loop-clash.invariant.grown
                (turning.made c.loop-clash.lines c.push.new.self c.as_slice-in-Some-clash.result.now c.in_ok-unpacked.unpacked.items c.as_slice.result.now c.in-Some-2.learned.line.items c.in_ok-push.ensures
                c.as_slice-in-Some-clash.ensures.value c.in_ok-unpacked.ensures c.as_slice.ensures.value),
          );
    }

pub returns : goal.returns
returns c =
    turning.found-values c.args.clauses.now c.loop-clash.engine c.args.first.now c.loop-clash.lines c.loop-clash.clash c.in_ok-values.values.items c.vars-vars.ensures.known c.loop-clash.invariant.descent
    c.loop-clash.invariant.bottom c.in_default-clash.is c.in_ok-values.ensures
