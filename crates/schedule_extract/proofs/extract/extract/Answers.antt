use Rattle.std.specs.Prelude.{◌≡◌, ◌↔◌, ℕ, List, ◌++◌, Option, Contains, option_to_list}
use Rattle.std.proofs.Common.{sym, ◌∙◌, ap, subst}
use Rattle.odr_log.specs.declared.log.Pos.{Pos}
use Rattle.guided_walk.specs.Woven.{Woven, faulting}
use Rattle.schedule_extract.proofs.Counts.{few_threads}
use Rattle.schedule_extract.proofs.Ends.{exiting, same_counted, same_go_on, same_ring, same_woven, woven_by}
use Rattle.schedule_extract.proofs.Weaving.{Scene}
use Rattle.schedule_extract.proofs.extract.extract.Goals as goal

pub weave-requires-clause-few : goal.weave-requires-clause-few
weave-requires-clause-few c = few_threads c.args.log.now c.requires.of_log.fit

pub weave-requires-clause-counted : goal.weave-requires-clause-counted
weave-requires-clause-counted c =
    let same : (pair : Pos × Pos) → Contains c.as_slice.result.now pair ↔ Contains c.args.decided.now pair =
    subst (λ (xs : List (Pos × Pos)). (pair : Pos × Pos) → Contains xs pair ↔ Contains c.args.decided.now pair)
    (sym c.as_slice.ensures.value) c.in_ok-pairs.ensures.same in
    same_counted c.args.log.now c.args.decided.now c.as_slice.result.now same c.requires.counted

pub weave-requires-clause-go_on : goal.weave-requires-clause-go_on
weave-requires-clause-go_on c =
    let same : (pair : Pos × Pos) → Contains c.as_slice.result.now pair ↔ Contains c.args.decided.now pair =
    subst (λ (xs : List (Pos × Pos)). (pair : Pos × Pos) → Contains xs pair ↔ Contains c.args.decided.now pair)
    (sym c.as_slice.ensures.value) c.in_ok-pairs.ensures.same in
    same_go_on c.args.log.now c.args.decided.now c.as_slice.result.now same c.requires.go_on

pub weave-requires-clause-no_ring : goal.weave-requires-clause-no_ring
weave-requires-clause-no_ring c =
    let same : (pair : Pos × Pos) → Contains c.as_slice.result.now pair ↔ Contains c.args.decided.now pair =
    subst (λ (xs : List (Pos × Pos)). (pair : Pos × Pos) → Contains xs pair ↔ Contains c.args.decided.now pair)
    (sym c.as_slice.ensures.value) c.in_ok-pairs.ensures.same in
    same_ring c.args.log.now c.args.decided.now c.as_slice.result.now same c.requires.no_ring

pub returns : goal.returns
returns c =
    let same : (pair : Pos × Pos) → Contains c.as_slice.result.now pair ↔ Contains c.args.decided.now pair =
    subst (λ (xs : List (Pos × Pos)). (pair : Pos × Pos) → Contains xs pair ↔ Contains c.args.decided.now pair)
    (sym c.as_slice.ensures.value) c.in_ok-pairs.ensures.same in
    let scene : Scene c.args.log.now c.as_slice.result.now c.exit_of-exit.result = record {
      fit = c.requires.of_log.fit;
      exit_is = c.exit_of-exit.ensures;
      ends = c.requires.exits_end;
      counted = same_counted c.args.log.now c.args.decided.now c.as_slice.result.now same c.requires.counted;
      go_on = same_go_on c.args.log.now c.args.decided.now c.as_slice.result.now same c.requires.go_on;
      ring = same_ring c.args.log.now c.args.decided.now c.as_slice.result.now same c.requires.no_ring;
    } in
    let is : c.push_step-2.new.schedule ≡ (c.in_ok-schedule.schedule ++ exiting c.exit_of-exit.result) ++ faulting c.args.log.now.end =
    c.in_ok-push_step-2.ensures
    ∙ ap (λ (xs : List ℕ). xs ++ option_to_list c.faulting.result)
    (c.in_ok-push_step.ensures ∙ ap (λ (o : Option ℕ). c.in_ok-schedule.schedule ++ option_to_list o) c.thread_of.ensures)
    ∙ ap (λ (xs : List ℕ). (c.in_ok-schedule.schedule ++ exiting c.exit_of-exit.result) ++ xs) c.faulting.ensures in
    same_woven c.args.log.now c.args.decided.now c.as_slice.result.now _ same
    (subst (Woven c.args.log.now c.as_slice.result.now) (sym is)
    (woven_by c.args.log.now c.as_slice.result.now c.exit_of-exit.result c.in_ok-schedule.schedule scene c.in_ok-schedule.ensures))
