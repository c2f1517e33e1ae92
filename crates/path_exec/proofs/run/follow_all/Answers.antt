use Rattle.std.proofs.Common.{[], ◌<◌, length, get_or, ◌∙◌, ap, sym, subst, arith}
use Rattle.std.proofs.lemmas.List.{get_or_default}
use Rattle.odr_log.specs.declared.log.Pos.{Pos}
use Rattle.step_terms.proofs.Making.{grows_on}
use Rattle.path_exec.specs.declared.progress.Progress.{Progress}
use Rattle.path_exec.specs.Following.{begun}
use Rattle.path_exec.specs.Progress.{AreFollowed}
use Rattle.path_exec.proofs.Runs.{begun_followed, followed_all, followed_more, ready_at}
use Rattle.path_exec.proofs.run.follow_all.Goals as goal

pub loop-i-init : goal.loop-i-init
loop-i-init g c =
    let b = c.in_ok-progress.ensures.begun in
    let image = c.args.image.now in
    let log = c.args.log.now in
    let is = b.3 ∙ ap (λ n. begun n b.0) c.len.ensures in (
      subst (λ (x : Progress). AreFollowed image log c.new.new.pool [] x) (sym is) (begun_followed image log c.new.new.pool b.0 (omega (arith, c.requires.valid.grammar.some_thread)) b.1 b.2),
      c.in_ok-progress.ensures.grows,
    )

pub follow_at-requires : goal.follow_at-requires
follow_at-requires g c =
    let steps = c.args.steps.now in
    let d : Pos = record { thread = 0; step = 0 } in
    let p = get_or steps c.loop-i.i d in
    let less : c.loop-i.i < length steps = omega (arith, c.loop-i-test.true) in
    record {
      ready = ready_at c.args.image.now c.args.log.now c.args.traces.now c.args.notes.now steps c.loop-i.pool c.loop-i.progress c.loop-i.i p
          (record { traced_is = c.requires.traced; fits = c.requires.fits; valid = c.requires.valid; told_is = c.requires.notes; order = c.requires.order }) c.loop-i.invariant.0 less
          (get_or_default steps c.loop-i.i p d less);
    }

pub returns-in_err-follow_at-clause-grows : goal.returns-in_err-follow_at-clause-grows
returns-in_err-follow_at-clause-grows g c = grows_on c.args.pool.now c.loop-i.pool c.follow_at.new.pool c.loop-i.invariant.1 c.follow_at.ensures.grows

pub loop-i-preserved : goal.loop-i-preserved
loop-i-preserved g c =
    let steps = c.args.steps.now in
    let d : Pos = record { thread = 0; step = 0 } in
    let p = get_or steps c.loop-i.i d in
    let less : c.loop-i.i < length steps = omega (arith, c.loop-i-test.true) in (
      followed_more c.args.image.now c.args.log.now c.args.traces.now c.args.notes.now steps c.loop-i.pool c.follow_at.new.pool c.loop-i.progress c.follow_at.new.progress c.loop-i.i p
          (record { traced_is = c.requires.traced; fits = c.requires.fits; valid = c.requires.valid; told_is = c.requires.notes; order = c.requires.order }) c.loop-i.invariant.0 less
          (get_or_default steps c.loop-i.i p d less) c.in_ok-follow_at.ensures.followed,
      grows_on c.args.pool.now c.loop-i.pool c.follow_at.new.pool c.loop-i.invariant.1 c.follow_at.ensures.grows,
    )

pub returns-clause-followed : goal.returns-clause-followed
returns-clause-followed g c =
    followed_all c.args.image.now c.args.log.now c.loop-i.pool c.args.steps.now c.loop-i.progress c.loop-i.i (omega (arith, c.loop-i-test.false)) c.loop-i.invariant.0

pub returns-clause-grows : goal.returns-clause-grows
returns-clause-grows g c = c.loop-i.invariant.1
