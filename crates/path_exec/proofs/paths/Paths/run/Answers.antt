use Rattle.std.proofs.Common.{List, ◌∙◌, sym, subst, refl}
use Rattle.std.specs.Prelude.{All, IsSome, Option}
use Rattle.path_exec.specs.declared.walker.Walker.{Walker}
use Rattle.path_exec.specs.Ending.{AreEndsOf}
use Rattle.path_exec.proofs.Runs.{all_some, bits_at, kept_walkers, laid_by, may_end, paths_at}
use Rattle.path_exec.proofs.paths.Paths.run.Goals as goal

pub add_fault-requires : goal.add_fault-requires
add_fault-requires g c =
    let image = c.args.image.now in
    let log = c.args.log.now in
    let traced = c.args.traces.now in
    let laid = laid_by image log traced c.in_ok-notes.notes c.as_slice.result.now c.in_ok-steps.steps c.as_slice-2.result.now c.requires.traced c.requires.fits c.requires.valid c.as_slice.ensures c.as_slice-2.ensures
    c.in_ok-notes.ensures c.in_ok-steps.ensures.order in
    record { ends = may_end image log traced c.as_slice.result.now c.as_slice-2.result.now c.follow_all.new.pool c.in_ok-progress.progress laid c.in_ok-progress.ensures.followed log.end refl }

pub ends_of-requires : goal.ends_of-requires
ends_of-requires g c =
    let image = c.args.image.now in
    let log = c.args.log.now in
    let traced = c.args.traces.now in
    let laid = laid_by image log traced c.in_ok-notes.notes c.as_slice.result.now c.in_ok-steps.steps c.as_slice-2.result.now c.requires.traced c.requires.fits c.requires.valid c.as_slice.ensures c.as_slice-2.ensures
    c.in_ok-notes.ensures c.in_ok-steps.ensures.order in
    let some = all_some image log traced c.as_slice.result.now c.as_slice-2.result.now c.follow_all.new.pool c.in_ok-progress.progress laid c.in_ok-progress.ensures.followed in
    let kept = kept_walkers image traced.fault log.end c.follow_all.new.pool c.add_fault.new.pool c.in_ok-progress.progress c.add_fault.new.progress c.in_ok-add_fault.ensures.added in
    subst (λ (l : List (Option Walker)). All IsSome l) (sym (c.as_slice-3.ensures ∙ kept)) some

pub returns-clause-paths : goal.returns-clause-paths
returns-clause-paths g c =
    let image = c.args.image.now in
    let log = c.args.log.now in
    let traced = c.args.traces.now in
    let laid = laid_by image log traced c.in_ok-notes.notes c.as_slice.result.now c.in_ok-steps.steps c.as_slice-2.result.now c.requires.traced c.requires.fits c.requires.valid c.as_slice.ensures c.as_slice-2.ensures
    c.in_ok-notes.ensures c.in_ok-steps.ensures.order in
    paths_at image log traced c.as_slice.result.now c.as_slice-2.result.now c.follow_all.new.pool c.add_fault.new.pool c.in_ok-progress.progress c.add_fault.new.progress c.in_ok-ends.ends laid
    c.in_ok-progress.ensures.followed c.add_fault.ensures.grows c.in_ok-add_fault.ensures.added
    (subst (λ (l : List (Option Walker)). AreEndsOf l c.in_ok-ends.ends) c.as_slice-3.ensures c.in_ok-ends.ensures)

pub returns-clause-bits : goal.returns-clause-bits
returns-clause-bits g c =
    let image = c.args.image.now in
    let log = c.args.log.now in
    let traced = c.args.traces.now in
    let laid = laid_by image log traced c.in_ok-notes.notes c.as_slice.result.now c.in_ok-steps.steps c.as_slice-2.result.now c.requires.traced c.requires.fits c.requires.valid c.as_slice.ensures c.as_slice-2.ensures
    c.in_ok-notes.ensures c.in_ok-steps.ensures.order in
    bits_at image log traced c.add_fault.new.pool (record { accesses = c.add_fault.new.progress.accesses; constraints = c.add_fault.new.progress.constraints; ends = c.in_ok-ends.ends }) c.requires.traced
    (paths_at image log traced c.as_slice.result.now c.as_slice-2.result.now c.follow_all.new.pool c.add_fault.new.pool c.in_ok-progress.progress c.add_fault.new.progress c.in_ok-ends.ends laid
    c.in_ok-progress.ensures.followed c.add_fault.ensures.grows c.in_ok-add_fault.ensures.added
    (subst (λ (l : List (Option Walker)). AreEndsOf l c.in_ok-ends.ends) c.as_slice-3.ensures c.in_ok-ends.ensures))
