use Rattle.std.proofs.Common.{◌≡◌, ◌⊎◌, ◌≢◌, Result, Ok, Err, ap, refl, rules, sym, subst}
use Rattle.odr_task.specs.Settled.{IsCut}
use Rattle.odr_task.proofs.Settling.{Leaves, Reports, settled_done, settled_failed, settled_stopped, settled_at, ends_at}
use Rattle.odr_task.proofs.settle.settle.Goals as goal

pub returns-in-Ok-leave : goal.returns-in-Ok-leave
returns-in-Ok-leave g c =
    let left = c.in-Ok-leave.ensures in
    settled_at c.args.prepared.now (Ok c.in-Ok.done) _ _ _ _ _ _ _ _ _ _ _ _ _ _ _ c.in-Ok.is
    (settled_done c.in-Ok.done _ _ _ _ _ _ _ _ _ _ _ _ (ends_at c.args.prepared.now c.in-Ok.done c.in-Ok.is c.requires)
    (record { others = left.others; saved_first = left.saved_first; told = left.told; whole = left.whole }) left.saved left.printed (left.steady (λ e. (let f = e in cc))))

pub returns-in-Err-leave : goal.returns-in-Err-leave
returns-in-Err-leave g c =
    let left = c.in-Err-leave.ensures in
    settled_at c.args.prepared.now (Ok c.in-Ok.done) _ _ _ _ _ _ _ _ _ _ _ _ _ _ _ c.in-Ok.is
    (settled_failed c.in-Ok.done _ _ _ _ _ _ _ _ _ _ _ _ _ _ _ c.in-Err-leave.fail c.from.result c.from.ensures
    (record { others = left.others; saved_first = left.saved_first; told = left.told; whole = left.whole }) left.cut (λ e. left.failed (ap Err e))
    (record { told = c.report.ensures.told; cut = c.report.ensures.cut; device = c.report.ensures.device; steady = c.report.ensures.steady }))
