use Rattle.std.specs.Prelude.{[], refl}
use Rattle.odr_log.specs.declared.log.Call.TheVariants as call
use Rattle.happens_before.proofs.PassLemmas.{answered_fits}
use Rattle.happens_before.proofs.shared.Shared.fits_call.Goals as goal

pub returns-in-Spawn : goal.returns-in-Spawn
returns-in-Spawn c =
    answered_fits c.args.self.now c.args.tid c.args.call.now (call.Spawn c.in-Spawn.entry c.in-Spawn.child) c.fits_spawn.result c.in-Spawn.is tt
    (λ dry. refl) (c.fits_spawn.ensures c.args.tid [])

pub returns-in-Join : goal.returns-in-Join
returns-in-Join c =
    answered_fits c.args.self.now c.args.tid c.args.call.now (call.Join c.in-Join.target c.in-Join.ok) c.fits_join.result c.in-Join.is tt
    (λ dry. refl) (c.fits_join.ensures [])

pub returns-in-Lock : goal.returns-in-Lock
returns-in-Lock c =
    answered_fits c.args.self.now c.args.tid c.args.call.now (call.Lock c.in-Lock.mutex c.in-Lock.ok) c.fits_lock.result c.in-Lock.is tt
    (λ dry. refl) (c.fits_lock.ensures [])

pub returns-in-Unlock : goal.returns-in-Unlock
returns-in-Unlock c =
    answered_fits c.args.self.now c.args.tid c.args.call.now (call.Unlock c.in-Unlock.mutex c.in-Unlock.ok) c.fits_unlock.result c.in-Unlock.is tt
    (λ dry. refl) (c.fits_unlock.ensures [])

pub returns-in-TryLock : goal.returns-in-TryLock
returns-in-TryLock c =
    answered_fits c.args.self.now c.args.tid c.args.call.now (call.TryLock c.in-TryLock.mutex c.in-TryLock.got) c.fits_try_lock.result c.in-TryLock.is tt
    (λ dry. refl) (c.fits_try_lock.ensures c.args.tid [])
