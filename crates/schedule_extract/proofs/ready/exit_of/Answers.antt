use Rattle.std.specs.Prelude.{◌≡◌, ◌-◌, List, length, slice_get, Some}
use Rattle.std.proofs.Common.{sym, subst}
use Rattle.odr_log.specs.declared.log.CallRec.{CallRec}
use Rattle.schedule_extract.proofs.Counts.{no_exit}
use Rattle.schedule_extract.proofs.ready.exit_of.Goals as goal

pub returns-in_default : goal.returns-in_default
returns-in_default c =
    no_exit c.args.log.now c.requires c.in_ok-last.last.now
    (subst (λ (calls : List CallRec). slice_get calls (length calls - 1) ≡ Some c.in_ok-last.last.now) c.as_slice.ensures (sym c.in_ok-last.ensures.value))
    c.in_default.not-Exit
