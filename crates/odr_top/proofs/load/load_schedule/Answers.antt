use Rattle.std.proofs.Common.{◌<◌, List, ℕ, length, inl, refl}
use Rattle.odr_limits.specs.declared.TheConstants.{MOST_LOG_BYTES}
use Rattle.odr_top.specs.Inputs.{IsScheduleFile, NoScheduleFile}
use Rattle.odr_top.proofs.Reading.{reads_out, reads_stop, turns_refuses, loaded}
use Rattle.odr_top.proofs.load.load_schedule.Goals as goal

pub returns-in_err-text : goal.returns-in_err-text
returns-in_err-text g c =
    reads_out _ _ c.in_err-text.field-0.0 c.from_residual.result _ _ _ _ c.from_residual.ensures.1
    (reads_stop _ _ _ _ _ _ _ _ _ (turns_refuses NoScheduleFile _ _ MOST_LOG_BYTES _ (λ (file : List ℕ) (more : MOST_LOG_BYTES < length file). inl (more, refl))) c.in_err-text.ensures)

pub returns : goal.returns
returns g c =
    loaded IsScheduleFile NoScheduleFile _ _ c.args.name.now MOST_LOG_BYTES _ c.in_ok-text.text c.as_slice.result.now c.schedule_in.result _ _ c.in_ok-text.ensures c.as_slice.ensures
    c.schedule_in.ensures.found c.schedule_in.ensures.refused c.schedule_in.ensures.no_fault
