-- The fault in which a log ends, by where its threads stop.
use Rattle.std.specs.Prelude.{not, ◌&&◌, List, slice_get, Option, Some, None, option_map, if◌then◌else◌}
use Rattle.std.specs.Result.{result_ok}
use Rattle.elf_image.specs.Layout.{Layout}
use Rattle.odr_log.specs.declared.log.Cause.{Cause}
use Rattle.odr_log.specs.declared.log.End.{End}
use Rattle.odr_log.specs.declared.log.End.TheVariants as end
use Rattle.rv_model.specs.declared.walk.FaultPlace.{FaultPlace}
use Rattle.rv_model.specs.Step.{instr_at}
use Rattle.rv_model.specs.Walk.{may_fault}
use Rattle.trace_path.specs.declared.thread.Stop.{Stop}

-- the place of a fault of a thread that stops there, none where it can't fault so
abbrev pub faults_at : Layout → Stop → Cause → Option FaultPlace
faults_at image stop cause =
    if not stop.over && may_fault cause stop.pc (instr_at image stop.pc) then Some (record { pc = stop.pc; instr = result_ok (instr_at image stop.pc) })
    else None

abbrev pub faults_by : Layout → Option Stop → Cause → Option FaultPlace
faults_by image None cause = None
faults_by image (Some stop) cause = faults_at image stop cause

-- the place of the fault in which a log ends, none where it ends in none; none at all where it can't end so
abbrev pub fault_of : Layout → List Stop → End → Option (Option FaultPlace)
fault_of image stops (end.Faulted thread cause) = option_map (λ at. Some at) (faults_by image (slice_get stops thread) cause)
fault_of image stops other = Some None
