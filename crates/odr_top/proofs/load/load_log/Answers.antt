use Rattle.std.proofs.Common.{◌<◌, List, ℕ, length, inl, refl}
use Rattle.odr_limits.specs.declared.TheConstants.{MOST_LOG_BYTES}
use Rattle.odr_top.specs.Inputs.{IsRecording, NoRecording}
use Rattle.odr_top.proofs.Reading.{reads_out, reads_stop, turns_refuses, loaded}
use Rattle.odr_top.proofs.load.load_log.Goals as goal

pub returns-in_err-bytes : goal.returns-in_err-bytes
returns-in_err-bytes g c =
    reads_out _ _ c.in_err-bytes.field-0.0 c.from_residual.result _ _ _ _ c.from_residual.ensures.1
    (reads_stop _ _ _ _ _ _ _ _ _ (turns_refuses NoRecording _ _ MOST_LOG_BYTES _ (λ (file : List ℕ) (more : MOST_LOG_BYTES < length file). inl (inl more, refl))) c.in_err-bytes.ensures)

pub returns : goal.returns
returns g c =
    loaded IsRecording NoRecording _ _ c.args.name.now MOST_LOG_BYTES _ c.in_ok-bytes.bytes c.as_slice.result.now c.log_in.result _ _ c.in_ok-bytes.ensures c.as_slice.ensures
    c.log_in.ensures.found c.log_in.ensures.refused c.log_in.ensures.no_fault
