use Rattle.std.proofs.Common.{◌<◌, List, ℕ, length, inl, refl}
use Rattle.odr_limits.specs.declared.TheConstants.{MOST_PROGRAM_BYTES}
use Rattle.odr_top.specs.Inputs.{IsProgram, NoProgram}
use Rattle.odr_top.proofs.Reading.{reads_out, reads_stop, turns_refuses, loaded}
use Rattle.odr_top.proofs.load.load_image.Goals as goal

pub returns-in_err-bytes : goal.returns-in_err-bytes
returns-in_err-bytes g c =
    reads_out _ _ c.in_err-bytes.field-0.0 c.from_residual.result _ _ _ _ c.from_residual.ensures.1
    (reads_stop _ _ _ _ _ _ _ _ _ (turns_refuses NoProgram _ _ MOST_PROGRAM_BYTES _ (λ (file : List ℕ) (more : MOST_PROGRAM_BYTES < length file). inl (more, refl))) c.in_err-bytes.ensures)

pub returns : goal.returns
returns g c =
    loaded IsProgram NoProgram _ _ c.args.name.now MOST_PROGRAM_BYTES _ c.in_ok-bytes.bytes c.as_slice.result.now c.image_in.result _ _ c.in_ok-bytes.ensures c.as_slice.ensures
    c.image_in.ensures.found c.image_in.ensures.refused c.image_in.ensures.no_fault
