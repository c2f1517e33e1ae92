use Rattle.std.proofs.Common.{◌<◌, List, ℕ, length, refl}
use Rattle.odr_limits.specs.declared.TheConstants.{MOST_TEXT_BYTES}
use Rattle.odr_top.specs.Inputs.{NoInput}
use Rattle.odr_top.proofs.Reading.{reads_out, reads_stop, turns_refuses, reads_given}
use Rattle.odr_top.proofs.load.load_input.Goals as goal

pub returns-in_err-bytes : goal.returns-in_err-bytes
returns-in_err-bytes g c =
    reads_out _ _ c.in_err-bytes.field-0.0 c.from_residual.result _ _ _ _ c.from_residual.ensures.1
    (reads_stop _ _ _ _ _ _ _ _ _ (turns_refuses NoInput _ _ MOST_TEXT_BYTES _ (λ (file : List ℕ) (more : MOST_TEXT_BYTES < length file). (more, refl))) c.in_err-bytes.ensures)

pub returns : goal.returns
returns g c =
    reads_given _ _ _ _ c.in_ok-bytes.bytes c.into_vec.result _ _ _ _ c.in_ok-bytes.ensures
    (record { file = c.in_ok-bytes.bytes; found = c.in_ok-bytes.ensures.given.finds; is = record { within = c.in_ok-bytes.ensures.given.within; same = c.into_vec.ensures } })
