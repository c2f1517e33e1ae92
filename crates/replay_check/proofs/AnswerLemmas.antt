-- The answer is the output exactly where the schedule has the log.
use Rattle.std.specs.Prelude.{◌≡◌, ◌↔◌, ℕ, List, Option, Some, None, refl}
use Rattle.elf_image.specs.Layout.{Layout}
use Rattle.odr_log.specs.declared.log.Log.{Log}
use Rattle.odr_log.specs.Tape.{output_of}
use Rattle.rv_model.specs.Run.{HasLog, first_diff}
use Rattle.rv_model.proofs.Difference.{no_difference}
use Rattle.replay_check.specs.declared.replay.Replayed.{Replayed}
use Rattle.replay_check.specs.declared.replay.Replayed.TheVariants.{Same, Differs}
use Rattle.replay_check.specs.Answer.{answer_of}

same_is_none : (o : Option ℕ) (answer : Replayed) (output : List ℕ) → answer ≡ answer_of o output → (answer ≡ Same output) ↔ (o ≡ None)
same_is_none None answer output is = ((λ (e : answer ≡ Same output). refl), (λ (e : None ≡ None). is))
same_is_none (Some place) answer output is = (
  (λ (e : answer ≡ Same output). absurd (let there : answer ≡ Differs place = is in cc)),
  (λ (e : Some place ≡ None). absurd (let f : Some place ≡ None = e in cc)),
)

pub same_is_log : (image : Layout) (log : Log) (schedule : List ℕ) (answer : Replayed) → answer ≡ answer_of (first_diff image log schedule) (output_of log)
    → (answer ≡ Same (output_of log)) ↔ HasLog image log schedule
same_is_log image log schedule answer is =
    let ways : (answer ≡ Same (output_of log)) ↔ (first_diff image log schedule ≡ None) = same_is_none (first_diff image log schedule) answer (output_of log) is in (
      (λ (e : answer ≡ Same (output_of log)). (no_difference image log schedule).0 (ways.0 e)),
      (λ (has : HasLog image log schedule). ways.1 ((no_difference image log schedule).1 has)),
    )
