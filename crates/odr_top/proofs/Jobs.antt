-- Jobs: one line for each command.
use Rattle.std.specs.Prelude.{◌≡◌, ◌≢◌, Option, Some, None, refl}
use Rattle.std.proofs.Common.{sym, ◌∙◌, ap}
use Rattle.odr_io.specs.Outside.{Held}
use Rattle.odr_words.specs.declared.job.Job.{Job}
use Rattle.odr_words.specs.declared.job.Job.TheVariants as job
use Rattle.odr_task.specs.Verdict.{Verdict, Refused, status_of}
use Rattle.odr_task.specs.Refusals.{not_built}
use Rattle.odr_top.specs.Owes.{Owes, OwesWords}
use Rattle.odr_top.proofs.OneReading.{Laws}
use Rattle.odr_top.proofs.Recording.{record_status, record_not_words}
use Rattle.odr_top.proofs.Inferring.{infer_status, infer_not_words}
use Rattle.odr_top.proofs.Replaying.{replay_status, replay_not_words}
use Rattle.odr_top.proofs.Assembling.{asm_status, asm_not_words}

-- the verdicts of a job have one status where the store tells, and none has that of bad words
record IsGood (Owed : Option Held → Verdict → Type 0) : Type 0 where
  one_status : (held : Held) (v w : Verdict) → Owed (Some held) v → Owed (Some held) w → status_of v ≡ status_of w
  not_words : (told : Option Held) (v : Verdict) → Owed told v → status_of v ≢ 2

unbuilt_good : IsGood (λ told v. v ≡ Refused not_built)
unbuilt_good = record {
  one_status = λ (held : Held) (v w : Verdict) (a : v ≡ Refused not_built) (b : w ≡ Refused not_built). ap status_of (a ∙ sym b);
  not_words = λ (told : Option Held) (v : Verdict) (a : v ≡ Refused not_built) (two : status_of v ≡ 2). (let f : 12 ≡ 2 = sym (ap status_of a) ∙ two in cc);
}

good : Laws → (j : Job) → IsGood (λ told v. Owes told j v)
good laws (job.Record elf log seed limit input) =
    record { one_status = λ held. record_status held elf seed limit input; not_words = λ told. record_not_words told elf seed limit input }
good laws (job.Infer elf log out steps) = record { one_status = λ held. infer_status laws held elf log; not_words = λ told. infer_not_words laws told elf log }
good laws (job.Check elf log cert) = unbuilt_good
good laws (job.Replay elf log sched) = record { one_status = λ held. replay_status laws held elf log sched; not_words = λ told. replay_not_words laws told elf log sched }
good laws (job.Debug elf log sched) = unbuilt_good
good laws (job.Asm text elf) = record { one_status = λ held. asm_status held text; not_words = λ told. asm_not_words told text }
good laws (job.Demo number) = unbuilt_good

pub one_status : Laws → (held : Held) (words : Option Job) (v w : Verdict) → OwesWords (Some held) words v → OwesWords (Some held) words w → status_of v ≡ status_of w
one_status laws held None v w a b = ap status_of (a ∙ sym b)
one_status laws held (Some j) v w a b = (good laws j).one_status held v w a b

pub two_is_no_job : Laws → (told : Option Held) (words : Option Job) (v : Verdict) → OwesWords told words v → status_of v ≡ 2 → words ≡ None
two_is_no_job laws told None v owed two = refl
two_is_no_job laws told (Some j) v owed two = absurd ((good laws j).not_words told v owed two)

pub no_job_is_two : (told : Option Held) (words : Option Job) (v : Verdict) → OwesWords told words v → words ≡ None → status_of v ≡ 2
no_job_is_two told None v owed e = ap status_of owed
no_job_is_two told (Some j) v owed e = absurd cc
