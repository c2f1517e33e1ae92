-- A program and then a log.
use Rattle.std.specs.Prelude.{◌≡◌, ℕ, List, Option, Some}
use Rattle.std.proofs.Common.{subst, inl, inr}
use Rattle.odr_io.specs.Outside.{Held}
use Rattle.elf_image.specs.Layout.{Layout}
use Rattle.odr_log.specs.declared.log.Log.{Log}
use Rattle.odr_task.specs.Verdict.{Verdict, status_of}
use Rattle.odr_task.specs.Files.{FromFile}
use Rattle.odr_top.specs.Inputs.{IsProgram, NoProgram, IsRecording, NoRecording, FromRun, GivesRun, RefusesRun}
use Rattle.odr_top.proofs.OneReading.{Laws, IsFair, from_file, refuses_fair, one_program, one_image, one_recording, one_log}

pub run_refused : (told : Option Held) (elf log : List ℕ) (Next : Layout → Log → Verdict → Type 0) (v : Verdict) → RefusesRun told elf log v → FromRun told elf log Next v
run_refused told elf log Next v (inl refused) = inl refused
run_refused told elf log Next v (inr (image, gives, refused)) = inr (image, gives, inl refused)

pub run_given : (told : Option Held) (elf log : List ℕ) (Next : Layout → Log → Verdict → Type 0) (v : Verdict) (image : Layout) (l : Log)
    → GivesRun told elf log image l → Next image l v → FromRun told elf log Next v
run_given told elf log Next v image l gives next = inr (image, gives.program, inr (l, gives.recording, next))

-- what holds of a refusal, and of what comes after both files
pub run_cases : (P : Type 0) (laws : Laws) (told : Option Held) (elf log : List ℕ) (Next : Layout → Log → Verdict → Type 0) (v : Verdict) → FromRun told elf log Next v
    → (IsFair v → P) → ((image : Layout) (l : Log) → GivesRun told elf log image l → Next image l v → P) → P
run_cases P laws told elf log Next v (inl refused) fair next = fair (refuses_fair IsProgram NoProgram told elf v one_program refused)
run_cases P laws told elf log Next v (inr (image, gives, inl refused)) fair next = fair (refuses_fair IsRecording NoRecording told log v (one_recording laws) refused)
run_cases P laws told elf log Next v (inr (image, gives, inr (l, recording, after))) fair next = next image l (record { program = gives; recording = recording }) after

-- a program and a log give one image and one log
pub from_run : Laws → (held : Held) (elf log : List ℕ) (Next : Layout → Log → Verdict → Type 0) (v w : Verdict)
    → ((image : Layout) (l : Log) → Next image l v → Next image l w → status_of v ≡ status_of w)
    → FromRun (Some held) elf log Next v → FromRun (Some held) elf log Next w → status_of v ≡ status_of w
from_run laws held elf log Next v w next p q =
    from_file IsProgram NoProgram held elf (λ (image : Layout) (u : Verdict). FromFile IsRecording NoRecording (Some held) log (λ l t. Next image l t) u) v w one_program
    (λ (file : List ℕ) (a b : Layout) (is : IsProgram file a) (also : IsProgram file b) m n.
    from_file IsRecording NoRecording held log (λ (l : Log) (u : Verdict). Next a l u) v w (one_recording laws)
    (λ (bytes : List ℕ) (x y : Log) (here : IsRecording bytes x) (there : IsRecording bytes y) s t.
    next a x s (subst (λ (l : Log). Next a l w) (one_log laws.spelling bytes x y here there) t))
    m (subst (λ (i : Layout). FromFile IsRecording NoRecording (Some held) log (λ l t. Next i l t) w) (one_image file a b is also) n))
    p q
