-- An inference: what it owes, its one status, and what its status 0 says.
use Rattle.std.specs.Prelude.{◌≡◌, ◌≢◌, ℕ, Bool, true, false, nat_eq, length, List, Option, Some, None, if◌then◌else◌, refl}
use Rattle.std.specs.Io.KnownBytes.{append_known}
use Rattle.std.proofs.Common.{sym, ◌∙◌, ap, subst}
use Rattle.odr_io.specs.Outside.{Held}
use Rattle.elf_image.specs.Layout.{Layout}
use Rattle.odr_log.specs.declared.log.Log.{Log}
use Rattle.rv_model.specs.Law.{NoDifferenceIsLog}
use Rattle.rv_model.specs.Run.{first_diff}
use Rattle.odr_task.specs.Verdict.{Verdict, Refused, status_of, out_text, saved_text}
use Rattle.odr_task.specs.Refusals.{not_built}
use Rattle.odr_top.specs.Inputs.{GivesRun, RefusesRun}
use Rattle.odr_top.specs.Infer.{inferred, only_schedule, by_difference, inference, infer_owes, FoundRun}
use Rattle.odr_top.specs.Answer.{LeavesText}
use Rattle.odr_top.proofs.OneReading.{Laws, IsFair}
use Rattle.odr_top.proofs.Running.{run_refused, run_given, run_cases, from_run}

pub infer_refused : (told : Option Held) (elf log : List ℕ) (v : Verdict) → RefusesRun told elf log v → infer_owes told elf log v
infer_refused told elf log v refused = run_refused told elf log (λ (image : Layout) (l : Log) (w : Verdict). w ≡ inference image l) v refused

pub infer_owed : (told : Option Held) (elf log : List ℕ) (image : Layout) (l : Log) → GivesRun told elf log image l → infer_owes told elf log (inference image l)
infer_owed told elf log image l gives = run_given told elf log (λ (i : Layout) (m : Log) (w : Verdict). w ≡ inference i m) (inference image l) image l gives refl

pub infer_status : Laws → (held : Held) (elf log : List ℕ) (v w : Verdict) → infer_owes (Some held) elf log v → infer_owes (Some held) elf log w → status_of v ≡ status_of w
infer_status laws held elf log v w p q =
    from_run laws held elf log (λ (image : Layout) (l : Log) (u : Verdict). u ≡ inference image l) v w
    (λ (image : Layout) (l : Log) (a : v ≡ inference image l) (b : w ≡ inference image l). ap status_of (a ∙ sym b)) p q

not_words_by : (one : Bool) (schedule : List ℕ) (place : Option ℕ) (v : Verdict) → v ≡ (if one then by_difference schedule place else Refused not_built) → status_of v ≢ 2
not_words_by true schedule None v e = λ (two : status_of v ≡ 2). (let f : 0 ≡ 2 = sym (ap status_of e) ∙ two in cc)
not_words_by true schedule (Some place) v e = λ (two : status_of v ≡ 2). (let f : 9 ≡ 2 = sym (ap status_of e) ∙ two in cc)
not_words_by false schedule place v e = λ (two : status_of v ≡ 2). (let f : 12 ≡ 2 = sym (ap status_of e) ∙ two in cc)

pub infer_not_words : Laws → (told : Option Held) (elf log : List ℕ) (v : Verdict) → infer_owes told elf log v → status_of v ≢ 2
infer_not_words laws told elf log v owed =
    run_cases (status_of v ≢ 2) laws told elf log (λ (image : Layout) (l : Log) (u : Verdict). u ≡ inference image l) v owed (λ (f : IsFair v). f.not_words)
    (λ (image : Layout) (l : Log) (gives : GivesRun told elf log image l) (e : v ≡ inference image l).
    not_words_by (nat_eq (length l.threads) 1) (only_schedule l) (first_diff image l (only_schedule l)) v e)

-- a schedule that was found is the only one, and differs nowhere
inferred_by : (one : Bool) (schedule : List ℕ) (place : Option ℕ) (v : Verdict) → v ≡ (if one then by_difference schedule place else Refused not_built) → status_of v ≡ 0
    → (v ≡ inferred schedule) × (place ≡ None)
inferred_by true schedule None v e zero = (e, refl)
inferred_by true schedule (Some place) v e zero = absurd (let f : 9 ≡ 0 = sym (ap status_of e) ∙ zero in cc)
inferred_by false schedule place v e zero = absurd (let f : 12 ≡ 0 = sym (ap status_of e) ∙ zero in cc)

found_by : NoDifferenceIsLog → (before after : Option Held) (elf log out : List ℕ) (ob oa : Option (List ℕ)) (v : Verdict) (image : Layout) (l : Log) → status_of v ≡ 0
    → GivesRun before elf log image l → v ≡ inference image l → LeavesText before after (Some out) (saved_text v) → oa ≡ append_known ob (out_text v)
    → FoundRun before after elf log out ob oa
found_by law before after elf log out ob oa v image l zero gives e leaves printed =
    let found = inferred_by (nat_eq (length l.threads) 1) (only_schedule l) (first_diff image l (only_schedule l)) v e zero in
    record {
      schedule = only_schedule l;
      explained = record {
        program = gives.program.file;
        recording = gives.recording.file;
        program_held = gives.program.found;
        recording_held = gives.recording.found;
        image = image;
        meaning = l;
        is_image = gives.program.is.is_image;
        is_log = gives.recording.is.is_log;
        has_log = (law image l (only_schedule l)).0 found.1;
      };
      saved = subst (λ (u : Verdict). LeavesText before after (Some out) (saved_text u)) found.0 leaves;
      printed = printed ∙ ap (λ (u : Verdict). append_known ob (out_text u)) found.0;
    }

pub infer_found : NoDifferenceIsLog → Laws → (before after : Option Held) (elf log out : List ℕ) (ob oa : Option (List ℕ)) (v : Verdict) → status_of v ≡ 0 → infer_owes before elf log v
    → LeavesText before after (Some out) (saved_text v) → oa ≡ append_known ob (out_text v) → FoundRun before after elf log out ob oa
infer_found law laws before after elf log out ob oa v zero owed leaves printed =
    run_cases (FoundRun before after elf log out ob oa) laws before elf log (λ (image : Layout) (l : Log) (u : Verdict). u ≡ inference image l) v owed
    (λ (f : IsFair v). absurd (f.not_done zero))
    (λ (image : Layout) (l : Log) (gives : GivesRun before elf log image l) (e : v ≡ inference image l).
    found_by law before after elf log out ob oa v image l zero gives e leaves printed)
