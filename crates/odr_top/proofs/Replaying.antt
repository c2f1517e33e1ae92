-- A replay: what it owes, its one status, and what its status 0 says.
use Rattle.std.specs.Prelude.{◌≡◌, ◌≢◌, ℕ, List, Option, Some, None, refl}
use Rattle.std.specs.Io.KnownBytes.{append_known}
use Rattle.std.proofs.Common.{sym, ◌∙◌, ap, inl, inr}
use Rattle.odr_io.specs.Outside.{Held}
use Rattle.elf_image.specs.Layout.{Layout}
use Rattle.odr_log.specs.declared.log.Log.{Log}
use Rattle.odr_log.specs.Tape.{output_of}
use Rattle.rv_model.specs.Law.{NoDifferenceIsLog}
use Rattle.rv_model.specs.Run.{first_diff}
use Rattle.odr_task.specs.Verdict.{Verdict, status_of, out_text}
use Rattle.odr_task.specs.Files.{Gives, Refuses, FromFile}
use Rattle.odr_top.specs.Inputs.{IsScheduleFile, NoScheduleFile, GivesRun, RefusesRun}
use Rattle.odr_top.specs.Replay.{replayed, by_replay, replay_owes, WroteOutput}
use Rattle.odr_top.proofs.OneReading.{Laws, IsFair, from_file, refuses_fair, one_schedule}
use Rattle.odr_top.proofs.Running.{run_refused, run_given, run_cases, from_run}

-- after the program and the log
abbrev AfterRun : Option Held → List ℕ → Layout → Log → Verdict → Type 0
AfterRun told sched image l v = FromFile IsScheduleFile NoScheduleFile told sched (λ s w. w ≡ by_replay l (first_diff image l s)) v

pub replay_refused : (told : Option Held) (elf log sched : List ℕ) (v : Verdict) → RefusesRun told elf log v → replay_owes told elf log sched v
replay_refused told elf log sched v refused = run_refused told elf log (λ (image : Layout) (l : Log) (w : Verdict). AfterRun told sched image l w) v refused

pub replay_text_refused : (told : Option Held) (elf log sched : List ℕ) (image : Layout) (l : Log) → GivesRun told elf log image l → (v : Verdict) → Refuses NoScheduleFile told sched v
    → replay_owes told elf log sched v
replay_text_refused told elf log sched image l gives v refused = run_given told elf log (λ (i : Layout) (m : Log) (w : Verdict). AfterRun told sched i m w) v image l gives (inl refused)

pub replay_owed : (told : Option Held) (elf log sched : List ℕ) (image : Layout) (l : Log) (schedule : List ℕ) → GivesRun told elf log image l → Gives IsScheduleFile told sched schedule
    → replay_owes told elf log sched (by_replay l (first_diff image l schedule))
replay_owed told elf log sched image l schedule gives text =
    run_given told elf log (λ (i : Layout) (m : Log) (w : Verdict). AfterRun told sched i m w) (by_replay l (first_diff image l schedule)) image l gives (inr (schedule, text, refl))

pub replay_status : Laws → (held : Held) (elf log sched : List ℕ) (v w : Verdict) → replay_owes (Some held) elf log sched v → replay_owes (Some held) elf log sched w → status_of v ≡ status_of w
replay_status laws held elf log sched v w p q =
    from_run laws held elf log (λ (image : Layout) (l : Log) (u : Verdict). AfterRun (Some held) sched image l u) v w
    (λ (image : Layout) (l : Log) a b.
    from_file IsScheduleFile NoScheduleFile held sched (λ (s : List ℕ) (u : Verdict). u ≡ by_replay l (first_diff image l s)) v w (one_schedule laws)
    (λ (text x y : List ℕ) (is : IsScheduleFile text x) (also : IsScheduleFile text y) (m : v ≡ by_replay l (first_diff image l x)) (n : w ≡ by_replay l (first_diff image l y)).
    ap status_of (m ∙ sym (n ∙ ap (λ (s : List ℕ). by_replay l (first_diff image l s)) (laws.schedule y x text also.is_text is.is_text)))) a b) p q

not_words_by : (l : Log) (place : Option ℕ) (v : Verdict) → v ≡ by_replay l place → status_of v ≢ 2
not_words_by l None v e = λ (two : status_of v ≡ 2). (let f : 0 ≡ 2 = sym (ap status_of e) ∙ two in cc)
not_words_by l (Some place) v e = λ (two : status_of v ≡ 2). (let f : 9 ≡ 2 = sym (ap status_of e) ∙ two in cc)

-- what holds of a refusal, and of what comes after all three files
replay_cases : (P : Type 0) (laws : Laws) (told : Option Held) (elf log sched : List ℕ) (v : Verdict) → replay_owes told elf log sched v → (IsFair v → P)
    → ((image : Layout) (l : Log) (s : List ℕ) → GivesRun told elf log image l → Gives IsScheduleFile told sched s → v ≡ by_replay l (first_diff image l s) → P) → P
replay_cases P laws told elf log sched v owed fair next =
    run_cases P laws told elf log (λ (image : Layout) (l : Log) (u : Verdict). AfterRun told sched image l u) v owed fair
    (λ (image : Layout) (l : Log) (gives : GivesRun told elf log image l) after. by_text image l gives after) where
      by_text : (image : Layout) (l : Log) → GivesRun told elf log image l → AfterRun told sched image l v → P
      by_text image l gives (inl refused) = fair (refuses_fair IsScheduleFile NoScheduleFile told sched v (one_schedule laws) refused)
      by_text image l gives (inr (s, text, e)) = next image l s gives text e

pub replay_not_words : Laws → (told : Option Held) (elf log sched : List ℕ) (v : Verdict) → replay_owes told elf log sched v → status_of v ≢ 2
replay_not_words laws told elf log sched v owed =
    replay_cases (status_of v ≢ 2) laws told elf log sched v owed (λ (f : IsFair v). f.not_words)
    (λ (image : Layout) (l : Log) (s : List ℕ) (gives : GivesRun told elf log image l) (text : Gives IsScheduleFile told sched s) (e : v ≡ by_replay l (first_diff image l s)).
    not_words_by l (first_diff image l s) v e)

replayed_by : (l : Log) (place : Option ℕ) (v : Verdict) → v ≡ by_replay l place → status_of v ≡ 0 → (v ≡ replayed (output_of l)) × (place ≡ None)
replayed_by l None v e zero = (e, refl)
replayed_by l (Some place) v e zero = absurd (let f : 9 ≡ 0 = sym (ap status_of e) ∙ zero in cc)

wrote_by : NoDifferenceIsLog → (before : Option Held) (elf log sched : List ℕ) (ob oa : Option (List ℕ)) (v : Verdict) (image : Layout) (l : Log) (s : List ℕ) → status_of v ≡ 0
    → GivesRun before elf log image l → Gives IsScheduleFile before sched s → v ≡ by_replay l (first_diff image l s) → oa ≡ append_known ob (out_text v)
    → WroteOutput before elf log sched ob oa
wrote_by law before elf log sched ob oa v image l s zero gives text e printed =
    let found = replayed_by l (first_diff image l s) v e zero in
    record {
      output = output_of l;
      replayed = record {
        schedule = s;
        text = text.file;
        text_held = text.found;
        is_text = text.is.is_text;
        explained = record {
          program = gives.program.file;
          recording = gives.recording.file;
          program_held = gives.program.found;
          recording_held = gives.recording.found;
          image = image;
          meaning = l;
          is_image = gives.program.is.is_image;
          is_log = gives.recording.is.is_log;
          has_log = (law image l s).0 found.1;
        };
        output_is = refl;
      };
      printed = printed ∙ ap (λ (u : Verdict). append_known ob (out_text u)) found.0;
    }

pub replay_wrote : NoDifferenceIsLog → Laws → (before : Option Held) (elf log sched : List ℕ) (ob oa : Option (List ℕ)) (v : Verdict) → status_of v ≡ 0 → replay_owes before elf log sched v
    → oa ≡ append_known ob (out_text v) → WroteOutput before elf log sched ob oa
replay_wrote law laws before elf log sched ob oa v zero owed printed =
    replay_cases (WroteOutput before elf log sched ob oa) laws before elf log sched v owed (λ (f : IsFair v). absurd (f.not_done zero))
    (λ (image : Layout) (l : Log) (s : List ℕ) (gives : GivesRun before elf log image l) (text : Gives IsScheduleFile before sched s) (e : v ≡ by_replay l (first_diff image l s)).
    wrote_by law before elf log sched ob oa v image l s zero gives text e printed)
