-- A recording: what it owes, its one status, and what its status 0 says.
use Rattle.std.specs.Prelude.{◌≡◌, ◌≢◌, ℕ, List, [], Option, Some, None, refl}
use Rattle.std.specs.Io.KnownBytes.{append_known}
use Rattle.std.proofs.Common.{sym, ◌∙◌, ap, subst, inl, inr}
use Rattle.odr_io.specs.Outside.{Held}
use Rattle.elf_image.specs.Layout.{Layout}
use Rattle.recorder.specs.Seeded.{seeded, log_of_run}
use Rattle.odr_task.specs.Verdict.{Verdict, status_of, out_text, saved_text}
use Rattle.odr_task.specs.Files.{Finds, Gives, Refuses}
use Rattle.odr_top.specs.Inputs.{IsProgram, NoProgram, IsInput, NoInput, FromInput, GivesTape, RefusesTape}
use Rattle.odr_top.specs.Record.{recorded, record_owes, InputIs, SavedLog}
use Rattle.odr_top.specs.Answer.{LeavesText}
use Rattle.odr_top.proofs.OneReading.{IsFair, from_file, refuses_fair, zero_not_two, one_program, one_image, one_input}

-- the verdict of a run over this tape
abbrev Over : Layout → ℕ → ℕ → List ℕ → Verdict → Type 0
Over image seed limit tape v = v ≡ recorded (log_of_run image tape (seeded image tape seed limit))

pub record_refused : (told : Option Held) (elf : List ℕ) (seed limit : ℕ) (input : Option (List ℕ)) (v : Verdict) → Refuses NoProgram told elf v → record_owes told elf seed limit input v
record_refused told elf seed limit input v refused = inl refused

pub record_tape_refused : (told : Option Held) (elf : List ℕ) (seed limit : ℕ) (input : Option (List ℕ)) (image : Layout) → Gives IsProgram told elf image
    → (v : Verdict) → RefusesTape told input v → record_owes told elf seed limit input v
record_tape_refused told elf seed limit None image gives v refused = absurd refused
record_tape_refused told elf seed limit (Some name) image gives v refused = inr (image, gives, inl refused)

over_tape : (told : Option Held) (input : Option (List ℕ)) (image : Layout) (seed limit : ℕ) (tape : List ℕ) → GivesTape told input tape
    → FromInput told input (λ t v. Over image seed limit t v) (recorded (log_of_run image tape (seeded image tape seed limit)))
over_tape told None image seed limit tape empty = ap (λ (t : List ℕ). recorded (log_of_run image t (seeded image t seed limit))) empty
over_tape told (Some name) image seed limit tape gives = inr (tape, gives, refl)

pub record_owed : (told : Option Held) (elf : List ℕ) (seed limit : ℕ) (input : Option (List ℕ)) (image : Layout) (tape : List ℕ) → Gives IsProgram told elf image → GivesTape told input tape
    → record_owes told elf seed limit input (recorded (log_of_run image tape (seeded image tape seed limit)))
record_owed told elf seed limit input image tape program gives = inr (image, program, over_tape told input image seed limit tape gives)

one_tape : (held : Held) (input : Option (List ℕ)) (image : Layout) (seed limit : ℕ) (v w : Verdict)
    → FromInput (Some held) input (λ t u. Over image seed limit t u) v → FromInput (Some held) input (λ t u. Over image seed limit t u) w → status_of v ≡ status_of w
one_tape held None image seed limit v w p q = ap status_of p ∙ sym (ap status_of q)
one_tape held (Some name) image seed limit v w p q =
    from_file IsInput NoInput held name (λ (t : List ℕ) (u : Verdict). Over image seed limit t u) v w one_input
    (λ (file x y : List ℕ) (is : IsInput file x) (also : IsInput file y) m n. ap status_of m ∙ sym (ap status_of n)) p q

pub record_status : (held : Held) (elf : List ℕ) (seed limit : ℕ) (input : Option (List ℕ)) (v w : Verdict) → record_owes (Some held) elf seed limit input v
    → record_owes (Some held) elf seed limit input w → status_of v ≡ status_of w
record_status held elf seed limit input v w p q =
    from_file IsProgram NoProgram held elf (λ (image : Layout) (u : Verdict). FromInput (Some held) input (λ t x. Over image seed limit t x) u) v w one_program
    (λ (file : List ℕ) (x y : Layout) (is : IsProgram file x) (also : IsProgram file y) m n.
    one_tape held input x seed limit v w m
    (subst (λ (i : Layout). FromInput (Some held) input (λ t u. Over i seed limit t u) w) (one_image file x y is also) n)) p q

-- what holds of a refusal, and of what comes after the files
record_cases : (P : Type 0) (told : Option Held) (elf : List ℕ) (seed limit : ℕ) (input : Option (List ℕ)) (v : Verdict) → record_owes told elf seed limit input v → (IsFair v → P)
    → ((image : Layout) (tape : List ℕ) → Gives IsProgram told elf image → InputIs told input tape → Over image seed limit tape v → P) → P
record_cases P told elf seed limit input v (inl refused) fair next = fair (refuses_fair IsProgram NoProgram told elf v one_program refused)
record_cases P told elf seed limit None v (inr (image, gives, e)) fair next = next image [] gives refl e
record_cases P told elf seed limit (Some name) v (inr (image, gives, inl refused)) fair next = fair (refuses_fair IsInput NoInput told name v one_input refused)
record_cases P told elf seed limit (Some name) v (inr (image, gives, inr (tape, found, e))) fair next =
    next image tape gives (subst (λ (t : List ℕ). Finds told name (Some t)) (sym found.is.same) found.found) e

pub record_not_words : (told : Option Held) (elf : List ℕ) (seed limit : ℕ) (input : Option (List ℕ)) (v : Verdict) → record_owes told elf seed limit input v → status_of v ≢ 2
record_not_words told elf seed limit input v owed =
    record_cases (status_of v ≢ 2) told elf seed limit input v owed (λ (f : IsFair v). f.not_words)
    (λ (image : Layout) (tape : List ℕ) (gives : Gives IsProgram told elf image) (is : InputIs told input tape) (e : Over image seed limit tape v).
    zero_not_two (status_of v) (ap status_of e))

pub record_saved : (before after : Option Held) (elf name : List ℕ) (seed limit : ℕ) (input : Option (List ℕ)) (ob oa : Option (List ℕ)) (v : Verdict) → status_of v ≡ 0
    → record_owes before elf seed limit input v → LeavesText before after (Some name) (saved_text v) → oa ≡ append_known ob (out_text v) → SavedLog before after elf name seed limit input ob oa
record_saved before after elf name seed limit input ob oa v zero owed leaves printed =
    record_cases (SavedLog before after elf name seed limit input ob oa) before elf seed limit input v owed (λ (f : IsFair v). absurd (f.not_done zero))
    (λ (image : Layout) (tape : List ℕ) (gives : Gives IsProgram before elf image) (is : InputIs before input tape) (e : Over image seed limit tape v).
    (record {
      log = log_of_run image tape (seeded image tape seed limit);
      recorded = record {
        program = gives.file;
        program_held = gives.found;
        image = image;
        is_image = gives.is.is_image;
        tape = tape;
        input_is = is;
        log_is = refl;
      };
      saved = subst (λ (u : Verdict). LeavesText before after (Some name) (saved_text u)) e leaves;
      printed = printed ∙ ap (λ (u : Verdict). append_known ob (out_text u)) e;
    }))
