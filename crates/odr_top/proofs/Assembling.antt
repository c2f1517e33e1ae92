-- An assembly: what it owes, its one status, and what its status 0 says.
use Rattle.std.specs.Prelude.{◌≡◌, ◌≢◌, ℕ, List, Option, Some, refl}
use Rattle.std.specs.Io.KnownBytes.{append_known}
use Rattle.std.proofs.Common.{sym, ◌∙◌, ap, subst, inl, inr}
use Rattle.odr_io.specs.Outside.{Held}
use Rattle.odr_task.specs.Verdict.{Verdict, status_of, out_text, saved_text}
use Rattle.odr_task.specs.Files.{Gives, Refuses}
use Rattle.odr_top.specs.Inputs.{IsSource, NoSource}
use Rattle.odr_top.specs.Asm.{assembled, asm_owes, MadeProgram}
use Rattle.odr_top.specs.Answer.{LeavesText}
use Rattle.odr_top.proofs.OneReading.{from_file, refuses_fair, zero_not_two, one_source}

pub asm_refused : (told : Option Held) (text : List ℕ) (v : Verdict) → Refuses NoSource told text v → asm_owes told text v
asm_refused told text v refused = inl refused

pub asm_owed : (told : Option Held) (text file : List ℕ) → Gives IsSource told text file → asm_owes told text (assembled file)
asm_owed told text file gives = inr (file, gives, refl)

pub asm_status : (held : Held) (text : List ℕ) (v w : Verdict) → asm_owes (Some held) text v → asm_owes (Some held) text w → status_of v ≡ status_of w
asm_status held text v w p q =
    from_file IsSource NoSource held text (λ (file : List ℕ) (u : Verdict). u ≡ assembled file) v w one_source
    (λ (t x y : List ℕ) (is : IsSource t x) (also : IsSource t y) (a : v ≡ assembled x) (b : w ≡ assembled y). ap status_of a ∙ sym (ap status_of b)) p q

pub asm_not_words : (told : Option Held) (text : List ℕ) (v : Verdict) → asm_owes told text v → status_of v ≢ 2
asm_not_words told text v (inl refused) = (let f = refuses_fair IsSource NoSource told text v one_source refused in f.not_words)
asm_not_words told text v (inr (file, gives, e)) = zero_not_two (status_of v) (ap status_of e)

pub asm_made : (before after : Option Held) (text elf : List ℕ) (ob oa : Option (List ℕ)) (v : Verdict) → status_of v ≡ 0 → asm_owes before text v
    → LeavesText before after (Some elf) (saved_text v) → oa ≡ append_known ob (out_text v) → MadeProgram before after text elf ob oa
asm_made before after text elf ob oa v zero (inl refused) leaves printed = absurd (let f = refuses_fair IsSource NoSource before text v one_source refused in f.not_done zero)
asm_made before after text elf ob oa v zero (inr (file, gives, e)) leaves printed = record {
  file = file;
  assembled = record { text = gives.file; text_held = gives.found; is_file = gives.is.is_file };
  saved = subst (λ (u : Verdict). LeavesText before after (Some elf) (saved_text u)) e leaves;
  printed = printed ∙ ap (λ (u : Verdict). append_known ob (out_text u)) e;
}
