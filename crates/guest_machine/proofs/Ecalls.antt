-- One word alone is a guest call.
use Rattle.std.specs.Prelude.{◌≡◌, ◌≢◌, ℕ, ◌^◌, ◌<◌, IsTrue, IsFalse, nat_eq, Option, Some, None, Ok, refl}
use Rattle.std.proofs.Common.{lit<, sym, ap, ◌∙◌}
use Rattle.std.proofs.lemmas.Bool.{eqb-true, eqb-false}
use Rattle.elf_image.specs.Layout.{Layout, fetch_of}
use Rattle.rv32_decode.specs.declared.instr.Instr.{Instr}
use Rattle.rv32_decode.specs.declared.instr.Instr.TheVariants as instr
use Rattle.rv32_decode.specs.Table.{decode_of}
use Rattle.rv32_decode.specs.Laws.{NoTwoWordsAreOneInstruction}
use Rattle.rv_model.specs.Step.{fetched, decoded, instr_at}

decoded-Ok : (found : Option Instr) (i : Instr) → decoded found ≡ Ok i → found ≡ Some i
decoded-Ok None i e = cc
decoded-Ok (Some j) i e = cc

pub call_there : (image : Layout) (pc word : ℕ) → Some word ≡ fetch_of image pc → IsTrue (nat_eq word 0x73) → instr_at image pc ≡ Ok instr.Ecall
unfolding instr_at decode_of
call_there image pc word found is = ap fetched (sym found) ∙ ap (λ (w : ℕ). fetched (Some w)) (eqb-true word 0x73 is)

pub none_there : (image : Layout) (pc : ℕ) → None ≡ fetch_of image pc → instr_at image pc ≢ Ok instr.Ecall
unfolding instr_at
none_there image pc none = λ e. let there : fetched None ≡ Ok instr.Ecall = ap fetched none ∙ e in cc

pub other_there : (image : Layout) (pc word : ℕ) → NoTwoWordsAreOneInstruction → word < 2 ^ 32 → Some word ≡ fetch_of image pc → IsFalse (nat_eq word 0x73) → instr_at image pc ≢ Ok instr.Ecall
unfolding instr_at decode_of
other_there image pc word one_word small found other = λ e.
    let there : fetched (Some word) ≡ Ok instr.Ecall = ap fetched found ∙ e in
    eqb-false word 0x73 other (one_word word 0x73 instr.Ecall small (lit< tt) (decoded-Ok (decode_of word) instr.Ecall there) refl)
